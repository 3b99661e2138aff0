-- What contracts see of one kept file.
use Rattle.std.specs.Prelude.{ℕ}
use Rattle.kq_model.specs.Files.{FileState}

-- a file, and how many more descriptions can be opened on it without a growth
pub record FileKept : Type 0 where
  pub state : FileState
  pub room : ℕ
