-- Whose views a record's doings can alter: those of the objects themselves, and where the size of a file changes,
-- those of the open descriptions on it.
use Rattle.std.specs.Prelude.{◌≡◌, ℕ, Bool, true, false}
use Rattle.kq_model.specs.declared.doing.Doing.{Doing}
use Rattle.kq_model.specs.declared.doing.Doing.TheVariants.{ToSocket, ToPipe, ToDescription, ToFile}
use Rattle.kq_model.specs.declared.doing.FileRecord.{FileRecord}
use Rattle.kq_model.specs.declared.doing.FileRecord.TheVariants as file
use Rattle.kq_model.specs.declared.object.Target.{Target}
use Rattle.kq_model.specs.declared.object.Target.TheVariants as target
use Rattle.kq_model.specs.ListedFiles.{is_listed}
use Rattle.kq_model.specs.Objects.{Objects, counted}

unfoldable pub resizes : FileRecord → Bool
resizes (file.Made size) = true
resizes (file.Sized size) = true
resizes (file.Reached end) = true
resizes _ = false

-- the targets that pass the test are all those whose views this can alter
abbrev pub Accounts : (Target → Bool) → Objects counted → Doing → Type 0
Accounts has o (ToSocket place r) = has (target.Socket place) ≡ true
Accounts has o (ToPipe place r) = has (target.Pipe place) ≡ true
Accounts has o (ToDescription place r) = has (target.Open place) ≡ true
Accounts has o (ToFile number r) =
    (has (target.File number) ≡ true)
    × (resizes r ≡ true → (place : ℕ) → is_listed place (o.file number) ≡ true
    → has (target.Open place) ≡ true)
