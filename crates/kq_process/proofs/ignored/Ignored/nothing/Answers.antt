use Rattle.std.proofs.Common.{◌≡◌, ℕ, zero, suc, false, get_or, replicate, refl}
use Rattle.std.proofs.Math.Path.{fun_ext}
use Rattle.kq_process.proofs.ignored.Ignored.nothing.Goals as goal

none_ignored : (n signal : ℕ) → get_or (replicate n false) signal false ≡ false
none_ignored zero signal = refl
none_ignored (suc n) zero = refl
none_ignored (suc n) (suc signal) = none_ignored n signal

pub returns : goal.returns
returns c = fun_ext (λ signal. none_ignored 129 signal)
