-- The numbers of the errors, as FreeBSD's errno.h has them (intro(2)).
use Rattle.std.specs.Prelude.{ℕ}
use Rattle.kq_model.specs.declared.errno.Errno.{Errno}
use Rattle.kq_model.specs.declared.errno.Errno.TheVariants.{ENOENT, ESRCH, EBADF, EINVAL}

abbrev pub error_number : Errno → ℕ
error_number ENOENT = 2
error_number ESRCH = 3
error_number EBADF = 9
error_number EINVAL = 22
