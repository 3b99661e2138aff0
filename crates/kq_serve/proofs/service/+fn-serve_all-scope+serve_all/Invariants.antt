use Rattle.std.proofs.Common.{◌+◌, ◌*◌, vec_len}
use Rattle.kq_serve.proofs.service.+fn-serve_all-scope+serve_all.Given as goal

-- the seats that are left, and whether their scope has begun
abbrev pub decreases-scope : goal.decreases-scope
decreases-scope g l = 2 * vec_len l.seats + 1

abbrev pub decreases-serve_all : goal.decreases-serve_all
decreases-serve_all g l = 2 * vec_len l.seats
