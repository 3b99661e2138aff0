-- Records about pipes by example, and descriptors of their ends that come and go.
use Rattle.std.specs.Prelude.{◌≡◌, pos, true, false, [], ◌∷◌, None, Some}
use Rattle.std.proofs.Common.{refl}
use Rattle.kq_model.specs.declared.act.Act.TheVariants.{Socket, Pipe, Read, Write}
use Rattle.kq_model.specs.declared.object.Hint.TheVariants.{Readable, Writable}
use Rattle.kq_model.specs.declared.object.Named.TheVariants as on
use Rattle.kq_model.specs.declared.object.Target.TheVariants as target
use Rattle.kq_model.specs.declared.object.View.TheVariants as view
use Rattle.kq_model.specs.declared.why.Why.TheVariants.{WrongKind, TooMany}
use Rattle.kq_model.specs.Holders.{all_held, all_released}
use Rattle.kq_model.proofs.ObjectBuilders.{objects_opened, answers, answers_from, after, seen, closing, quiet, says, cannot}

pub caps : answers (Pipe 0 ∷ Pipe 2147483648 ∷ Pipe 2147483647 ∷ []) ≡ cannot TooMany ∷ cannot TooMany ∷ quiet ∷ []
unfolding objects_opened
caps = refl

pub new_pipe : seen (target.Pipe 1) (after (Pipe 600 ∷ [])) ≡ Some (view.Pipe (pos 0) (pos 600) true true)
unfolding objects_opened
new_pipe = refl

-- the pipe holds 10 bytes
pub bytes : answers (Pipe 10 ∷ Write (on.PipeWrite 1) 11 ∷ Write (on.PipeWrite 1) 7 ∷ Read (on.PipeRead 1) 8 ∷ Read (on.PipeRead 1) 5 ∷ Write (on.PipeWrite 1) 9 ∷ Write (on.PipeWrite 1) 8 ∷ Read (on.PipeRead 1) 0 ∷ [])
    ≡ quiet ∷ cannot TooMany ∷ says (target.Pipe 1) Readable ∷ cannot TooMany ∷ says (target.Pipe 1) Writable ∷ cannot TooMany ∷ says (target.Pipe 1) Readable ∷ says (target.Pipe 1) Writable ∷ []
unfolding objects_opened
bytes = refl

pub bytes_seen : seen (target.Pipe 1) (after (Pipe 10 ∷ Write (on.PipeWrite 1) 7 ∷ Read (on.PipeRead 1) 5 ∷ [])) ≡ Some (view.Pipe (pos 2) (pos 10) true true)
unfolding objects_opened
bytes_seen = refl

pub wrong_ends : answers (Pipe 10 ∷ Read (on.PipeWrite 1) 0 ∷ Write (on.PipeRead 1) 0 ∷ Read (on.Kqueue 5) 0 ∷ Write (on.Kqueue 5) 0 ∷ [])
    ≡ quiet ∷ cannot WrongKind ∷ cannot WrongKind ∷ cannot WrongKind ∷ cannot WrongKind ∷ []
unfolding objects_opened
wrong_ends = refl

-- ---- descriptors come and go

-- a write end that two descriptors name is closed with the second
pub two_writers : closing (on.PipeWrite 1 ∷ on.PipeWrite 1 ∷ []) (all_held (on.PipeWrite 1 ∷ []) (after (Pipe 10 ∷ []))) ≡ (target.Pipe 1, Readable) ∷ []
unfolding objects_opened
two_writers = refl

pub both_ends : closing (on.PipeRead 1 ∷ on.PipeWrite 1 ∷ []) (after (Pipe 10 ∷ [])) ≡ (target.Pipe 1, Writable) ∷ (target.Pipe 1, Readable) ∷ []
unfolding objects_opened
both_ends = refl

pub no_writer_left : seen (target.Pipe 1) (all_released (on.PipeWrite 1 ∷ []) (after (Pipe 10 ∷ Write (on.PipeWrite 1) 3 ∷ []))) ≡ Some (view.Pipe (pos 3) (pos 10) false true)
unfolding objects_opened
no_writer_left = refl

pub no_end_left : seen (target.Pipe 1) (all_released (on.PipeWrite 1 ∷ on.PipeRead 1 ∷ []) (after (Pipe 10 ∷ []))) ≡ None
unfolding objects_opened
no_end_left = refl

-- without a reader nothing can be written, and without a writer what is there can be read
pub no_reader : answers_from 2 (Write (on.PipeWrite 1) 0 ∷ []) (all_released (on.PipeRead 1 ∷ []) (after (Pipe 10 ∷ []))) ≡ cannot WrongKind ∷ []
unfolding objects_opened
no_reader = refl

pub no_writer : answers_from 3 (Read (on.PipeRead 1) 3 ∷ []) (all_released (on.PipeWrite 1 ∷ []) (after (Pipe 10 ∷ Write (on.PipeWrite 1) 3 ∷ [])))
    ≡ says (target.Pipe 1) Writable ∷ []
unfolding objects_opened
no_writer = refl

-- the end of a socket gives no hint, and nothing of a kqueue is counted
pub other_closes : closing (on.Socket 1 ∷ on.Kqueue 9 ∷ []) (after (Socket 9 9 ∷ [])) ≡ []
unfolding objects_opened
other_closes = refl

pub socket_gone : seen (target.Socket 1) (all_released (on.Socket 1 ∷ []) (after (Socket 9 9 ∷ []))) ≡ None
unfolding objects_opened
socket_gone = refl

pub socket_held_twice : seen (target.Socket 1) (all_released (on.Socket 1 ∷ []) (all_held (on.Socket 1 ∷ []) (after (Socket 9 9 ∷ []))))
    ≡ Some (view.Sock (pos 0) (pos 1) false 0 false (pos 9) (pos 9) false 0)
unfolding objects_opened
socket_held_twice = refl
