-- An answer that is the reply to its record.
use Rattle.std.specs.Prelude.{◌≡◌, ◌⊎◌, ℕ, List, [], ◌∷◌, Option, Some, None}
use Rattle.std.specs.Prelude.{if◌then◌else◌, ◌==◌}
use Rattle.kq_answers.specs.declared.answer.Answer.{Answer}
use Rattle.kq_answers.specs.declared.answer.Given.{Given}
use Rattle.kq_answers.specs.declared.answer.Given.TheVariants as given
use Rattle.kq_judge.specs.Same.{AreSame}
use Rattle.kq_model.specs.declared.reply.Reply.{Reply}
use Rattle.kq_model.specs.declared.reply.Reply.TheVariants as reply
use Rattle.kq_model.specs.Errno.{error_number}
use Rattle.kq_check.specs.declared.verdict.Verdict.{Verdict}
use Rattle.kq_check.specs.declared.verdict.Verdict.TheVariants.{Equal, Refused, Impossible}

-- to the last member
abbrev pub IsReply : Given → Reply → Type 0
IsReply (given.Events own) (reply.Events events) = AreSame [] events own
IsReply (given.Failed number) (reply.Failed e) = number ≡ error_number e
IsReply (given.Impossible own) (reply.Impossible why) = own ≡ why
IsReply _ _ = ⊥

-- what a record comes to that reads no events; one that has no answer is answered by the system
abbrev pub IsVerdictOf : Reply → Option Given → Verdict → Type 0
IsVerdictOf (reply.Impossible why) given v = v ≡ Impossible why
IsVerdictOf r None v = v ≡ Equal
IsVerdictOf r (Some g) v = ((v ≡ Equal) × IsReply g r) ⊎ ((v ≡ Refused) × (IsReply g r → ⊥))

-- ---- answers by rising place

-- the answer to the record at a place, if the next one is that
unfoldable pub given_at : ℕ → List Answer → Option Given
given_at place [] = None
given_at place (a ∷ answers) = if a.at == place then Some a.given else None

-- those behind it
unfoldable pub behind_place : ℕ → List Answer → List Answer
behind_place place [] = []
behind_place place (a ∷ answers) = if a.at == place then answers else a ∷ answers
