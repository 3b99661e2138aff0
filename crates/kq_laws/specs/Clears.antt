-- What CLEAR promises (kqueue(2), EV_CLEAR: the state of the event is reset when it is retrieved): a knote with CLEAR
-- that was returned is returned again only where something was told to it since.
use Rattle.std.specs.Prelude.{◌≡◌, ℕ, true, false, List, [], ◌∷◌, Some, None, All}
use Rattle.kq_model.specs.declared.change.Change.{Change}
use Rattle.kq_model.specs.declared.key.Key.{Key}
use Rattle.kq_model.specs.declared.reply.Reply.{Reply}
use Rattle.kq_model.specs.Call.{call}
use Rattle.kq_model.specs.CallLaws.{AreQuiet, kqueue_after_changes}
use Rattle.kq_model.specs.Caller.{Caller}
use Rattle.kq_model.specs.ChangedKnote.{key_of}
use Rattle.kq_model.specs.Following.{process_key, forks_in}
use Rattle.kq_model.specs.Hints.{hints_for}
use Rattle.kq_model.specs.Knote.{key_eq, find_knote, is_timer}
use Rattle.kq_model.specs.Tallied.{Knote, Kqueue}
use Rattle.kq_laws.specs.Life.{Life, Step, Closes, Hints, Passes, Calls, stepped, lived}
use Rattle.kq_laws.specs.Timers.{returns}

-- a call whose changes place no entry returns the knote, which has CLEAR and no notice to tell
pub record IsCleared (key : Key) (caller : Caller) (changes : List Change) (room : ℕ) (kq : Kqueue) : Type 0 where
  pub knote : Knote
  pub found : find_knote key (kqueue_after_changes caller room changes kq).knotes ≡ Some knote
  pub clear : knote.clear ≡ true
  pub silent : knote.notice ≡ None
  pub quiet : AreQuiet caller changes kq
  pub returned : returns key (call caller room changes kq).reply ≡ true

-- none of the changes is of this key
abbrev pub AreOfOthers : Key → List Change → Type 0
AreOfOthers key changes = All (λ c. key_eq key (key_of c) ≡ false) changes

-- The step tells nothing to the knote of this key: no hint is for it, no fork makes it anew, the clock goes on only
-- where it is no timer, and a call has no change of it.
abbrev pub TellsNothing : Key → Step → Life → Type 0
TellsNothing key (Closes owner pairs) l = Unit {0}
TellsNothing key (Hints posted views) l =
    All (λ k. key_eq key k.key ≡ true → hints_for k posted ≡ []) l.kq.knotes
    × All (λ f. key_eq key (process_key f.child) ≡ false) (forks_in l.version posted)
TellsNothing key (Passes moment) l = is_timer key.filter ≡ false
TellsNothing key (Calls caller changes room) l = AreOfOthers key changes

abbrev pub TellNothing : Key → List Step → Life → Type 0
TellNothing key [] l = Unit {0}
TellNothing key (s ∷ steps) l = TellsNothing key s l × TellNothing key steps (stepped s l)

-- In the life that led to the kqueue a call returned the knote, and since then nothing was told to it. Then a call that
-- changes others alone, and places no entry, does not return it.
abbrev pub ReturnsNewsAlone : Key → Caller → ℕ → List Change → Kqueue → Reply → Type 0
ReturnsNewsAlone key caller room changes kq reply =
    (l : Life) (by : Caller) (asked : List Change) (most : ℕ) (since : List Step)
    → IsCleared key by asked most l.kq → TellNothing key since (stepped (Calls by asked most) l)
    → (lived since (stepped (Calls by asked most) l)).kq ≡ kq
    → AreOfOthers key changes → AreQuiet caller changes kq → returns key reply ≡ false
