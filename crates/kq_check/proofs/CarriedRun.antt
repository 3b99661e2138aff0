-- A record further in the run before a place.
use Rattle.std.proofs.Common.{◌≡◌, ℕ, ◌⊎◌, ◌+◌, ◌-◌, ◌<◌, ◌≤◌, List, [], ◌∷◌, length, take, drop, get_or, Option, Some, None, ap, arith, inl, inr, refl, sym, subst, add-one, drop-cons, length-take, ◌∙◌}
use Rattle.std.proofs.lemmas.List.{get_or-take}
use Rattle.std.proofs.Math.ListN.{drop_of_length-le}
use Rattle.kq_answers.specs.declared.answer.Answer.{Answer}
use Rattle.kq_answers.specs.declared.answer.Given.{Given}
use Rattle.kq_judge.specs.declared.member.Ignored.{Ignored}
use Rattle.kq_model.specs.declared.change.Change.{Change}
use Rattle.kq_model.specs.declared.event.Event.{Event}
use Rattle.kq_model.specs.declared.event.Event.TheVariants.{Kevent as KeventRecord}
use Rattle.kq_model.specs.declared.reply.Reply.{Reply}
use Rattle.kq_model.specs.Tallied.{System}
use Rattle.kq_system.specs.Beginning.{IsBeginning, begun}
use Rattle.kq_check.specs.Carried.{AreCarried, IsCallCarried, IsCarried, IsGoneOn, IsReadOn}
use Rattle.kq_check.specs.Replies.{behind_place, given_at}

first_left : (events : List Event) (n i : ℕ) (e : Event) → i < length events → i < n → e ≡ get_or events i e
    → drop i (take n events) ≡ e ∷ drop (i + 1) (take n events)
first_left events n i e there before is =
    let lt : i < length (take n events) = rw length-take (omega arith) in
    drop-cons (take n events) i e lt ∙ rw (get_or-take n events i e before, sym is, add-one i) refl

pub one_carried : (ignored used : List Ignored) (place applied at : ℕ) (s mid : System) (events : List Event) (i : ℕ) (e : Event) (answers behind : List Answer) (next : System) (rest : List Answer)
    → i < length events → applied ≡ i → i + 1 < at → e ≡ get_or events i e → used ≡ ignored
    → IsCarried used (applied + 1) e (given_at (applied + 1) answers) s mid → behind ≡ behind_place (applied + 1) answers → place ≡ applied + 1
    → AreCarried ignored (place + 1) mid (drop (i + 1) (take (at - 1) events)) behind next rest
    → AreCarried ignored (applied + 1) s (drop i (take (at - 1) events)) answers next rest
one_carried ignored used place applied at s mid events i e answers behind next rest there counted before is same carried behind_is place_is left =
    let cut : drop i (take (at - 1) events) ≡ e ∷ drop (i + 1) (take (at - 1) events) = first_left events (at - 1) i e there (omega arith) is in
    let P : List Event → Type 0 = λ es. AreCarried ignored (applied + 1) s es answers next rest in
    let B : List Answer → Type 0 = λ b. AreCarried ignored (place + 1) mid (drop (i + 1) (take (at - 1) events)) b next rest in
    let N : ℕ → Type 0 = λ n. AreCarried ignored (n + 1) mid (drop (i + 1) (take (at - 1) events)) (behind_place (applied + 1) answers) next rest in
    let I : List Ignored → Type 0 = λ g. IsCarried g (applied + 1) e (given_at (applied + 1) answers) s mid in
    subst P (sym cut) (mid, subst I same carried, subst N place_is (subst B behind_is left))

pub all_carried : (ignored : List Ignored) (place at : ℕ) (s : System) (events : List Event) (i : ℕ) (answers : List Answer)
    → (length events ≤ i) ⊎ (at ≤ i + 1)
    → AreCarried ignored place s (drop i (take (at - 1) events)) answers s answers
all_carried ignored place at s events i answers past =
    let none : length (take (at - 1) events) ≤ i = rw length-take (elim past [ inl over ↦ omega arith | inr over ↦ omega arith ]) in
    let P : List Event → Type 0 = λ es. AreCarried ignored place s es answers s answers in
    subst P (sym (drop_of_length-le (take (at - 1) events) none)) (refl, refl)

pub from_first : (ignored : List Ignored) (applied n : ℕ) (s : System) (events all : List Event) (answers : List Answer) (next : System) (rest : List Answer)
    → applied ≡ 0 → events ≡ all → AreCarried ignored (applied + 1) s (take n events) answers next rest
    → AreCarried ignored 1 s (take n all) answers next rest
from_first ignored applied n s events all answers next rest none same carried =
    let N : ℕ → Type 0 = λ k. AreCarried ignored (k + 1) s (take n events) answers next rest in
    let E : List Event → Type 0 = λ es. AreCarried ignored 1 s (take n es) answers next rest in
    subst E same (subst N none carried)

-- ---- a call

pub replied : (ignored : List Ignored) (place pid fd : ℕ) (changes : List Change) (room : ℕ) (given : Option Given) (s next : System) (reply : Reply)
    → IsBeginning place (KeventRecord pid fd changes room) s next (Some reply)
    → IsCallCarried ignored place pid fd changes room given s next
replied ignored place pid fd changes room given s next reply began =
    let e = KeventRecord pid fd changes room in
    let P : Option Reply → Type 0 = λ a. IsGoneOn ignored place pid fd room given a (begun place e s).system next in
    subst P began.1 began.0

pub gone_on : (ignored used : List Ignored) (place at pid fd : ℕ) (changes : List Change) (room : ℕ) (given : Option Given) (s mid next : System) (reply : Reply)
    → IsBeginning place (KeventRecord pid fd changes room) s mid None → at ≡ place → used ≡ ignored
    → IsReadOn used at pid fd room given mid reply next → IsCallCarried ignored place pid fd changes room given s next
gone_on ignored used place at pid fd changes room given s mid next reply began here same read =
    let e = KeventRecord pid fd changes room in
    let P : Option Reply → Type 0 = λ a. IsGoneOn ignored place pid fd room given a (begun place e s).system next in
    let A : ℕ → Type 0 = λ n. IsReadOn used n pid fd room given mid reply next in
    let U : List Ignored → Type 0 = λ i. IsReadOn i place pid fd room given mid reply next in
    let S : System → Type 0 = λ m. IsReadOn ignored place pid fd room given m reply next in
    subst P began.1 (reply, subst S began.0 (subst U same (subst A here read)))

pub call_carried : (ignored used : List Ignored) (place at : ℕ) (e : Event) (given there : Option Given) (pid fd : ℕ) (changes : List Change) (room : ℕ) (s next : System)
    → e ≡ KeventRecord pid fd changes room → given ≡ there → IsCallCarried used at pid fd changes room given s next → at ≡ place → used ≡ ignored
    → IsCarried ignored place e there s next
call_carried ignored used place at e given there pid fd changes room s next is given_is carried here same =
    let G : Option Given → Type 0 = λ g. IsCallCarried used at pid fd changes room g s next in
    let A : ℕ → Type 0 = λ n. IsCallCarried used n pid fd changes room there s next in
    let U : List Ignored → Type 0 = λ i. IsCallCarried i place pid fd changes room there s next in
    inl (pid, fd, changes, room, is, subst U same (subst A here (subst G given_is carried)))
