-- A record further in the fold of a trace.
use Rattle.std.proofs.Common.{◌≡◌, ℕ, zero, suc, ◌+◌, ◌<◌, ◌≤◌, Bool, List, [], ◌∷◌, length, drop, get_or, Option, None, ap, arith, inl, inr, refl, sym, subst, add-one, drop-cons, ◌∙◌}
use Rattle.kq_answers.specs.declared.answer.Answer.{Answer}
use Rattle.kq_answers.specs.declared.answer.Given.{Given}
use Rattle.kq_judge.specs.declared.member.Ignored.{Ignored}
use Rattle.kq_model.specs.declared.event.Event.{Event}
use Rattle.kq_model.specs.Tallied.{System}
use Rattle.kq_check.specs.declared.outcome.Outcome.{Outcome}
use Rattle.kq_check.specs.declared.verdict.Verdict.{Verdict}
use Rattle.kq_check.specs.Judged.{EndsAt, GoesOn, IsJudgedFrom, ended}
use Rattle.kq_check.specs.LeftOpen.{is_open, kqueue_of, open_with, opened}
use Rattle.kq_check.specs.Replies.{behind_place, given_at}
use Rattle.kq_check.specs.Stepped.{IsStepped}

from_here : (ignored : List Ignored) (permits : Bool) (place : ℕ) (s : System) (events : List Event) (i : ℕ) (e : Event) (answers : List Answer) (first : Option ℕ) (unsure : List ℕ) (o : Outcome)
    → i < length events → e ≡ get_or events i e
    → IsJudgedFrom ignored permits place s (e ∷ drop (i + 1) events) answers first unsure o
    → IsJudgedFrom ignored permits place s (drop i events) answers first unsure o
from_here ignored permits place s events i e answers first unsure o lt is judged =
    let P : List Event → Type 0 = λ es. IsJudgedFrom ignored permits place s es answers first unsure o in
    let cut : drop i events ≡ e ∷ drop (i + 1) events = drop-cons events i e lt ∙ rw (sym is, add-one i) refl in
    subst P (sym cut) judged

pub one_over : (ignored : List Ignored) (permits : Bool) (applied at : ℕ) (s next : System) (events : List Event) (i : ℕ) (e : Event) (answers : List Answer) (given : Option Given) (first : Option ℕ) (unsure : List ℕ) (was_open : Bool) (v : Verdict) (o : Outcome)
    → i < length events → e ≡ get_or events i e → at ≡ applied → given ≡ given_at (at + 1) answers
    → was_open ≡ is_open (kqueue_of e s) unsure → IsStepped ignored (applied + 1) e given s v next
    → EndsAt permits was_open (at + 1) v o
    → IsJudgedFrom ignored permits (applied + 1) s (drop i events) answers first unsure o
one_over ignored permits applied at s next events i e answers given first unsure was_open v o lt is here given_is open_is stepped ends =
    let B : Bool → Type 0 = λ b. EndsAt permits b (at + 1) v o in
    let E : ℕ → Type 0 = λ n. EndsAt permits (is_open (kqueue_of e s) unsure) (n + 1) v o in
    let S : Option Given → Type 0 = λ g. IsStepped ignored (applied + 1) e g s v next in
    let there : given ≡ given_at (applied + 1) answers = given_is ∙ ap (λ n. given_at (n + 1) answers) here in
    from_here ignored permits (applied + 1) s events i e answers first unsure o lt is (v, next, subst S there stepped, inl (subst E here (subst B open_is ends)))

pub one_on : (ignored : List Ignored) (permits : Bool) (applied at after : ℕ) (s next : System) (events : List Event) (i : ℕ) (e : Event) (answers behind : List Answer) (given : Option Given) (first later : Option ℕ) (unsure then_unsure : List ℕ) (opened_it : Option ℕ) (v : Verdict) (o : Outcome)
    → i < length events → e ≡ get_or events i e → at ≡ applied → after ≡ applied + 1 → given ≡ given_at (at + 1) answers
    → behind ≡ behind_place (at + 1) answers → IsStepped ignored (applied + 1) e given s v next → GoesOn permits (at + 1) v first later
    → opened_it ≡ opened (applied + 1) e given s → then_unsure ≡ open_with opened_it unsure
    → IsJudgedFrom ignored permits (after + 1) next (drop (i + 1) events) behind later then_unsure o
    → IsJudgedFrom ignored permits (applied + 1) s (drop i events) answers first unsure o
one_on ignored permits applied at after s next events i e answers behind given first later unsure then_unsure opened_it v o lt is here one given_is behind_is stepped goes opened_is unsure_is rest =
    let G : ℕ → Type 0 = λ n. GoesOn permits (n + 1) v first later in
    let S : Option Given → Type 0 = λ g. IsStepped ignored (applied + 1) e g s v next in
    let R : List Answer → Type 0 = λ behind_it. IsJudgedFrom ignored permits (after + 1) next (drop (i + 1) events) behind_it later then_unsure o in
    let T : ℕ → Type 0 = λ n. IsJudgedFrom ignored permits (n + 1) next (drop (i + 1) events) (behind_place (applied + 1) answers) later then_unsure o in
    let U : List ℕ → Type 0 = λ us. IsJudgedFrom ignored permits (applied + 1 + 1) next (drop (i + 1) events) (behind_place (applied + 1) answers) later us o in
    let there : given ≡ given_at (applied + 1) answers = given_is ∙ ap (λ n. given_at (n + 1) answers) here in
    let then : behind ≡ behind_place (applied + 1) answers = behind_is ∙ ap (λ n. behind_place (n + 1) answers) here in
    let left : then_unsure ≡ open_with (opened (applied + 1) e (given_at (applied + 1) answers) s) unsure =
    unsure_is ∙ ap (λ k. open_with k unsure) (opened_is ∙ ap (λ g. opened (applied + 1) e g s) there) in
    from_here ignored permits (applied + 1) s events i e answers first unsure o lt is
    (v, next, subst S there stepped, inr (later, subst G here goes, subst U left (subst T one (subst R then rest))))

pub from_start : (ignored : List Ignored) (permits : Bool) (applied : ℕ) (s : System) (events all : List Event) (answers : List Answer) (o : Outcome)
    → applied ≡ 0 → events ≡ all
    → IsJudgedFrom ignored permits (applied + 1) s events answers None [] o → IsJudgedFrom ignored permits 1 s all answers None [] o
from_start ignored permits applied s events all answers o none same judged =
    let N : ℕ → Type 0 = λ n. IsJudgedFrom ignored permits (n + 1) s events answers None [] o in
    let E : List Event → Type 0 = λ es. IsJudgedFrom ignored permits 1 s es answers None [] o in
    subst E same (subst N none judged)

none_left : (events : List Event) (i : ℕ) → length events ≤ i → drop i events ≡ []
none_left [] zero end = refl
none_left [] (suc i) end = refl
none_left (e ∷ events) zero end = absurd (omega (arith, end))
none_left (e ∷ events) (suc i) end = none_left events i (omega (arith, end))

pub at_the_end : (ignored : List Ignored) (permits : Bool) (place : ℕ) (s : System) (events : List Event) (i : ℕ) (answers : List Answer) (first : Option ℕ) (unsure : List ℕ) (o : Outcome)
    → length events ≤ i → o ≡ ended first → IsJudgedFrom ignored permits place s (drop i events) answers first unsure o
at_the_end ignored permits place s events i answers first unsure o end is =
    let P : List Event → Type 0 = λ es. IsJudgedFrom ignored permits place s es answers first unsure o in
    subst P (sym (none_left events i end)) is

-- none is open before the first record
pub with_none : (ignored : List Ignored) (permits : Bool) (place : ℕ) (s : System) (events : List Event) (answers : List Answer) (unsure : List ℕ) (o : Outcome)
    → unsure ≡ [] → IsJudgedFrom ignored permits place s events answers None unsure o
    → IsJudgedFrom ignored permits place s events answers None [] o
with_none ignored permits place s events answers unsure o none judged =
    let P : List ℕ → Type 0 = λ us. IsJudgedFrom ignored permits place s events answers None us o in
    subst P none judged
