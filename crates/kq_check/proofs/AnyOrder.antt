-- The fold comes to the outcome of one who goes on from any order that gives an answer.
use Rattle.std.proofs.Common.{◌≡◌, ◌⊎◌, inl, inr, ℕ, suc, ◌+◌, Bool, true, false, List, [], ◌∷◌, Option, Some, None, refl, sym, ap, ◌∙◌, subst, arith}
use Rattle.std.proofs.lemmas.Bool.{true≢false}
use Rattle.std.specs.Option.{is_some}
use Rattle.kq_answers.specs.declared.answer.Answer.{Answer}
use Rattle.kq_answers.specs.declared.answer.Given.{Given}
use Rattle.kq_judge.specs.declared.member.Ignored.{Ignored}
use Rattle.kq_model.specs.declared.change.Change.{Change}
use Rattle.kq_model.specs.declared.event.Event.{Event}
use Rattle.kq_model.specs.declared.event.Event.TheVariants as event
use Rattle.kq_model.specs.declared.reply.Reply.{Reply}
use Rattle.kq_model.specs.declared.reply.Reply.TheVariants as reply
use Rattle.kq_model.specs.Plans.{plan}
use Rattle.kq_model.specs.System.{empty_system, step}
use Rattle.kq_model.specs.Tallied.{Live, System}
use Rattle.kq_model.specs.World.{Plan, Planned, Possible, seen_world}
use Rattle.kq_system.specs.Beginning.{begun, begun_by}
use Rattle.kq_laws.proofs.RunPlaces.{Rise}
use Rattle.kq_laws.proofs.Runs.{run-empty, impossible-world}
use Rattle.kq_check.specs.declared.outcome.Outcome.{Outcome}
use Rattle.kq_check.specs.declared.outcome.Outcome.TheVariants as outcome
use Rattle.kq_check.specs.declared.verdict.Verdict.{Verdict}
use Rattle.kq_check.specs.declared.verdict.Verdict.TheVariants.{Equal, Allowed, Refused, Impossible}
use Rattle.kq_check.specs.AnyOrder.{AreAnswered, IsCallTaken, IsJudgedInAnyFrom, IsOutcomeInAnyOrder, IsReadAs, IsTaken, without_order}
use Rattle.kq_check.specs.Judged.{EndsAt, GoesOn, IsJudged, IsJudgedFrom, ended}
use Rattle.kq_check.specs.LeftOpen.{is_open, kqueue_of, open_with, opened, opened_behind, opened_by}
use Rattle.kq_check.specs.Placed.{is_call}
use Rattle.kq_check.specs.Replies.{IsVerdictOf, behind_place, given_at}
use Rattle.kq_check.specs.Stepped.{IsCalled, IsStepped}
use Rattle.kq_check.proofs.AlikeSystems.{IsGoing, beside}
use Rattle.kq_check.proofs.AlikeReads.{Agree, Follow, plain, read-agrees, some-answered}
use Rattle.kq_check.proofs.AlikeSteps.{Begins, begins-alike, beside-step, none-called, plain-going, plain-replies, stepped_beside}

-- ---- one reply, one verdict

one-verdict : (r : Reply) (g : Option Given) (v w : Verdict) → IsVerdictOf r g v → IsVerdictOf r g w → w ≡ plain v
one-verdict (reply.Impossible why) g v w first second = second ∙ sym (ap plain first)
one-verdict _ None v w first second = second ∙ sym (ap plain first)
one-verdict _ (Some g) v w (inl first) (inl second) = second.0 ∙ sym (ap plain first.0)
one-verdict _ (Some g) v w (inl first) (inr second) = absurd (second.1 first.1)
one-verdict _ (Some g) v w (inr first) (inl second) = absurd (first.1 second.1)
one-verdict _ (Some g) v w (inr first) (inr second) = second.0 ∙ sym (ap plain first.0)

-- ---- one record

rise-on : (place low : ℕ) (ls : List Live) → Rise low place ls → Rise low (place + 1) ls
rise-on place low [] rise = omega (arith, rise)
rise-on place low (l ∷ ls) rise = (rise.0, rise-on place (suc l.place) ls rise.1)

-- nothing happened at one more place
going-on : (place : ℕ) (e : Event) (s : System) (ks : List Live) → IsGoing place s ks → IsGoing (place + 1) s ks
going-on place e s ks going = record {
  run = record { world = impossible-world place e (seen_world s.world) going.run.world; watched = going.run.watched };
  beside_run = record { world = impossible-world place e (seen_world s.world) going.run.world; watched = going.beside_run.watched };
  rise = rise-on place 0 s.live going.rise;
  beside_rise = rise-on place 0 ks going.beside_rise;
  pairs = going.pairs;
}

follow-same : (place : ℕ) (s : System) (ks : List Live) (next after : System) → IsGoing (place + 1) s ks → next ≡ s → after ≡ beside s ks
    → Follow place next after
follow-same place s ks next after going is too =
    (ks, too ∙ ap (λ (x : System). beside x ks) (sym is), subst (λ (x : System). IsGoing (place + 1) x ks) (sym is) going)

module _ (ignored : List Ignored) (place : ℕ) (given : Option Given) where
  answered-agrees : (pid fd room : ℕ) (e : Event) (s : System) (ks : List Live) → IsGoing place s ks → (o : Option Reply)
      → (v w : Verdict) (next after : System) → IsCalled ignored place pid fd room given o s v next
      → IsCallTaken ignored place pid fd room given o (beside s ks) w after → Agree place v w next after
  answered-agrees pid fd room e s ks going None v w next after fold any =
      read-agrees ignored place pid fd room given s ks going v w next after fold any
  answered-agrees pid fd room e s ks going (Some r) v w next after fold any = record {
    verdict = one-verdict r given v w fold.0 any.0;
    follow = λ _. follow-same place s ks next after (going-on place e s ks going) fold.1 any.1;
  }

  call-agrees : (pid fd room : ℕ) (changes : List Change) (s : System) (ks : List Live) (going : IsGoing place s ks) (q : Planned)
      → Begins place pid fd room changes s ks going q → (v w : Verdict) (next after : System)
      → IsCalled ignored place pid fd room given (begun_by place q s).answer (begun_by place q s).system v next
      → IsCallTaken ignored place pid fd room given (begun_by place q (beside s ks)).answer (begun_by place q (beside s ks)).system w after
      → Agree place v w next after
  call-agrees pid fd room changes s ks going q begins v w next after fold any =
      answered-agrees pid fd room (event.Kevent pid fd changes room) (begun_by place q s).system (begun_by place q (beside s ks)).system.live
      begins.goes (begun_by place q s).answer v w next after fold
      (subst (λ (o : Option Reply). IsCallTaken ignored place pid fd room given o
      (beside (begun_by place q s).system (begun_by place q (beside s ks)).system.live) w after) (sym begins.answer)
      (subst (λ (t : System). IsCallTaken ignored place pid fd room given (begun_by place q (beside s ks)).answer t w after) begins.frame any))

  step-agrees : (e : Event) (s : System) (ks : List Live) → IsGoing place s ks → (v w : Verdict) (next after : System)
      → IsStepped ignored place e given s v next → IsTaken ignored place e given (beside s ks) w after → Agree place v w next after
  unfolding begun
  step-agrees (event.Kevent pid fd changes room) s ks going v w next after fold any =
      call-agrees pid fd room changes s ks going (plan place (event.Kevent pid fd changes room) (seen_world s.world))
      (begins-alike place pid fd room changes s ks going) v w next after fold any
  step-agrees e s ks going v w next after fold any =
      let none : (p : Plan) → plan place e (seen_world s.world) ≡ Possible p → p.call ≡ None =
      λ p. none-called place e (seen_world s.world) p tt in
      record {
        verdict = one-verdict (step place e s).reply given v w fold.0
            (subst (λ (r : Reply). IsVerdictOf r given w) (sym (plain-replies place e s ks going none)) any.0);
        follow = λ _. follow-same place (step place e s).system (stepped_beside place e s ks) next after (plain-going place e s ks going none) fold.1
            (any.1 ∙ beside-step place e s ks);
      }

  -- ---- the other one comes to a verdict

  reply-plain : (r : Reply) (g : Option Given) (v : Verdict) → IsVerdictOf r g v → IsVerdictOf r g (plain v)
  reply-plain (reply.Impossible why) g v is = ap plain is
  reply-plain _ None v is = ap plain is
  reply-plain _ (Some g) v (inl is) = inl (ap plain is.0, is.1)
  reply-plain _ (Some g) v (inr is) = inr (ap plain is.0, is.1)

  some-called : (pid fd room : ℕ) (s : System) (ks : List Live) → IsGoing place s ks → (o : Option Reply) (v : Verdict) (next : System)
      → IsCalled ignored place pid fd room given o s v next → is_some given ≡ true
      → (after : System) × IsCallTaken ignored place pid fd room given o (beside s ks) (plain v) after
  some-called pid fd room s ks going None v next fold there = some-answered ignored place pid fd room given s ks going v next fold there
  some-called pid fd room s ks going (Some r) v next fold there = (beside s ks, (reply-plain r given v fold.0, refl))

  some-begun : (pid fd room : ℕ) (changes : List Change) (s : System) (ks : List Live) (going : IsGoing place s ks) (q : Planned)
      → Begins place pid fd room changes s ks going q → (v : Verdict) (next : System)
      → IsCalled ignored place pid fd room given (begun_by place q s).answer (begun_by place q s).system v next → is_some given ≡ true
      → (after : System)
      × IsCallTaken ignored place pid fd room given (begun_by place q (beside s ks)).answer (begun_by place q (beside s ks)).system (plain v) after
  some-begun pid fd room changes s ks going q begins v next fold there =
      subst (λ (t : System). (after : System)
      × IsCallTaken ignored place pid fd room given (begun_by place q (beside s ks)).answer t (plain v) after) (sym begins.frame)
      (subst (λ (o : Option Reply). (after : System)
      × IsCallTaken ignored place pid fd room given o (beside (begun_by place q s).system (begun_by place q (beside s ks)).system.live) (plain v) after)
      begins.answer
      (some-called pid fd room (begun_by place q s).system (begun_by place q (beside s ks)).system.live begins.goes
      (begun_by place q s).answer v next fold there))

  some-step : (e : Event) (s : System) (ks : List Live) → IsGoing place s ks → (v : Verdict) (next : System)
      → IsStepped ignored place e given s v next → (is_call e ≡ true → is_some given ≡ true)
      → (after : System) × IsTaken ignored place e given (beside s ks) (plain v) after
  unfolding begun
  some-step (event.Kevent pid fd changes room) s ks going v next fold there =
      some-begun pid fd room changes s ks going (plan place (event.Kevent pid fd changes room) (seen_world s.world))
      (begins-alike place pid fd room changes s ks going) v next fold (there refl)
  some-step e s ks going v next fold there =
      let none : (p : Plan) → plan place e (seen_world s.world) ≡ Possible p → p.call ≡ None =
      λ p. none-called place e (seen_world s.world) p tt in (
        (step place e (beside s ks)).system,
        (
          reply-plain (step place e (beside s ks)).reply given v
              (subst (λ (r : Reply). IsVerdictOf r given v) (plain-replies place e s ks going none) fold.0),
          refl,
        ),
      )

  -- ---- no order is left open

  read-closed : (pid fd room : ℕ) (s t : System) (w : Verdict) (after : System) (g : Option Given)
      → IsReadAs ignored place pid fd room g t w after → opened_by place pid fd room g s ≡ None
  read-closed pid fd room s t w after None any = absurd any
  read-closed pid fd room s t w after (Some g) any = refl

  call-closed : (pid fd room : ℕ) (s t : System) (o p : Option Reply) → o ≡ p → (w : Verdict) (after : System)
      → IsCallTaken ignored place pid fd room given p t w after → opened_behind place pid fd room given o s ≡ None
  call-closed pid fd room s t (Some r) p same w after any = refl
  call-closed pid fd room s t None p same w after any =
      read-closed pid fd room s t w after given
      (subst (λ (o : Option Reply). IsCallTaken ignored place pid fd room given o t w after) (sym same) any)

  step-closed : (e : Event) (s : System) (ks : List Live) → IsGoing place s ks → (w : Verdict) (after : System)
      → IsTaken ignored place e given (beside s ks) w after → opened place e given s ≡ None
  unfolding begun
  step-closed (event.Kevent pid fd changes room) s ks going w after any =
      let e = event.Kevent pid fd changes room in
      let q = plan place e (seen_world s.world) in
      call-closed pid fd room (begun_by place q s).system (begun_by place q (beside s ks)).system (begun_by place q s).answer
      (begun_by place q (beside s ks)).answer (begins-alike place pid fd room changes s ks going).answer w after any
  step-closed e s ks going w after any = refl

-- ---- the fold

none-open : (o : Option ℕ) → is_open o [] ≡ false
none-open None = refl
none-open (Some place) = refl

ended-plain : (first : Option ℕ) → without_order (ended first) ≡ outcome.Equal
ended-plain None = refl
ended-plain (Some first) = refl

module _ (ignored : List Ignored) (permits : Bool) where
  abbrev Fold : ℕ → System → List Event → List Answer → Option ℕ → Outcome → Type 0
  Fold place s es answers first o = IsJudgedFrom ignored permits place s es answers first [] o

  abbrev Any : ℕ → System → List Event → List Answer → Outcome → Type 0
  Any place s es answers o = IsJudgedInAnyFrom ignored permits place s es answers o

  -- what holds of the records that are left
  abbrev Law : List Event → Type 0
  Law es =
      (place : ℕ) (s : System) (ks : List Live) (answers : List Answer) (first : Option ℕ) (o other : Outcome) → IsGoing place s ks
      → Fold place s es answers first o → Any place (beside s ks) es answers other → other ≡ without_order o

  module _ (es : List Event) (law : Law es) (place : ℕ) (answers : List Answer) (first : Option ℕ) (o other : Outcome) where
    abbrev FoldChoice : Bool → Verdict → System → Type 0
    FoldChoice unsure v next =
        EndsAt permits unsure place v o
        ⊎ ((later : Option ℕ) × GoesOn permits place v first later × Fold (place + 1) next es answers later o)

    abbrev AnyChoice : Verdict → System → Type 0
    AnyChoice w after =
        EndsAt permits false place w other ⊎ (GoesOn permits place w None None × Any (place + 1) after es answers other)

    both-on : (later : Option ℕ) (next after : System) → Follow place next after → Fold (place + 1) next es answers later o
        → Any (place + 1) after es answers other → other ≡ without_order o
    both-on later next after follow fold any =
        law (place + 1) next follow.0 answers later o other follow.2 fold
        (subst (λ (x : System). Any (place + 1) x es answers other) follow.1 any)

    choices : (v : Verdict) (next after : System) → ((v ≡ Refused → ⊥) → Follow place next after) → FoldChoice false v next
        → AnyChoice (plain v) after → other ≡ without_order o
    choices Equal next after follow (inl x) any = absurd x
    choices Equal next after follow (inr x) (inl y) = absurd y
    choices Equal next after follow (inr x) (inr y) = both-on x.0 next after (follow (λ is. absurd (cc))) x.2 y.1
    choices Allowed next after follow (inl x) any = absurd x
    choices Allowed next after follow (inr x) (inl y) = absurd y
    choices Allowed next after follow (inr x) (inr y) = both-on x.0 next after (follow (λ is. absurd (cc))) x.2 y.1
    choices Refused next after follow (inl x) (inl y) = y ∙ sym (ap without_order x)
    choices Refused next after follow (inl x) (inr y) = absurd y.0
    choices Refused next after follow (inr x) any = absurd x.1
    choices (Impossible why) next after follow (inl x) (inl y) = y.1 ∙ sym (ap without_order x.1)
    choices (Impossible why) next after follow (inl x) (inr y) = absurd (true≢false (sym y.0.0 ∙ x.0))
    choices (Impossible why) next after follow (inr x) (inl y) = absurd (true≢false (sym x.1.0 ∙ y.0))
    choices (Impossible why) next after follow (inr x) (inr y) = both-on x.0 next after (follow (λ is. absurd (cc))) x.2 y.1

    some-choice : (v : Verdict) (next after : System) → ((v ≡ Refused → ⊥) → Follow place next after) → FoldChoice false v next
        → ((later : Option ℕ) → Follow place next after → Fold (place + 1) next es answers later o
        → Any (place + 1) after es answers (without_order o))
        → EndsAt permits false place (plain v) (without_order o)
        ⊎ (GoesOn permits place (plain v) None None × Any (place + 1) after es answers (without_order o))
    some-choice Equal next after follow (inl x) more = absurd x
    some-choice Equal next after follow (inr x) more = inr (refl, more x.0 (follow (λ is. absurd (cc))) x.2)
    some-choice Allowed next after follow (inl x) more = absurd x
    some-choice Allowed next after follow (inr x) more = inr (refl, more x.0 (follow (λ is. absurd (cc))) x.2)
    some-choice Refused next after follow (inl x) more = inl (ap without_order x)
    some-choice Refused next after follow (inr x) more = absurd x.1
    some-choice (Impossible why) next after follow (inl x) more = inl (x.0, ap without_order x.1)
    some-choice (Impossible why) next after follow (inr x) more =
        inr ((x.1.0, refl), more x.0 (follow (λ is. absurd (cc))) x.2)

  law-nil : Law []
  law-nil place s ks answers first o other going fold any = any ∙ sym (ap without_order fold ∙ ended-plain first)

  law-next : (e : Event) (es : List Event) → Law es → Law (e ∷ es)
  law-next e es law place s ks answers first o other going fold any =
      let given = given_at place answers in
      let rest = behind_place place answers in
      let agree = step-agrees ignored place given e s ks going fold.0 any.0 fold.1 any.1 fold.2 any.2 in
      let closed = step-closed ignored place given e s ks going any.0 any.1 any.2 in
      let known = none-open (kqueue_of e s) in
      choices es law place rest first o other fold.0 fold.1 any.1 agree.follow
      (subst (λ b. FoldChoice es law place rest first o other b fold.0 fold.1) known
      (subst (λ (u : Option ℕ). EndsAt permits (is_open (kqueue_of e s) []) place fold.0 o
      ⊎ ((later : Option ℕ) × GoesOn permits place fold.0 first later
      × IsJudgedFrom ignored permits (place + 1) fold.1 es rest later (open_with u []) o)) closed fold.3))
      (subst (λ (w : Verdict). AnyChoice es law place rest first o other w any.1) agree.verdict any.3)

  laws : (es : List Event) → Law es
  laws [] = law-nil
  laws (e ∷ es) = law-next e es (laws es)

  abbrev Comes : List Event → Type 0
  Comes es =
      (place : ℕ) (s : System) (ks : List Live) (answers : List Answer) (first : Option ℕ) (o : Outcome) → IsGoing place s ks
      → Fold place s es answers first o → AreAnswered place es answers → Any place (beside s ks) es answers (without_order o)

  some-next : (e : Event) (es : List Event) → Comes es → Comes (e ∷ es)
  some-next e es some place s ks answers first o going fold there =
      let given = given_at place answers in
      let rest = behind_place place answers in
      let taken = some-step ignored place given e s ks going fold.0 fold.1 fold.2 there.0 in
      let agree = step-agrees ignored place given e s ks going fold.0 (plain fold.0) fold.1 taken.0 fold.2 taken.1 in
      let closed = step-closed ignored place given e s ks going (plain fold.0) taken.0 taken.1 in
      let known = none-open (kqueue_of e s) in (
        plain fold.0,
        taken.0,
        taken.1,
        some-choice es (laws es) place rest first o (without_order o) fold.0 fold.1 taken.0 agree.follow
            (subst (λ b. FoldChoice es (laws es) place rest first o (without_order o) b fold.0 fold.1) known
            (subst (λ (u : Option ℕ). EndsAt permits (is_open (kqueue_of e s) []) place fold.0 o
            ⊎ ((later : Option ℕ) × GoesOn permits place fold.0 first later
            × IsJudgedFrom ignored permits (place + 1) fold.1 es rest later (open_with u []) o)) closed fold.3))
            (λ later follow more.
            subst (λ (x : System). Any (place + 1) x es rest (without_order o)) (sym follow.1)
            (some (place + 1) fold.1 follow.0 rest later o follow.2 more there.1)),
      )

  some-nil : Comes []
  some-nil place s ks answers first o going fold there = ap without_order fold ∙ ended-plain first

  somes : (es : List Event) → Comes es
  somes [] = some-nil
  somes (e ∷ es) = some-next e es (somes es)

-- the empty system beside itself
start-going : (version : ℕ) → IsGoing 1 (empty_system version) []
start-going version = record {
  run = run-empty version;
  beside_run = run-empty version;
  rise = omega arith;
  beside_rise = omega arith;
  pairs = tt;
}

pub any-order : (ignored : List Ignored) (permits : Bool) (version : ℕ) (events : List Event) (answers : List Answer) (o : Outcome)
    → IsJudged ignored permits version events answers o → IsOutcomeInAnyOrder ignored permits version events answers o
any-order ignored permits version events answers o judged = record {
  some = λ there. somes ignored permits events 1 (empty_system version) [] answers None o (start-going version) judged there;
  no_other = λ other any. laws ignored permits events 1 (empty_system version) [] answers None o other (start-going version) judged any;
}
