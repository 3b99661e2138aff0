-- One moment of a kqueue, from what of it is in its private list: the same answer and the same kqueue after.
use Rattle.std.proofs.Common.{◌≡◌, ℕ, true, false, cond, eqb, List, [], map, Option, Some, None, refl, sym, ap, subst, ◌∙◌}
use Rattle.std.proofs.lemmas.Bool.{cond-true, true≢false}
use Rattle.std.proofs.lemmas.List.Elements.{All-weaker}
use Rattle.std.specs.List.{All}
use Rattle.kq_model.specs.declared.change.Change.{Change}
use Rattle.kq_model.specs.declared.filter.Filter.{Filter}
use Rattle.kq_model.specs.declared.filter.Filter.TheVariants.{Write}
use Rattle.kq_model.specs.declared.object.Named.{Named}
use Rattle.kq_model.specs.declared.object.Named.TheVariants as named
use Rattle.kq_model.specs.declared.reply.Reply.TheVariants.{Done}
use Rattle.kq_model.specs.Call as kevent
use Rattle.kq_model.specs.Caller.{Caller}
use Rattle.kq_model.specs.ChangedKnote.{key_of}
use Rattle.kq_model.specs.Clock.{Span, clocked}
use Rattle.kq_model.specs.Close.{Pair, closed}
use Rattle.kq_model.specs.Following.{forks_in, followed}
use Rattle.kq_model.specs.Hearing.{Hearing}
use Rattle.kq_model.specs.Hints.{notified}
use Rattle.kq_model.specs.Knote.{find_knote}
use Rattle.kq_model.specs.Kqueue.{Kqueue}
use Rattle.kq_model.specs.Moment.{Moment, caller_at, happened, called_at, after_call, kqueue_step}
use Rattle.kq_model.specs.PrivateList.{own_call, own_hints, own_clock, concern_of, has_item}
use Rattle.kq_model.specs.References.{Reference, Names, unless_file, named_target, reference_of, references_in}
use Rattle.kq_model.specs.Refusals.{own_refusal, is_writable}
use Rattle.kq_model.specs.Registration.{Decision, Refuse, Remove, Make, Modify, decision}
use Rattle.kq_model.specs.Replayed.{moment_with, own_reply}
use Rattle.kq_model.specs.Subjects.{HaveSubjects, MakesSubject, MakeSubjects}
use Rattle.kq_model.specs.Targets.{Posted, object_of, target_of}
use Rattle.kq_model.specs.World.{Call}
use Rattle.kq_model.proofs.KnoteLaws.{by_test}
use Rattle.kq_model.proofs.ListFilters.{All-unmap}
use Rattle.kq_model.proofs.NamedTargets.{valid, decision-unrefused}
use Rattle.kq_model.proofs.PrivateParts.{IsReferred, IsNumbered, closed-own, closed-none, notified-own, notified-none, IsClosedUnder, referred_children, numbered_children, followed-own, followed-none, clocked-own, clocked-none}
use Rattle.kq_model.proofs.QueueKeys.{Hold, call-hold, happened-hold}
use Rattle.kq_model.proofs.SubjectsCall.{call-subjects, closed-subjects, notified-subjects, followed-subjects, happened-subjects}

-- ---- a knote is made only of a target that its change names

writable-target : (n : Option Named) → is_writable n ≡ true → unless_file (object_of n) ≡ object_of n
unfolding is_writable object_of unless_file
writable-target (Some (named.Open description file)) e = absurd (true≢false (sym e))
writable-target (Some (named.Socket place)) e = refl
writable-target (Some (named.PipeRead place)) e = refl
writable-target (Some (named.PipeWrite place)) e = refl
writable-target (Some (named.Kqueue place)) e = refl
writable-target None e = refl

unrefused-target : (filter : Filter) (caller : Caller) (c : Change) → own_refusal filter caller true c ≡ None
    → named_target caller.views caller.owner filter c.ident ≡ target_of caller.views caller.owner filter c.ident
unfolding own_refusal named_target target_of
unrefused-target Write caller c e = writable-target _ (valid _ e)
unrefused-target _ caller c e = refl

module _ {S : Type 0} (h : Hearing S) where
  made-target : (caller : Caller) (c : Change) (kq : Kqueue h) → decision caller (find_knote (key_of c) kq.knotes) c ≡ Make
      → named_target caller.views caller.owner c.filter c.ident ≡ target_of caller.views caller.owner c.filter c.ident
  made-target caller c kq makes =
      unrefused-target c.filter caller c (subst Unrefused makes (decision-unrefused h caller c (find_knote (key_of c) kq.knotes)))
    where
      Unrefused : Decision h → Type 0
      Unrefused (Refuse e) = Unit {0}
      Unrefused Remove = Unit {0}
      Unrefused Make = own_refusal c.filter caller true c ≡ None
      Unrefused (Modify k) = Unit {0}

  module _ (kqueue owner : ℕ) (ns : Names) where
    -- what a change names is among these
    abbrev pub IsAmong : Reference → Type 0
    IsAmong r = IsReferred ns r.filter r.ident r.target

    -- ---- an own call makes knotes of what is named

    among-made : (caller : Caller) (c : Change) → IsAmong (reference_of caller.views caller.owner c) → (kq : Kqueue h)
        → MakesSubject (IsReferred ns) caller c kq
    among-made caller c named kq makes =
        subst (λ t. IsReferred ns c.filter c.ident t) (made-target caller c kq makes) named

    pub among-call : (m : Moment) (c : Call) → All IsAmong (map (reference_of m.views owner) c.changes) → MakeSubjects h (IsReferred ns) (caller_at owner m) c.changes
    among-call m c all =
        All-weaker (λ x. IsAmong (reference_of m.views owner x)) (λ x. (kq : Kqueue h) → MakesSubject (IsReferred ns) (caller_at owner m) x kq)
        (λ x named kq. among-made (caller_at owner m) x named kq) c.changes (All-unmap IsAmong (reference_of m.views owner) c.changes all)

    pub numbered-call : (m : Moment) (c : Call) → MakeSubjects h (IsReferred ns) (caller_at owner m) c.changes
        → MakeSubjects h (λ f i t. IsNumbered ns f i) (caller_at owner m) c.changes
    numbered-call m c new =
        All-weaker (λ x. (kq : Kqueue h) → MakesSubject (IsReferred ns) (caller_at owner m) x kq)
        (λ x. (kq : Kqueue h) → MakesSubject (λ f i t. IsNumbered ns f i) (caller_at owner m) x kq)
        (λ x makes kq is. (makes kq is).0) c.changes new

    -- ---- the kqueue has named subjects alone

    abbrev pub Fits : Kqueue h → Type 0
    Fits kq = HaveSubjects (IsReferred ns) kq.knotes × Hold h (IsNumbered ns) kq

    -- a child of a process that is named is named too
    abbrev pub AreClosedAt : Moment → Type 0
    AreClosedAt m = All (IsClosedUnder h ns) (forks_in m.version m.hints)

    happened-fits : (m : Moment) (kq : Kqueue h) → AreClosedAt m → Fits kq → Fits (happened owner m kq)
    happened-fits m kq closes fits =
        let forks = forks_in m.version m.hints in (
          happened-subjects h (IsReferred ns) owner m kq (referred_children h ns forks closes) fits.0,
          happened-hold h (IsNumbered ns) owner m kq (numbered_children h ns forks) fits.1,
        )

    called-fits : (m : Moment) (c : Call) (kq : Kqueue h) → AreClosedAt m → All IsAmong (map (reference_of m.views owner) c.changes) → Fits kq → Fits (called_at owner m c kq).kq
    unfolding called_at
    called-fits m c kq closes all fits =
        let before = happened-fits m kq closes fits in
        let new = among-call m c all in (
          call-subjects h (IsReferred ns) (caller_at owner m) c.room c.changes (happened owner m kq) new before.0,
          call-hold h (IsNumbered ns) (caller_at owner m) c.room c.changes (happened owner m kq) (numbered-call m c new) before.1,
        )

    after_call-fits : (m : Moment) (c : Option Call) (kq : Kqueue h) → AreClosedAt m → All IsAmong (references_in kqueue owner m.views c) → Fits kq
        → Fits (after_call kqueue owner m c kq)
    unfolding after_call references_in
    after_call-fits m None kq closes all fits = happened-fits m kq closes fits
    after_call-fits m (Some c) kq closes all fits =
        by_test (λ b. All IsAmong (cond b (map (reference_of m.views owner) c.changes) []) → Fits (cond b (called_at owner m c kq).kq (happened owner m kq)))
        (eqb c.kqueue kqueue) (λ _ given. called-fits m c kq closes given fits) (λ _ _. happened-fits m kq closes fits) all

    pub step-fits : (m : Moment) (kq : Kqueue h) → AreClosedAt m → All IsAmong (references_in kqueue owner m.views m.call) → Fits kq → Fits (kqueue_step kqueue owner m kq)
    unfolding kqueue_step
    step-fits m kq closes all fits = after_call-fits m m.call kq closes all fits

    -- ---- what is left out makes no difference

    abbrev pub own_moment : Moment → Moment
    own_moment m = moment_with m.version m.views (concern_of kqueue owner ns m)

    happened-own : (m : Moment) (kq : Kqueue h) → AreClosedAt m → Fits kq → happened owner (own_moment m) kq ≡ happened owner m kq
    unfolding happened
    happened-own m kq closes fits =
        let shut = closed owner m.closed kq in
        let open_ones = closed-subjects h (IsReferred ns) owner m.closed kq fits.0 in
        let heard = notified m.views m.hints shut in
        let hearers = notified-subjects h (IsReferred ns) m.views m.hints shut open_ones in
        ap (λ (q : Kqueue h). clocked (own_clock ns m.clock) (followed m.version (own_hints ns m.hints) (notified m.views (own_hints ns m.hints) q)))
        (closed-own h ns owner m.closed kq fits.1)
        ∙ ap (λ (q : Kqueue h). clocked (own_clock ns m.clock) (followed m.version (own_hints ns m.hints) q)) (notified-own h ns m.views m.hints shut open_ones)
        ∙ ap (λ (q : Kqueue h). clocked (own_clock ns m.clock) q) (followed-own h ns m.version m.hints heard hearers closes)
        ∙ clocked-own h ns m.clock (followed m.version m.hints heard)
        (followed-subjects h (IsReferred ns) m.version m.hints heard (referred_children h ns (forks_in m.version m.hints) closes) hearers)

    called-own : (m : Moment) (c : Call) (kq : Kqueue h) → AreClosedAt m → Fits kq → called_at owner (own_moment m) c kq ≡ called_at owner m c kq
    unfolding called_at
    called-own m c kq closes fits = ap (kevent.call (caller_at owner m) c.room c.changes) (happened-own m kq closes fits)

    after_call-own : (m : Moment) (c : Option Call) (kq : Kqueue h) → AreClosedAt m → Fits kq
        → after_call kqueue owner (own_moment m) (own_call kqueue c) kq ≡ after_call kqueue owner m c kq
    unfolding after_call own_call
    after_call-own m None kq closes fits = happened-own m kq closes fits
    after_call-own m (Some c) kq closes fits =
        by_test (λ b. after_call kqueue owner (own_moment m) (cond b (Some c) None) kq ≡ cond b (called_at owner m c kq).kq (happened owner m kq)) (eqb c.kqueue kqueue)
        (λ own. cond-true (eqb c.kqueue kqueue) _ _ own ∙ ap (λ (r : kevent.Called h). r.kq) (called-own m c kq closes fits))
        (λ _. happened-own m kq closes fits)

    own_reply-own : (m : Moment) (c : Option Call) (kq : Kqueue h) → AreClosedAt m → Fits kq
        → own_reply kqueue owner (own_moment m) (own_call kqueue c) kq ≡ own_reply kqueue owner m c kq
    unfolding own_reply own_call
    own_reply-own m None kq closes fits = refl
    own_reply-own m (Some c) kq closes fits =
        by_test (λ b. own_reply kqueue owner (own_moment m) (cond b (Some c) None) kq ≡ cond b (called_at owner m c kq).reply Done) (eqb c.kqueue kqueue)
        (λ own. cond-true (eqb c.kqueue kqueue) _ _ own ∙ ap (λ (r : kevent.Called h). r.reply) (called-own m c kq closes fits))
        (λ _. refl)

    pub step-own : (m : Moment) (kq : Kqueue h) → AreClosedAt m → Fits kq → kqueue_step kqueue owner (own_moment m) kq ≡ kqueue_step kqueue owner m kq
    unfolding kqueue_step
    step-own m kq closes fits = after_call-own m m.call kq closes fits

    pub reply-own : (m : Moment) (kq : Kqueue h) → AreClosedAt m → Fits kq
        → own_reply kqueue owner (own_moment m) (own_moment m).call kq ≡ own_reply kqueue owner m m.call kq
    reply-own m kq closes fits = own_reply-own m m.call kq closes fits

  -- ---- a moment without an item

  pub no_items : (pairs : List Pair) (posted : List Posted) (span : Option Span) (c : Option Call) → has_item pairs posted span c ≡ false
      → (pairs ≡ []) × (posted ≡ []) × (span ≡ None) × (c ≡ None)
  unfolding has_item
  no_items [] [] None None e = (refl, refl, refl, refl)
  no_items _ _ _ _ e = absurd (true≢false e)

  abbrev IsQuiet : Moment → Type 0
  IsQuiet m = has_item m.closed m.hints m.clock m.call ≡ false

  quiet-happened : (owner : ℕ) (m : Moment) (kq : Kqueue h) → IsQuiet m → happened owner m kq ≡ kq
  unfolding happened
  quiet-happened owner m kq quiet =
      let none = no_items m.closed m.hints m.clock m.call quiet in
      ap (λ span. clocked span (followed m.version m.hints (notified m.views m.hints (closed owner m.closed kq)))) none.2
      ∙ clocked-none h ns_of_none (followed m.version m.hints (notified m.views m.hints (closed owner m.closed kq)))
      ∙ ap (λ posted. followed m.version posted (notified m.views posted (closed owner m.closed kq))) none.1
      ∙ followed-none h ns_of_none m.version (notified m.views [] (closed owner m.closed kq))
      ∙ notified-none h ns_of_none m.views (closed owner m.closed kq)
      ∙ ap (λ pairs. closed owner pairs kq) none.0
      ∙ closed-none h ns_of_none owner kq
    where
      ns_of_none : Names
      ns_of_none = record { number = λ n. false; target = λ t. false; timer = false }

  pub quiet-step : (kqueue owner : ℕ) (m : Moment) (kq : Kqueue h) → IsQuiet m → kqueue_step kqueue owner m kq ≡ kq
  unfolding kqueue_step after_call
  quiet-step kqueue owner m kq quiet =
      ap (λ c. after_call kqueue owner m c kq) (no_items m.closed m.hints m.clock m.call quiet).3 ∙ quiet-happened owner m kq quiet

  pub quiet-reply : (kqueue owner : ℕ) (m : Moment) (kq : Kqueue h) → IsQuiet m → own_reply kqueue owner m m.call kq ≡ Done
  unfolding own_reply
  quiet-reply kqueue owner m kq quiet =
      ap (λ c. own_reply kqueue owner m c kq) (no_items m.closed m.hints m.clock m.call quiet).3
