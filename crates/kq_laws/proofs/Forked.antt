-- Over a whole run each notice of a child is accounted for by the fork of it, and a call tells of no other.
use Rattle.std.proofs.Common.{◌≡◌, ℕ, pos, ◌+◌, true, not, ◌⊎◌, inl, inr, length, List, [], ◌∷◌, ◌++◌, map, filter, Option, Some, None, refl, sym, ap, ◌∙◌, subst, arith}
use Rattle.std.proofs.lemmas.Bool.{true≢false}
use Rattle.std.proofs.lemmas.List.{append_assoc, length_push}
use Rattle.std.proofs.lemmas.List.Elements.{All-nil, All-cons, All-head, All-tail, All-append, All-filter, All-weaker}
use Rattle.std.specs.Prelude.{All}
use Rattle.kq_model.specs.declared.event.Event.{Event}
use Rattle.kq_model.specs.declared.event.Event.TheVariants as event
use Rattle.kq_model.specs.declared.kevent.Kevent.{Kevent}
use Rattle.kq_model.specs.declared.reply.Reply.{Reply}
use Rattle.kq_model.specs.declared.reply.Reply.TheVariants.{Events}
use Rattle.kq_model.specs.Bits.{asks, error}
use Rattle.kq_model.specs.Call.{call}
use Rattle.kq_model.specs.CallLaws.{Each, IsAnswer, IsDue, kqueue_after_changes}
use Rattle.kq_model.specs.Close.{Pair, has_pair}
use Rattle.kq_model.specs.Following.{all_forks}
use Rattle.kq_model.specs.Moment.{Moment, moment_of, kqueue_step}
use Rattle.kq_model.specs.Plans.{plan}
use Rattle.kq_model.specs.System.{empty_system, stepped, lived, born, step_by, step, system_after}
use Rattle.kq_model.specs.Tallied.{Kqueue, Live, System}
use Rattle.kq_model.specs.Views.{Views}
use Rattle.kq_model.specs.World.{Plan, Planned, Impossible, Possible, seen_world, views_of}
use Rattle.kq_model.proofs.BornFirst.{silent-records}
use Rattle.kq_kevent.proofs.AnswerLaws.{call-answer}
use Rattle.kq_kevent.proofs.SoundLaws.{IsSound-empty}
use Rattle.kq_laws.specs.Notices.{TellsOfChild, WasForked, TellsOfForks}
use Rattle.kq_laws.specs.Runs.{HaveLedTo, find_live, owner_in}
use Rattle.kq_laws.proofs.Accounted.{IsAccounted, AreAccounted, process-accounted}
use Rattle.kq_laws.proofs.Childless.{AreChildless}
use Rattle.kq_laws.proofs.ChildlessPlans.{childless_plan}
use Rattle.kq_laws.proofs.Children.{IfForks, OnlyForks, only-forks}
use Rattle.kq_laws.proofs.RunCalls.{live-is, reply-is}
use Rattle.kq_laws.proofs.RunPlaces.{Rise, all-and, all-found, rise-step}
use Rattle.kq_laws.proofs.Noticed.{by-fork, Brings, IsKept, after_call-kept}

-- ---- a run: these events, from the start of a trace of a version

is-fork : (e : Event)
    → ((pid child : ℕ) → e ≡ event.Fork pid child → ⊥) ⊎ ((pid : ℕ) × (child : ℕ) × (e ≡ event.Fork pid child))
is-fork (event.Fork pid child) = inr (pid, child, refl)
is-fork _ = inl (λ pid child is. cc)

module _ (version : ℕ) (all : List Event) where
  -- a notice in the kqueue of a place
  abbrev Told : ℕ → ℕ → ℕ → Type 0
  Told place child parent = WasForked version all place parent child

  abbrev IsFine : Live → Type 0
  IsFine l = IsKept (Told l.place) l.kq

  -- a record brings notices that are accounted for
  abbrev Brought : Moment → Live → Type 0
  Brought m l = Brings (Told l.place) m l.kq

  -- ---- one record

  module _ (before : Views) (m : Moment) (childless : AreChildless m.hints) where
    abbrev Both : Live → Type 0
    Both l = IsFine l × Brought m l

    all-stepped : (ls : List Live) → All Both ls → All IsFine (map (stepped m) ls)
    unfolding stepped kqueue_step
    all-stepped [] both = All-nil IsFine
    all-stepped (l ∷ ls) both =
        let first = All-head Both l ls both in
        All-cons IsFine (stepped m l) (map (stepped m) ls)
        (after_call-kept (Told l.place) before m childless l.place l.owner m.call l.kq first.0 first.1)
        (all-stepped ls (All-tail Both l ls both))

    lived-fine : (ls : List Live) → All IsFine ls → All (Brought m) ls → All IsFine (lived m ls)
    unfolding lived
    lived-fine ls fine brought =
        all-stepped (filter (λ (l : Live). not (has_pair l.owner l.number m.closed)) ls)
        (All-filter (λ (l : Live). not (has_pair l.owner l.number m.closed)) Both ls (all-and IsFine (Brought m) ls fine brought))

  born-fine : (place : ℕ) (p : Option Pair) → All IsFine (born place p)
  unfolding born
  born-fine place None = All-nil IsFine
  born-fine place (Some p) =
      All-cons IsFine _ [] (IsSound-empty, All-nil (IsAccounted (Told place))) (All-nil IsFine)

  -- ---- the record behind these

  module _ (done : List Event) (e : Event) (rest : List Event) (s : System) (split : all ≡ done ++ e ∷ rest)
      (reached : system_after 1 (empty_system version) done ≡ s) (rise : Rise 0 (length done + 1) s.live) where
    abbrev place : ℕ
    place = length done + 1

    all-silent : (p : Plan) → all_forks p.hints ≡ [] → (ls : List Live)
        → All (Brought (moment_of s.version place p s.world)) ls
    unfolding moment_of
    all-silent p silent [] = All-nil (Brought (moment_of s.version place p s.world))
    all-silent p silent (l ∷ ls) =
        All-cons (Brought (moment_of s.version place p s.world)) l ls (inl silent) (all-silent p silent ls)

    forks-of : (p : Plan) (pid child : ℕ) → plan place e (seen_world s.world) ≡ Possible p → e ≡ event.Fork pid child
        → All (Brought (moment_of s.version place p s.world)) s.live
    unfolding moment_of
    forks-of p pid child planned is =
        let possible : plan place (event.Fork pid child) (seen_world s.world) ≡ Possible p =
        ap (λ (x : Event). plan place x (seen_world s.world)) (sym is) ∙ planned in
        let forks : OnlyForks pid child p =
        subst (IfForks pid child) possible (only-forks pid child place (seen_world s.world)) in
        All-weaker (λ (l : Live). find_live l.place s.live ≡ Some l) (Brought (moment_of s.version place p s.world))
        (λ l live. inr (record {
          pid = pid;
          child = child;
          closed = forks.closed;
          told = forks.told;
          gives = λ k here does none. record {
            earlier = done;
            later = rest;
            split = split ∙ ap (λ (x : Event). done ++ x ∷ rest) is;
            before = s;
            reached = reached;
            does = p;
            possible = possible;
            kqueue = l;
            live = live;
            knote = k;
            there = here;
            follows = does;
            none = none;
          };
        })) s.live (all-found 0 place s.live rise)

    brought : (p : Plan) → plan place e (seen_world s.world) ≡ Possible p
        → ((pid child : ℕ) → e ≡ event.Fork pid child → ⊥) ⊎ ((pid : ℕ) × (child : ℕ) × (e ≡ event.Fork pid child))
        → All (Brought (moment_of s.version place p s.world)) s.live
    brought p planned (inl other) = all-silent p (silent-records place e (seen_world s.world) p other planned) s.live
    brought p planned (inr f) = forks-of p f.0 f.1 planned f.2

    hints-childless : (p : Plan) → plan place e (seen_world s.world) ≡ Possible p
        → AreChildless (moment_of s.version place p s.world).hints
    unfolding moment_of
    hints-childless p planned = childless_plan place e (seen_world s.world) p planned

    step_by-fine : (q : Planned) → plan place e (seen_world s.world) ≡ q → All IsFine s.live
        → All IsFine (step_by place q s).system.live
    unfolding step_by
    step_by-fine (Impossible why) planned fine = fine
    step_by-fine (Possible p) planned fine =
        let m = moment_of s.version place p s.world in
        All-append IsFine (lived m s.live) (born place p.born)
        (lived-fine (views_of (seen_world s.world)) m (hints-childless p planned) s.live fine (brought p planned (is-fork e)))
        (born-fine place p.born)

    step-fine : All IsFine s.live → All IsFine (step place e s).system.live
    unfolding step
    step-fine fine = step_by-fine (plan place e (seen_world s.world)) refl fine

  -- ---- all of them

  after-push : (es : List Event) (e : Event) (n : ℕ) (s : System)
      → system_after n s (es ++ e ∷ []) ≡ (step (n + length es) e (system_after n s es)).system
  unfolding system_after
  after-push [] e n s = ap (λ k. (step k e s).system) (omega arith)
  after-push (x ∷ es) e n s =
      after-push es e (n + 1) (step n x s).system
      ∙ ap (λ k. (step k e (system_after (n + 1) (step n x s).system es)).system) (omega arith)

  pushed : (done : List Event) (e : Event) (s : System) → system_after 1 (empty_system version) done ≡ s
      → system_after 1 (empty_system version) (done ++ e ∷ []) ≡ (step (length done + 1) e s).system
  pushed done e s reached =
      after-push done e 1 (empty_system version)
      ∙ ap (λ k. (step k e (system_after 1 (empty_system version) done)).system) (omega arith)
      ∙ ap (λ (t : System). (step (length done + 1) e t).system) reached

  fine-all : (rest done : List Event) (s : System) → all ≡ done ++ rest → system_after 1 (empty_system version) done ≡ s
      → Rise 0 (length done + 1) s.live → All IsFine s.live → All IsFine (system_after (length done + 1) s rest).live
  unfolding system_after
  fine-all [] done s split reached rise fine = fine
  fine-all (e ∷ rest) done s split reached rise fine =
      let next = (step (length done + 1) e s).system in
      let longer : length (done ++ e ∷ []) + 1 ≡ length done + 1 + 1 = omega (arith, length_push done e) in
      subst (λ n. All IsFine (system_after n next rest).live) longer
      (fine-all rest (done ++ e ∷ []) next (split ∙ sym (append_assoc done (e ∷ []) rest)) (pushed done e s reached)
      (subst (λ n. Rise 0 n next.live) (sym longer) (rise-step (length done + 1) e s rise))
      (step-fine done e rest s split reached rise fine))

fine-led : (events : List Event) (applied : ℕ) (s : System) → HaveLedTo events applied s
    → All (IsFine s.version events) s.live
unfolding system_after
fine-led events applied s led =
    subst (λ (t : System). All (IsFine s.version events) t.live) led.reached
    (fine-all s.version events events [] (empty_system s.version) refl refl (omega arith) (All-nil (IsFine s.version events)))

-- ---- the law

each-weaker : (P Q : Kevent → Type 0) → ((e : Kevent) → P e → Q e) → (es : List Kevent) → Each P es → Each Q es
each-weaker P Q weaker [] each = tt
each-weaker P Q weaker (e ∷ es) each = (weaker e each.0, each-weaker P Q weaker es each.1)

module _ (Q : ℕ → ℕ → Type 0) (views : Views) (room : ℕ) (kq after : Kqueue) (accounted : AreAccounted Q kq) where
  abbrev TellsOf : Kevent → Type 0
  TellsOf e = TellsOfChild e → (parent : ℕ) × (e.datum ≡ pos parent) × Q e.ident parent

  each-tells : (events : List Kevent) → IsAnswer views room kq after (Events events) → Each TellsOf events
  each-tells events (inl entries) =
      each-weaker (λ (e : Kevent). asks e.flags error ≡ true) TellsOf
      (λ e yes tells. absurd (true≢false (sym yes ∙ tells.no_entry))) events entries.entries
  each-tells events (inr taken) =
      each-weaker (IsDue views kq.knotes) TellsOf (λ e due tells. by-fork Q views kq e accounted due tells) events taken.due

pub tells_of_forks : (applied : ℕ) (e : Event) (old : System) (reply : Reply) → reply ≡ (step (applied + 1) e old).reply
    → TellsOfForks applied e old reply
tells_of_forks applied e old reply replied events led l changes room on answer is =
    let by = owner_in (step (applied + 1) e old).system l in
    let after = (call by room changes l.kq).kq in
    let kq = kqueue_after_changes by room changes l.kq in
    let fine = live-is (IsFine old.version events) l.place old.live l (fine-led events applied old led) on.live in
    each-tells (Told old.version events l.place) by.views room kq after
    (process-accounted (Told old.version events l.place) by room changes [] l.kq fine.1) answer
    (subst (IsAnswer by.views room kq after)
    (sym (reply-is (applied + 1) e old l changes room on) ∙ sym replied ∙ is)
    (call-answer by room changes l.kq fine.0))
