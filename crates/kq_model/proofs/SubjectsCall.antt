-- A whole call, and what comes before it, keeps what holds of the subjects of the knotes.
use Rattle.std.proofs.Common.{◌≡◌, refl, sym, subst, ℕ, zero, suc, ◌+◌, ◌-◌, Bool, true, false, not, ◌||◌, ltb, length, List, [], ◌∷◌, ◌++◌, map, Option, Some, None}
use Rattle.std.proofs.lemmas.Bool.{cond_both, and_parts}
use Rattle.std.specs.List.{All}
use Rattle.std.proofs.lemmas.List.Elements.{All-nil, All-cons, All-head, All-tail, All-append}
use Rattle.kq_model.specs.declared.change.Change.{Change}
use Rattle.kq_model.specs.declared.filter.Filter.{Filter}
use Rattle.kq_model.specs.declared.filter.Filter.TheVariants.{Proc}
use Rattle.kq_model.specs.declared.kevent.Kevent.{Kevent}
use Rattle.kq_model.specs.declared.key.Key.{Key}
use Rattle.kq_model.specs.declared.object.Hint.{Hint}
use Rattle.kq_model.specs.declared.object.Target.{Target}
use Rattle.kq_model.specs.declared.object.Target.TheVariants.{Process}
use Rattle.kq_model.specs.declared.reply.Reply.{Reply}
use Rattle.kq_model.specs.Call.{Processed, entry_of, is_answered, after, process, returned, by_entries, by_answer, concluded, call}
use Rattle.kq_model.specs.Caller.{Caller}
use Rattle.kq_model.specs.ChangedKnote.{activated}
use Rattle.kq_model.specs.Clock.{Span, timers, expires_at, expired, waiting_of, clock_from, clocked}
use Rattle.kq_model.specs.Close.{Pair, is_closed, closed}
use Rattle.kq_model.specs.Following.{Fork, process_key, follows, child_knote, heir, with_heir, heir_in, forks_in, followed_each, followed}
use Rattle.kq_model.specs.Hearing.{Hearing}
use Rattle.kq_model.specs.Hints.{kept, hints_for, added, heard_by, hears_exit, unless_silent, alerted, if_there, knotes_alerted, notified}
use Rattle.kq_model.specs.Knote.{Knote, has_nothing, find_knote}
use Rattle.kq_model.specs.Kqueue.{Kqueue}
use Rattle.kq_model.specs.Look.{Seen, look}
use Rattle.kq_model.specs.Moment.{Moment, happened}
use Rattle.kq_model.specs.Registration.{Registered, register}
use Rattle.kq_model.specs.Retrieval.{Retrieved, reset, rested, knotes_after, without_notice, with_notice_told, settled, turned_at_look, turned_at, turned, delivered, after_turn, retrieve, retrieval}
use Rattle.kq_model.specs.Subjects.{HasSubject, HaveSubjects, MakesSubject, MakeSubjects, FollowsSubject, FollowSubjects}
use Rattle.kq_model.specs.Targets.{Posted}
use Rattle.kq_model.specs.TimerWalk.{Waiting, rung_at, walked}
use Rattle.kq_model.specs.Views.{Views}
use Rattle.kq_model.proofs.KnoteLaws.{find_knote-key}
use Rattle.kq_model.proofs.SameTarget.{watched_is}
use Rattle.kq_model.proofs.Subjects.{with_knote-subjects, without_knote-subjects, filter-subjects, find_knote-subject, activated-subject, register-subjects}

module _ {S : Type 0} (h : Hearing S) (P : Filter → ℕ → Option Target → Type 0) where
  abbrev Is : Knote h → Type 0
  Is k = HasSubject P k

  abbrev Are : List (Knote h) → Type 0
  Are ks = HaveSubjects P ks

  abbrev pub IfIs : Option (Knote h) → Type 0
  IfIs None = Unit {0}
  IfIs (Some k) = Is k

  -- ---- a retrieval

  reset-subject : (k : Knote h) → Is k → Is (reset k)
  unfolding reset
  reset-subject k has = cond_both k.clear _ _ Is (λ _. has) (λ _. has)

  rested-subject : (k : Knote h) → Is k → Is (rested k)
  unfolding rested
  rested-subject k has = reset-subject k has

  knotes_after-subjects : (k : Knote h) (ks : List (Knote h)) → Is k → Are ks → Are (knotes_after k ks)
  unfolding knotes_after
  knotes_after-subjects k ks has all =
      cond_both k.oneshot _ _ Are (λ _. without_knote-subjects h P k.key ks all)
      (λ _. cond_both (k.clear || k.dispatch) _ _ Are (λ _. with_knote-subjects h P (rested k) ks (rested-subject k has) all) (λ _. all))

  with_told-subjects : (k : Knote h) (kq : Kqueue h) (seen : Option Seen) → Is k → Are kq.knotes → Are (with_notice_told k kq seen).knotes
  unfolding with_notice_told
  with_told-subjects k kq None has all = with_knote-subjects h P (record k { active = false }) kq.knotes has all
  with_told-subjects k kq (Some seen) has all = with_knote-subjects h P k kq.knotes has all

  settled-subjects : (views : Views) (k : Knote h) (kq : Kqueue h) (notice : Option ℕ) → Is k → Are kq.knotes → Are (settled views k kq notice).knotes
  unfolding settled
  settled-subjects views k kq None has all = knotes_after-subjects k kq.knotes has all
  settled-subjects views k kq (Some parent) has all = with_told-subjects (without_notice k) kq (look views (without_notice k)) has all

  turned_at_look-subjects : (views : Views) (k : Knote h) (kq : Kqueue h) (seen : Option Seen) → Is k → Are kq.knotes → Are (turned_at_look views k kq seen).kq.knotes
  unfolding turned_at_look
  turned_at_look-subjects views k kq None has all = with_knote-subjects h P (record k { active = false }) kq.knotes has all
  turned_at_look-subjects views k kq (Some seen) has all = settled-subjects views k kq k.notice has all

  turned_at-subjects : (views : Views) (kq : Kqueue h) (found : Option (Knote h)) → IfIs found → Are kq.knotes → Are (turned_at views kq found).kq.knotes
  unfolding turned_at
  turned_at-subjects views kq None has all = all
  turned_at-subjects views kq (Some k) has all = turned_at_look-subjects views k kq (look views k) has all

  pub turned-subjects : (views : Views) (key : Key) (kq : Kqueue h) → Are kq.knotes → Are (turned views key kq).kq.knotes
  unfolding turned
  turned-subjects views key kq all =
      turned_at-subjects views kq (find_knote key kq.knotes) (find_knote-subject h P key kq.knotes all) all

  after_turn-subjects : (rest : ℕ → Kqueue h → Retrieved h) → ((room : ℕ) (kq : Kqueue h) → Are kq.knotes → Are (rest room kq).kq.knotes)
      → (room : ℕ) (kq : Kqueue h) (event : Option Kevent) → Are kq.knotes → Are (after_turn rest room kq event).kq.knotes
  unfolding after_turn delivered
  after_turn-subjects rest keeps room kq None all = keeps (suc room) kq all
  after_turn-subjects rest keeps room kq (Some event) all = keeps room kq all

  retrieve-subjects : (views : Views) (keys : List Key) (room : ℕ) (kq : Kqueue h) → Are kq.knotes → Are (retrieve views keys room kq).kq.knotes
  unfolding retrieve
  retrieve-subjects views [] room kq all = all
  retrieve-subjects views (key ∷ keys) zero kq all = all
  retrieve-subjects views (key ∷ keys) (suc room) kq all =
      after_turn-subjects (retrieve views keys) (retrieve-subjects views keys) room (turned views key kq).kq (turned views key kq).event
      (turned-subjects views key kq all)

  pub retrieval-subjects : (views : Views) (room : ℕ) (kq : Kqueue h) → Are kq.knotes → Are (retrieval views room kq).kq.knotes
  unfolding retrieval
  retrieval-subjects views room kq all = retrieve-subjects views kq.queue room (record kq { queue = [] }) all

  -- ---- a call

  after-subjects : (rest : List Kevent → Kqueue h → Processed h) → ((placed : List Kevent) (kq : Kqueue h) → Are kq.knotes → Are (rest placed kq).kq.knotes)
      → (room : ℕ) (c : Change) (placed : List Kevent) (r : Registered h) → Are r.kq.knotes → Are (after rest room c placed r).kq.knotes
  unfolding after
  after-subjects rest keeps room c placed r all =
      cond_both (is_answered c r.error) _ _ Fine
      (λ _. cond_both (ltb (length placed) room) _ _ Fine (λ _. keeps (placed ++ entry_of c r.error ∷ []) r.kq all) (λ _. all))
      (λ _. keeps placed r.kq all)
    where
      Fine : Processed h → Type 0
      Fine p = Are p.kq.knotes

  process-subjects : (caller : Caller) (room : ℕ) (changes : List Change) (placed : List Kevent) (kq : Kqueue h) → MakeSubjects h P caller changes
      → Are kq.knotes → Are (process caller room changes placed kq).kq.knotes
  unfolding process
  process-subjects caller room [] placed kq new all = all
  process-subjects caller room (c ∷ changes) placed kq new all =
      after-subjects (process caller room changes)
      (λ more q has. process-subjects caller room changes more q (All-tail (λ x. (qq : Kqueue h) → MakesSubject P caller x qq) c changes new) has)
      room c placed (register caller c kq)
      (register-subjects h P caller c kq all (All-head (λ x. (qq : Kqueue h) → MakesSubject P caller x qq) c changes new kq))

  by_entries-subjects : (views : Views) (room : ℕ) (placed : List Kevent) (kq : Kqueue h) → Are kq.knotes → Are (by_entries views room placed kq).kq.knotes
  unfolding by_entries returned
  by_entries-subjects views room [] kq all = retrieval-subjects views room kq all
  by_entries-subjects views room (entry ∷ entries) kq all = all

  by_answer-subjects : (views : Views) (room : ℕ) (p : Processed h) (answer : Option Reply) → Are p.kq.knotes → Are (by_answer views room p answer).kq.knotes
  unfolding by_answer
  by_answer-subjects views room p (Some reply) all = all
  by_answer-subjects views room p None all = by_entries-subjects views room p.placed p.kq all

  pub call-subjects : (caller : Caller) (room : ℕ) (changes : List Change) (kq : Kqueue h) → MakeSubjects h P caller changes → Are kq.knotes
      → Are (call caller room changes kq).kq.knotes
  unfolding call concluded
  call-subjects caller room changes kq new all =
      let p = process caller room changes [] kq in
      by_answer-subjects caller.views room p p.answer (process-subjects caller room changes [] kq new all)

  -- ---- closes, hints and the clock

  pub closed-subjects : (owner : ℕ) (pairs : List Pair) (kq : Kqueue h) → Are kq.knotes → Are (closed owner pairs kq).knotes
  unfolding closed
  closed-subjects owner pairs kq all = filter-subjects h P (λ (k : Knote h). not (is_closed owner pairs k.key)) kq.knotes all

  added-subject : (hint : Option Hint) (k : Knote h) → Is k → Is (added hint k)
  unfolding added
  added-subject None k has = has
  added-subject (Some hint) k has = has

  heard_by-subject : (hints : List Hint) (k : Knote h) → Is k → Is (heard_by hints k)
  unfolding heard_by
  heard_by-subject [] k has = has
  heard_by-subject (hint ∷ hints) k has =
      heard_by-subject hints (added (kept k.fflags hint) k) (added-subject (kept k.fflags hint) k has)

  unless_silent-subject : (exits : Bool) (k : Knote h) → Is k → IfIs (unless_silent exits k)
  unfolding unless_silent
  unless_silent-subject false k has = has
  unless_silent-subject true k has = cond_both (has_nothing k) _ _ IfIs (λ _. tt) (λ _. has)

  pub alerted-subject : (views : Views) (hints : List Hint) (k : Knote h) → Is k → IfIs (alerted views hints k)
  unfolding alerted
  alerted-subject views [] k has = has
  alerted-subject views (hint ∷ hints) k has =
      let heard = heard_by (hint ∷ hints) k in
      unless_silent-subject (hears_exit (hint ∷ hints) k) (activated (look views heard) heard)
      (activated-subject h P (look views heard) heard (heard_by-subject (hint ∷ hints) k has))

  if_there-subjects : (found : Option (Knote h)) → IfIs found → Are (if_there found)
  unfolding if_there
  if_there-subjects None has = All-nil Is
  if_there-subjects (Some k) has = All-cons Is k [] has (All-nil Is)

  knotes_alerted-subjects : (views : Views) (posted : List Posted) (ks : List (Knote h)) → Are ks → Are (knotes_alerted views posted ks)
  unfolding knotes_alerted
  knotes_alerted-subjects views posted [] all = All-nil Is
  knotes_alerted-subjects views posted (k ∷ ks) all =
      let found = alerted views (hints_for k posted) k in
      All-append Is (if_there found) (knotes_alerted views posted ks)
      (if_there-subjects found (alerted-subject views (hints_for k posted) k (All-head Is k ks all)))
      (knotes_alerted-subjects views posted ks (All-tail Is k ks all))

  pub notified-subjects : (views : Views) (posted : List Posted) (kq : Kqueue h) → Are kq.knotes → Are (notified views posted kq).knotes
  unfolding notified
  notified-subjects views posted kq all = knotes_alerted-subjects views posted kq.knotes all

  -- ---- children

  -- the knote of a process, and one that follows
  followed-subject : (f : Fork) (k : Knote h) → process_key f.parent ≡ k.key → follows f.parent k ≡ true → Is k
      → P Proc f.parent (Some (Process f.parent))
  followed-subject f k key does has =
      subst (λ t. P Proc f.parent t) (watched_is k.target (Process f.parent) (and_parts _ _ does).0)
      (subst (λ (o : Key). P o.filter o.ident k.target) (sym key) has)

  heir-subject : (f : Fork) (ks : List (Knote h)) (parent present : Option (Knote h)) → find_knote (process_key f.parent) ks ≡ parent
      → IfIs parent → FollowsSubject P f → IfIs (heir f parent present)
  unfolding heir
  heir-subject f ks (Some k) None found has passes =
      cond_both (follows f.parent k) (Some (child_knote f k)) None IfIs
      (λ does. passes (followed-subject f k (find_knote-key (process_key f.parent) ks k found) does has)) (λ _. tt)
  heir-subject f ks None present found has passes = tt
  heir-subject f ks (Some k) (Some x) found has passes = tt

  pub heir_in-subject : (f : Fork) (kq : Kqueue h) → Are kq.knotes → FollowsSubject P f → IfIs (heir_in f kq)
  heir_in-subject f kq all passes =
      heir-subject f kq.knotes (find_knote (process_key f.parent) kq.knotes) (find_knote (process_key f.child) kq.knotes) refl
      (find_knote-subject h P (process_key f.parent) kq.knotes all) passes

  with_heir-subjects : (heir : Option (Knote h)) (kq : Kqueue h) → IfIs heir → Are kq.knotes → Are (with_heir heir kq).knotes
  unfolding with_heir
  with_heir-subjects None kq has all = all
  with_heir-subjects (Some k) kq has all = All-append Is kq.knotes (k ∷ []) all (All-cons Is k [] has (All-nil Is))

  pub followed_each-subjects : (fs : List Fork) (kq : Kqueue h) → All (FollowsSubject P) fs → Are kq.knotes → Are (followed_each fs kq).knotes
  unfolding followed_each
  followed_each-subjects [] kq passes all = all
  followed_each-subjects (f ∷ fs) kq passes all =
      followed_each-subjects fs (with_heir (heir_in f kq) kq) (All-tail (FollowsSubject P) f fs passes)
      (with_heir-subjects (heir_in f kq) kq (heir_in-subject f kq all (All-head (FollowsSubject P) f fs passes)) all)

  pub followed-subjects : (version : ℕ) (posted : List Posted) (kq : Kqueue h) → FollowSubjects P version posted → Are kq.knotes
      → Are (followed version posted kq).knotes
  followed-subjects version posted kq passes all = followed_each-subjects (forks_in version posted) kq passes all

  rung_at-subjects : (moment : ℕ) (ks : List (Knote h)) → Are ks → Are (map (rung_at timers moment) ks)
  rung_at-subjects moment [] all = All-nil Is
  rung_at-subjects moment (k ∷ ks) all =
      All-cons Is (rung_at timers moment k) (map (rung_at timers moment) ks)
      (cond_both (expires_at k moment) (expired k) k Is (λ _. All-head Is k ks all) (λ _. All-head Is k ks all))
      (rung_at-subjects moment ks (All-tail Is k ks all))

  pub walked-subjects : (from n : ℕ) (w : Waiting (Knote h) Key) → Are w.items → Are (walked timers from n w).items
  unfolding walked
  walked-subjects from zero w all = all
  walked-subjects from (suc n) w all =
      rung_at-subjects (from + suc n) (walked timers from n w).items (walked-subjects from n w all)

  pub clocked-subjects : (span : Option Span) (kq : Kqueue h) → Are kq.knotes → Are (clocked span kq).knotes
  unfolding clocked clock_from
  clocked-subjects None kq all = all
  clocked-subjects (Some span) kq all = walked-subjects span.from (span.to - span.from) (waiting_of kq) all

  -- all that comes before a call
  pub happened-subjects : (owner : ℕ) (m : Moment) (kq : Kqueue h) → FollowSubjects P m.version m.hints → Are kq.knotes
      → Are (happened owner m kq).knotes
  unfolding happened
  happened-subjects owner m kq passes all =
      clocked-subjects m.clock _ (followed-subjects m.version m.hints _ passes
      (notified-subjects m.views m.hints _ (closed-subjects owner m.closed kq all)))
