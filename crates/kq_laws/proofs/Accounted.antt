-- The PROC knotes of a kqueue heard no NOTE_CHILD, and each notice is accounted for: one operation after the other.
use Rattle.std.proofs.Common.{◌≡◌, ℕ, zero, suc, ◌+◌, ◌-◌, Bool, true, false, cond, ltb, not, ◌||◌, length, List, [], ◌∷◌, ◌++◌, map, Option, Some, None, option_map, sym, ap, ◌∙◌, subst}
use Rattle.std.proofs.lemmas.Bool.{cond_both}
use Rattle.std.proofs.lemmas.List.Elements.{All-nil, All-cons, All-head, All-tail, All-append, All-filter}
use Rattle.std.proofs.lemmas.Option.{none-some}
use Rattle.std.specs.List.{All}
use Rattle.kq_model.specs.declared.change.Change.{Change}
use Rattle.kq_model.specs.declared.errno.Errno.{Errno}
use Rattle.kq_model.specs.declared.filter.Filter.{Filter}
use Rattle.kq_model.specs.declared.filter.Filter.TheVariants.{Proc, Timer, User}
use Rattle.kq_model.specs.declared.kevent.Kevent.{Kevent}
use Rattle.kq_model.specs.declared.key.Key.{Key}
use Rattle.kq_model.specs.declared.object.Hint.{Hint}
use Rattle.kq_model.specs.declared.object.Target.TheVariants as target
use Rattle.kq_model.specs.declared.reply.Reply.{Reply}
use Rattle.kq_model.specs.Bits.{asks, add, delete}
use Rattle.kq_model.specs.Call.{entry_of, is_answered, after, process, returned, by_entries, by_answer, concluded, call}
use Rattle.kq_model.specs.Caller.{Caller}
use Rattle.kq_model.specs.ChangedKnote.{key_of, activated, attended, begun, fresh, replaced, restarted, changed, started, switched, made, modified, has_come, timing_in}
use Rattle.kq_model.specs.Clock.{Span, timers, expires_at, expired, waiting_of, clock_from, clocked}
use Rattle.kq_model.specs.Close.{Pair, is_closed, closed}
use Rattle.kq_model.specs.Hearing.{Expired}
use Rattle.kq_model.specs.Hints.{hints_for, heard_by, hears_exit, unless_silent, alerted, if_there, knotes_alerted, notified}
use Rattle.kq_model.specs.Knote.{has_nothing, find_knote}
use Rattle.kq_model.specs.Look.{Seen, look}
use Rattle.kq_model.specs.Refusals.{is_malformed, is_unopened, own_refusal}
use Rattle.kq_model.specs.Registration.{Refuse, Remove, Make, Modify, unless_refused, decided, decision, carried_out, register}
use Rattle.kq_model.specs.Retrieval.{reset, rested, knotes_after, without_notice, with_notice_told, settled, turned_at_look, turned_at, turned, delivered, after_turn, retrieve, retrieval}
use Rattle.kq_model.specs.Tallied.{Decision, Knote, Kqueue, Processed, Retrieved}
use Rattle.kq_model.specs.Tallying.{Tally, tallying}
use Rattle.kq_model.specs.Targets.{Posted, number_in, target_of}
use Rattle.kq_model.specs.TimerWalk.{Waiting, rung_at, walked}
use Rattle.kq_model.specs.Views.{Views}
use Rattle.kq_laws.proofs.Childless.{AreChildless}
use Rattle.kq_laws.proofs.Lasting.{Lasting, lasting-heard}
use Rattle.kq_laws.proofs.Lists.{with_knote-all, without_knote-all, found-all}
use Rattle.kq_laws.proofs.HeardNotes.{HasNoChild, no_notes, expired-childless, AllChildless, heard-childless, WatchesProcess, hints-childless}

-- ---- one knote

-- of a PROC knote: its target, and what it has heard
abbrev pub IsOfProcess : Knote → Type 0
IsOfProcess k = k.key.filter ≡ Proc → WatchesProcess k.target × HasNoChild k.seen

module _ (Q : ℕ → ℕ → Type 0) where
  -- a notice of a child is accounted for
  abbrev pub IsAccounted : Knote → Type 0
  IsAccounted k = IsOfProcess k × ((parent : ℕ) → k.notice ≡ Some parent → Q k.key.ident parent)

  abbrev pub AreAccounted : Kqueue → Type 0
  AreAccounted kq = All IsAccounted kq.knotes

  abbrev IfAccounted : Option Knote → Type 0
  IfAccounted None = Unit {0}
  IfAccounted (Some k) = IsAccounted k

  -- it heard as much, or nothing that has the bit
  reheard : (k : Knote) (seen : Tally) (active triggered : Bool) → (HasNoChild k.seen → HasNoChild seen) → IsAccounted k
      → IsAccounted (record k { seen = seen; active = active; triggered = triggered })
  reheard k seen active triggered hears has = ((λ proc. ((has.0 proc).0, hears (has.0 proc).1)), has.1)

  activated-accounted : (seen : Option Seen) (k : Knote) → IsAccounted k → IsAccounted (activated seen k)
  unfolding activated
  activated-accounted None k has = has
  activated-accounted (Some seen) k has = has

  attended-accounted : (views : Views) (k : Knote) → IsAccounted k → IsAccounted (attended views k)
  unfolding attended
  attended-accounted views k has =
      cond_both k.enabled _ _ IsAccounted (λ _. activated-accounted (look views k) k has) (λ _. has)

  process-target : (n : Option ℕ) → WatchesProcess (option_map target.Process n)
  process-target None = tt
  process-target (Some pid) = tt

  proc-target : (views : Views) (owner ident : ℕ) → WatchesProcess (target_of views owner Proc ident)
  unfolding target_of
  proc-target views owner ident = process-target (number_in ident)

  fresh-accounted : (caller : Caller) (c : Change) → IsAccounted (fresh caller c)
  unfolding fresh
  fresh-accounted caller c = (
    (λ proc. (
      subst (λ (f : Filter). WatchesProcess (target_of caller.views caller.owner f c.ident)) (sym proc)
          (proc-target caller.views caller.owner c.ident),
      no_notes,
    )),
    (λ parent is. absurd (none-some parent is)),
  )

  started-accounted : (caller : Caller) (c : Change) (k : Knote) → IsAccounted k → IsAccounted (started caller c k)
  unfolding started
  started-accounted caller c k has =
      let hears : HasNoChild k.seen → HasNoChild (cond (has_come caller.views.now (timing_in caller c)) (tallying.heard Expired k.seen) k.seen) =
      λ none. cond_both (has_come caller.views.now (timing_in caller c)) _ _ HasNoChild (λ _. expired-childless k.seen none) (λ _. none) in
      ((λ proc. ((has.0 proc).0, hears (has.0 proc).1)), has.1)

  begun-accounted : (f : Filter) (caller : Caller) (c : Change) (k : Knote) → IsAccounted k
      → IsAccounted (begun f caller c k)
  unfolding begun
  begun-accounted Timer caller c k has = started-accounted caller c k has
  begun-accounted User caller c k has = has
  begun-accounted _ caller c k has = has

  replaced-accounted : (c : Change) (k : Knote) → IsAccounted k → IsAccounted (replaced c k)
  unfolding replaced
  replaced-accounted c k has = cond_both (asks c.flags add) _ _ IsAccounted (λ _. has) (λ _. has)

  restarted-accounted : (f : Filter) (caller : Caller) (c : Change) (k : Knote) → IsAccounted k
      → IsAccounted (restarted f caller c k)
  unfolding restarted
  restarted-accounted Timer caller c k has =
      cond_both (asks c.flags add) _ _ IsAccounted
      (λ _. started-accounted caller c (record k {
        seen =
            tallying.empty;
        active = false;
      }) (reheard k tallying.empty false k.triggered (λ _. no_notes) has))
      (λ _. has)
  restarted-accounted _ caller c k has = has

  changed-accounted : (f : Filter) (c : Change) (k : Knote) → IsAccounted k → IsAccounted (changed f c k)
  unfolding changed
  changed-accounted User c k has = has
  changed-accounted _ c k has = has

  switched-accounted : (c : Change) (k : Knote) → IsAccounted k → IsAccounted (switched c k)
  unfolding switched
  switched-accounted c k has = has

  made-accounted : (caller : Caller) (c : Change) → IsAccounted (made caller c)
  unfolding made
  made-accounted caller c =
      attended-accounted caller.views (begun c.filter caller c (fresh caller c))
      (begun-accounted c.filter caller c (fresh caller c) (fresh-accounted caller c))

  modified-accounted : (caller : Caller) (c : Change) (k : Knote) → IsAccounted k → IsAccounted (modified caller c k)
  unfolding modified
  modified-accounted caller c k has =
      attended-accounted caller.views _ (switched-accounted c _ (changed-accounted c.filter c _
      (restarted-accounted c.filter caller c _ (replaced-accounted c k has))))

  -- ---- a registration

  abbrev Decides : Decision → Type 0
  Decides (Refuse e) = Unit {0}
  Decides Remove = Unit {0}
  Decides Make = Unit {0}
  Decides (Modify k) = IsAccounted k

  unless_refused-accounted : (e : Option Errno) (d : Decision) → Decides d → Decides (unless_refused e d)
  unfolding unless_refused
  unless_refused-accounted None d fine = fine
  unless_refused-accounted (Some e) d fine = tt

  decided-accounted : (caller : Caller) (present : Option Knote) (c : Change) → IfAccounted present
      → Decides (decided caller present c)
  unfolding decided
  decided-accounted caller None c has =
      cond_both (asks c.flags add) _ _ Decides (λ _. unless_refused-accounted (own_refusal c.filter caller true c) Make tt) (λ _. tt)
  decided-accounted caller (Some k) c has =
      cond_both (asks c.flags delete) _ _ Decides (λ _. tt)
      (λ _. cond_both (asks c.flags add) _ _ Decides
      (λ _. unless_refused-accounted (own_refusal c.filter caller false c) (Modify k) has) (λ _. has))

  decision-accounted : (caller : Caller) (present : Option Knote) (c : Change) → IfAccounted present
      → Decides (decision caller present c)
  unfolding decision
  decision-accounted caller present c has =
      cond_both (is_malformed c) _ _ Decides (λ _. tt)
      (λ _. cond_both (is_unopened caller c) _ _ Decides (λ _. tt) (λ _. decided-accounted caller present c has))

  carried_out-accounted : (caller : Caller) (c : Change) (kq : Kqueue) (d : Decision) → AreAccounted kq → Decides d
      → AreAccounted (carried_out caller c kq d).kq
  unfolding carried_out
  carried_out-accounted caller c kq (Refuse e) all fine = all
  carried_out-accounted caller c kq Remove all fine = without_knote-all IsAccounted (key_of c) kq.knotes all
  carried_out-accounted caller c kq Make all fine =
      All-append IsAccounted kq.knotes (made caller c ∷ []) all
      (All-cons IsAccounted (made caller c) [] (made-accounted caller c) (All-nil IsAccounted))
  carried_out-accounted caller c kq (Modify k) all fine =
      with_knote-all IsAccounted (modified caller c k) kq.knotes (modified-accounted caller c k fine) all

  found-accounted : (key : Key) (kq : Kqueue) → AreAccounted kq → IfAccounted (find_knote key kq.knotes)
  found-accounted key kq all = found-all IsAccounted key kq.knotes all

  register-accounted : (caller : Caller) (c : Change) (kq : Kqueue) → AreAccounted kq
      → AreAccounted (register caller c kq).kq
  unfolding register
  register-accounted caller c kq all =
      carried_out-accounted caller c kq (decision caller (find_knote (key_of c) kq.knotes) c) all
      (decision-accounted caller (find_knote (key_of c) kq.knotes) c (found-accounted (key_of c) kq all))

  -- ---- a retrieval

  reset-accounted : (k : Knote) → IsAccounted k → IsAccounted (reset k)
  unfolding reset
  reset-accounted k has =
      cond_both k.clear _ _ IsAccounted (λ _. reheard k tallying.empty k.active false (λ _. no_notes) has) (λ _. has)

  rested-accounted : (k : Knote) → IsAccounted k → IsAccounted (rested k)
  unfolding rested
  rested-accounted k has = reset-accounted k has

  after-accounted : (k : Knote) (ks : List Knote) → IsAccounted k → All IsAccounted ks
      → All IsAccounted (knotes_after k ks)
  unfolding knotes_after
  after-accounted k ks has all =
      cond_both k.oneshot _ _ (All IsAccounted) (λ _. without_knote-all IsAccounted k.key ks all)
      (λ _. cond_both (k.clear || k.dispatch) _ _ (All IsAccounted)
      (λ _. with_knote-all IsAccounted (rested k) ks (rested-accounted k has) all) (λ _. all))

  told-accounted : (k : Knote) (kq : Kqueue) (seen : Option Seen) → IsAccounted k → AreAccounted kq
      → AreAccounted (with_notice_told k kq seen)
  unfolding with_notice_told
  told-accounted k kq None has all = with_knote-all IsAccounted (record k { active = false }) kq.knotes has all
  told-accounted k kq (Some seen) has all = with_knote-all IsAccounted k kq.knotes has all

  settled-accounted : (views : Views) (k : Knote) (kq : Kqueue) (notice : Option ℕ) → IsAccounted k → AreAccounted kq
      → AreAccounted (settled views k kq notice)
  unfolding settled
  settled-accounted views k kq None has all = after-accounted k kq.knotes has all
  settled-accounted views k kq (Some parent) has all =
      told-accounted (without_notice k) kq (look views (without_notice k)) (has.0, (λ other is. absurd (none-some other is))) all

  looked-accounted : (views : Views) (k : Knote) (kq : Kqueue) (seen : Option Seen) → IsAccounted k → AreAccounted kq
      → AreAccounted (turned_at_look views k kq seen).kq
  unfolding turned_at_look
  looked-accounted views k kq None has all = with_knote-all IsAccounted (record k { active = false }) kq.knotes has all
  looked-accounted views k kq (Some seen) has all = settled-accounted views k kq k.notice has all

  turned_at-accounted : (views : Views) (kq : Kqueue) (found : Option Knote) → IfAccounted found → AreAccounted kq
      → AreAccounted (turned_at views kq found).kq
  unfolding turned_at
  turned_at-accounted views kq None has all = all
  turned_at-accounted views kq (Some k) has all = looked-accounted views k kq (look views k) has all

  turned-accounted : (views : Views) (key : Key) (kq : Kqueue) → AreAccounted kq → AreAccounted (turned views key kq).kq
  unfolding turned
  turned-accounted views key kq all =
      turned_at-accounted views kq (find_knote key kq.knotes) (found-accounted key kq all) all

  turn-accounted : (rest : ℕ → Kqueue → Retrieved)
      → ((room : ℕ) (kq : Kqueue) → AreAccounted kq → AreAccounted (rest room kq).kq)
      → (room : ℕ) (kq : Kqueue) (event : Option Kevent) → AreAccounted kq
      → AreAccounted (after_turn rest room kq event).kq
  unfolding after_turn delivered
  turn-accounted rest keeps room kq None all = keeps (suc room) kq all
  turn-accounted rest keeps room kq (Some event) all = keeps room kq all

  retrieve-accounted : (views : Views) (keys : List Key) (room : ℕ) (kq : Kqueue) → AreAccounted kq
      → AreAccounted (retrieve views keys room kq).kq
  unfolding retrieve
  retrieve-accounted views [] room kq all = all
  retrieve-accounted views (key ∷ keys) zero kq all = all
  retrieve-accounted views (key ∷ keys) (suc room) kq all =
      turn-accounted (retrieve views keys) (retrieve-accounted views keys) room (turned views key kq).kq (turned views key kq).event
      (turned-accounted views key kq all)

  retrieval-accounted : (views : Views) (room : ℕ) (kq : Kqueue) → AreAccounted kq
      → AreAccounted (retrieval views room kq).kq
  unfolding retrieval
  retrieval-accounted views room kq all = retrieve-accounted views kq.queue room (record kq { queue = [] }) all

  -- ---- a call

  pub process-accounted : (caller : Caller) (room : ℕ) (cs : List Change) (placed : List Kevent) (kq : Kqueue)
      → AreAccounted kq
      → AreAccounted (process caller room cs placed kq).kq
  unfolding process after
  process-accounted caller room [] placed kq all = all
  process-accounted caller room (c ∷ cs) placed kq all =
      let r = register caller c kq in
      let next = register-accounted caller c kq all in
      cond_both (is_answered c r.error) _ _ Fine
      (λ _. cond_both (ltb (length placed) room) _ _ Fine
      (λ _. process-accounted caller room cs (placed ++ entry_of c r.error ∷ []) r.kq next) (λ _. next))
      (λ _. process-accounted caller room cs placed r.kq next)
    where
      Fine : Processed → Type 0
      Fine p = AreAccounted p.kq

  by_entries-accounted : (views : Views) (room : ℕ) (placed : List Kevent) (kq : Kqueue) → AreAccounted kq
      → AreAccounted (by_entries views room placed kq).kq
  unfolding by_entries returned
  by_entries-accounted views room [] kq all = retrieval-accounted views room kq all
  by_entries-accounted views room (entry ∷ entries) kq all = all

  by_answer-accounted : (views : Views) (room : ℕ) (p : Processed) (answer : Option Reply) → AreAccounted p.kq
      → AreAccounted (by_answer views room p answer).kq
  unfolding by_answer
  by_answer-accounted views room p (Some reply) all = all
  by_answer-accounted views room p None all = by_entries-accounted views room p.placed p.kq all

  pub call-accounted : (caller : Caller) (room : ℕ) (cs : List Change) (kq : Kqueue) → AreAccounted kq
      → AreAccounted (call caller room cs kq).kq
  unfolding call concluded
  call-accounted caller room cs kq all =
      let p = process caller room cs [] kq in
      by_answer-accounted caller.views room p p.answer (process-accounted caller room cs [] kq all)

  -- ---- closes, hints and the clock

  pub closed-accounted : (owner : ℕ) (pairs : List Pair) (kq : Kqueue) → AreAccounted kq
      → AreAccounted (closed owner pairs kq)
  unfolding closed
  closed-accounted owner pairs kq all =
      All-filter (λ (k : Knote). not (is_closed owner pairs k.key)) IsAccounted kq.knotes all

  heard-accounted : (hints : List Hint) (k : Knote) → (WatchesProcess k.target → AllChildless hints) → IsAccounted k
      → IsAccounted (heard_by hints k)
  heard-accounted hints k tame has =
      let stays = lasting-heard hints k in (
        (λ proc.
            let was = has.0 (sym (ap (λ (p : Lasting). p.key.filter) stays) ∙ proc) in (
              subst WatchesProcess (sym (ap (λ (p : Lasting). p.target) stays)) was.0,
              heard-childless hints k (tame was.0) was.1,
            )),
        (λ parent is. subst (λ (key : Key). Q key.ident parent) (sym (ap (λ (p : Lasting). p.key) stays))
            (has.1 parent (sym (ap (λ (p : Lasting). p.notice) stays) ∙ is))),
      )

  unless_silent-accounted : (exits : Bool) (k : Knote) → IsAccounted k → IfAccounted (unless_silent exits k)
  unfolding unless_silent
  unless_silent-accounted false k has = has
  unless_silent-accounted true k has = cond_both (has_nothing k) _ _ IfAccounted (λ _. tt) (λ _. has)

  alerted-accounted : (views : Views) (hints : List Hint) (k : Knote) → (WatchesProcess k.target → AllChildless hints)
      → IsAccounted k
      → IfAccounted (alerted views hints k)
  unfolding alerted
  alerted-accounted views [] k tame has = has
  alerted-accounted views (hint ∷ hints) k tame has =
      let heard = heard_by (hint ∷ hints) k in
      unless_silent-accounted (hears_exit (hint ∷ hints) k) (activated (look views heard) heard)
      (activated-accounted (look views heard) heard (heard-accounted (hint ∷ hints) k tame has))

  there-accounted : (found : Option Knote) → IfAccounted found → All IsAccounted (if_there found)
  unfolding if_there
  there-accounted None has = All-nil IsAccounted
  there-accounted (Some k) has = All-cons IsAccounted k [] has (All-nil IsAccounted)

  alerting-accounted : (views : Views) (posted : List Posted) (ks : List Knote) → AreChildless posted
      → All IsAccounted ks
      → All IsAccounted (knotes_alerted views posted ks)
  unfolding knotes_alerted
  alerting-accounted views posted [] tame all = All-nil IsAccounted
  alerting-accounted views posted (k ∷ ks) tame all =
      let found = alerted views (hints_for k posted) k in
      All-append IsAccounted (if_there found) (knotes_alerted views posted ks)
      (there-accounted found (alerted-accounted views (hints_for k posted) k
      (λ watches. hints-childless k posted watches tame) (All-head IsAccounted k ks all)))
      (alerting-accounted views posted ks tame (All-tail IsAccounted k ks all))

  pub notified-accounted : (views : Views) (posted : List Posted) (kq : Kqueue) → AreChildless posted → AreAccounted kq
      → AreAccounted (notified views posted kq)
  unfolding notified
  notified-accounted views posted kq tame all = alerting-accounted views posted kq.knotes tame all

  rung-accounted : (moment : ℕ) (ks : List Knote) → All IsAccounted ks
      → All IsAccounted (map (rung_at timers moment) ks)
  rung-accounted moment [] all = All-nil IsAccounted
  rung-accounted moment (k ∷ ks) all =
      let has = All-head IsAccounted k ks all in
      All-cons IsAccounted (rung_at timers moment k) (map (rung_at timers moment) ks)
      (cond_both (expires_at k moment) (expired k) k IsAccounted
      (λ _. reheard k (tallying.heard Expired k.seen) true k.triggered (expired-childless k.seen) has) (λ _. has))
      (rung-accounted moment ks (All-tail IsAccounted k ks all))

  walked-accounted : (from n : ℕ) (w : Waiting Knote Key) → All IsAccounted w.items
      → All IsAccounted (walked timers from n w).items
  unfolding walked
  walked-accounted from zero w all = all
  walked-accounted from (suc n) w all =
      rung-accounted (from + suc n) (walked timers from n w).items (walked-accounted from n w all)

  pub clocked-accounted : (span : Option Span) (kq : Kqueue) → AreAccounted kq → AreAccounted (clocked span kq)
  unfolding clocked clock_from
  clocked-accounted None kq all = all
  clocked-accounted (Some span) kq all = walked-accounted span.from (span.to - span.from) (waiting_of kq) all
