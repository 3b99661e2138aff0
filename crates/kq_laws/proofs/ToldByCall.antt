-- A call returns a timer, which then was told nothing, or leaves it what it was told.
use Rattle.std.proofs.Common.{◌≡◌, ℕ, zero, suc, ◌≤◌, Bool, true, false, cond, ltb, not, ◌||◌, ◌&&◌, length, List, [], ◌∷◌, ◌++◌, Option, Some, None, refl, sym, ap, ◌∙◌, subst, arith}
use Rattle.std.proofs.lemmas.Bool.{cond_both, true≢false}
use Rattle.std.proofs.lemmas.Option.{none-some}
use Rattle.std.specs.List.{All, list_any}
use Rattle.kq_model.specs.declared.change.Change.{Change}
use Rattle.kq_model.specs.declared.errno.Errno.{Errno}
use Rattle.kq_model.specs.declared.event_flags.EvFlags.{EvFlags}
use Rattle.kq_model.specs.declared.kevent.Kevent.{Kevent}
use Rattle.kq_model.specs.declared.key.Key.{Key}
use Rattle.kq_model.specs.declared.reply.Reply.{Reply}
use Rattle.kq_model.specs.Bits.{asks, flag_if, oneshot, clear, dispatch, eof, error}
use Rattle.kq_model.specs.Call.{entry_of, is_answered, ended, after, process, returned, by_entries, by_answer, concluded, call}
use Rattle.kq_model.specs.Caller.{Caller}
use Rattle.kq_model.specs.Tallying.{tallying}
use Rattle.kq_model.specs.Knote.{key_eq, find_knote, with_knote}
use Rattle.kq_model.specs.Look.{Seen, look}
use Rattle.kq_model.specs.Registration.{register}
use Rattle.kq_model.specs.Retrieval.{event_flags, event_of, reset, rested, knotes_after, with_idle, without_notice, with_notice_told, settled, with_delivered, turned_at_look, turned_at, turned, delivered, after_turn, retrieve, retrieval}
use Rattle.kq_model.specs.Tallied.{Called, Knote, Kqueue, Processed, Retrieved, Turned}
use Rattle.kq_model.specs.Views.{Views}
use Rattle.kq_model.proofs.KeyLaws.{same_key}
use Rattle.kq_model.proofs.KeyLists.{and_false}
use Rattle.kq_model.proofs.KnoteLaws.{by_test}
use Rattle.kq_model.proofs.ListLaws.{list_any-append}
use Rattle.kq_laws.specs.Timers.{timer, is_event_of, returns}
use Rattle.kq_laws.proofs.Counting.{ticks-none_yet}
use Rattle.kq_laws.proofs.Lists.{with_knote-others, with_knote-all, without_knote-others, without_knote-all, found-is}
use Rattle.kq_laws.proofs.Told.{Told, IsTold, AreTold}
use Rattle.kq_laws.proofs.ToldByChange.{register-told}

-- ---- entries are not events

entry-no_event : (key : Key) (c : Change) (e : Option Errno) → is_event_of key (entry_of c e) ≡ false
unfolding entry_of
entry-no_event key c e = and_false (key_eq key (record { ident = c.ident; filter = c.filter }))

abbrev HasNone : Key → List Kevent → Type 0
HasNone key events = list_any (is_event_of key) events ≡ false

has_none-push : (key : Key) (events : List Kevent) (c : Change) (e : Option Errno) → HasNone key events
    → HasNone key (events ++ entry_of c e ∷ [])
has_none-push key events c e none =
    list_any-append (is_event_of key) events (entry_of c e ∷ [])
    ∙ ap (λ b. b || (is_event_of key (entry_of c e) || false)) none
    ∙ ap (λ b. b || false) (entry-no_event key c e)

abbrev ReturnsNone : Key → Option Reply → Type 0
ReturnsNone key None = Unit {0}
ReturnsNone key (Some reply) = returns key reply ≡ false

ended-none : (key : Key) (e : Option Errno) (placed : List Kevent) → HasNone key placed → ReturnsNone key (Some (ended e placed))
unfolding ended
ended-none key None placed none = none
ended-none key (Some e) placed none = refl

abbrev AreEntries : Key → Processed → Type 0
AreEntries key p = HasNone key p.placed × ReturnsNone key p.answer

process-entries : (key : Key) (caller : Caller) (room : ℕ) (cs : List Change) (placed : List Kevent) (kq : Kqueue)
    → HasNone key placed → AreEntries key (process caller room cs placed kq)
unfolding process after
process-entries key caller room [] placed kq none = (none, tt)
process-entries key caller room (c ∷ cs) placed kq none =
    let r = register caller c kq in
    cond_both (is_answered c r.error) _ _ (AreEntries key)
    (λ _. cond_both (ltb (length placed) room) _ _ (AreEntries key)
    (λ _. process-entries key caller room cs (placed ++ entry_of c r.error ∷ []) r.kq (has_none-push key placed c r.error none))
    (λ _. (none, ended-none key r.error placed none)))
    (λ _. process-entries key caller room cs placed r.kq none)

-- ---- an event is one

abbrev flags_by : Bool → Bool → Bool → Bool → EvFlags
flags_by o c d e = flag_if e eof (flag_if d dispatch (flag_if c clear (flag_if o oneshot (record { 0 = 0 }))))

flags-error : (o c d e : Bool) → asks (flags_by o c d e) error ≡ false
flags-error true true true true = refl
flags-error true true true false = refl
flags-error true true false true = refl
flags-error true true false false = refl
flags-error true false true true = refl
flags-error true false true false = refl
flags-error true false false true = refl
flags-error true false false false = refl
flags-error false true true true = refl
flags-error false true true false = refl
flags-error false true false true = refl
flags-error false true false false = refl
flags-error false false true true = refl
flags-error false false true false = refl
flags-error false false false true = refl
flags-error false false false false = refl

and_true : (b : Bool) → b && true ≡ b
and_true true = refl
and_true false = refl

event-is : (key : Key) (k : Knote) (seen : Seen) → is_event_of key (event_of k seen) ≡ key_eq key k.key
unfolding event_of event_flags
event-is key k seen =
    ap (λ b. key_eq key k.key && not b) (flags-error k.oneshot k.clear k.dispatch seen.eof)
    ∙ and_true (key_eq key k.key)

-- ---- the turn of one knote

module _ (ident now : ℕ) where
  -- when the timer was last returned, after a step that does so or does not
  abbrev pub since_by : Bool → ℕ → ℕ
  since_by returns since = cond returns now since

  abbrev Is : ℕ → Knote → Type 0
  Is since k = IsTold ident since now k

  rested-told : (k : Knote) → k.clear ≡ true → k.notice ≡ None → Told now now (rested k)
  unfolding rested reset
  rested-told k clears silent =
      subst (λ b. Told now now (record (cond b (record k { seen = tallying.empty; triggered = false }) k)
      { active = false; enabled = k.enabled && not k.dispatch })) (sym clears)
      (record {
        clear = clears;
        notice = silent;
        count = λ _. sym (ticks-none_yet _ now);
        once = λ _. (omega arith, λ _. refl);
      })

  rested-key : (k : Knote) → (rested k).key ≡ k.key
  unfolding rested reset
  rested-key k =
      by_test (λ b. (cond b (record k { seen = tallying.empty; triggered = false }) k).key ≡ k.key) k.clear (λ _. refl)
      (λ _. refl)

  -- a knote of another key is not this timer
  apart : (since : ℕ) (x : Knote) → key_eq (timer ident) x.key ≡ false → Is since x
  apart since x other same = absurd (true≢false (sym same ∙ other))

  delivered-timer : (since : ℕ) (k : Knote) (ks : List Knote) → key_eq (timer ident) k.key ≡ true → Is since k → All (Is since) ks
      → All (Is now) (knotes_after k ks)
  unfolding knotes_after
  delivered-timer since k ks same told all =
      let at : timer ident ≡ k.key = same_key (timer ident) k.key same in
      let others : (x : Knote) → key_eq k.key x.key ≡ false → Is since x → Is now x =
      λ x other _. apart now x (ap (λ (o : Key). key_eq o x.key) at ∙ other) in
      let clears = (told same).clear in
      cond_both k.oneshot _ _ (All (Is now))
      (λ _. without_knote-others (Is since) (Is now) k.key ks others all)
      (λ _. subst (λ b. All (Is now) (cond (b || k.dispatch) (with_knote (rested k) ks) ks)) (sym clears)
      (with_knote-others (Is since) (Is now) (rested k) ks (λ _. rested-told k clears (told same).notice)
      (λ x other has. others x (ap (λ (o : Key). key_eq o x.key) (sym (rested-key k)) ∙ other) has) all))

  delivered-other : (since : ℕ) (k : Knote) (ks : List Knote) → key_eq (timer ident) k.key ≡ false → All (Is since) ks
      → All (Is since) (knotes_after k ks)
  unfolding knotes_after
  delivered-other since k ks other all =
      cond_both k.oneshot _ _ (All (Is since)) (λ _. without_knote-all (Is since) k.key ks all)
      (λ _. cond_both (k.clear || k.dispatch) _ _ (All (Is since))
      (λ _. with_knote-all (Is since) (rested k) ks (apart since (rested k) (ap (key_eq (timer ident)) (rested-key k) ∙ other)) all)
      (λ _. all))

  abbrev is_event : Option Kevent → Bool
  is_event None = false
  is_event (Some e) = is_event_of (timer ident) e

  abbrev AreLeft : ℕ → Turned → Type 0
  AreLeft since t = All (Is (since_by (is_event t.event) since)) t.kq.knotes

  idle-told : (since : ℕ) (k : Knote) (kq : Kqueue) → Is since k → All (Is since) kq.knotes
      → All (Is since) (with_idle k kq).knotes
  idle-told since k kq told all =
      with_knote-all (Is since) (record k { active = false }) kq.knotes
      (λ same. record {
        clear = (told same).clear;
        notice = (told same).notice;
        count = (told same).count;
        once = (told same).once;
      }) all

  -- a notice that was told is no timer's
  alerted-told : (since : ℕ) (k : Knote) (kq : Kqueue) (seen : Option Seen) → key_eq (timer ident) k.key ≡ false
      → All (Is since) kq.knotes → All (Is since) (with_notice_told k kq seen).knotes
  unfolding with_notice_told
  alerted-told since k kq None other all = idle-told since k kq (apart since k other) all
  alerted-told since k kq (Some seen) other all = with_knote-all (Is since) k kq.knotes (apart since k other) all

  settled-timer : (since : ℕ) (views : Views) (k : Knote) (kq : Kqueue) (notice : Option ℕ) → notice ≡ None
      → key_eq (timer ident) k.key ≡ true → Is since k → All (Is since) kq.knotes
      → All (Is now) (settled views k kq notice).knotes
  unfolding settled
  settled-timer since views k kq None silent same told all = delivered-timer since k kq.knotes same told all
  settled-timer since views k kq (Some parent) silent same told all = absurd (none-some parent (sym silent))

  settled-other : (since : ℕ) (views : Views) (k : Knote) (kq : Kqueue) (notice : Option ℕ)
      → key_eq (timer ident) k.key ≡ false → All (Is since) kq.knotes → All (Is since) (settled views k kq notice).knotes
  unfolding settled
  settled-other since views k kq None other all = delivered-other since k kq.knotes other all
  settled-other since views k kq (Some parent) other all =
      alerted-told since (without_notice k) kq (look views (without_notice k)) other all

  delivered-told : (since : ℕ) (views : Views) (k : Knote) (seen : Seen) (kq : Kqueue) → Is since k
      → All (Is since) kq.knotes
      → All (Is (since_by (is_event_of (timer ident) (event_of k seen)) since)) (with_delivered views k kq).knotes
  delivered-told since views k seen kq told all =
      subst (λ b. All (Is (since_by b since)) (with_delivered views k kq).knotes) (sym (event-is (timer ident) k seen))
      (by_test (λ b. key_eq (timer ident) k.key ≡ b → All (Is (since_by b since)) (with_delivered views k kq).knotes)
      (key_eq (timer ident) k.key)
      (λ _ same. settled-timer since views k kq k.notice (told same).notice same told all)
      (λ _ other. settled-other since views k kq k.notice other all) refl)

  looked-told : (since : ℕ) (views : Views) (k : Knote) (kq : Kqueue) (seen : Option Seen) → Is since k
      → All (Is since) kq.knotes → AreLeft since (turned_at_look views k kq seen)
  unfolding turned_at_look
  looked-told since views k kq None told all = idle-told since k kq told all
  looked-told since views k kq (Some seen) told all = delivered-told since views k seen kq told all

  found-told : (since : ℕ) (views : Views) (kq : Kqueue) (key : Key) (found : Option Knote) → find_knote key kq.knotes ≡ found
      → All (Is since) kq.knotes → AreLeft since (turned_at views kq found)
  unfolding turned_at
  found-told since views kq key None is all = all
  found-told since views kq key (Some k) is all =
      looked-told since views k kq (look views k) (found-is (Is since) key kq.knotes k all is) all

  turned-told : (since : ℕ) (views : Views) (key : Key) (kq : Kqueue) → All (Is since) kq.knotes
      → AreLeft since (turned views key kq)
  unfolding turned
  turned-told since views key kq all = found-told since views kq key (find_knote key kq.knotes) refl all

  -- ---- a retrieval

  abbrev AreLeftBy : ℕ → Retrieved → Type 0
  AreLeftBy since r = All (Is (since_by (list_any (is_event_of (timer ident)) r.events) since)) r.kq.knotes

  since-twice : (first later : Bool) (since : ℕ) → since_by later (since_by first since) ≡ since_by (first || later) since
  since-twice true true since = refl
  since-twice true false since = refl
  since-twice false true since = refl
  since-twice false false since = refl

  after-turn : (since : ℕ) (rest : ℕ → Kqueue → Retrieved)
      → ((before room : ℕ) (kq : Kqueue) → All (Is before) kq.knotes → AreLeftBy before (rest room kq))
      → (room : ℕ) (kq : Kqueue) (event : Option Kevent) → All (Is (since_by (is_event event) since)) kq.knotes
      → AreLeftBy since (after_turn rest room kq event)
  unfolding after_turn delivered
  after-turn since rest later room kq None all = later since (suc room) kq all
  after-turn since rest later room kq (Some event) all =
      let first = is_event_of (timer ident) event in
      let behind = list_any (is_event_of (timer ident)) (rest room kq).events in
      subst (λ (s : ℕ). All (Is s) (rest room kq).kq.knotes) (since-twice first behind since)
      (later (since_by first since) room kq all)

  retrieve-told : (views : Views) (keys : List Key) (since room : ℕ) (kq : Kqueue) → All (Is since) kq.knotes
      → AreLeftBy since (retrieve views keys room kq)
  unfolding retrieve
  retrieve-told views [] since room kq all = all
  retrieve-told views (key ∷ keys) since zero kq all = all
  retrieve-told views (key ∷ keys) since (suc room) kq all =
      after-turn since (retrieve views keys) (λ before r q has. retrieve-told views keys before r q has) room
      (turned views key kq).kq (turned views key kq).event (turned-told since views key kq all)

  retrieval-told : (views : Views) (since room : ℕ) (kq : Kqueue) → All (Is since) kq.knotes
      → AreLeftBy since (retrieval views room kq)
  unfolding retrieval
  retrieval-told views since room kq all = retrieve-told views kq.queue since room (record kq { queue = [] }) all

-- ---- a call

module _ (ident since : ℕ) (caller : Caller) (begins : since ≤ caller.views.now) where
  abbrev Are : Kqueue → Type 0
  Are kq = AreTold ident since caller.views.now kq.knotes

  pub process-told : (room : ℕ) (cs : List Change) (placed : List Kevent) (kq : Kqueue) → Are kq
      → Are (process caller room cs placed kq).kq
  unfolding process after
  process-told room [] placed kq all = all
  process-told room (c ∷ cs) placed kq all =
      let r = register caller c kq in
      let next = register-told ident since caller c kq begins all in
      cond_both (is_answered c r.error) _ _ Fine
      (λ _. cond_both (ltb (length placed) room) _ _ Fine
      (λ _. process-told room cs (placed ++ entry_of c r.error ∷ []) r.kq next) (λ _. next))
      (λ _. process-told room cs placed r.kq next)
    where
      Fine : Processed → Type 0
      Fine p = Are p.kq

  abbrev AreLeftIn : Called → Type 0
  AreLeftIn c =
      AreTold ident (since_by ident caller.views.now (returns (timer ident) c.reply) since) caller.views.now c.kq.knotes

  unreturned : (kq : Kqueue) (b : Bool) → b ≡ false → Are kq
      → AreTold ident (since_by ident caller.views.now b since) caller.views.now kq.knotes
  unreturned kq b none all =
      subst (λ r. AreTold ident (since_by ident caller.views.now r since) caller.views.now kq.knotes) (sym none) all

  by_entries-told : (room : ℕ) (placed : List Kevent) (kq : Kqueue) → HasNone (timer ident) placed → Are kq
      → AreLeftIn (by_entries caller.views room placed kq)
  unfolding by_entries returned
  by_entries-told room [] kq none all = retrieval-told ident caller.views.now caller.views since room kq all
  by_entries-told room (entry ∷ entries) kq none all =
      unreturned kq (list_any (is_event_of (timer ident)) (entry ∷ entries)) none all

  by_answer-told : (room : ℕ) (p : Processed) (answer : Option Reply) → HasNone (timer ident) p.placed
      → ReturnsNone (timer ident) answer → Are p.kq → AreLeftIn (by_answer caller.views room p answer)
  unfolding by_answer
  by_answer-told room p (Some reply) none quiet all = unreturned p.kq (returns (timer ident) reply) quiet all
  by_answer-told room p None none quiet all = by_entries-told room p.placed p.kq none all

  pub call-told : (room : ℕ) (cs : List Change) (kq : Kqueue) → Are kq → AreLeftIn (call caller room cs kq)
  unfolding call concluded
  call-told room cs kq all =
      let p = process caller room cs [] kq in
      let entries = process-entries (timer ident) caller room cs [] kq refl in
      by_answer-told room p p.answer entries.0 entries.1 (process-told room cs [] kq all)
