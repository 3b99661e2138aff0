-- A fork brings a knote for the child to each kqueue whose knote of the parent follows.
use Rattle.std.proofs.Common.{◌≡◌, ℕ, ◌+◌, ◌==◌, Bool, true, false, cond, not, ◌||◌, List, [], ◌∷◌, ◌++◌, map, filter, Option, Some, None, refl, sym, ap, ◌∙◌, subst}
use Rattle.std.proofs.lemmas.Bool.{cond_both, true≢false}
use Rattle.std.proofs.lemmas.List.{map-append}
use Rattle.std.proofs.lemmas.List.Elements.{All-nil, All-cons, All-head, All-tail, All-filter, All-map}
use Rattle.std.proofs.lemmas.Option.{none-some}
use Rattle.std.specs.List.{All, list_any}
use Rattle.std.specs.Option.{is_some, option_and_then}
use Rattle.kq_model.specs.declared.event.Event.{Event}
use Rattle.kq_model.specs.declared.event.Event.TheVariants as event
use Rattle.kq_model.specs.declared.filter.Filter.{Filter}
use Rattle.kq_model.specs.declared.filter.Filter.TheVariants.{Proc}
use Rattle.kq_model.specs.declared.key.Key.{Key}
use Rattle.kq_model.specs.declared.object.Hint.{Hint}
use Rattle.kq_model.specs.declared.object.Hint.TheVariants.{Note, Child}
use Rattle.kq_model.specs.declared.object.Target.TheVariants.{Process}
use Rattle.kq_model.specs.Bits.{fork_note}
use Rattle.kq_model.specs.Clock.{clocked}
use Rattle.kq_model.specs.Close.{has_pair}
use Rattle.kq_model.specs.Following.{Fork, process_key, follows, child_knote, heir, with_heir, all_forks, forks_of, followed_each, followed}
use Rattle.kq_model.specs.HintLaws.{begins_to_wait}
use Rattle.kq_model.specs.Hints.{is_exit, takes, hints_for, hears_exit, alerted, if_there, knotes_alerted, notified}
use Rattle.kq_model.specs.Knote.{find_knote}
use Rattle.kq_model.specs.Kqueue.{IsSound, is_waiting}
use Rattle.kq_model.specs.Moment.{Moment, moment_of, happened, after_call, kqueue_step}
use Rattle.kq_model.specs.Plans.{plan}
use Rattle.kq_model.specs.Processes.{is_live, was_used}
use Rattle.kq_model.specs.ProcessPlans.{noted, forked, plan_fork}
use Rattle.kq_model.specs.Registration.{queue_for, with_made}
use Rattle.kq_model.specs.RegistrationLaws.{is_there, keys_of}
use Rattle.kq_model.specs.System.{stepped, lived, born, step_by, step}
use Rattle.kq_model.specs.Tallied.{Knote, Kqueue, Live, System, World}
use Rattle.kq_model.specs.Targets.{Posted, is_target}
use Rattle.kq_model.specs.Views.{Views}
use Rattle.kq_model.specs.World.{Plan, Planned, Impossible, Possible, seen_world, views_of}
use Rattle.kq_model.proofs.HintLaws.{find_knote-alerting, notified-law}
use Rattle.kq_model.proofs.KeyLaws.{key_eq-refl}
use Rattle.kq_model.proofs.KeyLists.{filter_agree_among, filter_true}
use Rattle.kq_model.proofs.KnoteLaws.{by_test, found_or, find_knote-append, find_knote-here}
use Rattle.kq_system.proofs.QuietLemmas.{closed_none}
use Rattle.kq_laws.specs.Children.{AwaitsChild, AwaitsThere, FollowsChildren}
use Rattle.kq_laws.specs.Runs.{find_live}
use Rattle.kq_laws.proofs.Lasting.{Lasting, lasting, follows-as, Stays, stays-alerted}
use Rattle.kq_laws.proofs.Lives.{IsReady, ready-led}
use Rattle.kq_laws.proofs.RunCalls.{live-is}

-- ---- the knote of the parent hears the fork, which is no exit, and follows as before

none-any : {X : Type 0} (test : X → Bool) (xs : List X) → All (λ (x : X). test x ≡ false) xs → list_any test xs ≡ false
none-any test [] all = refl
none-any {X = X} test (x ∷ xs) all =
    ap (λ b. b || list_any test xs) (All-head (λ (y : X). test y ≡ false) x xs all)
    ∙ none-any test xs (All-tail (λ (y : X). test y ≡ false) x xs all)

fork-no_exit : (f : Filter) → is_exit f (Note fork_note) ≡ false
unfolding is_exit
fork-no_exit Proc = refl
fork-no_exit _ = refl

child-no_exit : (f : Filter) (child : ℕ) → is_exit f (Child child) ≡ false
unfolding is_exit
child-no_exit Proc child = refl
child-no_exit _ child = refl

module _ (pid child : ℕ) where
  abbrev pub told : List Posted
  told = forked pid child

  told-no_exit : (k : Knote) → hears_exit (hints_for k told) k ≡ false
  told-no_exit k =
      let is_none = λ (hint : Hint). is_exit k.key.filter hint ≡ false in
      let for_it = filter (λ (p : Posted). is_target k.target p.0) told in
      none-any (is_exit k.key.filter) (hints_for k told)
      (All-filter (takes k.key.filter) is_none (map (λ (p : Posted). p.1) for_it)
      (All-map is_none (λ (p : Posted). p.1) for_it
      (All-filter (λ (p : Posted). is_target k.target p.0) (λ (p : Posted). is_none p.1) told
      (All-cons (λ (p : Posted). is_none p.1) (noted pid fork_note) ((Process pid, Child child) ∷ [])
      (fork-no_exit k.key.filter)
      (All-cons (λ (p : Posted). is_none p.1) (Process pid, Child child) [] (child-no_exit k.key.filter child)
      (All-nil (λ (p : Posted). is_none p.1)))))))

  pub stays-told : (views : Views) (k : Knote) → Stays k (alerted views (hints_for k told) k)
  stays-told views k = stays-alerted views (hints_for k told) k (told-no_exit k)

  -- ---- so the kqueue keeps its knotes, in their order, and its queue

  keys-there : (k : Knote) (found : Option Knote) (rest : List Knote) → Stays k found
      → keys_of (if_there found ++ rest) ≡ k.key ∷ keys_of rest
  unfolding if_there
  keys-there k None rest stays = absurd stays
  keys-there k (Some x) rest stays = ap (λ key. key ∷ keys_of rest) (ap (λ (p : Lasting). p.key) stays)

  same_keys : (views : Views) (ks : List Knote) → keys_of (knotes_alerted views told ks) ≡ keys_of ks
  unfolding knotes_alerted
  same_keys views [] = refl
  same_keys views (k ∷ ks) =
      keys-there k (alerted views (hints_for k told) k) (knotes_alerted views told ks) (stays-told views k)
      ∙ ap (λ keys. k.key ∷ keys) (same_keys views ks)

  module _ (views : Views) (kq : Kqueue) (sound : IsSound kq) where
    abbrev pub heard : Kqueue
    heard = notified views told kq

    abbrev pub left : Option Knote → Option Knote
    left found = option_and_then (λ (k : Knote). alerted views (hints_for k told) k) found

    pub found-left : (key : Key) → find_knote key heard.knotes ≡ left (find_knote key kq.knotes)
    unfolding notified
    found-left key = find_knote-alerting views told key kq.knotes sound.own_keys

    there : (k : Knote) (found : Option Knote) → Stays k found → is_some found ≡ true
    there k None stays = absurd stays
    there k (Some x) stays = refl

    waiting-there : (found : Option Knote) → is_waiting found ≡ true → is_some (left found) ≡ true
    unfolding is_waiting
    waiting-there None waits = absurd (true≢false (sym waits))
    waiting-there (Some k) waits = there k (alerted views (hints_for k told) k) (stays-told views k)

    abbrev beginning : List Key
    beginning = keys_of (filter (begins_to_wait kq.queue) heard.knotes)

    same_queue : heard.queue ≡ kq.queue ++ beginning
    same_queue =
        (notified-law views told kq sound).queue
        ∙ ap (λ queue. queue ++ beginning)
        (filter_agree_among (λ key. is_there key heard) (λ _. true) kq.queue
        (λ key waits. ap is_some (found-left key)
        ∙ waiting-there (find_knote key kq.knotes) (sym (sound.waiting key) ∙ waits))
        ∙ filter_true kq.queue)

    heard-sound : IsSound heard
    heard-sound = (notified-law views told kq sound).sound

    heard-keys : keys_of heard.knotes ≡ keys_of kq.knotes
    unfolding notified
    heard-keys = same_keys views kq.knotes

    still-none : find_knote (process_key child) kq.knotes ≡ None → find_knote (process_key child) heard.knotes ≡ None
    still-none none = found-left (process_key child) ∙ ap left none

  -- ---- the child is followed

  abbrev pub this_fork : Fork
  this_fork = record { parent = pid; child = child }

  made-awaits : (parent x : Knote) (before q : Kqueue) (begins : List Key) → lasting x ≡ lasting parent → IsSound q
      → keys_of q.knotes ≡ keys_of before.knotes → q.queue ≡ before.queue ++ begins
      → find_knote (process_key child) q.knotes ≡ None
      → AwaitsChild this_fork parent before (with_made (child_knote this_fork x) q)
  unfolding queue_for is_waiting
  made-awaits parent x before q begins same sound order behind absent =
      let made = child_knote this_fork x in
      let key = process_key child in
      record {
        knote = made;
        heir = record {
          key = refl;
          target = refl;
          fflags = ap (λ (p : Lasting). p.fflags) same;
          datum = ap (λ (p : Lasting). p.datum) same;
          udata = ap (λ (p : Lasting). p.udata) same;
          oneshot = ap (λ (p : Lasting). p.oneshot) same;
          clear = ap (λ (p : Lasting). p.clear) same;
          dispatch = ap (λ (p : Lasting). p.dispatch) same;
          enabled = refl;
          active = refl;
          silent = refl;
          notice = refl;
        };
        found = find_knote-append key q.knotes (made ∷ [])
            ∙ ap (λ (o : Option Knote). found_or o (find_knote key (made ∷ []))) absent
            ∙ find_knote-here key made [] (key_eq-refl key);
        last = map-append (λ (k : Knote). k.key) q.knotes (made ∷ []) ∙ ap (λ keys. keys ++ key ∷ []) order;
        beginning = begins;
        back = ap (λ b. cond b q.queue (q.queue ++ key ∷ [])) (sound.waiting key ∙ ap is_waiting absent)
            ∙ ap (λ queue. queue ++ key ∷ []) behind;
      }

  heir-awaits : (parent : Knote) (found present : Option Knote) (before q : Kqueue) (begins : List Key)
      → Stays parent found → follows pid parent ≡ true → present ≡ None → IsSound q
      → keys_of q.knotes ≡ keys_of before.knotes → q.queue ≡ before.queue ++ begins
      → find_knote (process_key child) q.knotes ≡ None
      → AwaitsChild this_fork parent before (with_heir (heir this_fork found present) q)
  unfolding heir with_heir
  heir-awaits parent None present before q begins stays does none sound order behind absent = absurd stays
  heir-awaits parent (Some x) (Some y) before q begins stays does none sound order behind absent =
      absurd (none-some y (sym none))
  heir-awaits parent (Some x) None before q begins stays does none sound order behind absent =
      let made = child_knote this_fork x in
      subst (λ b. AwaitsChild this_fork parent before (with_heir (cond b (Some made) None) q))
      (sym (follows-as pid x parent stays ∙ does))
      (made-awaits parent x before q begins stays sound order behind absent)

  followed-awaits : (views : Views) (version : ℕ) (kq : Kqueue) (parent : Knote) → (version == 1) ≡ false → IsSound kq
      → find_knote (process_key pid) kq.knotes ≡ Some parent → follows pid parent ≡ true
      → find_knote (process_key child) kq.knotes ≡ None
      → AwaitsChild this_fork parent kq (followed version told (notified views told kq))
  unfolding all_forks forks_of followed_each
  followed-awaits views version kq parent later sound here does none =
      let q = notified views told kq in
      let absent = still-none views kq sound none in
      subst (λ b. AwaitsChild this_fork parent kq (followed_each (cond b [] (all_forks told)) q)) (sym later)
      (heir-awaits parent (find_knote (process_key pid) q.knotes) (find_knote (process_key child) q.knotes) kq q
      (beginning views kq sound)
      (subst (Stays parent) (sym (found-left views kq sound (process_key pid) ∙ ap (left views kq sound) here))
      (stays-told views parent))
      does absent (heard-sound views kq sound) (heard-keys views kq sound) (same_queue views kq sound) absent)

  -- ---- the record

  pub record OnlyForks (p : Plan) : Type 0 where
    pub closed : p.closed ≡ []
    pub told : p.hints ≡ told
    pub call : p.call ≡ None
    pub clock : p.clock ≡ None

  abbrev pub IfForks : Planned → Type 0
  IfForks (Impossible why) = Unit {0}
  IfForks (Possible p) = OnlyForks p

  pub only-forks : (place : ℕ) (w : World) → IfForks (plan place (event.Fork pid child) w)
  unfolding plan plan_fork
  only-forks place w =
      cond_both (not (is_live pid w.processes)) _ _ IfForks (λ _. tt)
      (λ _. cond_both (was_used child w.processes) _ _ IfForks (λ _. tt)
      (λ _. record { closed = refl; told = refl; call = refl; clock = refl }))

  module _ (m : Moment) (shut : m.closed ≡ []) (hints : m.hints ≡ told) (call : m.call ≡ None)
      (clock : m.clock ≡ None) where
    happened-awaits : (owner : ℕ) (kq : Kqueue) (parent : Knote) → (m.version == 1) ≡ false → IsSound kq
        → find_knote (process_key pid) kq.knotes ≡ Some parent → follows pid parent ≡ true
        → find_knote (process_key child) kq.knotes ≡ None → AwaitsChild this_fork parent kq (happened owner m kq)
    unfolding happened clocked
    happened-awaits owner kq parent later sound here does none = rw (clock, hints, shut)
        (subst (λ (q : Kqueue). AwaitsChild this_fork parent kq (followed m.version told (notified m.views told q)))
        (sym (closed_none owner kq)) (followed-awaits m.views m.version kq parent later sound here does none))

    stepped-awaits : (l : Live) (parent : Knote) → (m.version == 1) ≡ false → IsSound l.kq
        → find_knote (process_key pid) l.kq.knotes ≡ Some parent → follows pid parent ≡ true
        → find_knote (process_key child) l.kq.knotes ≡ None → AwaitsChild this_fork parent l.kq (stepped m l).kq
    unfolding stepped kqueue_step after_call
    stepped-awaits l parent later sound here does none =
        subst (λ c. AwaitsChild this_fork parent l.kq (after_call l.place l.owner m c l.kq)) (sym call)
        (happened-awaits l.owner l.kq parent later sound here does none)

-- ---- its kqueue goes on, where none is closed

find-stepped : (m : Moment) → m.closed ≡ [] → (place : ℕ) (ls : List Live) (l : Live) → find_live place ls ≡ Some l
    → find_live place (lived m ls) ≡ Some (stepped m l)
unfolding lived stepped
find-stepped m shut place [] l is = absurd (none-some l is)
find-stepped m shut place (x ∷ ls) l is =
    let rest = filter (λ (y : Live). not (has_pair y.owner y.number m.closed)) ls in
    ap (λ b. find_live place (map (stepped m) (cond (not b) (x ∷ rest) rest))) (ap (has_pair x.owner x.number) shut)
    ∙ by_test (λ b. cond b (Some x) (find_live place ls) ≡ Some l
    → cond b (Some (stepped m x)) (find_live place (map (stepped m) rest)) ≡ Some (stepped m l)) (place == x.place)
    (λ _ here. ap (λ (o : Option Live). option_and_then (λ (y : Live). Some (stepped m y)) o) here)
    (λ _ later. find-stepped m shut place ls l later) is

found-first : (place : ℕ) (ls more : List Live) (l : Live) → find_live place ls ≡ Some l
    → find_live place (ls ++ more) ≡ Some l
found-first place [] more l is = absurd (none-some l is)
found-first place (x ∷ ls) more l is =
    by_test (λ b. cond b (Some x) (find_live place ls) ≡ Some l → cond b (Some x) (find_live place (ls ++ more)) ≡ Some l)
    (place == x.place) (λ _ here. here) (λ _ later. found-first place ls more l later) is

-- ---- the law

pub follows_children : (applied : ℕ) (e : Event) (old new : System) → new ≡ (step (applied + 1) e old).system
    → FollowsChildren applied e old new
unfolding step step_by moment_of
follows_children applied e old new next events led version pid child fork p is l live parent here does none =
    let m = moment_of old.version (applied + 1) p old.world in
    let forks : OnlyForks pid child p =
    subst (IfForks pid child) (ap (λ (x : Event). plan (applied + 1) x (seen_world old.world)) (sym fork) ∙ is)
    (only-forks pid child (applied + 1) (seen_world old.world)) in
    let before = views_of (seen_world old.world) in
    let ready = live-is (IsReady before) l.place old.live l (ready-led events applied old led) live in
    let later : (old.version == 1) ≡ false = ap (λ (v : ℕ). v == 1) version in
    subst (AwaitsThere (record { parent = pid; child = child }) parent l)
    (sym (next ∙ ap (λ (q : Planned). (step_by (applied + 1) q old).system) is)) (
      stepped m l,
      found-first l.place (lived m old.live) (born (applied + 1) p.born) (stepped m l)
          (find-stepped m forks.closed l.place old.live l live),
      stepped-awaits pid child m forks.closed forks.told forks.call forks.clock l parent later ready.sound here does none,
    )
