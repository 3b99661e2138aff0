-- A call that begins in the table of live kqueues, and another order of a queue: the kqueue that it is about is written
-- in its place, and the system stays lawful.
use Rattle.std.proofs.Common.{◌≡◌, ◌∙◌, ◌+◌, ℕ, Bool, true, false, nat_eq, List, [], ◌∷◌, map, Option, None, Some, Result, Ok, Err, refl, sym, ap, ap₂, subst, cond, arith}
use Rattle.std.proofs.lemmas.Bool.Decides.{nat_tests}
use Rattle.std.proofs.lemmas.List.Elements.{All-nil, All-cons, All-head, All-tail}
use Rattle.std.specs.List.{AllByRecursion, IsDistinct}
use Rattle.std.specs.Map.{lookup, keys_of, set_value}
use Rattle.std.specs.Prelude.{All, IfOk, OnErr, option_and_then}
use Rattle.std.specs.HashMap.{HashMap}
use Rattle.kq_kevent.specs.Beginning as kevent
use Rattle.kq_kevent.specs.Beginning.{gone_on}
use Rattle.kq_kevent.specs.Owned.{caller}
use Rattle.kq_kevent.proofs.BeginLaws.{call-in-steps, call-nil, changes-by-call}
use Rattle.kq_model.specs.declared.change.Change.{Change}
use Rattle.kq_model.specs.declared.memory.Memory.{Memory}
use Rattle.kq_model.specs.declared.object.Target.{Target}
use Rattle.kq_model.specs.declared.reply.Reply.{Reply}
use Rattle.kq_model.specs.declared.reply.Reply.TheVariants as reply
use Rattle.kq_model.specs.Bits.{add, asks}
use Rattle.kq_model.specs.Call.{call}
use Rattle.kq_model.specs.Caller.{Caller}
use Rattle.kq_model.specs.Tallying.{tallying}
use Rattle.kq_model.specs.Moment.{Moment, caller_at}
use Rattle.kq_model.specs.Subjects.{HaveSubjects}
use Rattle.kq_model.specs.Tallied.{Called, Kqueue, Live}
use Rattle.kq_model.specs.Targets.{target_of}
use Rattle.kq_model.specs.Views.{Views}
use Rattle.kq_model.specs.WatchedNumbers.{AllWatchTheirNumbers, WatchTheirNumbers}
use Rattle.kq_model.specs.World.{Call}
use Rattle.kq_model.proofs.KnoteLaws.{by_test}
use Rattle.kq_model.proofs.SubjectsCall.{call-subjects}
use Rattle.kq_model.proofs.WatchedNumbers.{call-watched}
use Rattle.kq_process.specs.declared.world.World as code
use Rattle.kq_process.specs.World.{world_of}
use Rattle.kq_system.specs.Beginning.{begun_kqueue, live_at, with_live_at, IsBegunAt, IsCallSoFar}
use Rattle.kq_system.specs.Showing.{IsListed}
use Rattle.kq_system.specs.SystemState.{AreOfVersion, HaveStayed, IsCalled, IsLawful, IsQuiet, NumberedKqueue, live_of}
use Rattle.kq_system.proofs.CallLemmas.{called_none, called_quiet, keys_kept, same_live, up_to_more, version_found, version_kept}
use Rattle.kq_system.proofs.FoundLemmas.{make_listed}
use Rattle.kq_system.proofs.ShowLemmas.{Entries}

-- ---- what is written is found

is_equal : (a b : ℕ) → nat_eq a b ≡ true → a ≡ b
is_equal a b h = grind (arith, nat_tests)

set_step : (k : ℕ) (e : ℕ × NumberedKqueue) (es : Entries) (v w : NumberedKqueue) (b : Bool) → nat_eq k e.0 ≡ b
    → set_value (nat_eq k) (set_value (nat_eq k) es v) w ≡ set_value (nat_eq k) es w
    → set_value (nat_eq k) (cond b ((e.0, v) ∷ es) (e ∷ set_value (nat_eq k) es v)) w
    ≡ cond b ((e.0, w) ∷ es) (e ∷ set_value (nat_eq k) es w)
set_step k e es v w true hit rest =
    ap (λ b. cond b ((e.0, w) ∷ es) ((e.0, v) ∷ set_value (nat_eq k) es w)) hit
set_step k e es v w false hit rest =
    ap (λ b. cond b ((e.0, w) ∷ set_value (nat_eq k) es v) (e ∷ set_value (nat_eq k) (set_value (nat_eq k) es v) w)) hit
    ∙ ap (λ (l : Entries). e ∷ l) rest

-- the second write is the one that counts
set_twice : (k : ℕ) (es : Entries) (v w : NumberedKqueue)
    → set_value (nat_eq k) (set_value (nat_eq k) es v) w ≡ set_value (nat_eq k) es w
set_twice k [] v w = refl
set_twice k (e ∷ es) v w = set_step k e es v w (nat_eq k e.0) refl (set_twice k es v w)

found_step : (k : ℕ) (e : ℕ × NumberedKqueue) (es : Entries) (v w : NumberedKqueue) (b : Bool) → nat_eq k e.0 ≡ b
    → cond b (Some e.1) (lookup (nat_eq k) es) ≡ Some v
    → (lookup (nat_eq k) es ≡ Some v → lookup (nat_eq k) (set_value (nat_eq k) es w) ≡ Some w)
    → lookup (nat_eq k) (cond b ((e.0, w) ∷ es) (e ∷ set_value (nat_eq k) es w)) ≡ Some w
found_step k e es v w true hit found rest = ap (λ b. cond b (Some w) (lookup (nat_eq k) es)) hit
found_step k e es v w false hit found rest =
    ap (λ b. cond b (Some e.1) (lookup (nat_eq k) (set_value (nat_eq k) es w))) hit ∙ rest found

found_set : (k : ℕ) (es : Entries) (v w : NumberedKqueue) → lookup (nat_eq k) es ≡ Some v
    → lookup (nat_eq k) (set_value (nat_eq k) es w) ≡ Some w
found_set k [] v w found = absurd (cc)
found_set k (e ∷ es) v w found =
    found_step k e es v w (nat_eq k e.0) refl found (λ there. found_set k es v w there)

-- ---- the live kqueue of a place

at_step : (k : ℕ) (e : ℕ × NumberedKqueue) (v : NumberedKqueue) (rest : Option NumberedKqueue) (later : Option Live)
    (b : Bool) → nat_eq k e.0 ≡ b → cond b (Some e.1) rest ≡ Some v → (rest ≡ Some v → later ≡ Some (live_of (k, v)))
    → cond b (Some (live_of e)) later ≡ Some (live_of (k, v))
at_step k e v rest later true hit found more =
    let here : e.1 ≡ v = cc in
    ap₂ (λ (n : ℕ) (u : NumberedKqueue). Some (live_of (n, u))) (sym (is_equal k e.0 hit)) here
at_step k e v rest later false hit found more = more found

pub live_at-found : (k : ℕ) (es : Entries) (v : NumberedKqueue) → lookup (nat_eq k) es ≡ Some v
    → live_at k (map live_of es) ≡ Some (live_of (k, v))
unfolding live_at
live_at-found k [] v found = absurd (cc)
live_at-found k (e ∷ es) v found =
    at_step k e v (lookup (nat_eq k) es) (live_at k (map live_of es)) (nat_eq k e.0) refl found
    (λ there. live_at-found k es v there)

none_step : (b : Bool) (e : ℕ × NumberedKqueue) (rest : Option NumberedKqueue) (later : Option Live)
    → cond b (Some e.1) rest ≡ None → (rest ≡ None → later ≡ None) → cond b (Some (live_of e)) later ≡ None
none_step true e rest later none more = absurd (cc)
none_step false e rest later none more = more none

pub live_at-none : (k : ℕ) (es : Entries) → lookup (nat_eq k) es ≡ None → live_at k (map live_of es) ≡ None
unfolding live_at
live_at-none k [] none = refl
live_at-none k (e ∷ es) none =
    none_step (nat_eq k e.0) e (lookup (nat_eq k) es) (live_at k (map live_of es)) none
    (λ gone. live_at-none k es gone)

behind : (x k : ℕ) (es : Entries) → k ≡ x → AllByRecursion (λ y. nat_eq x y ≡ false) (keys_of es)
    → lookup (nat_eq k) es ≡ None
behind x k [] is others = refl
behind x k (e ∷ es) is others =
    let other : nat_eq k e.0 ≡ false = ap (λ n. nat_eq n e.0) is ∙ others.0 in
    rw other (behind x k es is others.1)

-- ---- something is done with the kqueue of a place

module _ (k : ℕ) (does : Live → Kqueue) where
  abbrev one_with : Live → Bool → Live
  one_with l b = cond b (record l { kq = does l }) l

  absent_step : (b : Bool) (e : ℕ × NumberedKqueue) (rest : Option NumberedKqueue) → cond b (Some e.1) rest ≡ None
      → (b ≡ false) × (rest ≡ None)
  absent_step true e rest none = absurd (cc)
  absent_step false e rest none = (refl, none)

  pub none_with : (es : Entries) → lookup (nat_eq k) es ≡ None → with_live_at k does (map live_of es) ≡ map live_of es
  none_with [] none = refl
  none_with (e ∷ es) none =
      let gone = absent_step (nat_eq k e.0) e (lookup (nat_eq k) es) none in
      ap₂ (λ (l : Live) (ls : List Live). l ∷ ls) (ap (one_with (live_of e)) gone.0) (none_with es gone.1)

  with_step : (e : ℕ × NumberedKqueue) (es : Entries) (v w : NumberedKqueue) (b : Bool) → nat_eq k e.0 ≡ b
      → AllByRecursion (λ y. nat_eq e.0 y ≡ false) (keys_of es)
      → cond b (Some e.1) (lookup (nat_eq k) es) ≡ Some v
      → w.number ≡ v.number → w.kq.owner ≡ v.kq.owner → w.kq.kq ≡ does (live_of (k, v))
      → (lookup (nat_eq k) es ≡ Some v
      → map live_of (set_value (nat_eq k) es w) ≡ with_live_at k does (map live_of es))
      → map live_of (cond b ((e.0, w) ∷ es) (e ∷ set_value (nat_eq k) es w))
      ≡ one_with (live_of e) b ∷ with_live_at k does (map live_of es)
  with_step e es v w true hit others found number owner kq rest =
      let here : e.1 ≡ v = cc in
      let at : live_of (k, v) ≡ live_of e = ap₂ (λ (n : ℕ) (u : NumberedKqueue). live_of (n, u))
      (is_equal k e.0 hit) (sym here) in
      ap₂ (λ (l : Live) (ls : List Live). l ∷ ls)
      (same_live e.0 w.kq.owner e.1.kq.owner w.number e.1.number w.kq.kq (does (live_of e))
      (owner ∙ ap (λ (u : NumberedKqueue). u.kq.owner) (sym here))
      (number ∙ ap (λ (u : NumberedKqueue). u.number) (sym here))
      (kq ∙ ap does at))
      (sym (none_with es (behind e.0 k es (is_equal k e.0 hit) others)))
  with_step e es v w false hit others found number owner kq rest =
      ap (λ (ls : List Live). live_of e ∷ ls) (rest found)

  pub set_with : (es : Entries) (v w : NumberedKqueue) → IsDistinct nat_eq (keys_of es)
      → lookup (nat_eq k) es ≡ Some v → w.number ≡ v.number → w.kq.owner ≡ v.kq.owner
      → w.kq.kq ≡ does (live_of (k, v))
      → map live_of (set_value (nat_eq k) es w) ≡ with_live_at k does (map live_of es)
  unfolding IsDistinct
  set_with [] v w distinct found number owner kq = refl
  set_with (e ∷ es) v w distinct found number owner kq =
      with_step e es v w (nat_eq k e.0) refl distinct.0 found number owner kq
      (λ there. set_with es v w distinct.1 there number owner kq)

  pub watched-with : (views : Views) (live : List Live)
      → ((l : Live) → WatchTheirNumbers views l.owner l.kq → WatchTheirNumbers views l.owner (does l))
      → All (λ (l : Live). WatchTheirNumbers views l.owner l.kq) live
      → All (λ (l : Live). WatchTheirNumbers views l.owner l.kq) (with_live_at k does live)
  watched-with views [] still all = All-nil (λ (l : Live). WatchTheirNumbers views l.owner l.kq)
  watched-with views (l ∷ ls) still all =
      let P : Live → Type 0 = λ (l : Live). WatchTheirNumbers views l.owner l.kq in
      All-cons P (one_with l (nat_eq k l.place)) (with_live_at k does ls)
      (by_test (λ b. P (one_with l b)) (nat_eq k l.place) (λ _. still l (All-head P l ls all))
      (λ _. All-head P l ls all))
      (watched-with views ls still (All-tail P l ls all))

-- ---- a call begins

-- what is known of a kqueue that began is what is known of its call
gone_is : (by : Caller) (room : ℕ) (changes : List Change) (kq : Kqueue) (b : kevent.Begun tallying)
    → b ≡ kevent.begun by room changes kq
    → gone_on by.views room b b.answer ≡ call by room changes kq
gone_is by room changes kq b is =
    ap (λ (x : kevent.Begun tallying). gone_on by.views room x x.answer) is ∙ call-in-steps by room changes kq

pub ended_is : (by : Caller) (room : ℕ) (changes : List Change) (kq next : Kqueue) (reply : Reply)
    → ◌≡◌ {A = kevent.Begun tallying} (record { kq = next; answer = Some reply }) (kevent.begun by room changes kq)
    → ◌≡◌ {A = Called} (record { kq = next; reply = reply }) (call by room changes kq)
unfolding gone_on
ended_is by room changes kq next reply is = gone_is by room changes kq (record { kq = next; answer = Some reply }) is

pub goes_is : (by : Caller) (room : ℕ) (changes : List Change) (kq next : Kqueue)
    → ◌≡◌ {A = kevent.Begun tallying} (record { kq = next; answer = None }) (kevent.begun by room changes kq)
    → kevent.read by.views room next ≡ call by room changes kq
unfolding gone_on
goes_is by room changes kq next is = gone_is by room changes kq (record { kq = next; answer = None }) is

module _ (m : Moment) (c : Call) (views : Views) (es : Entries) (v w : NumberedKqueue) (answer : Option Reply)
    (sees : m.views ≡ views) (versions : AreOfVersion m.version es) (distinct : IsDistinct nat_eq (keys_of es))
    (found : lookup (nat_eq c.kqueue) es ≡ Some v) (number : w.number ≡ v.number) (owner : w.kq.owner ≡ v.kq.owner)
    (does : ◌≡◌ {A = kevent.Begun tallying} (record { kq = w.kq.kq; answer = answer })
    (kevent.begun (caller views v.kq) c.room c.changes v.kq.kq)) where
  pub begun_at : IsBegunAt m c (map live_of es) (map live_of (set_value (nat_eq c.kqueue) es w)) answer
  begun_at =
      let who : Views → ℕ → Caller = λ views n. record { views = views; owner = v.kq.owner; version = n } in
      let same : kevent.begun (caller views v.kq) c.room c.changes v.kq.kq
      ≡ begun_kqueue m c (live_of (c.kqueue, v)) =
      ap₂ (λ (s : Views) (n : ℕ). kevent.begun (who s n) c.room c.changes v.kq.kq) (sym sees)
      (version_found m.version c.kqueue es v found versions) in (
        set_with c.kqueue (λ l. (begun_kqueue m c l).kq) es v w distinct found number owner
            (ap (λ (b : kevent.Begun tallying). b.kq) (does ∙ same)),
        ap (λ (b : kevent.Begun tallying). b.answer) (does ∙ same)
            ∙ sym (ap (option_and_then (λ (l : Live). (begun_kqueue m c l).answer))
            (live_at-found c.kqueue es v found)),
      )

so_far-ended : (m n : Moment) (c : Call) (views : Views) (es : Entries) (v w : NumberedKqueue) (reply : Reply)
    → IsQuiet m → m.views ≡ views → AreOfVersion m.version es → m.call ≡ Some c
    → IsDistinct nat_eq (keys_of es) → lookup (nat_eq c.kqueue) es ≡ Some v → w.number ≡ v.number
    → w.kq.owner ≡ v.kq.owner
    → ◌≡◌ {A = kevent.Begun tallying} (record { kq = w.kq.kq; answer = Some reply })
    (kevent.begun (caller views v.kq) c.room c.changes v.kq.kq)
    → IsCallSoFar m n c (map live_of es) (map live_of (set_value (nat_eq c.kqueue) es w)) (Some reply)
so_far-ended m n c views es v w reply quiet sees versions calls distinct found number owner does =
    called_quiet m c views es v w reply quiet sees versions calls distinct found number owner
    (ended_is (caller views v.kq) c.room c.changes v.kq.kq w.kq.kq reply does)

so_far-goes : (m n : Moment) (c : Call) (views : Views) (es : Entries) (v w : NumberedKqueue)
    → IsQuiet m → m.views ≡ views → AreOfVersion m.version es → m.call ≡ Some c
    → IsQuiet n → n.views ≡ views → n.version ≡ m.version → n.call ≡ Some (record c { changes = [] })
    → IsDistinct nat_eq (keys_of es) → lookup (nat_eq c.kqueue) es ≡ Some v → w.number ≡ v.number
    → w.kq.owner ≡ v.kq.owner → w.kq.version ≡ v.kq.version
    → ◌≡◌ {A = kevent.Begun tallying} (record { kq = w.kq.kq; answer = None })
    (kevent.begun (caller views v.kq) c.room c.changes v.kq.kq)
    → IsCallSoFar m n c (map live_of es) (map live_of (set_value (nat_eq c.kqueue) es w)) None
so_far-goes m n c views es v w quiet sees versions calls still seen version then distinct found number owner goes does =
    let es' = set_value (nat_eq c.kqueue) es w in
    let done : Called = call (caller views v.kq) c.room c.changes v.kq.kq in
    let u : NumberedKqueue = record w { kq = record w.kq { kq = done.kq } } in
    let rest : call (caller views w.kq) c.room [] w.kq.kq ≡ done =
    call-nil (caller views w.kq) c.room w.kq.kq ∙ goes_is (caller views v.kq) c.room c.changes v.kq.kq w.kq.kq does in
    let read = called_quiet n (record c { changes = [] }) views es' w u done.reply still seen
    (subst (λ x. AreOfVersion x es') (sym version) (version_kept m.version c.kqueue es v w found goes versions)) then
    (subst (IsDistinct nat_eq) (sym (keys_kept c.kqueue es w)) distinct) (found_set c.kqueue es v w found) refl refl
    (sym rest) in (
      map live_of (set_value (nat_eq c.kqueue) es u),
      done.reply,
      called_quiet m c views es v u done.reply quiet sees versions calls distinct found number owner refl,
      subst (λ (l : Entries). IsCalled n (record c { changes = [] }) (map live_of es') (map live_of l) done.reply)
          (set_twice c.kqueue es w u) read,
    )

-- nothing comes of a call on one that is not live
pub begun_none : (m : Moment) (c : Call) (es : Entries) → lookup (nat_eq c.kqueue) es ≡ None
    → IsBegunAt m c (map live_of es) (map live_of es) None
begun_none m c es none = (
  sym (none_with c.kqueue (λ l. (begun_kqueue m c l).kq) es none),
  sym (ap (option_and_then (λ (l : Live). (begun_kqueue m c l).answer)) (live_at-none c.kqueue es none)),
)

pub so_far-none : (m n : Moment) (c : Call) (es : Entries) → IsQuiet m → m.call ≡ Some c
    → IsQuiet n → n.call ≡ Some (record c { changes = [] }) → lookup (nat_eq c.kqueue) es ≡ None
    → IsCallSoFar m n c (map live_of es) (map live_of es) None
so_far-none m n c es quiet calls still then none = (
  map live_of es,
  reply.Done,
  called_none m c quiet calls es none,
  called_none n (record c { changes = [] }) still then es none,
)

-- what a call that began is, so far
pub so_far : (m n : Moment) (c : Call) (views : Views) (es : Entries) (v w : NumberedKqueue) (answer : Option Reply)
    → IsQuiet m → m.views ≡ views → AreOfVersion m.version es → m.call ≡ Some c
    → IsQuiet n → n.views ≡ views → n.version ≡ m.version → n.call ≡ Some (record c { changes = [] })
    → IsDistinct nat_eq (keys_of es) → lookup (nat_eq c.kqueue) es ≡ Some v → w.number ≡ v.number
    → w.kq.owner ≡ v.kq.owner → w.kq.version ≡ v.kq.version
    → ◌≡◌ {A = kevent.Begun tallying} (record { kq = w.kq.kq; answer = answer })
    (kevent.begun (caller views v.kq) c.room c.changes v.kq.kq)
    → IsCallSoFar m n c (map live_of es) (map live_of (set_value (nat_eq c.kqueue) es w)) answer
so_far m n c views es v w
    (Some reply) quiet sees versions calls still seen version then distinct found number owner goes does =
    so_far-ended m n c views es v w reply quiet sees versions calls distinct found number owner does
so_far m n c views es v w None quiet sees versions calls still seen version then distinct found number owner goes does =
    so_far-goes m n c views es v w quiet sees versions calls still seen version then distinct found number owner goes
    does

-- its knotes are of targets under which the kqueue stands
pub begun_listed : {T : Type 0} (watching : HashMap Target (List ℕ) T)
    (place : ℕ) (by : Caller) (room : ℕ) (changes : List Change) (old new : Kqueue) (r : Result (Option Reply) Memory)
    → All (λ (c : Change). asks c.flags add ≡ true → IsListed place watching c.filter c.ident
    (target_of by.views by.owner c.filter c.ident)) changes
    → HaveSubjects (IsListed place watching) old.knotes
    → IfOk r (λ answer. ◌≡◌ {A = kevent.Begun tallying} (record { kq = new; answer = answer })
    (kevent.begun by room changes old))
    → OnErr r (new ≡ old) → HaveSubjects (IsListed place watching) new.knotes
begun_listed watching place by room changes old new (Ok x) listed has ok err =
    let some = changes-by-call by room changes old in
    subst (λ (kq : Kqueue). HaveSubjects (IsListed place watching) kq.knotes)
    (some.1 ∙ sym (ap (λ (b : kevent.Begun tallying). b.kq) ok))
    (call-subjects tallying (IsListed place watching) by some.0 changes old
    (make_listed watching place by changes listed) has)
begun_listed watching place by room changes old new (Err e) listed has ok err =
    subst (λ (kq : Kqueue). HaveSubjects (IsListed place watching) kq.knotes) (sym err) has

-- the knotes go on to watch what their numbers name
pub begun_watched : (m : Moment) (c : Call) (l : Live) → WatchTheirNumbers m.views l.owner l.kq
    → WatchTheirNumbers m.views l.owner (begun_kqueue m c l).kq
begun_watched m c l all =
    let by = caller_at l.owner m in
    let some = changes-by-call by c.room c.changes l.kq in
    subst (λ (kq : Kqueue). WatchTheirNumbers m.views l.owner kq) some.1
    (call-watched tallying by some.0 c.changes l.kq all)

-- ---- the system stays lawful

pub lawful_now : (version applied : ℕ) (w : code.World) (es es' : Entries)
    → IsLawful version applied w es → HaveStayed es es'
    → AllWatchTheirNumbers (record { version = version; world = world_of w; live = map live_of es' })
    → IsLawful version applied w es'
lawful_now version applied w es es' old stayed watched = record {
  of_version = stayed.of_version version old.of_version;
  born = stayed.up_to applied old.born;
  watched = watched;
  places = old.places;
}

-- nothing happened at one more place
pub lawful_later : (version applied : ℕ) (w : code.World) (es : Entries) → IsLawful version applied w es
    → IsLawful version (applied + 1) w es
lawful_later version applied w es old = record {
  of_version = old.of_version;
  born = up_to_more applied (applied + 1) (keys_of es) (omega arith) old.born;
  watched = old.watched;
  places = let before = old.places in omega arith;
}

-- the knotes of the kqueue of a call that began, and of the others
pub watched-begun : (m : Moment) (c : Call) (views : Views) (live next : List Live) → m.views ≡ views
    → next ≡ with_live_at c.kqueue (λ l. (begun_kqueue m c l).kq) live
    → All (λ (l : Live). WatchTheirNumbers views l.owner l.kq) live
    → All (λ (l : Live). WatchTheirNumbers views l.owner l.kq) next
watched-begun m c views live next sees is all =
    subst (All (λ (l : Live). WatchTheirNumbers views l.owner l.kq)) (sym is)
    (watched-with c.kqueue (λ l. (begun_kqueue m c l).kq) views live
    (λ l has. subst (λ (v : Views). WatchTheirNumbers v l.owner (begun_kqueue m c l).kq) sees
    (begun_watched m c l (subst (λ (v : Views). WatchTheirNumbers v l.owner l.kq) (sym sees) has))) all)

-- whatever the answer was
pub either_way : {T E P : Type 0} (r : Result T E) (Q : T → Type 0) (R : Type 0) → IfOk r Q → OnErr r R
    → ((x : T) → Q x → P) → (R → P) → P
either_way (Ok x) Q R ok err there here = there x ok
either_way (Err e) Q R ok err there here = here err
