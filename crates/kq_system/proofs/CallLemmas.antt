-- A call in the table of live kqueues: the one that is called makes its step in its place.
use Rattle.std.proofs.Common.{◌≡◌, ◌∙◌, ◌<◌, ◌≤◌, ◌++◌, ℕ, Bool, true, false, nat_eq, List, [], ◌∷◌, map, Option, None, Some, refl, sym, ap, ap₂, cond, arith}
use Rattle.std.specs.List.{AllByRecursion, IsDistinct}
use Rattle.std.specs.Map.{lookup, keys_of, set_value}
use Rattle.std.proofs.lemmas.Bool.Decides.{nat_tests}
use Rattle.kq_model.specs.declared.reply.Reply.{Reply}
use Rattle.kq_model.specs.declared.reply.Reply.TheVariants as reply
use Rattle.kq_kevent.specs.Owned.{caller}
use Rattle.kq_model.specs.Call as kevent
use Rattle.kq_model.specs.Caller.{Caller}
use Rattle.kq_model.specs.Moment.{Moment, called_at, caller_at}
use Rattle.kq_model.specs.System.{answer, stepped}
use Rattle.kq_model.specs.Tallied.{Called, Kqueue, Live}
use Rattle.kq_model.specs.Views.{Views}
use Rattle.kq_model.specs.World.{Call}
use Rattle.kq_system.specs.SystemState.{AreOfVersion, AreUpTo, IsCalled, IsQuiet, NumberedKqueue, live_of}
use Rattle.kq_system.proofs.QuietLemmas.{called_one, called_other, lived_each, unhappened}

-- ---- what a look-up finds

-- a look-up that finds nothing passed this entry, and finds nothing behind it
missed : {X : Type 0} (b : Bool) (x : X) (rest : Option X) → cond b (Some x) rest ≡ None → (b ≡ false) × (rest ≡ None)
missed true x rest none = absurd (cc)
missed false x rest none = (refl, none)

is_equal : (a b : ℕ) → nat_eq a b ≡ true → a ≡ b
is_equal a b h = grind (arith, nat_tests)

-- no key behind an entry is its own
behind : (x k : ℕ) (es : List (ℕ × NumberedKqueue)) → k ≡ x → AllByRecursion (λ y. nat_eq x y ≡ false) (keys_of es)
    → lookup (nat_eq k) es ≡ None
behind x k [] is others = refl
behind x k (e ∷ es) is others =
    let other : nat_eq k e.0 ≡ false = ap (λ n. nat_eq n e.0) is ∙ others.0 in
    rw other (behind x k es is others.1)

swapped : (a b : ℕ) → nat_eq a b ≡ nat_eq b a
swapped a b = grind (arith, nat_tests)

-- ---- the kqueue that is called is written in its place

pub same_live : (place : ℕ) (o o' n n' : ℕ) (k k' : Kqueue) → o ≡ o' → n ≡ n' → k ≡ k'
    → ◌≡◌ {A = Live} (record { place = place; owner = o; number = n; kq = k })
    (record { place = place; owner = o'; number = n'; kq = k' })
same_live place o o' n n' k k' a b c = rw (a, b, c) refl

-- the kqueue after the call at this moment
abbrev after_at : Moment → Call → NumberedKqueue → Kqueue
after_at m c v = (called_at v.kq.owner m c v.kq.kq).kq

none_called : (m : Moment) (c : Call) → IsQuiet m → m.call ≡ Some c → (es : List (ℕ × NumberedKqueue))
    → lookup (nat_eq c.kqueue) es ≡ None
    → map live_of es ≡ map (stepped m) (map live_of es)
none_called m c quiet call [] none = refl
none_called m c quiet call (e ∷ es) none =
    let others = missed (nat_eq c.kqueue e.0) e.1 (lookup (nat_eq c.kqueue) es) none in
    ap₂ (λ (l : Live) (ls : List Live). l ∷ ls) (sym (called_other m c (live_of e) quiet call others.0))
    (none_called m c quiet call es others.1)

called_step : (m : Moment) (c : Call) → IsQuiet m → m.call ≡ Some c
    → (e : ℕ × NumberedKqueue) (es : List (ℕ × NumberedKqueue)) (v w : NumberedKqueue) (b : Bool)
    → nat_eq c.kqueue e.0 ≡ b → AllByRecursion (λ y. nat_eq e.0 y ≡ false) (keys_of es)
    → cond b (Some e.1) (lookup (nat_eq c.kqueue) es) ≡ Some v
    → w.number ≡ v.number → w.kq.owner ≡ v.kq.owner → w.kq.kq ≡ after_at m c v
    → (lookup (nat_eq c.kqueue) es ≡ Some v → map live_of (set_value (nat_eq c.kqueue) es w) ≡ map (stepped m)
    (map live_of es))
    → map live_of (cond b ((e.0, w) ∷ es) (e ∷ set_value (nat_eq c.kqueue) es w)) ≡ map (stepped m)
    (map live_of (e ∷ es))
called_step m c quiet call e es v w true hit others found number owner kq rest =
    let same : e.1 ≡ v = cc in
    ap₂ (λ (l : Live) (ls : List Live). l ∷ ls)
    (same_live e.0 w.kq.owner e.1.kq.owner w.number e.1.number w.kq.kq (after_at m c e.1)
    (owner ∙ ap (λ (u : NumberedKqueue). u.kq.owner) (sym same))
    (number ∙ ap (λ (u : NumberedKqueue). u.number) (sym same))
    (kq ∙ ap (after_at m c) (sym same)) ∙ sym (called_one m c (live_of e) call hit))
    (none_called m c quiet call es (behind e.0 c.kqueue es (is_equal c.kqueue e.0 hit) others))
called_step m c quiet call e es v w false hit others found number owner kq rest =
    ap₂ (λ (l : Live) (ls : List Live). l ∷ ls) (sym (called_other m c (live_of e) quiet call hit)) (rest found)

some_called : (m : Moment) (c : Call) → IsQuiet m → m.call ≡ Some c
    → (es : List (ℕ × NumberedKqueue)) (v w : NumberedKqueue) → IsDistinct nat_eq (keys_of es)
    → lookup (nat_eq c.kqueue) es ≡ Some v → w.number ≡ v.number → w.kq.owner ≡ v.kq.owner → w.kq.kq ≡ after_at m c v
    → map live_of (set_value (nat_eq c.kqueue) es w) ≡ map (stepped m) (map live_of es)
unfolding IsDistinct
some_called m c quiet call [] v w distinct found number owner kq = refl
some_called m c quiet call (e ∷ es) v w distinct found number owner kq =
    called_step m c quiet call e es v w (nat_eq c.kqueue e.0) refl distinct.0 found number owner kq
    (λ there. some_called m c quiet call es v w distinct.1 there number owner kq)

answers_step : (m : Moment) (c : Call) (e : ℕ × NumberedKqueue) (es : List (ℕ × NumberedKqueue)) (v : NumberedKqueue)
    (r : Reply) (b : Bool) → nat_eq c.kqueue e.0 ≡ b
    → cond b (Some e.1) (lookup (nat_eq c.kqueue) es) ≡ Some v → r ≡ (called_at v.kq.owner m c v.kq.kq).reply
    → (lookup (nat_eq c.kqueue) es ≡ Some v → r ≡ answer m c (map live_of es)) → r ≡ answer m c (map live_of (e ∷ es))
unfolding answer
answers_step m c e es v r true hit found is rest =
    let same : e.1 ≡ v = cc in
    rw hit (is ∙ ap (λ (u : NumberedKqueue). (called_at u.kq.owner m c u.kq.kq).reply) (sym same))
answers_step m c e es v r false hit found is rest = rw hit (rest found)

some_answers : (m : Moment) (c : Call) (es : List (ℕ × NumberedKqueue)) (v : NumberedKqueue) (r : Reply)
    → lookup (nat_eq c.kqueue) es ≡ Some v
    → r ≡ (called_at v.kq.owner m c v.kq.kq).reply → r ≡ answer m c (map live_of es)
some_answers m c [] v r found is = absurd (cc)
some_answers m c (e ∷ es) v r found is =
    answers_step m c e es v r (nat_eq c.kqueue e.0) refl found is (λ there. some_answers m c es v r there is)

none_answers : (m : Moment) (c : Call) (es : List (ℕ × NumberedKqueue)) → lookup (nat_eq c.kqueue) es ≡ None
    → reply.Done ≡ answer m c (map live_of es)
unfolding answer
none_answers m c [] none = refl
none_answers m c (e ∷ es) none =
    let others = missed (nat_eq c.kqueue e.0) e.1 (lookup (nat_eq c.kqueue) es) none in
    rw others.0 (none_answers m c es others.1)

-- nothing comes of a call on one that is not live
pub called_none : (m : Moment) (c : Call) → IsQuiet m → m.call ≡ Some c → (es : List (ℕ × NumberedKqueue))
    → lookup (nat_eq c.kqueue) es ≡ None → IsCalled m c (map live_of es) (map live_of es) reply.Done
called_none m c quiet call es none = (
  none_called m c quiet call es none ∙ sym (lived_each m (map live_of es) quiet),
  none_answers m c es none,
)

pub called_some : (m : Moment) (c : Call) → IsQuiet m → m.call ≡ Some c
    → (es : List (ℕ × NumberedKqueue)) (v w : NumberedKqueue) (r : Reply) → IsDistinct nat_eq (keys_of es)
    → lookup (nat_eq c.kqueue) es ≡ Some v → w.number ≡ v.number → w.kq.owner ≡ v.kq.owner
    → w.kq.kq ≡ (called_at v.kq.owner m c v.kq.kq).kq → r ≡ (called_at v.kq.owner m c v.kq.kq).reply
    → IsCalled m c (map live_of es) (map live_of (set_value (nat_eq c.kqueue) es w)) r
called_some m c quiet call es v w r distinct found number owner kq is = (
  some_called m c quiet call es v w distinct found number owner kq
      ∙ sym (lived_each m (map live_of es) quiet),
  some_answers m c es v r found is,
)

-- ---- what a write in its place keeps

kept_step : (k : ℕ) (e : ℕ × NumberedKqueue) (es : List (ℕ × NumberedKqueue)) (v w : NumberedKqueue) (b : Bool)
    → cond b (Some e.1) (lookup (nat_eq k) es) ≡ Some v
    → w.number ≡ v.number → w.kq.owner ≡ v.kq.owner → w.kq.kq ≡ v.kq.kq
    → (lookup (nat_eq k) es ≡ Some v → map live_of (set_value (nat_eq k) es w) ≡ map live_of es)
    → map live_of (cond b ((e.0, w) ∷ es) (e ∷ set_value (nat_eq k) es w)) ≡ map live_of (e ∷ es)
kept_step k e es v w true found number owner kq rest =
    let same : e.1 ≡ v = cc in
    ap (λ l. l ∷ map live_of es) (same_live e.0 w.kq.owner e.1.kq.owner w.number e.1.number w.kq.kq e.1.kq.kq
    (owner ∙ ap (λ (u : NumberedKqueue). u.kq.owner) (sym same))
    (number ∙ ap (λ (u : NumberedKqueue). u.number) (sym same))
    (kq ∙ ap (λ (u : NumberedKqueue). u.kq.kq) (sym same)))
kept_step k e es v w false found number owner kq rest = ap (λ ls. live_of e ∷ ls) (rest found)

-- a kqueue that stays as it was leaves all as it was
pub kept : (k : ℕ) (es : List (ℕ × NumberedKqueue)) (v w : NumberedKqueue) → lookup (nat_eq k) es ≡ Some v
    → w.number ≡ v.number → w.kq.owner ≡ v.kq.owner → w.kq.kq ≡ v.kq.kq
    → map live_of (set_value (nat_eq k) es w) ≡ map live_of es
kept k [] v w found number owner kq = refl
kept k (e ∷ es) v w found number owner kq = kept_step k e es v w (nat_eq k e.0) found number owner kq
    (λ there. kept k es v w there number owner kq)

version_step : (version k : ℕ) (e : ℕ × NumberedKqueue) (es : List (ℕ × NumberedKqueue)) (v w : NumberedKqueue)
    (b : Bool)
    → cond b (Some e.1) (lookup (nat_eq k) es) ≡ Some v → w.kq.version ≡ v.kq.version → AreOfVersion version (e ∷ es)
    → (lookup (nat_eq k) es ≡ Some v → AreOfVersion version (set_value (nat_eq k) es w))
    → AreOfVersion version (cond b ((e.0, w) ∷ es) (e ∷ set_value (nat_eq k) es w))
version_step version k e es v w true found same all rest =
    let here : e.1 ≡ v = cc in
    (same ∙ ap (λ (u : NumberedKqueue). u.kq.version) (sym here) ∙ all.0, all.1)
version_step version k e es v w false found same all rest = (all.0, rest found)

pub version_kept : (version k : ℕ) (es : List (ℕ × NumberedKqueue)) (v w : NumberedKqueue)
    → lookup (nat_eq k) es ≡ Some v → w.kq.version ≡ v.kq.version
    → AreOfVersion version es → AreOfVersion version (set_value (nat_eq k) es w)
version_kept version k [] v w found same all = tt
version_kept version k (e ∷ es) v w found same all =
    version_step version k e es v w (nat_eq k e.0) found same all
    (λ there. version_kept version k es v w there same all.1)

found_step : (version : ℕ) (e : ℕ × NumberedKqueue) (v : NumberedKqueue) (rest : Option NumberedKqueue) (b : Bool)
    → cond b (Some e.1) rest ≡ Some v
    → e.1.kq.version ≡ version → (rest ≡ Some v → v.kq.version ≡ version) → v.kq.version ≡ version
found_step version e v rest true found here later =
    let same : e.1 ≡ v = cc in
    ap (λ (u : NumberedKqueue). u.kq.version) (sym same) ∙ here
found_step version e v rest false found here later = later found

pub version_found : (version k : ℕ) (es : List (ℕ × NumberedKqueue)) (v : NumberedKqueue)
    → lookup (nat_eq k) es ≡ Some v → AreOfVersion version es → v.kq.version ≡ version
version_found version k [] v found all = absurd (cc)
version_found version k (e ∷ es) v found all =
    found_step version e v (lookup (nat_eq k) es) (nat_eq k e.0) found all.0
    (λ there. version_found version k es v there all.1)

pub version_push : (version : ℕ) (es : List (ℕ × NumberedKqueue)) (e : ℕ × NumberedKqueue) → AreOfVersion version es
    → e.1.kq.version ≡ version
    → AreOfVersion version (es ++ e ∷ [])
version_push version [] e all is = (is, tt)
version_push version (x ∷ xs) e all is = (all.0, version_push version xs e all.1 is)

-- ---- places of birth

pub up_to_more : (n m : ℕ) (ks : List ℕ) → n ≤ m → AreUpTo n ks → AreUpTo m ks
up_to_more n m [] le all = tt
up_to_more n m (k ∷ ks) le all = (omega (arith, all.0), up_to_more n m ks le all.1)

pub up_to_push : (n k : ℕ) (ks : List ℕ) → k ≤ n → AreUpTo n ks → AreUpTo n (ks ++ k ∷ [])
up_to_push n k [] le all = (le, tt)
up_to_push n k (x ∷ xs) le all = (all.0, up_to_push n k xs le all.1)

above : (k x n : ℕ) → n < k → x ≤ n → nat_eq k x ≡ false
above k x n lt le = grind (arith, nat_tests)

-- a later place is none of them
pub not_born : (n k : ℕ) (es : List (ℕ × NumberedKqueue)) → n < k → AreUpTo n (keys_of es) → lookup (nat_eq k) es ≡ None
not_born n k [] lt all = refl
not_born n k (e ∷ es) lt all =
    let other : nat_eq k e.0 ≡ false = above k e.0 n lt all.0 in
    rw other (not_born n k es lt all.1)

keys_step : (k : ℕ) (e : ℕ × NumberedKqueue) (es : List (ℕ × NumberedKqueue)) (w : NumberedKqueue) (b : Bool)
    → keys_of (set_value (nat_eq k) es w) ≡ keys_of es
    → keys_of (cond b ((e.0, w) ∷ es) (e ∷ set_value (nat_eq k) es w)) ≡ keys_of (e ∷ es)
keys_step k e es w true rest = refl
keys_step k e es w false rest = ap (λ ks. e.0 ∷ ks) rest

-- a write in its place leaves the places as they are
pub keys_kept : (k : ℕ) (es : List (ℕ × NumberedKqueue)) (w : NumberedKqueue)
    → keys_of (set_value (nat_eq k) es w) ≡ keys_of es
keys_kept k [] w = refl
keys_kept k (e ∷ es) w = keys_step k e es w (nat_eq k e.0) (keys_kept k es w)

-- the kqueue's own call, and that of the moment
pub call_at : (m : Moment) (c : Call) (v : NumberedKqueue) (views : Views) → IsQuiet m → m.views ≡ views
    → v.kq.version ≡ m.version
    → kevent.call (caller views v.kq) c.room c.changes v.kq.kq ≡ called_at v.kq.owner m c v.kq.kq
unfolding called_at
call_at m c v views quiet sees same =
    ap₂ (λ (views : Views) (n : ℕ). let who : Caller = record { views = views; owner = v.kq.owner; version = n } in
    kevent.call who c.room c.changes v.kq.kq)
    (sym sees) same
    ∙ ap (kevent.call (caller_at v.kq.owner m) c.room c.changes) (sym (unhappened m v.kq.owner v.kq.kq quiet))

-- a call at a quiet moment, by the kqueue's own contract
pub called_quiet : (m : Moment) (c : Call) (views : Views) (es : List (ℕ × NumberedKqueue)) (v w : NumberedKqueue)
    (r : Reply) → IsQuiet m → m.views ≡ views → AreOfVersion m.version es → m.call ≡ Some c
    → IsDistinct nat_eq (keys_of es) → lookup (nat_eq c.kqueue) es ≡ Some v → w.number ≡ v.number
    → w.kq.owner ≡ v.kq.owner
    → ◌≡◌ {A = Called} (record { kq = w.kq.kq; reply = r })
    (kevent.call (caller views v.kq) c.room c.changes v.kq.kq)
    → IsCalled m c (map live_of es) (map live_of (set_value (nat_eq c.kqueue) es w)) r
called_quiet m c views es v w r quiet sees versions calls distinct found number owner does =
    let same = call_at m c v views quiet sees (version_found m.version c.kqueue es v found versions) in
    called_some m c quiet calls es v w r distinct found number owner
    (ap (λ (done : Called). done.kq) (does ∙ same)) (ap (λ (done : Called). done.reply) (does ∙ same))
