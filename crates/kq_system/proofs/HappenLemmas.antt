-- What a record does to one kqueue and to all of them.
use Rattle.std.proofs.Common.{◌≡◌, ◌∙◌, ◌==◌, ◌||◌, ◌&&◌, ◌<◌, ◌≤◌, ◌+◌, ℕ, Bool, true, false, not, cond, List, [], ◌∷◌, map, filter, drop, drop-cons, drop_of_length-le, add-one, get_or, length, None, refl, sym, ap, ap₂, subst}
use Rattle.std.proofs.lemmas.Bool.{eqb-true}
use Rattle.std.specs.Map.{keys_of}
use Rattle.std.specs.Map.Calls.{RetainsPairs}
use Rattle.kq_model.specs.declared.key.Key.{Key}
use Rattle.kq_model.specs.Close.{Pair, closed, has_pair, is_closed}
use Rattle.kq_model.specs.Clock.{clocked}
use Rattle.kq_model.specs.Following.{all_forks}
use Rattle.kq_model.specs.Hints.{notified}
use Rattle.kq_model.specs.Knote.{watches_number}
use Rattle.kq_model.specs.Moment.{Moment, after_call, happened, kqueue_step}
use Rattle.kq_model.specs.System.{lived, stepped}
use Rattle.kq_model.specs.Tallied.{Knote, Kqueue, Live}
use Rattle.kq_model.specs.Targets.{Posted}
use Rattle.kq_model.specs.Views.{Views}
use Rattle.kq_process.specs.Effects.{pair_of, pairs_in}
use Rattle.kq_system.proofs.SilentLemmas.{none-follow}
use Rattle.kq_system.specs.SystemState.{AreOfVersion, AreUpTo, HaveStayed, NumberedKqueue, goes_on, happened_to, happened_to_all, live_of}
use Rattle.kq_system.proofs.CallLemmas.{same_live}
use Rattle.kq_system.proofs.QuietLemmas.{all_kept, closed_none, notified_none}

-- ---- whether a number was closed

drop_pair : (ps : List (ℕ × ℕ)) (i : ℕ) (d : ℕ × ℕ) → i < length ps
    → pairs_in (drop i ps) ≡ pair_of (get_or ps i d) ∷ pairs_in (drop (i + 1) ps)
drop_pair ps i d lt =
    ap pairs_in (drop-cons ps i d lt ∙ ap (λ n. get_or ps i d ∷ drop n ps) (sym (add-one i)))

-- the pair is the one
pub pair_there : (pid number : ℕ) (ps : List (ℕ × ℕ)) (i : ℕ) (d : ℕ × ℕ) → i < length ps
    → (((get_or ps i d).0 == pid) && ((get_or ps i d).1 == number)) ≡ true
    → has_pair pid number (pairs_in (drop i ps)) ≡ true
pair_there pid number ps i d lt hit =
    ap (has_pair pid number) (drop_pair ps i d lt)
    ∙ ap (λ b. b || has_pair pid number (pairs_in (drop (i + 1) ps))) hit

-- it is another
pub pair_passed : (pid number : ℕ) (ps : List (ℕ × ℕ)) (i : ℕ) (d : ℕ × ℕ) → i < length ps
    → (((get_or ps i d).0 == pid) && ((get_or ps i d).1 == number)) ≡ false
    → has_pair pid number (pairs_in (drop (i + 1) ps)) ≡ has_pair pid number (pairs_in (drop i ps))
pair_passed pid number ps i d lt missed =
    sym (ap (has_pair pid number) (drop_pair ps i d lt)
    ∙ ap (λ b. b || has_pair pid number (pairs_in (drop (i + 1) ps))) missed)

-- none is left
pub no_pair : (pid number : ℕ) (ps : List (ℕ × ℕ)) (i : ℕ) → length ps ≤ i
    → has_pair pid number (pairs_in (drop i ps)) ≡ false
no_pair pid number ps i past = let none : drop i ps ≡ [] = drop_of_length-le ps past in rw none refl

-- ---- closes, one after the other

twice_step : {X : Type 0} (g : X → Bool) (a c : Bool) (x : X) (r r' : List X) → a ≡ (c && g x) → r ≡ filter g r'
    → cond a (x ∷ r) r ≡ filter g (cond c (x ∷ r') r')
twice_step g a true x r r' same rest = rw same (ap (λ l. cond (g x) (x ∷ l) l) rest)
twice_step g a false x r r' same rest = rw same rest

-- what passes two tests passes one after the other
kept_twice : {X : Type 0} (f g h : X → Bool) (xs : List X) → ((x : X) → f x ≡ (h x && g x))
    → filter f xs ≡ filter g (filter h xs)
kept_twice f g h [] same = refl
kept_twice f g h (x ∷ xs) same =
    twice_step g (f x) (h x) x (filter f xs) (filter h xs) (same x) (kept_twice f g h xs same)

one_or_more : (watches here later : Bool)
    → not (watches && (here || later)) ≡ (not (watches && (here || false)) && not (watches && later))
one_or_more true true later = refl
one_or_more true false later = refl
one_or_more false here later = refl

pub close_cons : (owner : ℕ) (p : Pair) (ps : List Pair) (kq : Kqueue)
    → closed owner (p ∷ ps) kq ≡ closed owner ps (closed owner (p ∷ []) kq)
unfolding closed
close_cons owner p ps kq =
    let keeps : Key → Bool = λ key. not (is_closed owner (p ∷ ps) key) in
    ap₂ (λ (ks : List Knote) (queue : List Key). let k : Kqueue = record { knotes = ks; queue = queue } in k)
    (kept_twice (λ (k : Knote). not (is_closed owner (p ∷ ps) k.key)) (λ k. not (is_closed owner ps k.key))
    (λ k. not (is_closed owner (p ∷ []) k.key)) kq.knotes
    (λ k. one_or_more (watches_number k.key.filter) ((p.pid == owner) && (p.number == k.key.ident))
    (has_pair owner k.key.ident ps)))
    (kept_twice keeps (λ key. not (is_closed owner ps key)) (λ key. not (is_closed owner (p ∷ []) key)) kq.queue
    (λ key. one_or_more (watches_number key.filter) ((p.pid == owner) && (p.number == key.ident))
    (has_pair owner key.ident ps)))

not_here : (watches other number : Bool) → other ≡ false → not (watches && ((other && number) || false)) ≡ true
not_here true other number is = rw is refl
not_here false other number is = refl

different : (a b : ℕ) → (a ≡ b → ⊥) → (a == b) ≡ false
different a b other = by_test (a == b) refl
  where
    by_test : (s : Bool) → (a == b) ≡ s → s ≡ false
    by_test true is = absurd (other (eqb-true a b is))
    by_test false is = refl

-- a number of another process
pub close_other : (owner : ℕ) (p : Pair) (kq : Kqueue) → (p.pid ≡ owner → ⊥) → closed owner (p ∷ []) kq ≡ kq
unfolding closed
close_other owner p kq unlike =
    let other = different p.pid owner unlike in
    ap₂ (λ (ks : List Knote) (queue : List Key). let k : Kqueue = record { knotes = ks; queue = queue } in k)
    (all_kept (λ (k : Knote). not (is_closed owner (p ∷ []) k.key)) kq.knotes
    (λ k. not_here (watches_number k.key.filter) (p.pid == owner) (p.number == k.key.ident) other))
    (all_kept (λ key. not (is_closed owner (p ∷ []) key)) kq.queue
    (λ key. not_here (watches_number key.filter) (p.pid == owner) (p.number == key.ident) other))

-- one more of the numbers is closed
pub closed_next : (owner owner' : ℕ) (ps : List (ℕ × ℕ)) (i : ℕ) (kq kq' : Kqueue) → i < length ps
    → owner' ≡ owner → (d : ℕ × ℕ) → kq' ≡ closed owner' (pair_of (get_or ps i d) ∷ []) kq
    → closed owner (pairs_in (drop (i + 1) ps)) kq' ≡ closed owner (pairs_in (drop i ps)) kq
closed_next owner owner' ps i kq kq' lt own d does =
    let rest = pairs_in (drop (i + 1) ps) in
    let p = get_or ps i d in
    ap (closed owner rest) (does ∙ ap (λ n. closed n (pair_of p ∷ []) kq) own)
    ∙ sym (close_cons owner (pair_of p) rest kq)
    ∙ ap (λ l. closed owner l kq) (sym (drop_pair ps i d lt))

-- none is left
pub closed_end : (owner : ℕ) (ps : List (ℕ × ℕ)) (i : ℕ) (kq : Kqueue) → length ps ≤ i
    → kq ≡ closed owner (pairs_in (drop i ps)) kq
closed_end owner ps i kq past =
    let none : drop i ps ≡ [] = drop_of_length-le ps past in rw none (sym (closed_none owner kq))

-- ---- all kqueues

-- what one call says of a kqueue: whether it goes on, and what became of it
pub record Says {F : Type 0} (pairs : List Pair) (hints : List Posted) (views : Views) (f : F) (v : NumberedKqueue)
    (b : Bool) (w : NumberedKqueue) (g : F) : Type 0 where
  pub stays : b ≡ not (has_pair v.kq.owner v.number pairs)
  pub number : w.number ≡ v.number
  pub owner : w.kq.owner ≡ v.kq.owner
  pub version : w.kq.version ≡ v.kq.version
  pub shown : w.shown ≡ v.shown
  pub ended : w.ended ≡ v.ended
  pub kq : b ≡ true → w.kq.kq ≡ notified views hints (closed v.kq.owner pairs v.kq.kq)
  pub same : g ≡ f

module _ {F : Type 0} (T : F → ℕ → NumberedKqueue → Bool → NumberedKqueue → F → Type 0) (pairs : List Pair)
    (hints : List Posted) (views : Views) (f : F)
    (says : (k : ℕ) (v : NumberedKqueue) (b : Bool) (w : NumberedKqueue) (g : F) → T f k v b w g
    → Says pairs hints views f v b w g) where
  written_step : (e : ℕ × NumberedKqueue) (w : NumberedKqueue) (b : Bool) (g : F) (rest : List (ℕ × NumberedKqueue))
      (ls : List Live) → Says pairs hints views f e.1 b w g → map live_of rest ≡ map (happened_to pairs hints views) ls
      → map live_of (cond b ((e.0, w) ∷ rest) rest) ≡ map (happened_to pairs hints views) (cond b (live_of e ∷ ls) ls)
  written_step e w true g rest ls s is =
      ap₂ (λ (l : Live) (r : List Live). l ∷ r)
      (same_live e.0 w.kq.owner e.1.kq.owner w.number e.1.number w.kq.kq
      (notified views hints (closed e.1.kq.owner pairs e.1.kq.kq)) s.owner s.number (s.kq refl)) is
  written_step e w false g rest ls s is = is

  pub all_written : (es kept : List (ℕ × NumberedKqueue)) → RetainsPairs T f es kept
      → map live_of kept ≡ happened_to_all pairs hints views (map live_of es)
  all_written [] kept h = ap (map live_of) h
  all_written (e ∷ es) kept h =
      let s = says e.0 e.1 h.0 h.1 h.2 h.4 in
      let rest = all_written es h.3 (subst (λ g. RetainsPairs T g es h.3) s.same h.5) in
      let ls = filter (goes_on pairs) (map live_of es) in
      ap (map live_of) h.6 ∙ written_step e h.1 h.0 h.2 h.3 ls s rest
      ∙ ap (λ b. map (happened_to pairs hints views) (cond b (live_of e ∷ ls) ls)) s.stays

  version_step : (version : ℕ) (e : ℕ × NumberedKqueue) (w : NumberedKqueue) (b : Bool) (g : F)
      (rest : List (ℕ × NumberedKqueue)) → Says pairs hints views f e.1 b w g → e.1.kq.version ≡ version
      → AreOfVersion version rest → AreOfVersion version (cond b ((e.0, w) ∷ rest) rest)
  version_step version e w true g rest s is all = (s.version ∙ is, all)
  version_step version e w false g rest s is all = all

  of_version : (version : ℕ) (es kept : List (ℕ × NumberedKqueue)) → RetainsPairs T f es kept
      → AreOfVersion version es → AreOfVersion version kept
  of_version version [] kept h all = subst (AreOfVersion version) (sym h) tt
  of_version version (e ∷ es) kept h all =
      let s = says e.0 e.1 h.0 h.1 h.2 h.4 in
      let rest = of_version version es h.3 (subst (λ g. RetainsPairs T g es h.3) s.same h.5) all.1 in
      subst (AreOfVersion version) (sym h.6) (version_step version e h.1 h.0 h.2 h.3 s all.0 rest)

  up_to_step : (most : ℕ) (e : ℕ × NumberedKqueue) (w : NumberedKqueue) (b : Bool) (rest : List (ℕ × NumberedKqueue))
      → e.0 ≤ most → AreUpTo most (keys_of rest) → AreUpTo most (keys_of (cond b ((e.0, w) ∷ rest) rest))
  up_to_step most e w true rest le all = (le, all)
  up_to_step most e w false rest le all = all

  up_to : (most : ℕ) (es kept : List (ℕ × NumberedKqueue)) → RetainsPairs T f es kept
      → AreUpTo most (keys_of es) → AreUpTo most (keys_of kept)
  up_to most [] kept h all = subst (λ (l : List (ℕ × NumberedKqueue)). AreUpTo most (keys_of l)) (sym h) tt
  up_to most (e ∷ es) kept h all =
      let s = says e.0 e.1 h.0 h.1 h.2 h.4 in
      let rest = up_to most es h.3 (subst (λ g. RetainsPairs T g es h.3) s.same h.5) all.1 in
      subst (λ (l : List (ℕ × NumberedKqueue)). AreUpTo most (keys_of l)) (sym h.6)
      (up_to_step most e h.1 h.0 h.3 all.0 rest)

  pub all_stayed : (es kept : List (ℕ × NumberedKqueue)) → RetainsPairs T f es kept → HaveStayed es kept
  all_stayed es kept h = record {
    of_version = λ version all. of_version version es kept h all;
    up_to = λ most all. up_to most es kept h all;
  }

-- ---- where nothing is closed and nobody is told

untouched : (views : Views) (ls : List Live) → happened_to_all [] [] views ls ≡ ls
untouched views [] = refl
untouched views (l ∷ ls) =
    ap₂ (λ (l : Live) (r : List Live). l ∷ r)
    (ap (λ (kq : Kqueue). record l { kq = kq }) (notified_none views (closed l.owner [] l.kq)
    ∙ closed_none l.owner l.kq))
    (untouched views ls)

pub nothing_happened : (ps : List (ℕ × ℕ)) (hints : List Posted) (views : Views) (ls : List Live) → ps ≡ [] → hints ≡ []
    → ls ≡ happened_to_all (pairs_in ps) hints views ls
nothing_happened ps hints views ls none nobody =
    sym (ap₂ (λ (ps : List (ℕ × ℕ)) (hs : List Posted). happened_to_all (pairs_in ps) hs views ls) none nobody
    ∙ untouched views ls)

pub stayed_same : (es : List (ℕ × NumberedKqueue)) → HaveStayed es es
stayed_same es = record { of_version = λ version all. all; up_to = λ most all. all }

-- ---- a moment in which no kqueue is called

pub record IsTold (pairs : List Pair) (hints : List Posted) (views : Views) (m : Moment) : Type 0 where
  pub closed_is : m.closed ≡ pairs
  pub hints_is : m.hints ≡ hints
  pub views_is : m.views ≡ views
  pub clock : m.clock ≡ None
  pub call : m.call ≡ None
  pub silent : all_forks hints ≡ []

told_one : (pairs : List Pair) (hints : List Posted) (views : Views) (m : Moment) (l : Live)
    → IsTold pairs hints views m → stepped m l ≡ happened_to pairs hints views l
unfolding stepped kqueue_step after_call happened clocked
told_one pairs hints views m l told = rw (told.call, told.clock, told.closed_is, told.hints_is, told.views_is)
    (ap (λ (kq : Kqueue). record l { kq = kq }) (none-follow m.version hints (notified views hints (closed l.owner pairs l.kq)) told.silent))

told_each : (pairs : List Pair) (hints : List Posted) (views : Views) (m : Moment) (ls : List Live)
    → IsTold pairs hints views m → map (stepped m) ls ≡ map (happened_to pairs hints views) ls
told_each pairs hints views m [] told = refl
told_each pairs hints views m (l ∷ ls) told =
    ap₂ (λ (l : Live) (r : List Live). l ∷ r) (told_one pairs hints views m l told)
    (told_each pairs hints views m ls told)

pub told_all : (pairs : List Pair) (hints : List Posted) (views : Views) (m : Moment) (live : List Live)
    → IsTold pairs hints views m → lived m live ≡ happened_to_all pairs hints views live
unfolding lived
told_all pairs hints views m live told =
    ap (λ (ps : List Pair). map (stepped m) (filter (goes_on ps) live)) told.closed_is
    ∙ told_each pairs hints views m (filter (goes_on pairs) live) told
