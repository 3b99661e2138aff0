-- What becomes of the live kqueues where some of them are shown a record.
use Rattle.std.proofs.Common.{◌≡◌, ◌∙◌, ◌||◌, ◌<◌, ◌≤◌, ◌++◌, ℕ, zero, suc, Bool, true, false, cond, List, [], ◌∷◌, take, get_or, length, nat_eq, Option, None, Some, refl, sym, ap, subst, arith}
use Rattle.std.proofs.lemmas.List.{take_all}
use Rattle.std.proofs.lemmas.Bool.Decides.{nat_tests}
use Rattle.std.specs.List.{AllByRecursion, IsDistinct, list_any}
use Rattle.std.specs.Map.{lookup, keys_of, set_value}
use Rattle.kq_system.specs.SystemState.{NumberedKqueue}
use Rattle.kq_system.specs.Showing.{AreShown, ArePassed, Each, IsPassed}

abbrev pub Entries : Type 0
Entries = List (ℕ × NumberedKqueue)

pub by_test : (P : Bool → Type 0) (b : Bool) → (b ≡ true → P true) → (b ≡ false → P false) → P b
by_test P true holds fails = holds refl
by_test P false holds fails = fails refl

is_number : (a b : ℕ) → nat_eq a b ≡ true → a ≡ b
is_number a b h = grind (arith, nat_tests)

is_other : (a b : ℕ) → nat_eq a b ≡ false → a ≡ b → ⊥
is_other a b h e = grind (arith, nat_tests)

-- ---- lists, as far as a loop has come

any_step : (here : Bool) (before there : Bool) (later : Bool) → (later ≡ true → (before || there) ≡ true)
    → (here || later) ≡ true → ((here || before) || there) ≡ true
any_step true before there later more is = refl
any_step false before there later more is = more is

pub any_next : {X : Type 0} (t : X → Bool) (xs : List X) (i : ℕ) (d : X) → i < length xs
    → list_any t (take (suc i) xs) ≡ true → (list_any t (take i xs) || t (get_or xs i d)) ≡ true
any_next t [] i d lt asked = absurd (omega arith)
any_next t (x ∷ xs) zero d lt asked =
    by_test (λ b. (b || false) ≡ true → b ≡ true) (t x) (λ _ is. is) (λ _ is. is) asked
any_next t (x ∷ xs) (suc i) d lt asked =
    any_step (t x) (list_any t (take i xs)) (t (get_or xs i d)) (list_any t (take (suc i) xs))
    (any_next t xs i d (omega arith)) asked

pub any_end : {X : Type 0} (t : X → Bool) (xs : List X) (i : ℕ) → length xs ≤ i → list_any t xs ≡ true
    → list_any t (take i xs) ≡ true
any_end t xs i past asked = ap (list_any t) (take_all i xs past) ∙ asked

-- ---- what holds of each

module _ (P : ℕ → NumberedKqueue → Type 0) where
  set_step : (k : ℕ) (e : ℕ × NumberedKqueue) (es rest : Entries) (w : NumberedKqueue) (b : Bool) → P e.0 e.1
      → Each P es → Each P rest → (b ≡ true → P e.0 w) → Each P (cond b ((e.0, w) ∷ es) (e ∷ rest))
  set_step k e es rest w true here all others new = (new refl, all)
  set_step k e es rest w false here all others new = (here, others)

  pub Each-set : (k : ℕ) (es : Entries) (w : NumberedKqueue) → Each P es → ((j : ℕ) → nat_eq k j ≡ true → P j w)
      → Each P (set_value (nat_eq k) es w)
  Each-set k [] w all new = tt
  Each-set k (e ∷ es) w all new =
      set_step k e es (set_value (nat_eq k) es w) w (nat_eq k e.0) all.0 all.1 (Each-set k es w all.1 new)
      (λ hit. new e.0 hit)

  found_step : (k : ℕ) (e : ℕ × NumberedKqueue) (rest : Option NumberedKqueue) (v : NumberedKqueue) (b : Bool)
      → nat_eq k e.0 ≡ b → cond b (Some e.1) rest ≡ Some v → P e.0 e.1 → (rest ≡ Some v → P k v) → P k v
  found_step k e rest v true hit found here later =
      let it : e.1 ≡ v = cc in
      subst (P k) it (subst (λ j. P j e.1) (sym (is_number k e.0 hit)) here)
  found_step k e rest v false hit found here later = later found

  pub Each-found : (k : ℕ) (es : Entries) (v : NumberedKqueue) → Each P es → lookup (nat_eq k) es ≡ Some v → P k v
  Each-found k [] v all found = absurd (cc)
  Each-found k (e ∷ es) v all found =
      found_step k e (lookup (nat_eq k) es) v (nat_eq k e.0) refl found all.0 (λ there. Each-found k es v all.1 there)

  missed : (k : ℕ) (e : ℕ × NumberedKqueue) (rest : Option NumberedKqueue) (b : Bool) → b ≡ false
      → cond b (Some e.1) rest ≡ rest
  missed k e rest b is = ap (λ c. cond c (Some e.1) rest) is

  -- of each other key an entry is found behind the first one
  behind_first : (e : ℕ × NumberedKqueue) (es : Entries) (j : ℕ) (w : NumberedKqueue)
      → AllByRecursion (λ y. nat_eq e.0 y ≡ false) (keys_of es) → lookup (nat_eq j) es ≡ Some w → nat_eq j e.0 ≡ false
  behind_first e [] j w others found = absurd (cc)
  behind_first e (x ∷ es) j w others found =
      by_test (λ b. cond b (Some x.1) (lookup (nat_eq j) es) ≡ Some w → nat_eq j x.0 ≡ b → nat_eq j e.0 ≡ false)
      (nat_eq j x.0)
      (λ _ _ hit. let other = others.0 in grind (arith, nat_tests))
      (λ _ there _. behind_first e es j w others.1 there) found refl

  -- what holds of all that are found, holds of each
  pub Each-from : (es : Entries) → IsDistinct nat_eq (keys_of es)
      → ((k : ℕ) (v : NumberedKqueue) → lookup (nat_eq k) es ≡ Some v → P k v) → Each P es
  unfolding IsDistinct
  Each-from [] distinct each = tt
  Each-from (e ∷ es) distinct each =
      let here : nat_eq e.0 e.0 ≡ true = grind (arith, nat_tests) in (
        each e.0 e.1 (ap (λ b. cond b (Some e.1) (lookup (nat_eq e.0) es)) here),
        Each-from es distinct.1 (λ k v found. each k v
            (missed k e (lookup (nat_eq k) es) (nat_eq k e.0) (behind_first e es k v distinct.0 found) ∙ found)),
      )

pub Each-weaker : (P Q : ℕ → NumberedKqueue → Type 0) → ((k : ℕ) (v : NumberedKqueue) → P k v → Q k v) → (es : Entries)
    → Each P es → Each Q es
Each-weaker P Q weaker [] all = tt
Each-weaker P Q weaker (e ∷ es) all = (weaker e.0 e.1 all.0, Each-weaker P Q weaker es all.1)

pub Each-push : (P : ℕ → NumberedKqueue → Type 0) (es : Entries) (e : ℕ × NumberedKqueue) → Each P es → P e.0 e.1
    → Each P (es ++ e ∷ [])
Each-push P [] e all new = (new, tt)
Each-push P (x ∷ xs) e all new = (all.0, Each-push P xs e all.1 new)

-- what is found of a place that was written is what was written
read_step : (k : ℕ) (e : ℕ × NumberedKqueue) (es rest : Entries) (w u : NumberedKqueue) (b : Bool) → nat_eq k e.0 ≡ b
    → (lookup (nat_eq k) rest ≡ Some u → u ≡ w)
    → lookup (nat_eq k) (cond b ((e.0, w) ∷ es) (e ∷ rest)) ≡ Some u → u ≡ w
read_step k e es rest w u true is later found =
    let here : cond (nat_eq k e.0) (Some w) (lookup (nat_eq k) es) ≡ Some u = found in
    let it : Some w ≡ Some u = sym (ap (λ b. cond b (Some w) (lookup (nat_eq k) es)) is) ∙ here in
    cc
read_step k e es rest w u false is later found =
    let here : cond (nat_eq k e.0) (Some e.1) (lookup (nat_eq k) rest) ≡ Some u = found in
    later (sym (ap (λ b. cond b (Some e.1) (lookup (nat_eq k) rest)) is) ∙ here)

pub read_back : (k : ℕ) (es : Entries) (w u : NumberedKqueue) → lookup (nat_eq k) (set_value (nat_eq k) es w) ≡ Some u
    → u ≡ w
read_back k [] w u found = absurd (cc)
read_back k (e ∷ es) w u found =
    read_step k e es (set_value (nat_eq k) es w) w u (nat_eq k e.0) refl (read_back k es w u) found

module _ (round : ℕ) (Told : NumberedKqueue → NumberedKqueue → Type 0) where
  abbrev Passed : NumberedKqueue → NumberedKqueue → Type 0
  Passed = IsPassed round Told

  abbrev All_passed : Entries → Entries → Type 0
  All_passed = ArePassed round Told

  -- ---- one kqueue

  pub passed-same : (v : NumberedKqueue) → Passed v v
  passed-same v = record {
    number = refl;
    owner = refl;
    version = refl;
    unseen = λ _. refl;
    already = λ _. refl;
    told = λ fresh seen. absurd (fresh seen);
  }

  told_before : (u v w : NumberedKqueue) → w ≡ v → Told u v → Told u w
  told_before u v w same told = subst (Told u) (sym same) told

  told_later : (u v w : NumberedKqueue) → v ≡ u → Told v w → Told u w
  told_later u v w same told = subst (λ x. Told x w) same told

  pub passed-twice : (u v w : NumberedKqueue) → Passed u v → Passed v w → Passed u w
  passed-twice u v w first second = record {
    number = second.number ∙ first.number;
    owner = second.owner ∙ first.owner;
    version = second.version ∙ first.version;
    unseen = λ unseen. second.unseen unseen
        ∙ first.unseen (λ seen. unseen (ap (λ (x : NumberedKqueue). x.shown) (second.already seen) ∙ seen));
    already = λ seen. second.already (ap (λ (x : NumberedKqueue). x.shown) (first.already seen) ∙ seen)
        ∙ first.already seen;
    told = λ fresh seen. by_test (λ b. nat_eq v.shown round ≡ b → Told u w)
        (nat_eq v.shown round)
        (λ _ is. let shown = is_number v.shown round is in
        told_before u v w (second.already shown) (first.told fresh shown))
        (λ _ other. let unseen = is_other v.shown round other in
        told_later u v w (first.unseen unseen) (second.told unseen seen)) refl;
  }

  -- ---- all of them

  pub all_passed-same : (es : Entries) → All_passed es es
  all_passed-same [] = tt
  all_passed-same (e ∷ es) = (refl, passed-same e.1, all_passed-same es)

  pub all_passed-twice : (xs ys zs : Entries) → All_passed xs ys → All_passed ys zs → All_passed xs zs
  all_passed-twice [] [] [] first second = tt
  all_passed-twice [] [] (z ∷ zs) first second = second
  all_passed-twice [] (y ∷ ys) zs first second = absurd first
  all_passed-twice (x ∷ xs) [] zs first second = absurd first
  all_passed-twice (x ∷ xs) (y ∷ ys) [] first second = second
  all_passed-twice (x ∷ xs) (y ∷ ys) (z ∷ zs) first second = (
    second.0 ∙ first.0,
    passed-twice x.1 y.1 z.1 first.1 second.1,
    all_passed-twice xs ys zs first.2 second.2,
  )

  written : (k : ℕ) (e : ℕ × NumberedKqueue) (es rest : Entries) (v w : NumberedKqueue) (b : Bool)
      → cond b (Some e.1) (lookup (nat_eq k) es) ≡ Some v → Passed v w
      → (lookup (nat_eq k) es ≡ Some v → All_passed es rest) → All_passed (e ∷ es) (cond b ((e.0, w) ∷ es) (e ∷ rest))
  written k e es rest v w true found passed later =
      let it : e.1 ≡ v = cc in
      (refl, subst (λ (x : NumberedKqueue). Passed x w) (sym it) passed, all_passed-same es)
  written k e es rest v w false found passed later = (refl, passed-same e.1, later found)

  pub all_passed-set : (k : ℕ) (es : Entries) (v w : NumberedKqueue) → lookup (nat_eq k) es ≡ Some v → Passed v w
      → All_passed es (set_value (nat_eq k) es w)
  all_passed-set k [] v w found passed = absurd (cc)
  all_passed-set k (e ∷ es) v w found passed =
      written k e es (set_value (nat_eq k) es w) v w (nat_eq k e.0) found passed
      (λ there. all_passed-set k es v w there passed)

  -- what is found afterwards was found before, and was passed
  pub record Was (k : ℕ) (es : Entries) (w : NumberedKqueue) : Type 0 where
    pub it : NumberedKqueue
    pub found : lookup (nat_eq k) es ≡ Some it
    pub passed : Passed it w

  was_step : (k : ℕ) (e : ℕ × NumberedKqueue) (es : Entries) (n : ℕ × NumberedKqueue) (rest : Option NumberedKqueue)
      (w : NumberedKqueue) (b : Bool) → nat_eq k e.0 ≡ b → Passed e.1 n.1 → cond b (Some n.1) rest ≡ Some w
      → (rest ≡ Some w → Was k es w) → Was k (e ∷ es) w
  was_step k e es n rest w true is passed found later =
      let it : n.1 ≡ w = cc in
      record {
        it = e.1;
        found = ap (λ b. cond b (Some e.1) (lookup (nat_eq k) es)) is;
        passed = subst (Passed e.1) it passed;
      }
  was_step k e es n rest w false is passed found later =
      let was = later found in
      record {
        it = was.it;
        found = ap (λ b. cond b (Some e.1) (lookup (nat_eq k) es)) is ∙ was.found;
        passed = was.passed;
      }

  pub was : (k : ℕ) (es ns : Entries) (w : NumberedKqueue) → All_passed es ns → lookup (nat_eq k) ns ≡ Some w → Was k es w
  was k [] [] w passed found = absurd (cc)
  was k [] (n ∷ ns) w passed found = absurd passed
  was k (e ∷ es) [] w passed found = absurd passed
  was k (e ∷ es) (n ∷ ns) w passed found =
      was_step k e es n (lookup (nat_eq k) ns) w (nat_eq k e.0) refl passed.1
      (ap (λ j. cond (nat_eq k j) (Some n.1) (lookup (nat_eq k) ns)) (sym passed.0) ∙ found)
      (λ there. was k es ns w passed.2 there)

  -- ---- some that are shown the record

  abbrev Shown : (ℕ → Bool) → Bool → Entries → Entries → Type 0
  Shown = AreShown round Told

  or_false : (a b : Bool) → (a || b) ≡ false → (a ≡ false) × (b ≡ false)
  or_false true b is = absurd (cc)
  or_false false b is = (refl, is)

  or_true : (a b : Bool) → (a || b) ≡ true → (a ≡ false → b ≡ true)
  or_true true b is none = absurd (cc)
  or_true false b is none = is

  pub shown-none : (es : Entries) → Shown (λ _. false) false es es
  shown-none es = record {
    passed = all_passed-same es;
    seen = λ place w asked found. absurd (cc);
    calm = λ none all. all;
  }

  still_seen : (f : ℕ → Bool) (a : Bool) (es ns ms : Entries) → Shown f a es ns → All_passed ns ms
      → (place : ℕ) (w : NumberedKqueue) → f place ≡ true → lookup (nat_eq place) ms ≡ Some w → w.shown ≡ round
  still_seen f a es ns ms shown passed place w asked found =
      let before = was place ns ms w passed found in
      let seen = shown.seen place before.it asked before.found in
      ap (λ (x : NumberedKqueue). x.shown) (before.passed.already seen) ∙ seen

  pub shown-both : (f g : ℕ → Bool) (a b : Bool) (es ns ms : Entries) → Shown f a es ns → Shown g b ns ms
      → Shown (λ p. f p || g p) (a || b) es ms
  shown-both f g a b es ns ms first second = record {
    passed = all_passed-twice es ns ms first.passed second.passed;
    seen = λ place w asked found. by_test (λ c. f place ≡ c → w.shown ≡ round) (f place)
        (λ _ is. still_seen f a es ns ms first second.passed place w is found)
        (λ _ is. second.seen place w (or_true (f place) (g place) asked is) found) refl;
    calm = λ none all. let both = or_false a b none in second.calm both.1 (first.calm both.0 all);
  }

  pub shown-of : (f g : ℕ → Bool) (a b : Bool) (es ns : Entries) → a ≡ b → ((p : ℕ) → g p ≡ true → f p ≡ true)
      → Shown f a es ns → Shown g b es ns
  shown-of f g a b es ns same asks shown = record {
    passed = shown.passed;
    seen = λ place w asked found. shown.seen place w (asks place asked) found;
    calm = λ none all. shown.calm (same ∙ none) all;
  }

  -- the kqueue of one place
  pub shown-absent : (place : ℕ) (es : Entries) → lookup (nat_eq place) es ≡ None → Shown (λ p. nat_eq p place) false es es
  shown-absent place es none = record {
    passed = all_passed-same es;
    seen = λ p w asked found.
        let same : p ≡ place = is_number p place asked in
        let there : lookup (nat_eq place) es ≡ Some w = subst (λ j. lookup (nat_eq j) es ≡ Some w) same found in
        absurd (cc);
    calm = λ none all. all;
  }

  pub shown-one : (place : ℕ) (es : Entries) (v w : NumberedKqueue) → lookup (nat_eq place) es ≡ Some v → Passed v w
      → w.shown ≡ round → Shown (λ p. nat_eq p place) w.ended es (set_value (nat_eq place) es w)
  shown-one place es v w found passed shown = record {
    passed = all_passed-set place es v w found passed;
    seen = λ p u asked there.
        let same : p ≡ place = is_number p place asked in
        ap (λ (x : NumberedKqueue). x.shown)
        (read_back place es w u (subst (λ j. lookup (nat_eq j) (set_value (nat_eq place) es w) ≡ Some u) same there))
        ∙ shown;
    calm = λ none all. Each-set (λ place v. v.ended ≡ false) place es w all (λ j hit. none);
  }

  -- one that ends at no record of this kind
  pub shown-standing : (place : ℕ) (es : Entries) (v w : NumberedKqueue) → lookup (nat_eq place) es ≡ Some v → Passed v w
      → w.shown ≡ round → w.ended ≡ v.ended → Shown (λ p. nat_eq p place) false es (set_value (nat_eq place) es w)
  shown-standing place es v w found passed shown stands =
      let one = shown-one place es v w found passed shown in
      record {
        passed = one.passed;
        seen = one.seen;
        calm = λ none all. Each-set (λ place v. v.ended ≡ false) place es w all (λ j hit.
            stands ∙ Each-found (λ place v. v.ended ≡ false) place es v all found);
      }
