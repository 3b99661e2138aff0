-- The table of descriptors: how often it names what, and which numbers are open, before and after
-- descriptors are opened and closed.
use Rattle.std.proofs.Common.{◌≡◌, ◌∙◌, ℕ, ◌+◌, Bool, true, false, cond, not, ◌&&◌, ◌||◌, eqb, ltb, List, [], ◌∷◌, map, filter, Some, None, refl, sym, ap, subst, arith}
use Rattle.std.proofs.lemmas.Bool.{cond_both, eq-eqb}
use Rattle.std.proofs.lemmas.Bool.Decides.{nat_tests}
use Rattle.std.proofs.lemmas.List.Elements.{All-nil, All-cons, All-head, All-tail, All-filter, All-map, All-weaker}
use Rattle.std.proofs.lemmas.Option.{none-some, same_Some}
use Rattle.std.specs.Prelude.{All}
use Rattle.kq_model.specs.declared.object.Named.{Named}
use Rattle.kq_model.specs.Close.{Pair, has_pair}
use Rattle.kq_model.specs.Descriptors.{Descriptor, IsRising, is_before, named_among, with_descriptor, with_descriptors, without_closed}
use Rattle.kq_model.specs.Holders.{is_same, one_if, times}
use Rattle.kq_model.specs.ProcessPlans.{descriptors_of, inheritable, inherited, is_kqueue, names_of, pairs_of}
use Rattle.kq_model.proofs.Descriptors.{absent-head, absent-tail, with_descriptor-rising}
use Rattle.kq_model.proofs.KnoteLaws.{by_test}

-- ---- names, where descriptors are opened

pub times-with_descriptor : (m : Named) (d : Descriptor) (es : List Descriptor)
    → times m (names_of (with_descriptor d es)) ≡ times m (names_of es) + one_if (is_same m d.named)
unfolding with_descriptor times
times-with_descriptor m d [] = refl
times-with_descriptor m d (e ∷ es) =
    cond_both (is_before d e) (d ∷ e ∷ es) (e ∷ with_descriptor d es)
    (λ (t : List Descriptor). times m (names_of t) ≡ times m (names_of es) + one_if (is_same m e.named) + one_if (is_same m d.named))
    (λ _. refl)
    (λ _. let rest = times-with_descriptor m d es in omega arith)

pub times-with_descriptors : (m : Named) (ds es : List Descriptor)
    → times m (names_of (with_descriptors ds es)) ≡ times m (names_of es) + times m (names_of ds)
unfolding with_descriptors times
times-with_descriptors m [] es = omega arith
times-with_descriptors m (d ∷ ds) es =
    let rest = times-with_descriptors m ds (with_descriptor d es) in
    let first = times-with_descriptor m d es in omega arith

-- ---- names, where descriptors are closed

parts_if : (chosen : Bool) (m : Named) (e : Descriptor) (whole rest part : List Descriptor)
    → times m (names_of whole) ≡ times m (names_of rest) + times m (names_of part)
    → times m (names_of (e ∷ whole)) ≡ times m (names_of (cond (not chosen) (e ∷ rest) rest)) + times m (names_of (cond chosen (e ∷ part) part))
unfolding times
parts_if true m e whole rest part is = omega arith
parts_if false m e whole rest part is = omega arith

-- those that pass a test, and the others
pub times-parts : (test : Descriptor → Bool) (m : Named) (es : List Descriptor)
    → times m (names_of es) ≡ times m (names_of (filter (λ d. not (test d)) es)) + times m (names_of (filter test es))
unfolding times
times-parts test m [] = refl
times-parts test m (e ∷ es) =
    parts_if (test e) m e es (filter (λ d. not (test d)) es) (filter test es) (times-parts test m es)

pub without_closed-nothing : (es : List Descriptor) → without_closed [] es ≡ es
without_closed-nothing [] = refl
without_closed-nothing (e ∷ es) = ap (λ (t : List Descriptor). e ∷ t) (without_closed-nothing es)

abbrev pub one_pair : ℕ → ℕ → List Pair
one_pair pid number = record { pid = pid; number = number } ∷ []

has_one : (p n q m : ℕ) → (eqb p q && eqb n m) || false ≡ eqb q p && eqb m n
has_one p n q m = grind (arith, nat_tests)

pub has_pair-one : (pid number q m : ℕ) → has_pair q m (one_pair pid number) ≡ eqb q pid && eqb m number
has_pair-one pid number q m = has_one pid number q m

apart_numbers : (p n q m a b : ℕ) → (eqb p a && eqb n b) ≡ true → (ltb p q || (eqb p q && ltb n m)) ≡ true → (eqb q a && eqb m b) ≡ false
apart_numbers p n q m a b = grind (arith, nat_tests)

-- what comes after a descriptor has another number
apart : (e x : Descriptor) (pid number : ℕ) → (eqb e.pid pid && eqb e.number number) ≡ true → is_before e x ≡ true
    → (eqb x.pid pid && eqb x.number number) ≡ false
unfolding is_before
apart e x pid number = apart_numbers e.pid e.number x.pid x.number pid number

without_closed-later : (e : Descriptor) (pid number : ℕ) (es : List Descriptor) → (eqb e.pid pid && eqb e.number number) ≡ true
    → All (λ x. is_before e x ≡ true) es → without_closed (one_pair pid number) es ≡ es
without_closed-later e pid number [] here later = refl
without_closed-later e pid number (x ∷ es) here later =
    let away = has_pair-one pid number x.pid x.number ∙ apart e x pid number here (All-head (λ y. is_before e y ≡ true) x es later) in
    ap (λ b. cond (not b) (x ∷ without_closed (one_pair pid number) es) (without_closed (one_pair pid number) es)) away
    ∙ ap (λ (t : List Descriptor). x ∷ t) (without_closed-later e pid number es here (All-tail (λ y. is_before e y ≡ true) x es later))

abbrev rest : ℕ → ℕ → List Descriptor → List Descriptor
rest pid number es = without_closed (one_pair pid number) es

-- one number is closed, and what it named is named once less
pub times-without : (m n : Named) (pid number : ℕ) (es : List Descriptor) → IsRising es → named_among pid number es ≡ Some n
    → times m (names_of es) ≡ times m (names_of (without_closed (one_pair pid number) es)) + one_if (is_same m n)
unfolding named_among times
times-without m n pid number [] rising found = absurd (none-some n found)
times-without m n pid number (e ∷ es) rising found =
    by_test (λ b. (eqb e.pid pid && eqb e.number number) ≡ b → cond b (Some e.named) (named_among pid number es) ≡ Some n
    → times m (names_of (e ∷ es)) ≡ times m (names_of (cond (not b) (e ∷ rest pid number es) (rest pid number es))) + one_if (is_same m n)) (eqb e.pid pid && eqb e.number number)
    (λ _ here first. ap (λ (t : List Descriptor). times m (names_of t) + one_if (is_same m e.named)) (sym (without_closed-later e pid number es here rising.0))
    ∙ ap (λ (k : Named). times m (names_of (rest pid number es)) + one_if (is_same m k)) (same_Some e.named n first))
    (λ _ _ later. let less = times-without m n pid number es rising.1 later in omega arith)
    refl found
    ∙ ap (λ b. times m (names_of (cond (not b) (e ∷ rest pid number es) (rest pid number es))) + one_if (is_same m n)) (sym (has_pair-one pid number e.pid e.number))

-- ---- all descriptors of a process

same_pid : (p a x : ℕ) → eqb p a ≡ true → eqb x a ≡ false → eqb p x ≡ false
same_pid p a x = grind (arith, nat_tests)

no_pair : (a b c : Bool) → a ≡ false → c ≡ false → (a && b) || c ≡ false
no_pair a b c not_a not_c = ap (λ t. (t && b) || c) not_a ∙ not_c

no_pair_of : (pid x n : ℕ) (es : List Descriptor) → eqb x pid ≡ false → has_pair x n (pairs_of (descriptors_of pid es)) ≡ false
no_pair_of pid x n [] other = refl
no_pair_of pid x n (e ∷ es) other =
    by_test (λ b. eqb e.pid pid ≡ b → has_pair x n (pairs_of (cond b (e ∷ descriptors_of pid es) (descriptors_of pid es))) ≡ false) (eqb e.pid pid)
    (λ _ own. no_pair (eqb e.pid x) (eqb e.number n) (has_pair x n (pairs_of (descriptors_of pid es))) (same_pid e.pid pid x own other) (no_pair_of pid x n es other))
    (λ _ _. no_pair_of pid x n es other) refl

-- in a longer list it is found too
pair_behind : (pid x n : ℕ) (e : Descriptor) (es : List Descriptor) → has_pair x n (pairs_of (descriptors_of pid es)) ≡ true
    → has_pair x n (pairs_of (descriptors_of pid (e ∷ es))) ≡ true
pair_behind pid x n e es there =
    by_test (λ b. has_pair x n (pairs_of (cond b (e ∷ descriptors_of pid es) (descriptors_of pid es))) ≡ true) (eqb e.pid pid)
    (λ _. by_test (λ c. c || has_pair x n (pairs_of (descriptors_of pid es)) ≡ true) (eqb e.pid x && eqb e.number n) (λ _. refl) (λ _. there))
    (λ _. there)

pair_first : (pid : ℕ) (e : Descriptor) (es : List Descriptor) → eqb e.pid pid ≡ true → has_pair e.pid e.number (pairs_of (descriptors_of pid (e ∷ es))) ≡ true
pair_first pid e es own =
    ap (λ b. has_pair e.pid e.number (pairs_of (cond b (e ∷ descriptors_of pid es) (descriptors_of pid es)))) own
    ∙ ap (λ b. (b && eqb e.number e.number) || has_pair e.pid e.number (pairs_of (descriptors_of pid es))) (eq-eqb e.pid e.pid refl)
    ∙ ap (λ b. b || has_pair e.pid e.number (pairs_of (descriptors_of pid es))) (eq-eqb e.number e.number refl)

-- a descriptor is among those that are closed where it is one of the process
abbrev AgreesOn : ℕ → List Descriptor → Descriptor → Type 0
AgreesOn pid es d = has_pair d.pid d.number (pairs_of (descriptors_of pid es)) ≡ eqb d.pid pid

agrees-first : (pid : ℕ) (e : Descriptor) (es : List Descriptor) → AgreesOn pid (e ∷ es) e
agrees-first pid e es =
    by_test (λ b. eqb e.pid pid ≡ b → has_pair e.pid e.number (pairs_of (descriptors_of pid (e ∷ es))) ≡ b) (eqb e.pid pid)
    (λ _ own. pair_first pid e es own) (λ _ other. no_pair_of pid e.pid e.number (e ∷ es) other) refl

agrees-later : (pid : ℕ) (e d : Descriptor) (es : List Descriptor) → AgreesOn pid es d → AgreesOn pid (e ∷ es) d
agrees-later pid e d es agrees =
    by_test (λ b. eqb d.pid pid ≡ b → has_pair d.pid d.number (pairs_of (descriptors_of pid (e ∷ es))) ≡ b) (eqb d.pid pid)
    (λ _ own. pair_behind pid d.pid d.number e es (agrees ∙ own)) (λ _ other. no_pair_of pid d.pid d.number (e ∷ es) other) refl

filter-same : (closed : List Pair) (pid : ℕ) (es : List Descriptor) → All (λ (d : Descriptor). has_pair d.pid d.number closed ≡ eqb d.pid pid) es
    → without_closed closed es ≡ filter (λ d. not (eqb d.pid pid)) es
filter-same closed pid [] agree = refl
filter-same closed pid (e ∷ es) agree =
    ap (λ b. cond (not b) (e ∷ without_closed closed es) (without_closed closed es)) (All-head (λ (d : Descriptor). has_pair d.pid d.number closed ≡ eqb d.pid pid) e es agree)
    ∙ ap (λ (t : List Descriptor). cond (not (eqb e.pid pid)) (e ∷ t) t) (filter-same closed pid es (All-tail (λ (d : Descriptor). has_pair d.pid d.number closed ≡ eqb d.pid pid) e es agree))

agree-all : (pid : ℕ) (es : List Descriptor) → All (AgreesOn pid es) es
agree-all pid [] = All-nil (AgreesOn pid [])
agree-all pid (e ∷ es) =
    All-cons (AgreesOn pid (e ∷ es)) e es (agrees-first pid e es)
    (All-weaker (AgreesOn pid es) (AgreesOn pid (e ∷ es)) (λ d. agrees-later pid e d es) es (agree-all pid es))

-- the descriptors of a process are closed, and those of the others stay
pub without_closed-process : (pid : ℕ) (es : List Descriptor)
    → without_closed (pairs_of (descriptors_of pid es)) es ≡ filter (λ d. not (eqb d.pid pid)) es
without_closed-process pid es = filter-same (pairs_of (descriptors_of pid es)) pid es (agree-all pid es)

-- ---- which numbers are open

pub named_among-closed : (pid number : ℕ) (es : List Descriptor) → named_among pid number (without_closed (one_pair pid number) es) ≡ None
unfolding named_among
named_among-closed pid number [] = refl
named_among-closed pid number (e ∷ es) =
    ap (λ b. named_among pid number (cond (not b) (e ∷ rest pid number es) (rest pid number es))) (has_pair-one pid number e.pid e.number)
    ∙ by_test (λ b. (eqb e.pid pid && eqb e.number number) ≡ b → named_among pid number (cond (not b) (e ∷ rest pid number es) (rest pid number es)) ≡ None) (eqb e.pid pid && eqb e.number number)
    (λ _ _. named_among-closed pid number es)
    (λ _ away. ap (λ b. cond b (Some e.named) (named_among pid number (rest pid number es))) away ∙ named_among-closed pid number es) refl

-- what holds of all that is named holds of what a number names
pub named_among-all : (P : Named → Type 0) (pid number : ℕ) (n : Named) (es : List Descriptor) → All (λ (d : Descriptor). P d.named) es
    → named_among pid number es ≡ Some n → P n
unfolding named_among
named_among-all P pid number n [] all found = absurd (none-some n found)
named_among-all P pid number n (e ∷ es) all found =
    by_test (λ b. cond b (Some e.named) (named_among pid number es) ≡ Some n → P n) (eqb e.pid pid && eqb e.number number)
    (λ _ first. subst P (same_Some e.named n first) (All-head (λ (d : Descriptor). P d.named) e es all))
    (λ _ later. named_among-all P pid number n es (All-tail (λ (d : Descriptor). P d.named) e es all) later) found

-- a process without descriptors
pub named_among-none : (pid number : ℕ) (es : List Descriptor) → All (λ (d : Descriptor). eqb d.pid pid ≡ false) es → named_among pid number es ≡ None
unfolding named_among
named_among-none pid number [] others = refl
named_among-none pid number (e ∷ es) others =
    ap (λ b. cond (b && eqb e.number number) (Some e.named) (named_among pid number es)) (All-head (λ (d : Descriptor). eqb d.pid pid ≡ false) e es others)
    ∙ named_among-none pid number es (All-tail (λ (d : Descriptor). eqb d.pid pid ≡ false) e es others)

-- another number that is opened is not this one
pub named_among-with : (pid number : ℕ) (d : Descriptor) (es : List Descriptor) → (eqb d.pid pid && eqb d.number number) ≡ false
    → named_among pid number es ≡ None → named_among pid number (with_descriptor d es) ≡ None
unfolding named_among with_descriptor
named_among-with pid number d [] away absent = ap (λ b. cond b (Some d.named) None) away
named_among-with pid number d (e ∷ es) away absent =
    cond_both (is_before d e) (d ∷ e ∷ es) (e ∷ with_descriptor d es) (λ (t : List Descriptor). named_among pid number t ≡ None)
    (λ _. ap (λ b. cond b (Some d.named) (named_among pid number (e ∷ es))) away ∙ absent)
    (λ _. ap (λ b. cond b (Some e.named) (named_among pid number (with_descriptor d es))) (absent-head pid number e es absent)
    ∙ named_among-with pid number d es away (absent-tail pid number e es absent))

-- each number is new, after those before it
abbrev pub AreNew : List Descriptor → List Descriptor → Type 0
AreNew [] table = Unit {0}
AreNew (d ∷ ds) table = (named_among d.pid d.number table ≡ None) × AreNew ds (with_descriptor d table)

pub with_descriptors-rising : (ds es : List Descriptor) → AreNew ds es → IsRising es → IsRising (with_descriptors ds es)
unfolding with_descriptors
with_descriptors-rising [] es new rising = rising
with_descriptors-rising (d ∷ ds) es new rising = with_descriptors-rising ds (with_descriptor d es) new.1 (with_descriptor-rising d es new.0 rising)

-- ---- a child's copies

abbrev IsNew : List Descriptor → Descriptor → Type 0
IsNew table d = named_among d.pid d.number table ≡ None

differ_numbers : (p n q m : ℕ) → (ltb p q || (eqb p q && ltb n m)) ≡ true → (eqb p q && eqb n m) ≡ false
differ_numbers p n q m = grind (arith, nat_tests)

differ : (d x : Descriptor) → is_before d x ≡ true → (eqb d.pid x.pid && eqb d.number x.number) ≡ false
unfolding is_before
differ d x = differ_numbers d.pid d.number x.pid x.number

still_new : (d : Descriptor) (ds es : List Descriptor) → All (λ x. is_before d x ≡ true) ds → All (IsNew es) ds → All (IsNew (with_descriptor d es)) ds
still_new d [] es later new = All-nil (IsNew (with_descriptor d es))
still_new d (x ∷ ds) es later new =
    All-cons (IsNew (with_descriptor d es)) x ds
    (named_among-with x.pid x.number d es (differ d x (All-head (λ y. is_before d y ≡ true) x ds later)) (All-head (IsNew es) x ds new))
    (still_new d ds es (All-tail (λ y. is_before d y ≡ true) x ds later) (All-tail (IsNew es) x ds new))

new-rising : (ds es : List Descriptor) → IsRising ds → All (IsNew es) ds → AreNew ds es
new-rising [] es rising new = tt
new-rising (d ∷ ds) es rising new =
    (All-head (IsNew es) d ds new, new-rising ds (with_descriptor d es) rising.1 (still_new d ds es rising.0 (All-tail (IsNew es) d ds new)))

filter-rising : (test : Descriptor → Bool) (es : List Descriptor) → IsRising es → IsRising (filter test es)
filter-rising test [] rising = tt
filter-rising test (e ∷ es) rising =
    cond_both (test e) (e ∷ filter test es) (filter test es) IsRising
    (λ _. (All-filter test (λ x. is_before e x ≡ true) es rising.0, filter-rising test es rising.1)) (λ _. filter-rising test es rising.1)

own-all : (pid : ℕ) (es : List Descriptor) → All (λ (d : Descriptor). eqb d.pid pid ≡ true) (descriptors_of pid es)
own-all pid [] = All-nil (λ (d : Descriptor). eqb d.pid pid ≡ true)
own-all pid (e ∷ es) =
    by_test (λ b. eqb e.pid pid ≡ b → All (λ (d : Descriptor). eqb d.pid pid ≡ true) (cond b (e ∷ descriptors_of pid es) (descriptors_of pid es))) (eqb e.pid pid)
    (λ _ own. All-cons (λ (d : Descriptor). eqb d.pid pid ≡ true) e (descriptors_of pid es) own (own-all pid es)) (λ _ _. own-all pid es) refl

abbrev copies : ℕ → List Descriptor → List Descriptor
copies child ds = map (λ (d : Descriptor). record d { pid = child }) ds

copied_numbers : (p n q m pid child : ℕ) → eqb p pid ≡ true → eqb q pid ≡ true → (ltb p q || (eqb p q && ltb n m)) ≡ true
    → (ltb child child || (eqb child child && ltb n m)) ≡ true
copied_numbers p n q m pid child = grind (arith, nat_tests)

copied : (pid child : ℕ) (d x : Descriptor) → eqb d.pid pid ≡ true → eqb x.pid pid ≡ true → is_before d x ≡ true
    → is_before (record d { pid = child }) (record x { pid = child }) ≡ true
unfolding is_before
copied pid child d x = copied_numbers d.pid d.number x.pid x.number pid child

copied-all : (pid child : ℕ) (d : Descriptor) (ds : List Descriptor) → eqb d.pid pid ≡ true → All (λ (x : Descriptor). eqb x.pid pid ≡ true) ds
    → All (λ x. is_before d x ≡ true) ds → All (λ x. is_before (record d { pid = child }) x ≡ true) (copies child ds)
copied-all pid child d [] own all later = All-nil (λ x. is_before (record d { pid = child }) x ≡ true)
copied-all pid child d (x ∷ ds) own all later =
    All-cons (λ y. is_before (record d { pid = child }) y ≡ true) (record x { pid = child }) (copies child ds)
    (copied pid child d x own (All-head (λ (y : Descriptor). eqb y.pid pid ≡ true) x ds all) (All-head (λ y. is_before d y ≡ true) x ds later))
    (copied-all pid child d ds own (All-tail (λ (y : Descriptor). eqb y.pid pid ≡ true) x ds all) (All-tail (λ y. is_before d y ≡ true) x ds later))

copies-rising : (pid child : ℕ) (ds : List Descriptor) → All (λ (d : Descriptor). eqb d.pid pid ≡ true) ds → IsRising ds → IsRising (copies child ds)
copies-rising pid child [] all rising = tt
copies-rising pid child (d ∷ ds) all rising = (
  copied-all pid child d ds (All-head (λ (x : Descriptor). eqb x.pid pid ≡ true) d ds all) (All-tail (λ (x : Descriptor). eqb x.pid pid ≡ true) d ds all) rising.0,
  copies-rising pid child ds (All-tail (λ (x : Descriptor). eqb x.pid pid ≡ true) d ds all) rising.1,
)

copies-new : (child : ℕ) (ds es : List Descriptor) → ((number : ℕ) → named_among child number es ≡ None) → All (IsNew es) (copies child ds)
copies-new child [] es none = All-nil (IsNew es)
copies-new child (d ∷ ds) es none = All-cons (IsNew es) (record d { pid = child }) (copies child ds) (none d.number) (copies-new child ds es none)

-- what a child inherits is new, where the child has no descriptor yet
pub inherited-new : (pid child : ℕ) (es : List Descriptor) → IsRising es → ((number : ℕ) → named_among child number es ≡ None) → AreNew (inherited pid child es) es
inherited-new pid child es rising none =
    new-rising (inherited pid child es) es
    (copies-rising pid child (inheritable (descriptors_of pid es))
    (All-filter (λ (d : Descriptor). not (is_kqueue d.named)) (λ (d : Descriptor). eqb d.pid pid ≡ true) (descriptors_of pid es) (own-all pid es))
    (filter-rising (λ (d : Descriptor). not (is_kqueue d.named)) (descriptors_of pid es) (filter-rising (λ (d : Descriptor). eqb d.pid pid) es rising)))
    (copies-new child (inheritable (descriptors_of pid es)) es none)

-- what a child inherits names what the descriptors of the table name
pub inherited-all : (P : Named → Type 0) (pid child : ℕ) (es : List Descriptor) → All (λ (d : Descriptor). P d.named) es
    → All (λ (d : Descriptor). P d.named) (inherited pid child es)
inherited-all P pid child es all =
    All-map (λ (d : Descriptor). P d.named) (λ (d : Descriptor). record d { pid = child }) (inheritable (descriptors_of pid es))
    (All-filter (λ (d : Descriptor). not (is_kqueue d.named)) (λ (d : Descriptor). P d.named) (descriptors_of pid es)
    (All-filter (λ (d : Descriptor). eqb d.pid pid) (λ (d : Descriptor). P d.named) es all))

copies-owned : (P : ℕ → Type 0) (child : ℕ) (ds : List Descriptor) → P child → All (λ (d : Descriptor). P d.pid) (copies child ds)
copies-owned P child [] own = All-nil (λ (d : Descriptor). P d.pid)
copies-owned P child (d ∷ ds) own = All-cons (λ (d : Descriptor). P d.pid) (record d { pid = child }) (copies child ds) own (copies-owned P child ds own)

-- and all of it is the child's
pub inherited-owned : (P : ℕ → Type 0) (pid child : ℕ) (es : List Descriptor) → P child → All (λ (d : Descriptor). P d.pid) (inherited pid child es)
inherited-owned P pid child es own = copies-owned P child (inheritable (descriptors_of pid es)) own
