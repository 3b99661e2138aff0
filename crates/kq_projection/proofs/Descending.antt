-- The least sources with the children of their processes are those of a kqueue's private list.
use Rattle.std.proofs.Common.{◌≡◌, ◌∙◌, ◌==◌, ◌||◌, eqb, ℕ, Bool, true, false, cond, List, [], ◌∷◌, ◌++◌, map, Option, Some, None, refl, sym, ap, subst}
use Rattle.std.specs.List.{All, Contains, list_any}
use Rattle.std.proofs.lemmas.Bool.{eqb-true, false≢true, or_left, or_right}
use Rattle.std.proofs.lemmas.List.Elements.{All-nil, All-cons, All-head, All-tail, All-append, All-map, All-weaker, All-contains, All-contains_itself}
use Rattle.kq_model.specs.declared.object.Hint.TheVariants.{Child}
use Rattle.kq_model.specs.declared.object.Target.{Target}
use Rattle.kq_model.specs.declared.object.Target.TheVariants.{Process}
use Rattle.kq_model.specs.Clock.{Span}
use Rattle.kq_model.specs.Following.{Fork, forks_of, all_forks, forks_in}
use Rattle.kq_model.specs.Items as model
use Rattle.kq_model.specs.Moment.{Moment}
use Rattle.kq_model.specs.References.{Reference, has_pid, with_child, descended, forks_at, pid_of, pids_in, is_process_of}
use Rattle.kq_model.specs.Targets.{Posted, is_target, target_eq}
use Rattle.kq_model.specs.World.{Call}
use Rattle.kq_model.proofs.Descended.{AreBornFirst, PassesOn, descended-closed, descended-keeps, named-pid}
use Rattle.kq_model.proofs.KnoteLaws.{by_test}
use Rattle.kq_model.proofs.ListFilters.{All-left, All-right, All-unmap}
use Rattle.kq_projection.specs.declared.history.item.Item.{Item}
use Rattle.kq_projection.specs.declared.history.item.Source.{Source}
use Rattle.kq_projection.specs.declared.history.item.Source.TheVariants as source
use Rattle.kq_projection.specs.declared.history.item.What.{What}
use Rattle.kq_projection.specs.declared.history.item.What.TheVariants as what
use Rattle.kq_projection.specs.Children.{of_process, IsForkIn, AreClosed, AreWithChildren}
use Rattle.kq_projection.specs.Items.{bare, bare_items, has_source}

-- ---- what holds of the forks of the moments holds of the items that tell of them, and the other way round

module _ (P : Fork → Type 0) where
  abbrev OnTold : Posted → Type 0
  OnTold p = All P (forks_of p.0 p.1)

  abbrev OnWhat : What → Type 0
  OnWhat (what.Told target hint) = All P (forks_of target hint)
  OnWhat (what.Closed pid number) = Unit {0}
  OnWhat (what.Clocked from to) = Unit {0}
  OnWhat (what.Called kqueue) = Unit {0}

  abbrev OnItem : Item → Type 0
  OnItem i = OnWhat i.what

  told-forks : (posted : List Posted) → All OnTold posted → All P (all_forks posted)
  unfolding all_forks
  told-forks [] all = All-nil P
  told-forks (p ∷ posted) all =
      All-append P (forks_of p.0 p.1) (all_forks posted) (All-head OnTold p posted all) (told-forks posted (All-tail OnTold p posted all))

  forks-told : (posted : List Posted) → All P (all_forks posted) → All OnTold posted
  unfolding all_forks
  forks-told [] all = All-nil OnTold
  forks-told (p ∷ posted) all =
      All-cons OnTold p posted (All-left P (forks_of p.0 p.1) (all_forks posted) all)
      (forks-told posted (All-right P (forks_of p.0 p.1) (all_forks posted) all))

  abbrev OnModel : model.What → Type 0
  OnModel (model.Told p) = OnTold p
  OnModel (model.Closed p) = Unit {0}
  OnModel (model.Clocked span) = Unit {0}
  OnModel (model.Called c) = Unit {0}

  abbrev OnBare : model.Item → Type 0
  OnBare i = OnItem (bare i)

  abbrev at : ℕ → model.What → model.Item
  at place w = record { place = place; what = w }

  -- ---- one moment

  module _ (m : Moment) (later : eqb m.version 1 ≡ false) where
    here : forks_in m.version m.hints ≡ all_forks m.hints
    here = ap (λ b. cond b [] (all_forks m.hints)) later

    abbrev OnSaid : model.What → Type 0
    OnSaid w = OnItem (bare (at m.place w))

    abbrev rest_of : List model.What
    rest_of = map model.Told m.hints ++ (model.clock_whats m.clock ++ model.call_whats m.call)

    silent-clock : (span : Option Span) → All (λ w. OnItem (bare (at m.place w))) (model.clock_whats span)
    unfolding model.clock_whats
    silent-clock None = All-nil OnSaid
    silent-clock (Some span) = All-cons OnSaid (model.Clocked span) [] tt (All-nil OnSaid)

    silent-call : (c : Option Call) → All (λ w. OnItem (bare (at m.place w))) (model.call_whats c)
    unfolding model.call_whats
    silent-call None = All-nil OnSaid
    silent-call (Some c) = All-cons OnSaid (model.Called c) [] tt (All-nil OnSaid)

    items-moment : All OnBare (model.items_in m) → All P (forks_in m.version m.hints)
    items-moment all =
        let whats = All-unmap OnBare (at m.place) _ all in
        let told = All-left OnSaid (map model.Told m.hints) (model.clock_whats m.clock ++ model.call_whats m.call)
        (All-right OnSaid (map model.Closed m.closed) rest_of whats) in
        subst (All P) (sym here) (told-forks m.hints (All-unmap OnSaid model.Told m.hints told))

    moment-items : All P (forks_in m.version m.hints) → All OnBare (model.items_in m)
    moment-items all =
        All-map OnBare (at m.place) _
        (All-append OnSaid (map model.Closed m.closed) rest_of (All-map OnSaid model.Closed m.closed (always m.closed))
        (All-append OnSaid (map model.Told m.hints) (model.clock_whats m.clock ++ model.call_whats m.call)
        (All-map OnSaid model.Told m.hints (forks-told m.hints (subst (All P) here all)))
        (All-append OnSaid (model.clock_whats m.clock) (model.call_whats m.call) (silent-clock m.clock) (silent-call m.call))))
      where
        always : {X : Type 0} (xs : List X) → All (λ (x : X). Unit {0}) xs
        always [] = All-nil (λ x. Unit {0})
        always (x ∷ xs) = All-cons (λ x. Unit {0}) x xs tt (always xs)

  abbrev IsLater : Moment → Type 0
  IsLater m = eqb m.version 1 ≡ false

  items-forks : (ms : List Moment) → All IsLater ms → All OnBare (model.all_items ms) → All P (forks_at ms)
  unfolding forks_at
  items-forks [] later all = All-nil P
  items-forks (m ∷ ms) later all =
      All-append P (forks_in m.version m.hints) (forks_at ms)
      (items-moment m (All-head IsLater m ms later) (All-left OnBare (model.items_in m) (model.all_items ms) all))
      (items-forks ms (All-tail IsLater m ms later) (All-right OnBare (model.items_in m) (model.all_items ms) all))

  forks-items : (ms : List Moment) → All IsLater ms → All P (forks_at ms) → All OnBare (model.all_items ms)
  unfolding forks_at
  forks-items [] later all = All-nil OnBare
  forks-items (m ∷ ms) later all =
      All-append OnBare (model.items_in m) (model.all_items ms)
      (moment-items m (All-head IsLater m ms later) (All-left P (forks_in m.version m.hints) (forks_at ms) all))
      (forks-items ms (All-tail IsLater m ms later) (All-right P (forks_in m.version m.hints) (forks_at ms) all))

-- ---- the processes that descend are the least that are closed under forks

descended-least : (among : ℕ → Bool) (fs : List Fork) (pids : List ℕ) → All (λ (f : Fork). among f.parent ≡ true → among f.child ≡ true) fs
    → ((pid : ℕ) → has_pid pid pids ≡ true → among pid ≡ true) → (pid : ℕ) → has_pid pid (descended fs pids) ≡ true → among pid ≡ true
unfolding descended
descended-least among [] pids closes named pid there = named pid there
descended-least among (f ∷ fs) pids closes named pid there =
    descended-least among fs (with_child f pids) (All-tail Closes f fs closes) with_one pid there
  where
    Closes : Fork → Type 0
    Closes g = among g.parent ≡ true → among g.child ≡ true

    pushed : (x : ℕ) (xs : List ℕ) → has_pid x (xs ++ f.child ∷ []) ≡ true → ((y : ℕ) → has_pid y xs ≡ true → among y ≡ true) → among f.child ≡ true → among x ≡ true
    pushed x [] is all child =
        by_test (λ b. f.child == x ≡ b → b || false ≡ true → among x ≡ true) (f.child == x)
        (λ _ same _. subst (λ n. among n ≡ true) (eqb-true f.child x same) child) (λ _ _ bad. absurd (false≢true bad)) refl is
    pushed x (y ∷ xs) is all child =
        by_test (λ b. y == x ≡ b → b || has_pid x (xs ++ f.child ∷ []) ≡ true → among x ≡ true) (y == x)
        (λ _ same _. all x (or_left (y == x) (has_pid x xs) same))
        (λ _ _ rest. pushed x xs rest (λ z there. all z (or_right (y == z) (has_pid z xs) there)) child) refl is

    with_one : (x : ℕ) → has_pid x (with_child f pids) ≡ true → among x ≡ true
    with_one x =
        by_test (λ b. has_pid f.parent pids ≡ b → has_pid x (cond b (pids ++ f.child ∷ []) pids) ≡ true → among x ≡ true) (has_pid f.parent pids)
        (λ _ parent is. pushed x pids is named (All-head Closes f fs closes (named f.parent parent)))
        (λ _ _ is. named x is) refl

-- ---- what is picked

pub same_test : (a b : Bool) → (a ≡ true → b ≡ true) → (b ≡ true → a ≡ true) → a ≡ b
same_test true b there back = sym (there refl)
same_test false true there back = back refl
same_test false false there back = refl

-- a pid that is among those of the references is named by one
pid-named : (rs : List Reference) (pid : ℕ) → has_pid pid (pids_in rs) ≡ true → list_any (λ (r : Reference). is_target r.target (Process pid)) rs ≡ true
unfolding pids_in pid_of is_target target_eq
pid-named [] pid there = absurd (false≢true there)
pid-named (r ∷ rs) pid there = by (pid-named rs pid) r.target refl there
  where
    others : Bool
    others = list_any (λ (x : Reference). is_target x.target (Process pid)) rs

    by : (has_pid pid (pids_in rs) ≡ true → others ≡ true) → (t : Option Target) → r.target ≡ t → has_pid pid (pid_of t ++ pids_in rs) ≡ true
        → is_target r.target (Process pid) || others ≡ true
    by more (Some (Process p)) is found =
        by_test (λ b. p == pid ≡ b → b || has_pid pid (pids_in rs) ≡ true → is_target r.target (Process pid) || others ≡ true) (p == pid)
        (λ _ same _. or_left (is_target r.target (Process pid)) others (ap (λ t. is_target t (Process pid)) is ∙ same))
        (λ _ _ later. or_right (is_target r.target (Process pid)) others (more later)) refl found
    by more _ is found = or_right (is_target r.target (Process pid)) others (more found)

-- where no process descends from another
pub no-other : (rs : List Reference) (t : Target) → list_any (λ (r : Reference). is_target r.target t) rs
    ≡ (list_any (λ (r : Reference). is_target r.target t) rs || is_process_of (pids_in rs) t)
unfolding is_process_of
no-other rs t =
    same_test (list_any (λ (r : Reference). is_target r.target t) rs) (list_any (λ (r : Reference). is_target r.target t) rs || is_process_of (pids_in rs) t)
    (λ named. or_left (list_any (λ (r : Reference). is_target r.target t) rs) (is_process_of (pids_in rs) t) named)
    (λ either. by_test (λ b. list_any (λ (r : Reference). is_target r.target t) rs ≡ b → b || is_process_of (pids_in rs) t ≡ true → list_any (λ (r : Reference). is_target r.target t) rs ≡ true)
    (list_any (λ (r : Reference). is_target r.target t) rs) (λ _ named _. named) (λ _ _ found. by t found) refl either)
  where
    by : (x : Target) → is_process_of (pids_in rs) x ≡ true → list_any (λ (r : Reference). is_target r.target x) rs ≡ true
    by (Process pid) found = pid-named rs pid found
    by _ found = absurd (false≢true found)

module _ (ms : List Moment) (rs : List Reference) (named all : List Source) (later : All (λ (m : Moment). eqb m.version 1 ≡ false) ms)
    (born : AreBornFirst (forks_at ms))
    (named_is : (t : Target) → has_source named (source.Of t) ≡ list_any (λ (r : Reference). is_target r.target t) rs)
    (is : AreWithChildren (bare_items (model.all_items ms)) named all) where
  abbrev items : List Item
  items = bare_items (model.all_items ms)

  abbrev pids : List ℕ
  pids = descended (forks_at ms) (pids_in rs)

  abbrev in_pids : Source → Bool
  in_pids (source.Of t) = is_process_of pids t
  in_pids (source.Number pid number) = false
  in_pids source.Clock = false
  in_pids (source.Kqueue place) = false

  abbrev among : Source → Bool
  among x = has_source named x || in_pids x

  parent-in : (pid : ℕ) → among (of_process pid) ≡ true → has_pid pid pids ≡ true
  unfolding is_process_of
  parent-in pid there =
      by_test (λ b. has_source named (of_process pid) ≡ b → b || has_pid pid pids ≡ true → has_pid pid pids ≡ true) (has_source named (of_process pid))
      (λ _ by_name _. descended-keeps (forks_at ms) (pids_in rs) pid (named-pid rs pid (sym (named_is (Process pid)) ∙ by_name)))
      (λ _ _ found. found) refl there

  passes : All (OnItem (PassesOn pids)) items
  passes =
      All-map (OnItem (PassesOn pids)) bare (model.all_items ms)
      (forks-items (PassesOn pids) ms later (descended-closed (forks_at ms) (pids_in rs) born))

  closes : AreClosed items among
  unfolding is_process_of forks_of
  closes parent child told there =
      or_right (has_source named (of_process child)) (has_pid child pids)
      (All-head (PassesOn pids) (record { parent = parent; child = child }) []
      (All-contains (OnItem (PassesOn pids)) items (record { place = told.0; what = what.Told (Process parent) (Child child) }) passes told.1)
      (parent-in parent there))

  -- each that descends is there
  told-itself : (inside : List Item) → All (λ (i : Item). Contains items i) inside
      → All (OnItem (λ f. IsForkIn items f.parent f.child)) inside
  unfolding forks_of
  told-itself [] there = All-nil _
  told-itself (i ∷ inside) there =
      All-cons (OnItem (λ f. IsForkIn items f.parent f.child)) i inside (one i.what refl) (told-itself inside (All-tail (λ (x : Item). Contains items x) i inside there))
    where
      here : Contains items i
      here = All-head (λ (x : Item). Contains items x) i inside there

      one : (w : What) → i.what ≡ w → OnWhat (λ f. IsForkIn items f.parent f.child) w
      one (what.Told (Process parent) (Child child)) at =
          All-cons (λ (f : Fork). IsForkIn items f.parent f.child) (record { parent = parent; child = child }) []
          (i.place, subst (λ w. Contains items (record { place = i.place; what = w })) at here) (All-nil _)
      one (what.Told target hint) at = All-nil _
      one (what.Closed pid number) at = tt
      one (what.Clocked from to) at = tt
      one (what.Called kqueue) at = tt

  all-forks : All (λ (f : Fork). IsForkIn items f.parent f.child) (forks_at ms)
  all-forks =
      items-forks (λ f. IsForkIn items f.parent f.child) ms later
      (All-unmap (OnItem (λ f. IsForkIn items f.parent f.child)) bare (model.all_items ms) (told-itself items (All-contains_itself items)))

  descended-there : (pid : ℕ) → has_pid pid pids ≡ true → has_source all (of_process pid) ≡ true
  descended-there =
      descended-least (λ pid. has_source all (of_process pid)) (forks_at ms) (pids_in rs)
      (All-weaker (λ (f : Fork). IsForkIn items f.parent f.child) (λ (f : Fork). has_source all (of_process f.parent) ≡ true → has_source all (of_process f.child) ≡ true)
      (λ f told there. is.closed f.parent f.child told there) (forks_at ms) all-forks)
      (λ pid there. is.more (of_process pid) (named_is (Process pid) ∙ pid-named rs pid there))

  process-there : (t : Target) → is_process_of pids t ≡ true → has_source all (source.Of t) ≡ true
  unfolding is_process_of
  process-there (Process pid) there = descended-there pid there
  process-there _ there = absurd (false≢true there)

  pub all-of : (t : Target) → has_source all (source.Of t) ≡ (list_any (λ (r : Reference). is_target r.target t) rs || is_process_of pids t)
  all-of t =
      same_test (has_source all (source.Of t)) (list_any (λ (r : Reference). is_target r.target t) rs || is_process_of pids t)
      (λ there. ap (λ b. b || is_process_of pids t) (sym (named_is t)) ∙ is.least among (λ x by_name. or_left (has_source named x) (in_pids x) by_name) closes (source.Of t) there)
      (λ either. by_test (λ b. list_any (λ (r : Reference). is_target r.target t) rs ≡ b → b || is_process_of pids t ≡ true → has_source all (source.Of t) ≡ true)
      (list_any (λ (r : Reference). is_target r.target t) rs)
      (λ _ by_name _. is.more (source.Of t) (named_is t ∙ by_name)) (λ _ _ found. process-there t found) refl either)

  pub all-other : (x : Source) → in_pids x ≡ false → has_source all x ≡ has_source named x
  all-other x out =
      same_test (has_source all x) (has_source named x)
      (λ there. by_test (λ b. has_source named x ≡ b → b || in_pids x ≡ true → b ≡ true) (has_source named x) (λ _ _ _. refl)
      (λ _ _ found. absurd (false≢true (sym out ∙ found))) refl (is.least among (λ y by_name. or_left (has_source named y) (in_pids y) by_name) closes x there))
      (is.more x)
