-- Each step keeps it so: a number that names a kqueue names a live one.
use Rattle.std.proofs.Common.{◌≡◌, ℕ, true, false, cond, not, ◌&&◌, ◌||◌, eqb, List, [], ◌∷◌, ◌++◌, map, filter, Option, Some, None, refl, sym, ap, ◌∙◌}
use Rattle.std.proofs.lemmas.Bool.{cond_both, and_parts, eqb-true, eq-eqb}
use Rattle.std.proofs.lemmas.List.Elements.{All-nil, All-cons, All-head, All-tail}
use Rattle.std.proofs.lemmas.List.Folds.{list_any-append}
use Rattle.std.proofs.lemmas.Option.{none-some, same_Some}
use Rattle.std.specs.Prelude.{All}
use Rattle.kq_model.proofs.Descriptors.{with_descriptor-all, with_descriptors-all}
use Rattle.kq_model.specs.declared.event.Event.{Event}
use Rattle.kq_model.specs.declared.object.Named.{Named}
use Rattle.kq_model.specs.declared.object.Named.TheVariants as named
use Rattle.kq_model.specs.Close.{Pair, has_pair}
use Rattle.kq_model.specs.Descriptors.{Descriptor, named_among, with_descriptors, without_closed}
use Rattle.kq_model.specs.Hearing.{Hearing}
use Rattle.kq_model.specs.LiveKqueues.{is_live_as, has_live, NamesLive, AreAllLive, NamesNoKqueue, OpensNoKqueue}
use Rattle.kq_model.specs.Moment.{Moment, moment_of}
use Rattle.kq_model.specs.System.{Live, System, empty_system, stepped, lived, born, step_by, step}
use Rattle.kq_model.specs.Objects.{Keeping}
use Rattle.kq_model.specs.Plans.{plan}
use Rattle.kq_model.specs.World.{Planned, Impossible, Possible, with_kqueue, seen_world, carried_out}
use Rattle.kq_model.proofs.KnoteLaws.{by_test}
use Rattle.kq_model.proofs.PlansOpen.{plan-opens}

-- ---- the table

All-like : {A : Type 0} (P Q : A → Type 0) → ((x : A) → P x → Q x) → (xs : List A) → All P xs → All Q xs
All-like P Q like [] all = All-nil Q
All-like P Q like (x ∷ xs) all =
    All-cons Q x xs (like x (All-head P x xs all)) (All-like P Q like xs (All-tail P x xs all))

-- the place of a kqueue that is named
place_in : Named → ℕ
place_in (named.Kqueue place) = place
place_in _ = 0

same_place : (a b : ℕ) → named.Kqueue a ≡ named.Kqueue b → a ≡ b
unfolding place_in
same_place a b e = ap place_in e

module _ {S : Type 0} {h : Hearing S} where
  -- ---- the live kqueues

  has_live-append : (place pid number : ℕ) (xs ys : List (Live h)) → has_live place pid number xs ≡ true → has_live place pid number (xs ++ ys) ≡ true
  has_live-append place pid number xs ys there =
      list_any-append (is_live_as place pid number) xs ys ∙ ap (λ b. b || has_live place pid number ys) there

  has_live-stepped : (m : Moment) (place pid number : ℕ) (ls : List (Live h)) → has_live place pid number (map (stepped m) ls) ≡ has_live place pid number ls
  unfolding stepped
  has_live-stepped m place pid number [] = refl
  has_live-stepped m place pid number (l ∷ ls) = ap (λ b. is_live_as place pid number l || b) (has_live-stepped m place pid number ls)

  abbrev still_open : List Pair → List (Live h) → List (Live h)
  still_open pairs ls = filter (λ (l : Live h). not (has_pair l.owner l.number pairs)) ls

  -- one that has this number was not closed with others
  same_pair : (place pid number : ℕ) (pairs : List Pair) (l : Live h) → is_live_as place pid number l ≡ true → has_pair l.owner l.number pairs ≡ has_pair pid number pairs
  same_pair place pid number pairs l is =
      let parts = and_parts (eqb l.owner pid) (eqb l.number number) (and_parts (eqb l.place place) _ is).1 in
      ap (λ owner. has_pair owner l.number pairs) (eqb-true l.owner pid parts.0)
      ∙ ap (λ n. has_pair pid n pairs) (eqb-true l.number number parts.1)

  has_live-open : (pairs : List Pair) (place pid number : ℕ) → has_pair pid number pairs ≡ false → (ls : List (Live h))
      → has_live place pid number ls ≡ true → has_live place pid number (still_open pairs ls) ≡ true
  has_live-open pairs place pid number stays [] there = there
  has_live-open pairs place pid number stays (l ∷ ls) there =
      by_test (λ b. is_live_as place pid number l ≡ b → b || has_live place pid number ls ≡ true
      → has_live place pid number (cond (not (has_pair l.owner l.number pairs)) (l ∷ still_open pairs ls) (still_open pairs ls)) ≡ true) (is_live_as place pid number l)
      (λ is _ _. ap (λ b. has_live place pid number (cond (not b) (l ∷ still_open pairs ls) (still_open pairs ls))) (same_pair place pid number pairs l is ∙ stays)
      ∙ ap (λ b. b || has_live place pid number (still_open pairs ls)) is)
      (λ other _ later.
      let rest = has_live-open pairs place pid number stays ls later in
      cond_both (not (has_pair l.owner l.number pairs)) (l ∷ still_open pairs ls) (still_open pairs ls) (λ (kept : List (Live h)). has_live place pid number kept ≡ true)
      (λ _. ap (λ b. b || has_live place pid number (still_open pairs ls)) other ∙ rest) (λ _. rest))
      refl there

  has_live-lived : (m : Moment) (place pid number : ℕ) → has_pair pid number m.closed ≡ false → (ls : List (Live h))
      → has_live place pid number ls ≡ true → has_live place pid number (lived m ls) ≡ true
  unfolding lived
  has_live-lived m place pid number stays ls there =
      has_live-stepped m place pid number (still_open m.closed ls) ∙ has_live-open m.closed place pid number stays ls there

  -- ---- a step

  -- what was not closed names a live kqueue still
  without_closed-live : (m : Moment) (live : List (Live h)) (table : List Descriptor) → All (NamesLive live) table
      → All (NamesLive (lived m live)) (without_closed m.closed table)
  without_closed-live m live [] all = All-nil (NamesLive (lived m live))
  without_closed-live m live (d ∷ ds) all =
      let rest = without_closed-live m live ds (All-tail (NamesLive live) d ds all) in
      by_test (λ b. has_pair d.pid d.number m.closed ≡ b → All (NamesLive (lived m live)) (cond (not b) (d ∷ without_closed m.closed ds) (without_closed m.closed ds)))
      (has_pair d.pid d.number m.closed)
      (λ _ _. rest)
      (λ _ stays. All-cons (NamesLive (lived m live)) d (without_closed m.closed ds)
      (λ place is. has_live-lived m place d.pid d.number stays live (All-head (NamesLive live) d ds all place is)) rest)
      refl

  more-live : (live more : List (Live h)) (table : List Descriptor) → All (NamesLive live) table → All (NamesLive (live ++ more)) table
  more-live live more table all =
      All-like (NamesLive live) (NamesLive (live ++ more)) (λ d names place is. has_live-append place d.pid d.number live more (names place is)) table all

  born-live : (place : ℕ) (p : Option Pair) (live : List (Live h)) (table : List Descriptor) → All (NamesLive live) table
      → All (NamesLive (live ++ born place p)) (with_kqueue place p table)
  unfolding with_kqueue born
  born-live place None live table all = more-live live [] table all
  born-live place (Some p) live table all =
      with_descriptor-all (NamesLive (live ++ born place (Some p))) (record { pid = p.pid; number = p.number; named = named.Kqueue place }) table
      (λ other is. list_any-append (is_live_as other p.pid p.number) live (born place (Some p)) ∙ at_end other (same_place place other is))
      (more-live live (born place (Some p)) table all)
    where
      newly : (other : ℕ) → place ≡ other → has_live other p.pid p.number (born {h = h} place (Some p)) ≡ true
      newly other same = rw (eq-eqb place other same, eq-eqb p.pid p.pid refl, eq-eqb p.number p.number refl) refl

      at_end : (other : ℕ) → place ≡ other → has_live other p.pid p.number live || has_live other p.pid p.number (born {h = h} place (Some p)) ≡ true
      at_end other same =
          by_test (λ b. b || has_live other p.pid p.number (born {h = h} place (Some p)) ≡ true) (has_live other p.pid p.number live)
          (λ _. refl) (λ _. newly other same)

  step_by-live : {A B C D : Type 0} {k : Keeping A B C D} (place : ℕ) (planned : Planned) (s : System h k) → OpensNoKqueue planned → AreAllLive s → AreAllLive (step_by place planned s).system
  unfolding step_by carried_out moment_of
  step_by-live place (Impossible why) s opens all = all
  step_by-live place (Possible p) s opens all =
      let m = moment_of s.version place p s.world in
      born-live place p.born (lived m s.live) (with_descriptors p.opened (without_closed p.closed s.world.table))
      (with_descriptors-all (NamesLive (lived m s.live)) p.opened (without_closed p.closed s.world.table)
      (All-like NamesNoKqueue (NamesLive (lived m s.live)) (λ d none q is. absurd (none q is)) p.opened opens)
      (without_closed-live m s.live s.world.table all))

  pub step-live : {A B C D : Type 0} {k : Keeping A B C D} (place : ℕ) (e : Event) (s : System h k) → AreAllLive s → AreAllLive (step place e s).system
  unfolding step
  step-live place e s all = step_by-live place (plan place e (seen_world s.world)) s (plan-opens place e (seen_world s.world)) all

  -- a number that is looked up and names a kqueue names a live one
  pub named_among-live : (live : List (Live h)) (pid number place : ℕ) (table : List Descriptor) → All (NamesLive live) table
      → named_among pid number table ≡ Some (named.Kqueue place) → has_live place pid number live ≡ true
  unfolding named_among
  named_among-live live pid number place [] all found = absurd (none-some (named.Kqueue place) found)
  named_among-live live pid number place (d ∷ ds) all found =
      by_test (λ b. eqb d.pid pid && eqb d.number number ≡ b → cond b (Some d.named) (named_among pid number ds) ≡ Some (named.Kqueue place) → has_live place pid number live ≡ true)
      (eqb d.pid pid && eqb d.number number)
      (λ _ is here.
      let parts = and_parts (eqb d.pid pid) (eqb d.number number) is in
      ap (λ x. has_live place x number live) (sym (eqb-true d.pid pid parts.0))
      ∙ ap (λ x. has_live place d.pid x live) (sym (eqb-true d.number number parts.1))
      ∙ All-head (NamesLive live) d ds all place (same_Some d.named (named.Kqueue place) here))
      (λ _ _ later. named_among-live live pid number place ds (All-tail (NamesLive live) d ds all) later)
      refl found

pub empty-live : {S A B C D : Type 0} (h : Hearing S) (k : Keeping A B C D) (version : ℕ) → AreAllLive (empty_system {h = h} {k = k} version)
empty-live h k version = All-nil (NamesLive {h = h} [])
