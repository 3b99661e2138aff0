-- What goes on to hold of the live kqueues where some of them were shown a record, whatever it does to them.
use Rattle.std.proofs.Common.{◌≡◌, ◌∙◌, ◌<◌, ◌≤◌, ℕ, Bool, true, false, not, cond, List, [], ◌∷◌, filter, nat_eq, Option, None, refl, sym, ap, ap₂, subst, arith}
use Rattle.std.proofs.lemmas.Bool.Decides.{nat_tests}
use Rattle.std.specs.Map.{keys_of}
use Rattle.std.specs.HashMap.{HashMap}
use Rattle.kq_model.specs.declared.filter.Filter.{Filter}
use Rattle.kq_model.specs.declared.object.Target.{Target}
use Rattle.kq_model.specs.Subjects.{HaveSubjects}
use Rattle.kq_model.specs.Tallied.{Kqueue, Live}
use Rattle.kq_system.specs.Places.{has_place, places_at}
use Rattle.kq_system.specs.Showing.{AreFound, ArePassed, Each, IsListed, IsPassed}
use Rattle.kq_system.specs.SystemState.{AreOfVersion, AreUpTo, HaveStayed, NumberedKqueue, live_of}
use Rattle.kq_system.proofs.CallLemmas.{same_live}
use Rattle.kq_system.proofs.ShowLemmas.{Entries, by_test}

abbrev pub stands : ℕ × NumberedKqueue → Bool
stands e = not e.1.ended

abbrev pub AreStanding : Entries → Type 0
AreStanding es = Each (λ place v. v.ended ≡ false) es

pub all_standing : (es : Entries) → AreStanding es → filter stands es ≡ es
all_standing [] all = refl
all_standing (e ∷ es) all =
    ap (λ b. cond (not b) (e ∷ filter stands es) (filter stands es)) all.0
    ∙ ap (λ (l : Entries). e ∷ l) (all_standing es all.1)

-- what it is as a kqueue of the model, under the place that it had
pub placed : (e n : ℕ × NumberedKqueue) (kq : Kqueue) → n.0 ≡ e.0 → n.1.number ≡ e.1.number → n.1.kq.owner ≡ e.1.kq.owner
    → n.1.kq.kq ≡ kq → live_of n ≡ record { place = e.0; owner = e.1.kq.owner; number = e.1.number; kq = kq }
placed e n kq place number owner is =
    ap (λ p. let l : Live = record { place = p; owner = n.1.kq.owner; number = n.1.number; kq = n.1.kq.kq } in l) place
    ∙ same_live e.0 n.1.kq.owner e.1.kq.owner n.1.number e.1.number n.1.kq.kq kq owner number is

-- a later round than all that they were shown a record in
pub not_yet : (round last : ℕ) → last < round → (es : Entries) → Each (λ place v. v.shown ≤ last) es
    → Each (λ place v. v.shown ≡ round → ⊥) es
not_yet round last later [] all = tt
not_yet round last later (e ∷ es) all =
    (λ same. absurd (omega (arith, all.0, same, later)), not_yet round last later es all.1)

module _ (round : ℕ) (Told : NumberedKqueue → NumberedKqueue → Type 0) where
  -- what holds of those that were shown the record, and go on
  kept_one : (P : ℕ → NumberedKqueue → Type 0) (n : ℕ × NumberedKqueue) (rest : Entries) (b : Bool) → n.1.ended ≡ b
      → (n.1.ended ≡ false → P n.0 n.1) → Each P rest → Each P (cond (not b) (n ∷ rest) rest)
  kept_one P n rest true is here others = others
  kept_one P n rest false is here others = (here is, others)

  pub all_keep : (P Q : ℕ → NumberedKqueue → Type 0)
      → ((k : ℕ) (v w : NumberedKqueue) → IsPassed round Told v w → w.ended ≡ false → P k v → Q k w)
      → (es ns : Entries) → ArePassed round Told es ns → Each P es → Each Q (filter stands ns)
  all_keep P Q keeps [] [] passed all = tt
  all_keep P Q keeps [] (n ∷ ns) passed all = absurd passed
  all_keep P Q keeps (e ∷ es) [] passed all = absurd passed
  all_keep P Q keeps (e ∷ es) (n ∷ ns) passed all =
      kept_one Q n (filter stands ns) n.1.ended refl
      (λ stays. subst (λ k. Q k n.1) (sym passed.0) (keeps e.0 e.1 n.1 passed.1 stays all.0))
      (all_keep P Q keeps es ns passed.2 all.1)

  pub same_keys : (es ns : Entries) → ArePassed round Told es ns → keys_of ns ≡ keys_of es
  same_keys [] [] passed = refl
  same_keys [] (n ∷ ns) passed = absurd passed
  same_keys (e ∷ es) [] passed = absurd passed
  same_keys (e ∷ es) (n ∷ ns) passed = ap₂ (λ k (ks : List ℕ). k ∷ ks) passed.0 (same_keys es ns passed.2)

  -- no kqueue comes, and those that stay are of their version
  version_kept : (version : ℕ) (e n : ℕ × NumberedKqueue) (rest : Entries) (b : Bool)
      → IsPassed round Told e.1 n.1 → e.1.kq.version ≡ version → AreOfVersion version rest
      → AreOfVersion version (cond b (n ∷ rest) rest)
  version_kept version e n rest true passed is all = (passed.version ∙ is, all)
  version_kept version e n rest false passed is all = all

  of_version : (version : ℕ) (es ns : Entries) → ArePassed round Told es ns → AreOfVersion version es
      → AreOfVersion version (filter stands ns)
  of_version version [] [] passed all = tt
  of_version version [] (n ∷ ns) passed all = absurd passed
  of_version version (e ∷ es) [] passed all = absurd passed
  of_version version (e ∷ es) (n ∷ ns) passed all =
      version_kept version e n (filter stands ns) (stands n) passed.1 all.0 (of_version version es ns passed.2 all.1)

  place_kept : (most : ℕ) (e n : ℕ × NumberedKqueue) (rest : Entries) (b : Bool) → n.0 ≡ e.0 → e.0 ≤ most
      → AreUpTo most (keys_of rest) → AreUpTo most (keys_of (cond b (n ∷ rest) rest))
  place_kept most e n rest true same le all = (subst (λ k. k ≤ most) (sym same) le, all)
  place_kept most e n rest false same le all = all

  up_to : (most : ℕ) (es ns : Entries) → ArePassed round Told es ns → AreUpTo most (keys_of es)
      → AreUpTo most (keys_of (filter stands ns))
  up_to most [] [] passed all = tt
  up_to most [] (n ∷ ns) passed all = absurd passed
  up_to most (e ∷ es) [] passed all = absurd passed
  up_to most (e ∷ es) (n ∷ ns) passed all =
      place_kept most e n (filter stands ns) (stands n) passed.0 all.0 (up_to most es ns passed.2 all.1)

  pub shown_stayed : (es ns : Entries) → ArePassed round Told es ns → HaveStayed es (filter stands ns)
  shown_stayed es ns passed = record {
    of_version = λ version all. of_version version es ns passed all;
    up_to = λ most all. up_to most es ns passed all;
  }

  pub shown_kept : (last : ℕ) → last < round → (v w : NumberedKqueue) → IsPassed round Told v w → v.shown ≤ last
      → w.shown ≤ round
  shown_kept last later v w passed le =
      by_test (λ b. nat_eq w.shown round ≡ b → w.shown ≤ round) (nat_eq w.shown round)
      (λ _ is. grind (arith, nat_tests))
      (λ _ other.
      let unseen : w.shown ≡ round → ⊥ = λ same. grind (arith, nat_tests) in
      let same : w.shown ≡ v.shown = ap (λ (x : NumberedKqueue). x.shown) (passed.unseen unseen) in
      omega (arith, same, le, later)) refl

  -- what the record leaves as it was of the subjects of knotes, it leaves in all
  module _ (keeps : (P : Filter → ℕ → Option Target → Type 0) (v w : NumberedKqueue) → Told v w → w.ended ≡ false
      → HaveSubjects P v.kq.kq.knotes → HaveSubjects P w.kq.kq.knotes) where
    subjects_kept : (P : Filter → ℕ → Option Target → Type 0) (v w : NumberedKqueue) → IsPassed round Told v w
        → w.ended ≡ false → (v.shown ≡ round → ⊥) → HaveSubjects P v.kq.kq.knotes → HaveSubjects P w.kq.kq.knotes
    subjects_kept P v w passed stays fresh has =
        by_test (λ b. nat_eq w.shown round ≡ b → HaveSubjects P w.kq.kq.knotes) (nat_eq w.shown round)
        (λ _ is.
        let seen : w.shown ≡ round = grind (arith, nat_tests) in
        keeps P v w (passed.told fresh seen) stays has)
        (λ _ other.
        let unseen : w.shown ≡ round → ⊥ = λ same. grind (arith, nat_tests) in
        subst (λ (x : NumberedKqueue). HaveSubjects P x.kq.kq.knotes) (sym (passed.unseen unseen)) has) refl

    abbrev Owns : {S : Type 0} → HashMap ℕ (List ℕ) S → ℕ → NumberedKqueue → Type 0
    Owns owned place v = has_place place (places_at nat_eq owned v.kq.owner) ≡ true

    module _ {S T : Type 0} (owned : HashMap ℕ (List ℕ) S) (watching : HashMap Target (List ℕ) T) (last : ℕ)
        (later : last < round) where
      abbrev Watches : ℕ → NumberedKqueue → Type 0
      Watches place v = HaveSubjects (IsListed place watching) v.kq.kq.knotes

      pair_each : (P Q : ℕ → NumberedKqueue → Type 0) (es : Entries) → Each P es → Each Q es
          → Each (λ place v. P place v × Q place v) es
      pair_each P Q [] first second = tt
      pair_each P Q (e ∷ es) first second = ((first.0, second.0), pair_each P Q es first.1 second.1)

      pub found_after : (es ns : Entries) (spare spare' : ℕ) (prepared : Option (ℕ × ℕ))
          → AreFound es spare prepared owned watching last → ArePassed round Told es ns
          → AreFound (filter stands ns) spare' None owned watching round
      found_after es ns spare spare' prepared found passed = record {
        by_owner = all_keep (Owns owned) (Owns owned)
            (λ k v w was _ has. subst (λ owner. has_place k (places_at nat_eq owned owner) ≡ true) (sym was.owner) has)
            es ns passed found.by_owner;
        by_target = all_keep (λ place v. (v.shown ≡ round → ⊥) × Watches place v) Watches
            (λ k v w was stays has. subjects_kept (IsListed k watching) v w was stays has.0 has.1) es ns passed
            (pair_each (λ place v. v.shown ≡ round → ⊥) Watches es (not_yet round last later es found.shown) found.by_target);
        shown = all_keep (λ place v. v.shown ≤ last) (λ place w. w.shown ≤ round)
            (λ k v w was _ le. shown_kept last later v w was le) es ns passed found.shown;
        standing = all_keep (λ place v. v.ended ≡ false) (λ place w. w.ended ≡ false) (λ k v w was stays _. stays)
            es ns passed found.standing;
        room = λ birth is. absurd (cc);
      }
