-- A clock record told to the kqueues that may have timers is told to all: each goes on by the same span.
use Rattle.std.proofs.Common.{◌≡◌, ◌∙◌, ◌<◌, ◌≤◌, ℕ, Bool, true, false, cond, List, [], ◌∷◌, map, filter, nat_eq, Option, None, Some, refl, sym, ap, ap₂, subst, arith}
use Rattle.std.proofs.lemmas.Bool.{true≢false}
use Rattle.std.proofs.lemmas.Bool.Decides.{nat_tests}
use Rattle.std.proofs.lemmas.List.Elements.{All-weaker}
use Rattle.std.specs.List.{IsDistinct}
use Rattle.std.specs.Map.{lookup, keys_of}
use Rattle.std.specs.Map.Calls.{RetainsPairs}
use Rattle.std.specs.HashMap.{HashMap}
use Rattle.kq_model.specs.declared.filter.Filter.{Filter}
use Rattle.kq_model.specs.declared.object.Target.{Target}
use Rattle.kq_model.specs.declared.object.Target.TheVariants.{Own}
use Rattle.kq_model.specs.Clock.{Span, clocked}
use Rattle.kq_model.specs.Tallying.{tallying}
use Rattle.kq_model.specs.Knote.{is_timer}
use Rattle.kq_model.specs.References.{Names}
use Rattle.kq_model.specs.Subjects.{HasSubject, HaveSubjects}
use Rattle.kq_model.specs.Tallied.{Knote, Kqueue, Live}
use Rattle.kq_model.proofs.PrivateParts.{clock_stays}
use Rattle.kq_model.proofs.SubjectsCall.{clocked-subjects}
use Rattle.kq_system.specs.Places.{has_place, places_at}
use Rattle.kq_system.specs.Showing.{AreFound, ArePassed, AreShown, Each, IsListed, IsPassed, IsRung, places_of}
use Rattle.kq_system.specs.SystemState.{AreOfVersion, AreUpTo, HaveStayed, NumberedKqueue, live_of, ticked}
use Rattle.kq_system.proofs.CallLemmas.{same_live}
use Rattle.kq_system.proofs.PassedLemmas.{all_standing, found_after, not_yet, placed, same_keys, shown_stayed, stands}
use Rattle.kq_system.proofs.ShowLemmas.{Each-from, Each-found, Entries, by_test, was}

-- ---- where all were told

-- what one call says of a kqueue: it stays, and its clock went on
pub record Says {F : Type 0} (span : Span) (f : F) (v : NumberedKqueue) (b : Bool) (w : NumberedKqueue) (g : F) : Type 0 where
  pub stays : b ≡ true
  pub number : w.number ≡ v.number
  pub owner : w.kq.owner ≡ v.kq.owner
  pub version : w.kq.version ≡ v.kq.version
  pub shown : w.shown ≡ v.shown
  pub ended : w.ended ≡ v.ended
  pub kq : w.kq.kq ≡ clocked (Some span) v.kq.kq
  pub same : g ≡ f

module _ {F : Type 0} (T : F → ℕ → NumberedKqueue → Bool → NumberedKqueue → F → Type 0) (span : Span) (f : F)
    (says : (k : ℕ) (v : NumberedKqueue) (b : Bool) (w : NumberedKqueue) (g : F) → T f k v b w g → Says span f v b w g) where
  stay : (e : ℕ × NumberedKqueue) (w : NumberedKqueue) (b : Bool) (rest kept : Entries) → b ≡ true
      → kept ≡ cond b ((e.0, w) ∷ rest) rest → kept ≡ (e.0, w) ∷ rest
  stay e w b rest kept on is = is ∙ ap (λ b. cond b ((e.0, w) ∷ rest) rest) on

  pub all_ticked : (es kept : Entries) → RetainsPairs T f es kept → map live_of kept ≡ map (ticked span) (map live_of es)
  all_ticked [] kept h = ap (map live_of) h
  all_ticked (e ∷ es) kept h =
      let s = says e.0 e.1 h.0 h.1 h.2 h.4 in
      ap (map live_of) (stay e h.1 h.0 h.3 kept s.stays h.6)
      ∙ ap₂ (λ (l : Live) (r : List Live). l ∷ r)
      (same_live e.0 h.1.kq.owner e.1.kq.owner h.1.number e.1.number h.1.kq.kq (clocked (Some span) e.1.kq.kq) s.owner s.number s.kq)
      (all_ticked es h.3 (subst (λ g. RetainsPairs T g es h.3) s.same h.5))

  of_version : (version : ℕ) (es kept : Entries) → RetainsPairs T f es kept → AreOfVersion version es → AreOfVersion version kept
  of_version version [] kept h all = subst (AreOfVersion version) (sym h) tt
  of_version version (e ∷ es) kept h all =
      let s = says e.0 e.1 h.0 h.1 h.2 h.4 in
      subst (AreOfVersion version) (sym (stay e h.1 h.0 h.3 kept s.stays h.6))
      (s.version ∙ all.0, of_version version es h.3 (subst (λ g. RetainsPairs T g es h.3) s.same h.5) all.1)

  up_to : (most : ℕ) (es kept : Entries) → RetainsPairs T f es kept → AreUpTo most (keys_of es) → AreUpTo most (keys_of kept)
  up_to most [] kept h all = subst (λ (l : Entries). AreUpTo most (keys_of l)) (sym h) tt
  up_to most (e ∷ es) kept h all =
      let s = says e.0 e.1 h.0 h.1 h.2 h.4 in
      subst (λ (l : Entries). AreUpTo most (keys_of l)) (sym (stay e h.1 h.0 h.3 kept s.stays h.6))
      (all.0, up_to most es h.3 (subst (λ g. RetainsPairs T g es h.3) s.same h.5) all.1)

  pub ticked_stayed : (es kept : Entries) → RetainsPairs T f es kept → HaveStayed es kept
  ticked_stayed es kept h = record {
    of_version = λ version all. of_version version es kept h all;
    up_to = λ most all. up_to most es kept h all;
  }

  each_ticked : (P : ℕ → NumberedKqueue → Type 0)
      → ((k : ℕ) (v w : NumberedKqueue) (b : Bool) (g : F) → Says span f v b w g → P k v → P k w)
      → (es kept : Entries) → RetainsPairs T f es kept → Each P es → Each P kept
  each_ticked P keeps [] kept h all = subst (Each P) (sym h) tt
  each_ticked P keeps (e ∷ es) kept h all =
      let s = says e.0 e.1 h.0 h.1 h.2 h.4 in
      subst (Each P) (sym (stay e h.1 h.0 h.3 kept s.stays h.6))
      (keeps e.0 e.1 h.1 h.0 h.2 s all.0, each_ticked P keeps es h.3 (subst (λ g. RetainsPairs T g es h.3) s.same h.5) all.1)

  pub found_ticked : {S U : Type 0} (owned : HashMap ℕ (List ℕ) S) (watching : HashMap Target (List ℕ) U) (last : ℕ)
      (es kept : Entries) (spare spare' : ℕ) (prepared : Option (ℕ × ℕ)) → AreFound es spare prepared owned watching last
      → RetainsPairs T f es kept → AreFound kept spare' None owned watching last
  found_ticked owned watching last es kept spare spare' prepared found h = record {
    by_owner = each_ticked (λ k v. has_place k (places_at nat_eq owned v.kq.owner) ≡ true)
        (λ k v w b g s has. subst (λ owner. has_place k (places_at nat_eq owned owner) ≡ true) (sym s.owner) has)
        es kept h found.by_owner;
    by_target = each_ticked (λ k v. HaveSubjects (IsListed k watching) v.kq.kq.knotes)
        (λ k v w b g s has. subst (λ (kq : Kqueue). HaveSubjects (IsListed k watching) kq.knotes) (sym s.kq)
        (clocked-subjects tallying (IsListed k watching) (Some span) v.kq.kq has))
        es kept h found.by_target;
    shown = each_ticked (λ k v. v.shown ≤ last) (λ k v w b g s le. subst (λ n. n ≤ last) (sym s.shown) le) es kept h found.shown;
    standing = each_ticked (λ k v. v.ended ≡ false) (λ k v w b g s none. s.ended ∙ none) es kept h found.standing;
    room = λ birth is. absurd (cc);
  }

-- ---- where those were told that may have timers

-- what holds of the subjects of its knotes goes on to hold
pub rung_subjects : (span : Span) (P : Filter → ℕ → Option Target → Type 0) (v w : NumberedKqueue) → IsRung span v w
    → w.ended ≡ false → HaveSubjects P v.kq.kq.knotes → HaveSubjects P w.kq.kq.knotes
rung_subjects span P v w rung stays has =
    subst (λ (kq : Kqueue). HaveSubjects P kq.knotes) (sym rung.kq) (clocked-subjects tallying P (Some span) v.kq.kq has)

abbrev IsNoTimer : Knote → Type 0
IsNoTimer k = is_timer k.key.filter ≡ false

no_names : Names
no_names = record { number = λ n. false; target = λ t. false; timer = false }

-- one that does not stand where timers are found has none, and the clock leaves it as it is
unrung : {T : Type 0} (span : Span) (watching : HashMap Target (List ℕ) T) (place : ℕ) (kq : Kqueue)
    → HaveSubjects (IsListed place watching) kq.knotes → has_place place (places_of watching Own) ≡ false
    → clocked (Some span) kq ≡ kq
unrung span watching place kq listed away =
    clock_stays tallying no_names (Some span) kq
    (All-weaker (HasSubject (IsListed place watching)) IsNoTimer
    (λ (k : Knote) found. by_test (λ b. is_timer k.key.filter ≡ b → b ≡ false) (is_timer k.key.filter)
    (λ _ is. absurd (true≢false (sym (found.1 is) ∙ away))) (λ _ _. refl) refl) kq.knotes listed)

module _ (round : ℕ) (span : Span) where
  abbrev IsLeft : NumberedKqueue → Type 0
  IsLeft w = (w.shown ≡ round → ⊥) → clocked (Some span) w.kq.kq ≡ w.kq.kq

  one_rung : (e n : ℕ × NumberedKqueue) → n.0 ≡ e.0 → IsPassed round (IsRung span) e.1 n.1 → (e.1.shown ≡ round → ⊥)
      → IsLeft n.1 → live_of n ≡ ticked span (live_of e)
  one_rung e n place passed fresh left =
      by_test (λ b. nat_eq n.1.shown round ≡ b → live_of n ≡ ticked span (live_of e)) (nat_eq n.1.shown round)
      (λ _ is.
      let seen : n.1.shown ≡ round = grind (arith, nat_tests) in
      placed e n (clocked (Some span) e.1.kq.kq) place passed.number passed.owner (passed.told fresh seen).kq)
      (λ _ other.
      let unseen : n.1.shown ≡ round → ⊥ = λ same. unlike n.1.shown round other same in
      placed e n (clocked (Some span) e.1.kq.kq) place passed.number passed.owner
      (sym (left unseen) ∙ ap (λ (w : NumberedKqueue). clocked (Some span) w.kq.kq) (passed.unseen unseen)))
      refl
    where
      unlike : (a b : ℕ) → nat_eq a b ≡ false → a ≡ b → ⊥
      unlike a b apart same = grind (arith, nat_tests)

  all_rung : (es ns : Entries) → ArePassed round (IsRung span) es ns → Each (λ place v. v.shown ≡ round → ⊥) es
      → Each (λ place w. IsLeft w) ns → map live_of ns ≡ map (ticked span) (map live_of es)
  all_rung [] [] passed fresh left = refl
  all_rung [] (n ∷ ns) passed fresh left = absurd passed
  all_rung (e ∷ es) [] passed fresh left = absurd passed
  all_rung (e ∷ es) (n ∷ ns) passed fresh left =
      ap₂ (λ (l : Live) (ls : List Live). l ∷ ls) (one_rung e n passed.0 passed.1 fresh.0 left.0)
      (all_rung es ns passed.2 fresh.1 left.1)

  module _ {S T : Type 0} (owned : HashMap ℕ (List ℕ) S) (watching : HashMap Target (List ℕ) T) (last : ℕ)
      (later : last < round) (es ns : Entries) (spare spare' : ℕ) (prepared : Option (ℕ × ℕ))
      (found : AreFound es spare prepared owned watching last)
      (shown : AreShown round (IsRung span) (λ p. has_place p (places_of watching Own)) false es ns) where
    left_out : (place : ℕ) (w : NumberedKqueue) → lookup (nat_eq place) ns ≡ Some w → (w.shown ≡ round → ⊥)
        → has_place place (places_of watching Own) ≡ false
    left_out place w here unseen =
        by_test (λ b. has_place place (places_of watching Own) ≡ b → b ≡ false) (has_place place (places_of watching Own))
        (λ _ is. absurd (unseen (shown.seen place w is here)))
        (λ _ _. refl) refl

    left : (place : ℕ) (w : NumberedKqueue) → lookup (nat_eq place) ns ≡ Some w → (w.shown ≡ round → ⊥)
        → clocked (Some span) w.kq.kq ≡ w.kq.kq
    left place w here unseen =
        let before = was round (IsRung span) place es ns w shown.passed here in
        let v = before.it in
        let listed = Each-found (λ k u. HaveSubjects (IsListed k watching) u.kq.kq.knotes) place es v found.by_target
        before.found in
        subst (λ (u : NumberedKqueue). clocked (Some span) u.kq.kq ≡ u.kq.kq) (sym (before.passed.unseen unseen))
        (unrung span watching place v.kq.kq listed (left_out place w here unseen))

    pub clock_concerned : IsDistinct nat_eq (keys_of es) → map live_of ns ≡ map (ticked span) (map live_of es)
    clock_concerned distinct =
        all_rung es ns shown.passed (not_yet round last later es found.shown)
        (Each-from (λ place w. IsLeft w) ns
        (subst (IsDistinct nat_eq) (sym (same_keys round (IsRung span) es ns shown.passed)) distinct) left)

    all_stand : filter stands ns ≡ ns
    all_stand = all_standing ns (shown.calm refl found.standing)

    pub clock_found : AreFound ns spare' None owned watching round
    clock_found =
        subst (λ (l : Entries). AreFound l spare' None owned watching round) all_stand
        (found_after round (IsRung span) (rung_subjects span) owned watching last later es ns spare spare' prepared found shown.passed)

    pub clock_stayed : HaveStayed es ns
    clock_stayed = subst (HaveStayed es) all_stand (shown_stayed round (IsRung span) es ns shown.passed)
