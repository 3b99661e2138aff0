-- The marks of each key, where those of one key became more.
use Rattle.std.proofs.Common.{◌≡◌, ◌∙◌, ◌++◌, ◌&&◌, ℕ, Bool, cond, List, Some, refl, sym, ap}
use Rattle.std.specs.Cmp.{IsEquivalence}
use Rattle.std.specs.HashMap.{HashMap, get}
use Rattle.std.specs.HashMap.Eq.{lookup_congr}
use Rattle.std.proofs.lemmas.List.{append-nil}
use Rattle.kq_model.proofs.KnoteLaws.{by_test}
use Rattle.kq_projection.specs.declared.history.timeline.Mark.{Mark}
use Rattle.kq_projection.specs.Timeline.{marked}
use Rattle.kq_projection.specs.Timelines.{marks_at, or_none}

module _ {K V S : Type 0} (same : K → K → Bool) (laws : IsEquivalence same) where
  pub more-at : (old new : HashMap K (List (Mark V)) S) (key : K) (put : Bool) (place : ℕ) (value : V) (marks : List (Mark V))
      → marks ≡ marks_at same old key ++ marked put place value
      → ((other : K) → get same new other ≡ cond (same key other) (Some marks) (get same old other)) → (other : K)
      → marks_at same new other ≡ marks_at same old other ++ marked (same key other && put) place value
  more-at old new key put place value marks pushed there other =
      ap or_none (there other)
      ∙ by_test (λ b. same key other ≡ b → or_none (cond b (Some marks) (get same old other)) ≡ marks_at same old other ++ marked (b && put) place value)
      (same key other)
      (λ _ is. pushed ∙ ap (λ found. or_none found ++ marked put place value) (lookup_congr same laws.congr old.entries key other is))
      (λ _ _. sym (append-nil (marks_at same old other))) refl
