-- What a moment's views answer is what the history of the trace answers at its place.
use Rattle.std.proofs.Common.{◌≡◌, ℕ, ◌+◌, ◌≤◌, ltb, List, [], ◌∷◌, refl, sym, ap, ◌∙◌, arith}
use Rattle.std.proofs.lemmas.Bool.{cond-true, cond-false, lt-ltb, le-ltb}
use Rattle.std.proofs.lemmas.List.Elements.{All-nil, All-cons, All-weaker}
use Rattle.std.specs.List.{All}
use Rattle.kq_model.specs.Moment.{Moment, moment_of}
use Rattle.kq_model.specs.Moments.{world_by, moments_from, moment_by, world_at, views_at}
use Rattle.kq_model.specs.Objects.{Keeping}
use Rattle.kq_model.specs.World.{World, Planned, Impossible, Possible, seen_world, views_of, carried_out}

module _ {A B C D : Type 0} {k : Keeping A B C D} (version : ℕ) where
  -- at this place or a later one, with what is seen there
  abbrev pub IsAt : ℕ → World k → List Planned → Moment → Type 0
  IsAt place w qs m = (place ≤ m.place) × (m.version ≡ version) × (m.views ≡ views_at place w qs m.place)

  world-now : (place : ℕ) (w : World k) (qs : List Planned) → world_at place (place + 1) w qs ≡ w
  unfolding world_at
  world-now place w [] = refl
  world-now place w (q ∷ qs) = cond-true (ltb place (place + 1)) w _ (lt-ltb place (place + 1) (omega arith))

  world-later : (last place : ℕ) (w : World k) (q : Planned) (qs : List Planned) → place ≤ last
      → world_at last place w (q ∷ qs) ≡ world_at last (place + 1) (world_by place q w) qs
  unfolding world_at
  world-later last place w q qs later = cond-false (ltb last place) w _ (le-ltb last place later)

  later-at : (place : ℕ) (w : World k) (q : Planned) (qs : List Planned) (m : Moment) → IsAt (place + 1) (world_by place q w) qs m → IsAt place w (q ∷ qs) m
  later-at place w q qs m is =
      let reached : place ≤ m.place = omega (arith, is.0) in
      (reached, is.1, is.2 ∙ ap (λ x. views_of (seen_world x)) (sym (world-later m.place place w q qs reached)))

  pub moments-at : (place : ℕ) (w : World k) (qs : List Planned) → All (IsAt place w qs) (moments_from version place w qs)
  unfolding moments_from moment_by moment_of world_by
  moments-at place w [] = All-nil (IsAt place w [])
  moments-at place w (Impossible why ∷ qs) =
      All-weaker (IsAt (place + 1) w qs) (IsAt place w (Impossible why ∷ qs)) (later-at place w (Impossible why) qs)
      (moments_from version (place + 1) w qs) (moments-at (place + 1) w qs)
  moments-at place w (Possible p ∷ qs) =
      let next = carried_out place p w in
      All-cons (IsAt place w (Possible p ∷ qs)) (moment_of version place p w) (moments_from version (place + 1) next qs)
      (omega arith, refl, ap (λ x. views_of (seen_world x)) (sym (world-later place place w (Possible p) qs (omega arith) ∙ world-now place next qs)))
      (All-weaker (IsAt (place + 1) next qs) (IsAt place w (Possible p ∷ qs)) (later-at place w (Possible p) qs)
      (moments_from version (place + 1) next qs) (moments-at (place + 1) next qs))
