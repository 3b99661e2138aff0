-- A trace says the same where objects are kept as lists of their records and where their quantities are kept: the
-- plans of its records, the moments, the kqueues, the rows of impossible records, and what is seen after each place.
use Rattle.std.proofs.Common.{◌≡◌, ℕ, ◌+◌, ltb, cond, List, [], ◌∷◌, refl, sym, ap, ap₂, ◌∙◌}
use Rattle.kq_model.specs.declared.event.Event.{Event}
use Rattle.kq_model.specs.Births.{births_from}
use Rattle.kq_model.specs.Moment.{Moment}
use Rattle.kq_model.specs.Moments.{world_by, plans_from, moment_by, moments_from, world_at}
use Rattle.kq_model.specs.Objects.{Keeping, counted, listed}
use Rattle.kq_model.specs.OwnedRows.{plain_from}
use Rattle.kq_model.specs.Plans.{plan}
use Rattle.kq_model.specs.Projection.{history, kqueues, moments, plain_rows, plans}
use Rattle.kq_model.specs.World.{World, Planned, Impossible, Possible, carried_out, empty_world, seen_world, views_of}
use Rattle.kq_model.proofs.CountedObjects.{CountsAll, listed-counts}
use Rattle.kq_model.proofs.KnoteLaws.{by_test}
use Rattle.kq_model.proofs.SeenWorld.{moment-seen, seen-again, seen-carried_out}

-- ---- from a world on, and from what is seen of it

module _ {A B C D : Type 0} {k : Keeping A B C D} (counts : CountsAll k) where
  seen-by : (place : ℕ) (q : Planned) (w : World k) → seen_world (world_by place q w) ≡ world_by place q (seen_world w)
  unfolding world_by
  seen-by place (Impossible why) w = refl
  seen-by place (Possible p) w = seen-carried_out counts place p w

  plans-seen : (place : ℕ) (w : World k) (es : List Event) → plans_from place (seen_world w) es ≡ plans_from place w es
  unfolding plans_from
  plans-seen place w [] = refl
  plans-seen place w (e ∷ es) =
      let q = plan place e (seen_world w) in
      ap (λ x. plan place e x ∷ plans_from (place + 1) (world_by place (plan place e x) (seen_world w)) es) (seen-again counts w)
      ∙ ap (λ x. q ∷ plans_from (place + 1) x es) (sym (seen-by place q w))
      ∙ ap (λ qs. q ∷ qs) (plans-seen (place + 1) (world_by place q w) es)

  moments-seen : (version place : ℕ) (w : World k) (qs : List Planned)
      → moments_from version place (seen_world w) qs ≡ moments_from version place w qs
  unfolding moments_from moment_by world_by
  moments-seen version place w [] = refl
  moments-seen version place w (Impossible why ∷ qs) = moments-seen version (place + 1) w qs
  moments-seen version place w (Possible p ∷ qs) =
      ap₂ (λ (m : Moment) (ms : List Moment). m ∷ ms) (moment-seen counts version place p w)
      (ap (λ x. moments_from version (place + 1) x qs) (sym (seen-carried_out counts place p w))
      ∙ moments-seen version (place + 1) (carried_out place p w) qs)

  world_at-seen : (last place : ℕ) (w : World k) (qs : List Planned)
      → seen_world (world_at last place (seen_world w) qs) ≡ seen_world (world_at last place w qs)
  unfolding world_at
  world_at-seen last place w [] = seen-again counts w
  world_at-seen last place w (q ∷ qs) =
      by_test (λ b. seen_world (cond b (seen_world w) (world_at last (place + 1) (world_by place q (seen_world w)) qs))
      ≡ seen_world (cond b w (world_at last (place + 1) (world_by place q w) qs))) (ltb last place)
      (λ _. seen-again counts w)
      (λ _. ap (λ x. seen_world (world_at last (place + 1) x qs)) (sym (seen-by place q w))
      ∙ world_at-seen last (place + 1) (world_by place q w) qs)

-- ---- of a whole trace

module _ (version : ℕ) (es : List Event) where
  pub plans-listed : plans listed version es ≡ plans counted version es
  plans-listed = sym (plans-seen listed-counts 1 (empty_world listed) es)

  pub moments-listed : moments listed version es ≡ moments counted version es
  moments-listed =
      sym (moments-seen listed-counts version 1 (empty_world listed) (plans listed version es))
      ∙ ap (moments_from version 1 (empty_world counted)) plans-listed

  pub kqueues-listed : kqueues listed version es ≡ kqueues counted version es
  kqueues-listed = ap (births_from 1) plans-listed

  pub plain-listed : plain_rows listed version es ≡ plain_rows counted version es
  plain-listed = ap (plain_from 1) plans-listed

  pub history-listed : (place : ℕ) → history listed version es place ≡ history counted version es place
  history-listed place =
      ap views_of (sym (world_at-seen listed-counts place 1 (empty_world listed) (plans listed version es)))
      ∙ ap (λ qs. views_of (seen_world (world_at place 1 (empty_world counted) qs))) plans-listed
