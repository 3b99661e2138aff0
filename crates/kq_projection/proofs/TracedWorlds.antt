-- A trace with one record more: the world at its end, and what is seen at each place.
use Rattle.std.proofs.Common.{◌≡◌, ◌+◌, ◌≤◌, ℕ, false, cond, ltb, length, List, [], ◌∷◌, ◌++◌, refl, sym, ap, ◌∙◌, arith}
use Rattle.std.proofs.lemmas.Bool.{cond-false, le-ltb, ltb-false}
use Rattle.kq_model.specs.declared.event.Event.{Event}
use Rattle.kq_model.specs.Moments.{world_by, plans_from, world_at, world_after}
use Rattle.kq_model.specs.Objects.{Keeping, counted}
use Rattle.kq_model.specs.Plans.{plan}
use Rattle.kq_model.specs.Projection.{plans}
use Rattle.kq_model.specs.World.{World, Planned, empty_world, seen_world, views_of}
use Rattle.kq_model.proofs.HistoryPushed.{plans-push, world_at-push}
use Rattle.kq_model.proofs.KnoteLaws.{by_test}
use Rattle.kq_model.proofs.ListedTrace.{history-listed}
use Rattle.kq_model.proofs.SeenWorld.{seen-counted}
use Rattle.kq_projection.specs.Traced.{Traced, longer, seen_at, world_at_end}

module _ {A B C D : Type 0} {k : Keeping A B C D} where
  pub plans-length : (place : ℕ) (w : World k) (es : List Event) → length (plans_from place w es) ≡ length es
  unfolding plans_from
  plans-length place w [] = refl
  plans-length place w (e ∷ es) =
      let rest = plans-length (place + 1) (world_by place (plan place e (seen_world w)) w) es in
      omega (arith, rest)

  -- from the last record on the world stays
  world_at-end : (last place : ℕ) (w : World k) (qs : List Planned) → place + length qs ≤ last + 1 → world_at last place w qs ≡ world_after place w qs
  unfolding world_at world_after
  world_at-end last place w [] reached = refl
  world_at-end last place w (q ∷ qs) reached =
      cond-false (ltb last place) w _ (le-ltb last place (omega (arith, reached)))
      ∙ world_at-end last (place + 1) (world_by place q w) qs (omega (arith, reached))

  world_after-push : (place end : ℕ) (w : World k) (qs : List Planned) (q : Planned) → place + length qs ≡ end
      → world_after place w (qs ++ q ∷ []) ≡ world_by end q (world_after place w qs)
  unfolding world_after
  world_after-push place end w [] q reached = ap (λ p. world_by p q w) (omega (arith, reached))
  world_after-push place end w (x ∷ qs) q reached = world_after-push (place + 1) end (world_by place x w) qs q (omega (arith, reached))

module _ (t : Traced) (e : Event) where
  abbrev pub end : ℕ
  end = length t.events + 1

  abbrev pub now : World counted
  now = world_at_end t

  abbrev pub next : World counted
  next = world_by end (plan end e now) now

  abbrev pub past : List Planned
  past = plans counted t.version t.events

  pub reached : 1 + length past ≡ end
  reached = let count = plans-length 1 (empty_world counted) t.events in omega (arith, count)

  pub pushed : plans counted t.version (t.events ++ e ∷ []) ≡ past ++ plan end e now ∷ []
  pushed =
      plans-push 1 end (empty_world counted) t.events e (omega arith)
      ∙ ap (λ (w : World counted). past ++ plan end e w ∷ []) (seen-counted now)

  pub world-longer : world_at_end (longer t e) ≡ next
  world-longer =
      ap (world_after 1 (empty_world counted)) pushed
      ∙ world_after-push 1 end (empty_world counted) past (plan end e now) reached

  -- after its end what is seen is that of the last world
  pub seen-stands : (at : ℕ) → ltb at end ≡ false → seen_at t at ≡ views_of now
  seen-stands at later =
      history-listed t.version t.events at
      ∙ ap (λ (w : World counted). views_of (seen_world w))
      (world_at-end at 1 (empty_world counted) past (let after : end ≤ at = ltb-false at end later in omega (arith, after, reached)))
      ∙ ap views_of (seen-counted now)

  pub seen-longer : (at : ℕ) → seen_at (longer t e) at ≡ cond (ltb at end) (seen_at t at) (views_of next)
  seen-longer at =
      history-listed t.version (t.events ++ e ∷ []) at
      ∙ ap (λ qs. views_of (seen_world (world_at at 1 (empty_world counted) qs))) pushed
      ∙ ap (λ (w : World counted). views_of (seen_world w)) (world_at-push at 1 end (empty_world counted) past (plan end e now) reached)
      ∙ by_test (λ b. views_of (seen_world (cond b (world_at at 1 (empty_world counted) past) next)) ≡ cond b (seen_at t at) (views_of next)) (ltb at end)
      (λ _. sym (history-listed t.version t.events at)) (λ _. ap views_of (seen-counted next))
