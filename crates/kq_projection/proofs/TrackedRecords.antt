-- One record more: what was seen goes on to be that of the worlds, where all that the record touches was noted.
use Rattle.std.proofs.Common.{◌≡◌, ◌≤◌, ◌+◌, ℕ, Bool, true, false, cond, ltb, List, map, refl, sym, ap, subst, ◌∙◌}
use Rattle.kq_model.specs.declared.event.Event.{Event}
use Rattle.kq_model.specs.declared.why.Why.{Why}
use Rattle.kq_model.specs.CountedWorld.{IsCountedWorld}
use Rattle.kq_model.specs.ListedFiles.{AreListed, KeepsLists}
use Rattle.kq_model.specs.Moments.{world_by}
use Rattle.kq_model.specs.Objects.{counted}
use Rattle.kq_model.specs.Plans.{plan}
use Rattle.kq_model.specs.Ticks.{last_moment}
use Rattle.kq_model.specs.Views.{Views}
use Rattle.kq_model.specs.World.{World, Plan, Impossible, Possible, carried_out, named_by, views_of}
use Rattle.kq_projection.specs.Noted.{IsNextWorld}
use Rattle.kq_projection.specs.Seen.{Shows}
use Rattle.kq_projection.specs.Touched.{touched_numbers, touched_targets}
use Rattle.kq_projection.specs.RecordSubjects.{opened_numbers, spoken_numbers, spoken_targets}
use Rattle.kq_projection.specs.Traced.{Traced, longer, seen_at}
use Rattle.kq_projection.proofs.AnyWithin.{any-within}
use Rattle.kq_model.proofs.ListedRecords.{listed-record}
use Rattle.kq_projection.proofs.TouchedKeys.{to_pair}
use Rattle.kq_projection.proofs.TracedWorlds.{end, next, now, seen-longer, seen-stands}
use Rattle.kq_projection.proofs.UntouchedRecords.{untouched_number, untouched_view}
use Rattle.kq_projection.specs.Within.{IsWithin, IsWithinRecord}

module _ (t : Traced) (e : Event) (counts : IsCountedWorld (end t e) (now t e)) (lists : AreListed (now t e).objects) where
  within : (p : Plan) → plan (end t e) e (now t e) ≡ Possible p → IsWithin (opened_numbers e) (spoken_numbers e) (spoken_targets e) (now t e) p
  within p is = subst (IsWithinRecord e (now t e)) is (any-within (end t e) e (now t e) counts lists)

  -- ---- a possible record

  module _ (p : Plan) (is : plan (end t e) e (now t e) ≡ Possible p) where
    abbrev after : World counted
    after = carried_out (end t e) p (now t e)

    pub next-is : next t e ≡ after
    unfolding world_by
    next-is = ap (λ q. world_by (end t e) q (now t e)) is

    pub next-listed : AreListed after.objects
    next-listed = (subst (KeepsLists (end t e) (now t e)) is (listed-record (end t e) e (now t e))).keeps counts lists

    pub next-world : (closed : List (ℕ × ℕ)) → map to_pair closed ≡ p.closed → IsCountedWorld (end t e + 1) after
        → IsNextWorld (end t e) (views_of (now t e)) (views_of after) (touched_numbers e closed after)
        (touched_targets e closed p.hints (views_of (now t e)) (views_of after)) (seen_at t) (seen_at (longer t e))
    unfolding views_of named_by
    next-world closed shut counted_after = record {
      earlier = λ at. seen-longer t e at ∙ ap (λ (w : World counted). cond (ltb at (end t e)) (seen_at t at) (views_of w)) next-is;
      stood = λ at later. seen-stands t e at later;
      same_numbers = λ pid number untouched. untouched_number (end t e) e (now t e) p closed shut (within p is) pid number untouched;
      same_views = λ x untouched. untouched_view (end t e) e (now t e) p closed shut (within p is) counted_after.rising x untouched;
    }

  -- ---- an impossible record

  module _ (why : Why) (is : plan (end t e) e (now t e) ≡ Impossible why) where
    pub next-stays : next t e ≡ now t e
    unfolding world_by
    next-stays = ap (λ q. world_by (end t e) q (now t e)) is

    seen-stays : (at : ℕ) → seen_at (longer t e) at ≡ seen_at t at
    seen-stays at =
        seen-longer t e at ∙ ap (λ (w : World counted). cond (ltb at (end t e)) (seen_at t at) (views_of w)) next-stays
        ∙ stays (ltb at (end t e)) refl
      where
        stays : (b : Bool) → ltb at (end t e) ≡ b → cond b (seen_at t at) (views_of (now t e)) ≡ seen_at t at
        stays true earlier = refl
        stays false later = sym (seen-stands t e at later)

    pub shows-still : (s : ℕ → Views) → Shows (seen_at t) s → Shows (seen_at (longer t e)) s
    shows-still s shows = record {
      view = λ at x. shows.view at x ∙ ap (λ (v : Views). v.view x) (sym (seen-stays at));
      descriptor = λ at pid number. shows.descriptor at pid number ∙ ap (λ (v : Views). v.descriptor pid number) (sym (seen-stays at));
      now = λ at. shows.now at ∙ ap (λ (v : Views). v.now) (sym (seen-stays at));
      within = λ at. subst (λ (v : Views). v.now ≤ last_moment) (sym (seen-stays at)) (shows.within at);
    }
