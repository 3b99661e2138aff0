-- The world is that of the trace with the record that was applied.
use Rattle.std.proofs.Common.{◌≡◌, ◌+◌, length, [], ◌∷◌, ◌++◌, sym, ap, subst, ◌∙◌}
use Rattle.std.proofs.lemmas.List.{length-append}
use Rattle.kq_model.specs.declared.event.Event.{Event}
use Rattle.kq_model.specs.CountedWorld.{IsCountedWorld}
use Rattle.kq_model.specs.ListedFiles.{AreListed}
use Rattle.kq_model.specs.Objects.{counted}
use Rattle.kq_model.specs.Plans.{plan}
use Rattle.kq_model.specs.World as model
use Rattle.kq_model.specs.World.{Planned, Impossible, Possible}
use Rattle.kq_process.specs.declared.world.World.{World}
use Rattle.kq_process.specs.Effects.{world_after}
use Rattle.kq_process.specs.World.{last_of, world_of, IsNext}
use Rattle.kq_process.proofs.Applied.{counted-now}
use Rattle.kq_projection.specs.Traced.{Traced, longer}
use Rattle.kq_projection.specs.Tracked.{IsWorldAfter}
use Rattle.kq_projection.proofs.TracedWorlds.{end, now, world-longer}
use Rattle.kq_projection.proofs.TrackedRecords.{next-is, next-listed, next-stays}

pub length_is : (t : Traced) (e : Event) → length (t.events ++ e ∷ []) ≡ end t e
length_is t e = length-append t.events (e ∷ [])

module _ (t : Traced) (e : Event) (old : World) (after : IsWorldAfter t old) where
  pub counted_now : IsCountedWorld (end t e) (now t e)
  counted_now =
      subst (IsCountedWorld (end t e)) after.world (subst (λ n. IsCountedWorld (n + 1) (world_of old)) after.last (counted-now old))

  pub listed_now : AreListed (now t e).objects
  listed_now = subst (λ (w : model.World counted). AreListed w.objects) after.world after.listed

  -- what was planned of the one world is what is planned of the other
  pub planned-next : (new : World) → IsNext (end t e) (plan (end t e) e) old new
      → world_of new ≡ world_after (end t e) (plan (end t e) e (now t e)) (now t e)
  planned-next new is = is ∙ ap (λ (w : model.World counted). world_after (end t e) (plan (end t e) e w) w) after.world

  module _ (new : World) (last : last_of new ≡ end t e) where
    pub world-by : (q : Planned) → plan (end t e) e (now t e) ≡ q → world_of new ≡ world_after (end t e) q (now t e)
        → IsWorldAfter (longer t e) new
    world-by (Impossible why) is same = record {
      world = same ∙ sym (world-longer t e ∙ next-stays t e counted_now listed_now why is);
      last = last ∙ sym (length_is t e);
      listed = subst (λ (w : model.World counted). AreListed w.objects) (sym same) listed_now;
    }
    world-by (Possible p) is same = record {
      world = same ∙ sym (world-longer t e ∙ next-is t e counted_now listed_now p is);
      last = last ∙ sym (length_is t e);
      listed = subst (λ (w : model.World counted). AreListed w.objects) (sym same) (next-listed t e counted_now listed_now p is);
    }
