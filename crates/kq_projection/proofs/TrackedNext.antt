-- The world and what was seen of it are those of the trace with the record that was applied and followed.
use Rattle.std.proofs.Common.{◌≡◌, ◌+◌, ◌≤◌, ℕ, length, [], ◌∷◌, ◌++◌, Result, Ok, Err, refl, sym, subst, arith}
use Rattle.std.specs.Prelude.{IsOk}
use Rattle.std.proofs.lemmas.Bool.{false≢true}
use Rattle.kq_model.specs.declared.event.Event.{Event}
use Rattle.kq_model.specs.declared.why.Why.{Why}
use Rattle.kq_model.specs.CountedWorld.{IsCountedWorld}
use Rattle.kq_model.specs.ListedFiles.{AreListed}
use Rattle.kq_model.specs.Objects.{counted}
use Rattle.kq_model.specs.Plans.{plan}
use Rattle.kq_model.specs.World as model
use Rattle.kq_model.specs.World.{Planned, Impossible, Possible, carried_out, views_of}
use Rattle.kq_process.specs.declared.effect.Effect.{Effect}
use Rattle.kq_process.specs.declared.world.World.{World}
use Rattle.kq_process.specs.Effects.{IsEffectOf, world_after}
use Rattle.kq_process.specs.World.{last_of, world_of, IsEffectBy, IsNext}
use Rattle.kq_process.proofs.Applied.{counted-now}
use Rattle.kq_projection.specs.declared.history.seen.Seen.{Seen}
use Rattle.kq_projection.specs.Keys.{pair_eq, target_key}
use Rattle.kq_projection.specs.Noted.{AreAllUpTo, IsNextWorld}
use Rattle.kq_projection.specs.Seen.{seen_by, Shows}
use Rattle.kq_projection.specs.Timelines.{marks_at}
use Rattle.kq_projection.specs.Touched.{touched_numbers, touched_targets}
use Rattle.kq_projection.specs.Traced.{Traced, longer, seen_at}
use Rattle.kq_projection.specs.Tracked.{IsFollowed, IsFollowedBy, IsNoted, IsTracked}
use Rattle.kq_projection.proofs.Following.{marks-later}
use Rattle.kq_projection.proofs.TracedWorlds.{end, now}
use Rattle.kq_projection.proofs.TrackedRecords.{next-world, shows-still}
use Rattle.kq_projection.proofs.WorldNext.{counted_now, length_is, listed_now, planned-next, world-by}

pub up-later : (n m : ℕ) (s : Seen) → n ≤ m → AreAllUpTo n s → AreAllUpTo m s
up-later n m s later up = record {
  numbers = λ key. marks-later n m later (marks_at pair_eq s.numbers.table key) (up.numbers key);
  views = λ t. marks-later n m later (marks_at target_key s.views.table t) (up.views t);
  clock = marks-later n m later s.clock up.clock;
}

module _ (t : Traced) (e : Event) (old new : World) (s s' : Seen) (effect : Effect) (tracked : IsTracked t old s) (last : last_of new ≡ end t e) where
  abbrev counted_here : IsCountedWorld (end t e) (now t e)
  counted_here = counted_now t e old tracked.after

  abbrev listed_here : AreListed (now t e).objects
  listed_here = listed_now t e old tracked.after

  up_here : AreAllUpTo (end t e) s
  up_here = up-later (length t.events) (end t e) s (omega arith) tracked.up_to

  up_next : (x : Seen) → AreAllUpTo (end t e) x → AreAllUpTo (length (t.events ++ e ∷ [])) x
  up_next x up = subst (λ k. AreAllUpTo k x) (sym (length_is t e)) up

  followed_done : (v : Result (Unit {0}) Why) → IsOk v → IsFollowedBy (end t e) e v effect.closed effect.hints (now t e) (world_of new) s s'
      → AreAllUpTo (end t e) s' × IsNoted (end t e) e effect.closed effect.hints (now t e) (world_of new) (seen_by s) (seen_by s')
  followed_done (Ok done) is followed = followed
  followed_done (Err why) is followed = absurd (false≢true is)

  tracked-by : (q : Planned) → plan (end t e) e (now t e) ≡ q → IsEffectOf q effect → world_of new ≡ world_after (end t e) q (now t e)
      → IsFollowed (end t e) e effect (now t e) (world_of new) s s' → IsTracked (longer t e) new s'
  tracked-by (Impossible why) is refused same followed =
      let none : s' ≡ s = subst (λ v. IsFollowedBy (end t e) e v effect.closed effect.hints (now t e) (world_of new) s s') refused.verdict followed in
      record {
        after = world-by t e old tracked.after new last (Impossible why) is same;
        shows = subst (λ x. Shows (seen_at (longer t e)) (seen_by x)) (sym none) (shows-still t e counted_here listed_here why is (seen_by s) tracked.shows);
        up_to = up_next s' (subst (AreAllUpTo (end t e)) (sym none) up_here);
      }
  tracked-by (Possible p) is done same followed =
      let noted = followed_done effect.verdict done.verdict followed in
      let counts : IsCountedWorld (end t e + 1) (world_of new) = subst (λ k. IsCountedWorld (k + 1) (world_of new)) last (counted-now new) in
      let counted_after : IsCountedWorld (end t e + 1) (carried_out (end t e) p (now t e)) = subst (IsCountedWorld (end t e + 1)) same counts in
      let onward = next-world t e counted_here listed_here p is effect.closed done.closed counted_after in
      record {
        after = world-by t e old tracked.after new last (Possible p) is same;
        shows = noted.1 (seen_at t) (seen_at (longer t e))
            (subst (λ (w : model.World counted). IsNextWorld (end t e) (views_of (now t e)) (views_of w) (touched_numbers e effect.closed w)
            (touched_targets e effect.closed effect.hints (views_of (now t e)) (views_of w)) (seen_at t) (seen_at (longer t e))) (sym same)
            (subst (λ hints. IsNextWorld (end t e) (views_of (now t e)) (views_of (carried_out (end t e) p (now t e)))
            (touched_numbers e effect.closed (carried_out (end t e) p (now t e)))
            (touched_targets e effect.closed hints (views_of (now t e)) (views_of (carried_out (end t e) p (now t e))))
            (seen_at t) (seen_at (longer t e))) (sym done.hints) onward))
            tracked.shows;
        up_to = up_next s' noted.0;
      }

  tracked-here : IsEffectBy (plan (end t e) e) old effect → IsNext (end t e) (plan (end t e) e) old new
      → IsFollowed (end t e) e effect (world_of old) (world_of new) s s' → IsTracked (longer t e) new s'
  tracked-here of is followed =
      tracked-by (plan (end t e) e (now t e)) refl
      (subst (λ (w : model.World counted). IsEffectOf (plan (end t e) e w) effect) tracked.after.world of)
      (planned-next t e old tracked.after new is)
      (subst (λ (w : model.World counted). IsFollowed (end t e) e effect w (world_of new) s s') tracked.after.world followed)

pub tracked-next : (t : Traced) (e : Event) (place : ℕ) (old new : World) (s s' : Seen) (effect : Effect) → length t.events + 1 ≡ place → IsTracked t old s
    → last_of new ≡ place → IsEffectBy (plan place e) old effect → IsNext place (plan place e) old new
    → IsFollowed place e effect (world_of old) (world_of new) s s' → IsTracked (longer t e) new s'
tracked-next t e place old new s s' effect at tracked =
    subst (λ p. last_of new ≡ p → IsEffectBy (plan p e) old effect → IsNext p (plan p e) old new
    → IsFollowed p e effect (world_of old) (world_of new) s s' → IsTracked (longer t e) new s') at (λ last. tracked-here t e old new s s' effect tracked last)
