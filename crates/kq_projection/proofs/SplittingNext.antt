-- A splitting with one record more.
use Rattle.std.proofs.Common.{◌≡◌, ◌∙◌, ◌+◌, ◌≤◌, ℕ, length, take, List, [], ◌∷◌, ◌++◌, Option, sym, ap, arith}
use Rattle.std.proofs.lemmas.List.{append-nil, append_assoc, length-append, length-take-le}
use Rattle.kq_model.specs.declared.event.Event.{Event}
use Rattle.kq_model.specs.Objects.{counted}
use Rattle.kq_model.specs.Plans.{plan}
use Rattle.kq_model.specs.World as model
use Rattle.kq_process.specs.declared.effect.Effect.{Effect}
use Rattle.kq_process.specs.World.{world_of, IsEffectBy}
use Rattle.kq_projection.specs.declared.history.splitting.Splitting.{Splitting}
use Rattle.kq_projection.specs.Heard.{IsHeard}
use Rattle.kq_projection.specs.Plain.{plain_row}
use Rattle.kq_projection.specs.Sayings.{kqueue_of}
use Rattle.kq_projection.specs.Splitting.{IsSplitSoFar}
use Rattle.kq_projection.specs.Traced.{Traced, longer}
use Rattle.kq_projection.specs.Tracked.{IsTracked}
use Rattle.kq_projection.proofs.FirstTracked.{none-taken}
use Rattle.kq_projection.proofs.PlainRows.{plain-longer}
use Rattle.kq_projection.proofs.SplitNext.{heard-next}

-- ---- a part of the records that follow

pub none-follow : (t : Traced) (es : List Event) → t.events ++ take 0 es ≡ t.events
none-follow t es = ap (λ (xs : List Event). t.events ++ xs) (none-taken es) ∙ append-nil t.events

pub one-follows : (t : Traced) (es : List Event) (n : ℕ) (e : Event) → take (n + 1) es ≡ take n es ++ e ∷ []
    → (t.events ++ take n es) ++ e ∷ [] ≡ t.events ++ take (n + 1) es
one-follows t es n e more = append_assoc t.events (take n es) (e ∷ []) ∙ sym (ap (λ (xs : List Event). t.events ++ xs) more)

pub place-of-next : (t : Traced) (es : List Event) (before n : ℕ) → length t.events ≡ before → n ≤ length es
    → length (t.events ++ take n es) + 1 ≡ before + n + 1
place-of-next t es before n at within =
    let both = length-append t.events (take n es) in
    let taken = length-take-le n es within in
    omega (arith, both, taken, at)

-- ---- one record more

pub split-next : (t : Traced) (e : Event) (place : ℕ) (old new : Splitting) (effect : Effect) (clock : ℕ) (kqueue : Option ℕ)
    → length t.events + 1 ≡ place → IsSplitSoFar t old → IsTracked (longer t e) new.world new.seen → IsEffectBy (plan place e) old.world effect
    → clock ≡ (world_of old.world).now → kqueue ≡ kqueue_of e (world_of old.world)
    → ((w : model.World counted) → clock ≡ w.now → kqueue ≡ kqueue_of e w → IsHeard place e effect w (world_of new.world) old.said new.said)
    → new.plain.items ≡ old.plain.items ++ plain_row place effect.verdict → IsSplitSoFar (longer t e) new
split-next t e place old new effect clock kqueue at so_far onward of clock_is kqueue_is heard rows = record {
  tracked = onward;
  said = heard-next t e place old.world new.world effect clock kqueue old.said new.said at so_far.tracked.after onward.after
      of clock_is kqueue_is heard so_far.said;
  plain_is = rows ∙ ap (λ xs. xs ++ plain_row place effect.verdict) so_far.plain_is
      ∙ sym (plain-longer t e place old.world effect at so_far.tracked.after.world of);
}
