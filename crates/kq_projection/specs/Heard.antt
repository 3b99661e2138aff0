-- What was heard of one record more: nothing of an impossible one.
use Rattle.std.specs.Prelude.{◌≡◌, ℕ, ◌++◌, Result, Ok, Err}
use Rattle.kq_model.specs.declared.event.Event.{Event}
use Rattle.kq_model.specs.declared.why.Why.{Why}
use Rattle.kq_model.specs.Objects.{counted}
use Rattle.kq_model.specs.World.{World, views_of}
use Rattle.kq_process.specs.declared.effect.Effect.{Effect}
use Rattle.kq_projection.specs.declared.history.message_log.MessageLog.{MessageLog}
use Rattle.kq_projection.specs.Messages.{said_items, AreHeard}
use Rattle.kq_projection.specs.Sayings.{born_of, call_by, clock_of, kqueue_of}

-- of a possible one, with the worlds before it and after it
pub record IsSaidOnce (place : ℕ) (e : Event) (effect : Effect) (before after : World counted) (old new : MessageLog)
    : Type 0 where
  pub items : new.log.items ≡ old.log.items
      ++ said_items place effect.closed effect.hints (clock_of e before.now) (kqueue_of e before)
  pub kqueues : AreHeard place (born_of e) (call_by e (kqueue_of e before)) (views_of after) old.kqueues new.kqueues

abbrev pub IsHeardBy : Result (Unit {0}) Why → ℕ → Event → Effect → World counted → World counted
    → MessageLog → MessageLog → Type 0
IsHeardBy (Err why) place e effect before after old new = new ≡ old
IsHeardBy (Ok done) place e effect before after old new = IsSaidOnce place e effect before after old new

abbrev pub IsHeard : ℕ → Event → Effect → World counted → World counted → MessageLog → MessageLog → Type 0
IsHeard place e effect before after old new = IsHeardBy effect.verdict place e effect before after old new
