-- A record of a kind that is known is read as the event of this kind.
use Rattle.std.proofs.Common.{◌≡◌, ℕ, List, Option, Some, None, IfSome, Ok, codes, refl}
use Rattle.serde_json.specs.Data.{Members, object}
use Rattle.kq_model.specs.declared.event.Event.{Event}
use Rattle.kq_model.specs.declared.record_kind.RecordKind.{RecordKind}
use Rattle.kq_model.specs.Kinds.{kind_named}
use Rattle.kq_model.specs.Members.{shaped}
use Rattle.kq_model.specs.Reading.{event_by, event_of}
use Rattle.kq_model.specs.RecordText.{read_as}
use Rattle.kq_line.specs.declared.found.Found.{Found}
use Rattle.kq_line.specs.Shows.{Shows}
use Rattle.kq_line.specs.Typed.{IsRecord, IsText}

pub known : (ms : Members) (op : List ℕ) (kind : RecordKind) (e : Event) → IsText ms (codes "op") op → kind_named op ≡ Some kind → IsRecord kind ms e
    → event_of (Some (object ms)) ≡ Ok e
unfolding event_of event_by read_as shaped
known ms op kind e at named is = rw (at, named, is.typed, is.value) refl

pub kind_read : (found : Found) (op : List ℕ) (kind : RecordKind) (o : Option Event) → ((ms : Members) → Shows found ms → IsText ms (codes "op") op)
    → kind_named op ≡ Some kind → IfSome o (λ e. (ms : Members) → Shows found ms → IsRecord kind ms e)
    → IfSome o (λ e. (ms : Members) → Shows found ms → event_of (Some (object ms)) ≡ Ok e)
kind_read found op kind None at named is = tt
kind_read found op kind (Some e) at named is = λ ms shows. known ms op kind e (at ms shows) named (is ms shows)
