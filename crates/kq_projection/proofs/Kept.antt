-- What a kqueue is after an item, where little is done.
use Rattle.std.proofs.Common.{◌≡◌, ℕ, cond, eqb, [], Option, Some, refl, sym, ap, ap₂, subst, ◌∙◌}
use Rattle.std.proofs.lemmas.Bool.{eqb-true}
use Rattle.kq_model.specs.declared.event.Event.{Event}
use Rattle.kq_model.specs.declared.event.Event.TheVariants as event
use Rattle.kq_model.proofs.KnoteLaws.{by_test}
use Rattle.kq_projection.specs.declared.history.item.Item.{Item}
use Rattle.kq_projection.specs.declared.history.item.What.{What}
use Rattle.kq_projection.specs.declared.history.item.What.TheVariants as what
use Rattle.kq_projection.specs.Traced.{event_at}
use Rattle.kq_projection.specs.LoneKqueue.{LoneKqueue, after_item, arrived, called, gone_on, heard, heard_in}
use Rattle.kq_projection.specs.Recorded.{IsRecorded, IsSaidBy}
use Rattle.kq_projection.proofs.AtOnePlace.{hear-none}
use Rattle.kq_projection.proofs.Closes.{close-other}

-- ---- the trace stays

arrived-trace : (place : ℕ) (a : LoneKqueue) → (arrived place a).trace ≡ a.trace
unfolding arrived
arrived-trace place a =
    by_test (λ b. (cond b a (record (heard a) { place = place })).trace ≡ a.trace) (eqb place a.place) (λ _. refl) (λ _. refl)

called-trace : (e : Option Event) (a : LoneKqueue) → (called e a).trace ≡ a.trace
unfolding called
called-trace (Some (event.Kevent pid fd changes room)) a = refl
called-trace _ a = refl

gone-trace : (w : What) (a : LoneKqueue) → (gone_on w a).trace ≡ a.trace
unfolding gone_on
gone-trace (what.Closed pid number) a = refl
gone-trace (what.Told target hint) a = refl
gone-trace (what.Clocked from to) a = refl
gone-trace (what.Called kqueue) a = called-trace (event_at a.trace a.place) (heard a)

pub item-trace : (i : Item) (a : LoneKqueue) → (after_item i a).trace ≡ a.trace
unfolding after_item
item-trace i a = gone-trace i.what (arrived i.place a) ∙ arrived-trace i.place a

-- ---- the record of an item, once its place is reached

arrived-place : (place : ℕ) (a : LoneKqueue) → (arrived place a).place ≡ place
unfolding arrived
arrived-place place a =
    by_test (λ b. eqb place a.place ≡ b → (cond b a (record (heard a) { place = place })).place ≡ place) (eqb place a.place)
    (λ _ same. sym (eqb-true place a.place same)) (λ _ _. refl) refl

pub said-there : (i : Item) (a : LoneKqueue) → IsRecorded a.trace i → IsSaidBy (event_at (arrived i.place a).trace (arrived i.place a).place) i.what
said-there i a is =
    subst (λ t. IsSaidBy (event_at t (arrived i.place a).place) i.what) (sym (arrived-trace i.place a))
    (subst (λ p. IsSaidBy (event_at a.trace p) i.what) (sym (arrived-place i.place a)) is)

-- ---- where nothing is to be done

pub none-heard : (a : LoneKqueue) → a.told ≡ [] → a ≡ heard a
none-heard a none =
    ap₂ (λ told kq. record a { told = told; kq = kq }) none
    (sym (ap (λ told. heard_in a.trace a.place told a.kq) none ∙ hear-none a.trace a.place a.kq))

pub none-closed : (pid number : ℕ) (a : LoneKqueue) → (pid ≡ a.owner → ⊥) → a ≡ gone_on (what.Closed pid number) a
unfolding gone_on
none-closed pid number a other =
    ap (λ kq. record a { kq = kq }) (sym (close-other a.owner (record { pid = pid; number = number }) a.kq other))
