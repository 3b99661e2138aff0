-- The first record of an object: the tables afterwards hold what the definitions say.
use Rattle.std.proofs.Common.{◌≡◌, ◌∙◌, ◌==◌, ℕ, Bool, true, false, cond, Option, None, Some, refl, sym, ap, if◌then◌else◌, eqb-true}
use Rattle.kq_model.specs.declared.doing.SocketRecord.{SocketRecord}
use Rattle.kq_model.specs.declared.doing.SocketRecord.TheVariants as socket
use Rattle.kq_model.specs.Accounts.{Account}
use Rattle.kq_model.specs.Objects.{kept, told_of, told_at}
use Rattle.kq_model.specs.Sockets.{socket_after, no_socket, is_socket_held}
use Rattle.kq_objects.specs.Fits.{FitsSocketAt}

module _ {R Q S : Type 0} (b : Account R Q S) (stays : Q → Bool) where
  kept_new : (r : R) (x : Option S) (v : S) → x ≡ None → v ≡ b.told r b.fresh → stays (b.quantities v) ≡ true
      → Some v ≡ kept b stays (told_of b r x)
  kept_new r x v none new held =
      sym (ap (λ t. if t then Some v else None) held)
      ∙ ap (kept b stays) new
      ∙ ap (λ y. kept b stays (told_of b r y)) (sym none)

  made_if : (here : Bool) (r : R) (x : Option S) (v : S) → (here ≡ true → x ≡ None) → v ≡ b.told r b.fresh → stays (b.quantities v) ≡ true
      → cond here (Some v) x ≡ (if here then kept b stays (told_of b r x) else x)
  made_if true r x v none new held = kept_new r x v (none refl) new held
  made_if false r x v none new held = refl

  -- a table that gained the object at its place
  pub made-at : (place : ℕ) (r : R) (f : ℕ → Option S) (v : S) → f place ≡ None → v ≡ b.told r b.fresh → stays (b.quantities v) ≡ true
      → (q : ℕ) (y : Option S) → y ≡ cond (place == q) (Some v) (f q) → y ≡ told_at b stays place r f q
  made-at place r f v none new held q y is =
      is ∙ made_if (place == q) r (f q) v (λ here. ap f (sym (eqb-true place q here)) ∙ none) new held

pub made_socket-held : (r : SocketRecord) → FitsSocketAt r None → is_socket_held (socket_after r no_socket) ≡ true
unfolding socket_after
made_socket-held (socket.Made receive send) fits = refl
made_socket-held r fits = absurd fits
