-- Objects that keep quantities alone stand for objects that keep every record: what is noted changes both
-- alike. No premise is needed, since differences are integers.
use Rattle.std.proofs.Common.{◌≡◌, ◌∙◌, ◌==◌, ℕ, ℤ, ◌-ℤ◌, Bool, true, false, List, [], ◌∷◌, Option, None, Some, option_map, refl, sym, ap, arith, if◌then◌else◌}
use Rattle.std.proofs.Math.Path.{fun_ext}
use Rattle.std.proofs.lemmas.Int.{ints}
use Rattle.kq_model.specs.declared.doing.SocketRecord.{SocketRecord}
use Rattle.kq_model.specs.declared.doing.PipeRecord.{PipeRecord}
use Rattle.kq_model.specs.declared.doing.DescriptionRecord.{DescriptionRecord}
use Rattle.kq_model.specs.declared.doing.FileRecord.{FileRecord}
use Rattle.kq_model.specs.declared.doing.Doing.{Doing}
use Rattle.kq_model.specs.declared.doing.Doing.TheVariants.{ToSocket, ToPipe, ToDescription, ToFile}
use Rattle.kq_model.specs.Accounts.{Account, plus, less, total, balance}
use Rattle.kq_model.specs.Sockets as sockets
use Rattle.kq_model.specs.Pipes as pipes
use Rattle.kq_model.specs.Files as files
use Rattle.kq_model.specs.Objects.{Keeping, Objects, listed, counted, quantities, told_of, kept, told_at, done, all_done}

-- ---- one record more

gained : (a b : ℤ) (g l : Option ℕ) → plus a g -ℤ plus b l ≡ less (plus (a -ℤ b) g) l
gained a b None None = refl
gained a b (Some n) None = omega (arith, ints)
gained a b None (Some m) = omega (arith, ints)
gained a b (Some n) (Some m) = omega (arith, ints)

balance-told : {R : Type 0} (f g : R → Option ℕ) (r : R) (rs : List R) → balance f g (r ∷ rs) ≡ less (plus (balance f g rs) (f r)) (g r)
balance-told f g r rs = gained (total f rs) (total g rs) (f r) (g r)

socket-told : (r : SocketRecord) (rs : List SocketRecord) → sockets.socket_state (r ∷ rs) ≡ sockets.socket_after r (sockets.socket_state rs)
unfolding sockets.socket_state sockets.socket_after
socket-told r rs = rw (
  balance-told sockets.arrives sockets.accepts r rs,
  balance-told sockets.received sockets.taken r rs,
  balance-told sockets.written sockets.transmitted r rs,
  balance-told sockets.holds sockets.releases r rs,
) refl

pipe-told : (r : PipeRecord) (rs : List PipeRecord) → pipes.pipe_state (r ∷ rs) ≡ pipes.pipe_after r (pipes.pipe_state rs)
unfolding pipes.pipe_state pipes.pipe_after
pipe-told r rs = rw (
  balance-told pipes.written pipes.taken r rs,
  balance-told pipes.holds_read pipes.releases_read r rs,
  balance-told pipes.holds_write pipes.releases_write r rs,
) refl

description-told : (r : DescriptionRecord) (rs : List DescriptionRecord) → files.description_state (r ∷ rs) ≡ files.description_after r (files.description_state rs)
unfolding files.description_state files.description_after
description-told r rs = rw (balance-told files.holds files.releases r rs) refl

file-told : (r : FileRecord) (rs : List FileRecord) → files.file_state (r ∷ rs) ≡ files.file_after r (files.file_state rs)
unfolding files.file_state files.file_after
file-told r rs = refl

-- ---- a book of quantities stands for a book of records

pub record Counts {R Q S : Type 0} (b : Account R Q S) (c : Account R Q Q) : Type 0 where
  fresh : b.quantities b.fresh ≡ c.fresh
  told : (r : R) (s : S) → b.quantities (b.told r s) ≡ c.told r (b.quantities s)
  itself : (q : Q) → c.quantities q ≡ q

module _ {R Q S : Type 0} (b : Account R Q S) (c : Account R Q Q) (counts : Counts b c) where
  told_of-counted : (r : R) (x : Option S) → b.quantities (told_of b r x) ≡ told_of c r (option_map b.quantities x)
  told_of-counted r None = counts.told r b.fresh ∙ ap (c.told r) counts.fresh
  told_of-counted r (Some s) = counts.told r s

  kept_if : (stays : Bool) (s : S) → option_map b.quantities (if stays then Some s else None) ≡ (if stays then Some (b.quantities s) else None)
  kept_if true s = refl
  kept_if false s = refl

  kept-counted : (stays : Q → Bool) (s : S) → option_map b.quantities (kept b stays s) ≡ kept c stays (b.quantities s)
  kept-counted stays s =
      kept_if (stays (b.quantities s)) s
      ∙ ap (λ q. if stays q then Some (b.quantities s) else None) (sym (counts.itself (b.quantities s)))

  at_if : (here : Bool) (x y : Option S) (x' : Option Q) → option_map b.quantities x ≡ x'
      → option_map b.quantities (if here then x else y) ≡ (if here then x' else option_map b.quantities y)
  at_if true x y x' is = is
  at_if false x y x' is = refl

  pub told_at-counted : (stays : Q → Bool) (place : ℕ) (r : R) (objects : ℕ → Option S) (p : ℕ)
      → option_map b.quantities (told_at b stays place r objects p) ≡ told_at c stays place r (λ p. option_map b.quantities (objects p)) p
  told_at-counted stays place r objects p =
      at_if (place == p) _ (objects p) _
      (kept-counted stays (told_of b r (objects p)) ∙ ap (kept c stays) (told_of-counted r (objects p)))

-- ---- all objects

-- each of the four kinds is counted
pub record CountsAll {A B C D : Type 0} (k : Keeping A B C D) : Type 0 where
  sockets : Counts k.sockets counted.sockets
  pipes : Counts k.pipes counted.pipes
  descriptions : Counts k.descriptions counted.descriptions
  files : Counts k.files counted.files

pub listed-counts : CountsAll listed
unfolding sockets.socket_state pipes.pipe_state files.description_state files.file_state
listed-counts = record {
  sockets = record { fresh = refl; told = socket-told; itself = λ q. refl };
  pipes = record { fresh = refl; told = pipe-told; itself = λ q. refl };
  descriptions = record { fresh = refl; told = description-told; itself = λ q. refl };
  files = record { fresh = refl; told = file-told; itself = λ q. refl };
}

module _ {A B C D : Type 0} (k : Keeping A B C D) (counts : CountsAll k) where
  done-counted : (d : Doing) (o : Objects k) → quantities (done d o) ≡ done d (quantities o)
  unfolding done
  done-counted (ToSocket place r) o = ap (λ f. record (quantities o) { socket = f }) (fun_ext (told_at-counted k.sockets counted.sockets counts.sockets sockets.is_socket_held place r o.socket))
  done-counted (ToPipe place r) o = ap (λ f. record (quantities o) { pipe = f }) (fun_ext (told_at-counted k.pipes counted.pipes counts.pipes pipes.is_pipe_held place r o.pipe))
  done-counted (ToDescription place r) o = ap (λ f. record (quantities o) { description = f }) (fun_ext (told_at-counted k.descriptions counted.descriptions counts.descriptions files.is_description_held place r o.description))
  done-counted (ToFile number r) o = ap (λ f. record (quantities o) { file = f }) (fun_ext (told_at-counted k.files counted.files counts.files (λ s. true) number r o.file))

  pub all_done-quantities : (ds : List Doing) (o : Objects k) → quantities (all_done ds o) ≡ all_done ds (quantities o)
  unfolding all_done
  all_done-quantities [] o = refl
  all_done-quantities (d ∷ ds) o = all_done-quantities ds (done d o) ∙ ap (all_done ds) (done-counted d o)

-- what is noted of listed objects comes to the same as noted of their quantities
pub all_done-counted : (ds : List Doing) (o : Objects listed) → quantities (all_done ds o) ≡ all_done ds (quantities o)
all_done-counted = all_done-quantities listed listed-counts
