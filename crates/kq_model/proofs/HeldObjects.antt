-- How many descriptors name each object is what the tables say: one more and one less keep that, and so
-- do many, as at a fork and at an exit. The order of the names does not matter.
use Rattle.std.proofs.Common.{◌≡◌, ◌∙◌, ◌||◌, ℕ, nat_eq, ℤ, pos, int_lt, Bool, true, false, Option, None, Some, refl, sym, ap, arith, if◌then◌else◌, ltb-false}
use Rattle.std.proofs.lemmas.Bool.Decides.{nat_tests}
use Rattle.kq_model.specs.declared.doing.DescriptionRecord.{DescriptionRecord}
use Rattle.kq_model.specs.declared.doing.PipeRecord.{PipeRecord}
use Rattle.kq_model.specs.declared.doing.SocketRecord.{SocketRecord}
use Rattle.kq_model.specs.Accounts.{plus, less}
use Rattle.kq_model.specs.Sockets as sockets
use Rattle.kq_model.specs.Pipes as pipes
use Rattle.kq_model.specs.Files as files
use Rattle.kq_model.specs.Sockets.{SocketState}
use Rattle.kq_model.specs.Pipes.{PipeState}
use Rattle.kq_model.specs.Files.{DescriptionState, FileState}
use Rattle.kq_model.specs.Objects.{counted, kept, told_of}
use Rattle.kq_model.specs.Holding.{readers, writers}
use Rattle.kq_model.specs.Holders.{socket_holders, description_holders}

pub eq-swapped : (a b : ℕ) → nat_eq a b ≡ nat_eq b a
eq-swapped a b = grind (arith, nat_tests)

-- what is not above zero, and counts something, is zero
not_above : (h : ℤ) (k : ℕ) → int_lt (pos 0) h ≡ false → h ≡ pos k → k ≡ 0
not_above h k none is = let below = ltb-false 0 k (sym (ap (int_lt (pos 0)) is) ∙ none) in omega arith

-- ---- one kind after the other: the count after one more record, whether or not the object is kept

-- the change of a count
abbrev pub changed : ℤ → Option ℕ → Option ℕ → ℤ
changed holders more fewer = less (plus holders more) fewer

kept_socket : (stays : Bool) (s : SocketState) (k : ℕ) → int_lt (pos 0) s.holders ≡ stays → s.holders ≡ pos k
    → socket_holders (if stays then Some s else None) ≡ pos k
kept_socket true s k held is = is
kept_socket false s k held is = ap pos (sym (not_above s.holders k held is))

socket-holders : (r : SocketRecord) (x : Option SocketState)
    → (told_of counted.sockets r x).holders ≡ changed (socket_holders x) (sockets.holds r) (sockets.releases r)
unfolding sockets.socket_after
socket-holders r None = refl
socket-holders r (Some s) = refl

told-socket : (r : SocketRecord) (x : Option SocketState) (k k' : ℕ) → socket_holders x ≡ pos k
    → changed (pos k) (sockets.holds r) (sockets.releases r) ≡ pos k'
    → socket_holders (kept counted.sockets sockets.is_socket_held (told_of counted.sockets r x)) ≡ pos k'
told-socket r x k k' is change =
    kept_socket _ (told_of counted.sockets r x) k' refl
    (socket-holders r x ∙ ap (λ h. changed h (sockets.holds r) (sockets.releases r)) is ∙ change)

kept_description : (stays : Bool) (s : DescriptionState) (k : ℕ) → int_lt (pos 0) s.holders ≡ stays → s.holders ≡ pos k
    → description_holders (if stays then Some s else None) ≡ pos k
kept_description true s k held is = is
kept_description false s k held is = ap pos (sym (not_above s.holders k held is))

description-holders : (r : DescriptionRecord) (x : Option DescriptionState)
    → (told_of counted.descriptions r x).holders ≡ changed (description_holders x) (files.holds r) (files.releases r)
unfolding files.description_after
description-holders r None = refl
description-holders r (Some s) = refl

told-description : (r : DescriptionRecord) (x : Option DescriptionState) (k k' : ℕ) → description_holders x ≡ pos k
    → changed (pos k) (files.holds r) (files.releases r) ≡ pos k'
    → description_holders (kept counted.descriptions files.is_description_held (told_of counted.descriptions r x)) ≡ pos k'
told-description r x k k' is change =
    kept_description _ (told_of counted.descriptions r x) k' refl
    (description-holders r x ∙ ap (λ h. changed h (files.holds r) (files.releases r)) is ∙ change)

-- both ends of a pipe
pub record Ends (x : Option PipeState) (r w : ℕ) : Type 0 where
  pub read : readers x ≡ pos r
  pub write : writers x ≡ pos w

kept_pipe : (reads writes : Bool) (s : PipeState) (r w : ℕ) → int_lt (pos 0) s.readers ≡ reads → int_lt (pos 0) s.writers ≡ writes
    → s.readers ≡ pos r → s.writers ≡ pos w → Ends (if reads || writes then Some s else None) r w
kept_pipe true writes s r w held_r held_w is_r is_w = record { read = is_r; write = is_w }
kept_pipe false true s r w held_r held_w is_r is_w = record { read = is_r; write = is_w }
kept_pipe false false s r w held_r held_w is_r is_w = record {
  read = ap pos (sym (not_above s.readers r held_r is_r));
  write = ap pos (sym (not_above s.writers w held_w is_w));
}

pipe-readers : (r : PipeRecord) (x : Option PipeState)
    → (told_of counted.pipes r x).readers ≡ changed (readers x) (pipes.holds_read r) (pipes.releases_read r)
unfolding pipes.pipe_after
pipe-readers r None = refl
pipe-readers r (Some s) = refl

pipe-writers : (r : PipeRecord) (x : Option PipeState)
    → (told_of counted.pipes r x).writers ≡ changed (writers x) (pipes.holds_write r) (pipes.releases_write r)
unfolding pipes.pipe_after
pipe-writers r None = refl
pipe-writers r (Some s) = refl

told-pipe : (p : PipeRecord) (x : Option PipeState) (r w r' w' : ℕ) → Ends x r w
    → changed (pos r) (pipes.holds_read p) (pipes.releases_read p) ≡ pos r'
    → changed (pos w) (pipes.holds_write p) (pipes.releases_write p) ≡ pos w'
    → Ends (kept counted.pipes pipes.is_pipe_held (told_of counted.pipes p x)) r' w'
told-pipe p x r w r' w' ends change_r change_w =
    kept_pipe _ _ (told_of counted.pipes p x) r' w' refl refl
    (pipe-readers p x ∙ ap (λ h. changed h (pipes.holds_read p) (pipes.releases_read p)) ends.read ∙ change_r)
    (pipe-writers p x ∙ ap (λ h. changed h (pipes.holds_write p) (pipes.releases_write p)) ends.write ∙ change_w)

-- ---- at one place of a table: k descriptors before and k' after, which differ where it is that place

pub socket_at : (here : Bool) (r : SocketRecord) (x : Option SocketState) (k k' : ℕ) → socket_holders x ≡ pos k
    → (here ≡ true → changed (pos k) (sockets.holds r) (sockets.releases r) ≡ pos k') → (here ≡ false → k ≡ k')
    → socket_holders (if here then kept counted.sockets sockets.is_socket_held (told_of counted.sockets r x) else x) ≡ pos k'
socket_at true r x k k' is change same = told-socket r x k k' is (change refl)
socket_at false r x k k' is change same = is ∙ ap pos (same refl)

pub description_at : (here : Bool) (r : DescriptionRecord) (x : Option DescriptionState) (k k' : ℕ) → description_holders x ≡ pos k
    → (here ≡ true → changed (pos k) (files.holds r) (files.releases r) ≡ pos k') → (here ≡ false → k ≡ k')
    → description_holders (if here then kept counted.descriptions files.is_description_held (told_of counted.descriptions r x) else x) ≡ pos k'
description_at true r x k k' is change same = told-description r x k k' is (change refl)
description_at false r x k k' is change same = is ∙ ap pos (same refl)

pub pipe_at : (here : Bool) (p : PipeRecord) (x : Option PipeState) (r w r' w' : ℕ) → Ends x r w
    → (here ≡ true → changed (pos r) (pipes.holds_read p) (pipes.releases_read p) ≡ pos r')
    → (here ≡ true → changed (pos w) (pipes.holds_write p) (pipes.releases_write p) ≡ pos w')
    → (here ≡ false → r ≡ r') → (here ≡ false → w ≡ w')
    → Ends (if here then kept counted.pipes pipes.is_pipe_held (told_of counted.pipes p x) else x) r' w'
pipe_at true p x r w r' w' ends change_r change_w same_r same_w = told-pipe p x r w r' w' ends (change_r refl) (change_w refl)
pipe_at false p x r w r' w' ends change_r change_w same_r same_w = record { read = ends.read ∙ ap pos (same_r refl); write = ends.write ∙ ap pos (same_w refl) }
