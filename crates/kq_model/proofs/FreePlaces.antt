-- Objects that are there are held by a descriptor, whatever is noted; so where the tables name nothing of a
-- place, no object is there.
use Rattle.std.proofs.Common.{◌≡◌, ◌∙◌, ◌==◌, ◌||◌, ℕ, ℤ, pos, int_lt, Bool, true, false, List, [], ◌∷◌, Option, None, Some, refl, sym, ap, ap₂, if◌then◌else◌}
use Rattle.kq_model.specs.declared.doing.Doing.{Doing}
use Rattle.kq_model.specs.declared.doing.Doing.TheVariants.{ToSocket, ToPipe, ToDescription, ToFile}
use Rattle.kq_model.specs.declared.object.Named.{Named}
use Rattle.kq_model.specs.declared.object.Named.TheVariants.{Socket, PipeRead, PipeWrite, Open}
use Rattle.kq_model.specs.Files.{DescriptionState, is_description_held}
use Rattle.kq_model.specs.Holding.{readers, writers, release}
use Rattle.kq_model.specs.Holders.{socket_holders, description_holders, holders_of, hold, times, AreHeld, IsCounted}
use Rattle.kq_model.specs.Objects.{Objects, counted, no_objects, told_of, done, all_done, IsFree}
use Rattle.kq_model.specs.Pipes.{PipeState, is_pipe_held}
use Rattle.kq_model.specs.Sockets.{SocketState, is_socket_held}

module _ {S : Type 0} (stays : S → Bool) where
  held_kept : (keeps : Bool) (x s : S) → stays x ≡ keeps → (if keeps then Some x else None) ≡ Some s → stays s ≡ true
  held_kept true x s is there = let same : s ≡ x = cc in ap stays same ∙ is
  held_kept false x s is there = absurd (cc)

  held_at : (here : Bool) (x s : S) (y : Option S) → (y ≡ Some s → stays s ≡ true)
      → (if here then (if stays x then Some x else None) else y) ≡ Some s → stays s ≡ true
  held_at true x s y held there = held_kept (stays x) x s refl there
  held_at false x s y held there = held there

pub held-none : AreHeld (no_objects counted)
held-none = record {
  socket = λ place s there. absurd (cc);
  pipe = λ place s there. absurd (cc);
  description = λ place s there. absurd (cc);
}

held-done : (d : Doing) (o : Objects counted) → AreHeld o → AreHeld (done d o)
unfolding done
held-done (ToSocket p r) o held = record {
  socket = λ place s there. held_at is_socket_held (p == place) (told_of counted.sockets r (o.socket place)) s (o.socket place) (held.socket place s) there;
  pipe = held.pipe;
  description = held.description;
}
held-done (ToPipe p r) o held = record {
  socket = held.socket;
  pipe = λ place s there. held_at is_pipe_held (p == place) (told_of counted.pipes r (o.pipe place)) s (o.pipe place) (held.pipe place s) there;
  description = held.description;
}
held-done (ToDescription p r) o held = record {
  socket = held.socket;
  pipe = held.pipe;
  description = λ place s there. held_at is_description_held (p == place) (told_of counted.descriptions r (o.description place)) s (o.description place) (held.description place s) there;
}
held-done (ToFile n r) o held = record { socket = held.socket; pipe = held.pipe; description = held.description }

-- whatever is noted
pub held-all_done : (ds : List Doing) (o : Objects counted) → AreHeld o → AreHeld (all_done ds o)
unfolding all_done
held-all_done [] o held = held
held-all_done (d ∷ ds) o held = held-all_done ds (done d o) (held-done d o held)

pub held-hold : (n : Named) (o : Objects counted) → AreHeld o → AreHeld (hold n o)
unfolding hold
held-hold n o held = held-all_done _ o held

pub held-release : (n : Named) (o : Objects counted) → AreHeld o → AreHeld (release n o)
unfolding release
held-release n o held = held-all_done _ o held

-- ---- a place that no descriptor names

free_socket : (x : Option SocketState) → ((s : SocketState) → x ≡ Some s → is_socket_held s ≡ true) → socket_holders x ≡ pos 0 → x ≡ None
free_socket None held none = refl
free_socket (Some s) held none = let is : false ≡ true = ap (int_lt (pos 0)) (sym none) ∙ held s refl in absurd (cc)

free_description : (x : Option DescriptionState) → ((s : DescriptionState) → x ≡ Some s → is_description_held s ≡ true) → description_holders x ≡ pos 0 → x ≡ None
free_description None held none = refl
free_description (Some s) held none = let is : false ≡ true = ap (int_lt (pos 0)) (sym none) ∙ held s refl in absurd (cc)

free_pipe : (x : Option PipeState) → ((s : PipeState) → x ≡ Some s → is_pipe_held s ≡ true) → readers x ≡ pos 0 → writers x ≡ pos 0 → x ≡ None
free_pipe None held no_reader no_writer = refl
free_pipe (Some s) held no_reader no_writer =
    let is : false ≡ true = ap₂ (λ (r w : ℤ). int_lt (pos 0) r || int_lt (pos 0) w) (sym no_reader) (sym no_writer) ∙ held s refl in absurd (cc)

pub free-counted : (o : Objects counted) (names : List Named) (place number : ℕ) → AreHeld o → IsCounted o names
    → times (Socket place) names ≡ 0 → times (PipeRead place) names ≡ 0 → times (PipeWrite place) names ≡ 0 → times (Open place number) names ≡ 0
    → IsFree place o
unfolding holders_of
free-counted o names place number held c socket reader writer description = record {
  socket = free_socket (o.socket place) (held.socket place) (c (Socket place) ∙ ap pos socket);
  pipe = free_pipe (o.pipe place) (held.pipe place) (c (PipeRead place) ∙ ap pos reader) (c (PipeWrite place) ∙ ap pos writer);
  description = free_description (o.description place) (held.description place) (c (Open place number) ∙ ap pos description);
}
