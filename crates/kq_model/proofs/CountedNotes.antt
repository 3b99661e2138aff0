-- What is noted of an object says nothing of its descriptors, or that it was made: the objects stay counted
-- by the tables, with the names of what was made more.
use Rattle.std.proofs.Common.{◌≡◌, ◌∙◌, ◌==◌, ℕ, ◌+◌, pos, List, ◌∷◌, Option, None, refl, sym, ap, ap₂, arith}
use Rattle.kq_model.specs.declared.doing.DescriptionRecord.{DescriptionRecord}
use Rattle.kq_model.specs.declared.doing.DescriptionRecord.TheVariants as description
use Rattle.kq_model.specs.declared.doing.Doing.TheVariants.{ToSocket, ToPipe, ToDescription, ToFile}
use Rattle.kq_model.specs.declared.doing.FileRecord.{FileRecord}
use Rattle.kq_model.specs.declared.doing.PipeRecord.{PipeRecord}
use Rattle.kq_model.specs.declared.doing.PipeRecord.TheVariants as pipe
use Rattle.kq_model.specs.declared.doing.SocketRecord.{SocketRecord}
use Rattle.kq_model.specs.declared.doing.SocketRecord.TheVariants as socket
use Rattle.kq_model.specs.declared.mode.Mode.{Mode}
use Rattle.kq_model.specs.declared.object.Named.{Named}
use Rattle.kq_model.specs.declared.object.Named.TheVariants.{Socket, PipeRead, PipeWrite, Open}
use Rattle.kq_model.specs.Sockets as sockets
use Rattle.kq_model.specs.Pipes as pipes
use Rattle.kq_model.specs.Files as files
use Rattle.kq_model.specs.Objects.{Objects, counted, done}
use Rattle.kq_model.specs.Holders.{holders_of, is_same, one_if, times, IsCounted}
use Rattle.kq_model.proofs.HeldObjects.{Ends, changed, socket_at, description_at, pipe_at}
use Rattle.kq_model.proofs.HeldNames.{as_often, away_same, one_more}

-- ---- one thing noted

-- nothing is said of descriptors
quiet_change : (k : ℕ) (more fewer : Option ℕ) → more ≡ None → fewer ≡ None → changed (pos k) more fewer ≡ pos k
quiet_change k more fewer no_more no_fewer = ap₂ (changed (pos k)) no_more no_fewer

not_the_second : (a b : ℕ) → a + 0 + b ≡ a + b
not_the_second a b = omega arith

not_the_first : (a b : ℕ) → a + b + 0 ≡ a + b
not_the_first a b = omega arith

module _ (o : Objects counted) (names : List Named) (c : IsCounted o names) where
  pub counted-quiet_socket : (p : ℕ) (r : SocketRecord) → sockets.holds r ≡ None → sockets.releases r ≡ None → IsCounted (done (ToSocket p r) o) names
  unfolding done holders_of
  counted-quiet_socket p r more fewer (Socket q) =
      socket_at (p == q) r (o.socket q) _ _ (c (Socket q)) (λ here. quiet_change _ _ _ more fewer) (λ away. refl)
  counted-quiet_socket p r more fewer m = c m

  pub counted-quiet_description : (p : ℕ) (r : DescriptionRecord) → files.holds r ≡ None → files.releases r ≡ None → IsCounted (done (ToDescription p r) o) names
  unfolding done holders_of
  counted-quiet_description p r more fewer (Open q g) =
      description_at (p == q) r (o.description q) _ _ (c (Open q g)) (λ here. quiet_change _ _ _ more fewer) (λ away. refl)
  counted-quiet_description p r more fewer m = c m

  pub counted-file : (n : ℕ) (r : FileRecord) → IsCounted (done (ToFile n r) o) names
  unfolding done holders_of
  counted-file n r (Open q g) = c (Open q g)
  counted-file n r m = c m

  ends_now : (q : ℕ) → Ends (o.pipe q) (times (PipeRead q) names) (times (PipeWrite q) names)
  unfolding holders_of
  ends_now q = record { read = c (PipeRead q); write = c (PipeWrite q) }

  quiet_ends : (p q : ℕ) (r : PipeRecord) → pipes.holds_read r ≡ None → pipes.releases_read r ≡ None → pipes.holds_write r ≡ None → pipes.releases_write r ≡ None
      → Ends ((done (ToPipe p r) o).pipe q) (times (PipeRead q) names) (times (PipeWrite q) names)
  unfolding done
  quiet_ends p q r more_r fewer_r more_w fewer_w =
      pipe_at (p == q) r (o.pipe q) _ _ _ _ (ends_now q)
      (λ here. quiet_change _ _ _ more_r fewer_r) (λ here. quiet_change _ _ _ more_w fewer_w) (λ away. refl) (λ away. refl)

  pub counted-quiet_pipe : (p : ℕ) (r : PipeRecord) → pipes.holds_read r ≡ None → pipes.releases_read r ≡ None → pipes.holds_write r ≡ None → pipes.releases_write r ≡ None
      → IsCounted (done (ToPipe p r) o) names
  unfolding done holders_of
  counted-quiet_pipe p r more_r fewer_r more_w fewer_w (PipeRead q) = (quiet_ends p q r more_r fewer_r more_w fewer_w).read
  counted-quiet_pipe p r more_r fewer_r more_w fewer_w (PipeWrite q) = (quiet_ends p q r more_r fewer_r more_w fewer_w).write
  counted-quiet_pipe p r more_r fewer_r more_w fewer_w m = c m

  -- ---- what is made is named once more

  pub counted-made_socket : (p receive send : ℕ) → IsCounted (done (ToSocket p (socket.Made receive send)) o) (Socket p ∷ names)
  unfolding done holders_of is_same one_if times
  counted-made_socket p receive send (Socket q) =
      socket_at (p == q) (socket.Made receive send) (o.socket q) _ _ (c (Socket q))
      (one_more p q _ _ refl) (λ away. sym (away_same p q _ _ refl away))
  counted-made_socket p receive send m = c m ∙ ap pos (as_often _ _ refl)

  pub counted-opened : (p number : ℕ) (mode : Mode) → IsCounted (done (ToDescription p (description.Opened number mode)) o) (Open p number ∷ names)
  unfolding done holders_of is_same one_if times
  counted-opened p number mode (Open q g) =
      description_at (p == q) (description.Opened number mode) (o.description q) _ _ (c (Open q g))
      (one_more p q _ _ refl) (λ away. sym (away_same p q _ _ refl away))
  counted-opened p number mode m = c m ∙ ap pos (as_often _ _ refl)

  made_ends : (p q cap : ℕ) → Ends ((done (ToPipe p (pipe.Made cap)) o).pipe q)
      (times (PipeRead q) (PipeRead p ∷ PipeWrite p ∷ names)) (times (PipeWrite q) (PipeRead p ∷ PipeWrite p ∷ names))
  unfolding done is_same one_if times
  made_ends p q cap =
      pipe_at (p == q) (pipe.Made cap) (o.pipe q) _ _ _ _ (ends_now q)
      (λ here. one_more p q _ _ (not_the_second (times (PipeRead q) names) _) here) (λ here. one_more p q _ _ (not_the_first (times (PipeWrite q) names) _) here)
      (λ away. sym (away_same p q _ _ (not_the_second (times (PipeRead q) names) _) away)) (λ away. sym (away_same p q _ _ (not_the_first (times (PipeWrite q) names) _) away))

  pub counted-made_pipe : (p cap : ℕ) → IsCounted (done (ToPipe p (pipe.Made cap)) o) (PipeRead p ∷ PipeWrite p ∷ names)
  unfolding done holders_of is_same one_if times
  counted-made_pipe p cap (PipeRead q) = (made_ends p q cap).read
  counted-made_pipe p cap (PipeWrite q) = (made_ends p q cap).write
  counted-made_pipe p cap m = c m ∙ ap pos (let k : ℕ = times m names in let e : k + 0 + 0 ≡ k = omega arith in sym e)
