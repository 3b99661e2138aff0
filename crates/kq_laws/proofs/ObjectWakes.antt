-- What is noted of sockets and pipes makes no condition hold but those that its hints tell.
use Rattle.std.proofs.Common.{◌≡◌, ℕ, ℤ, Bool, true, false, cond, ◌||◌, eq-eqb, eqb-true, List, [], ◌∷◌, Option, Some, None, option_map, refl, sym, ap, subst, ◌∙◌}
use Rattle.std.proofs.lemmas.Bool.{true≢false}
use Rattle.kq_model.specs.declared.doing.Doing.{Doing}
use Rattle.kq_model.specs.declared.doing.Doing.TheVariants.{ToSocket, ToPipe}
use Rattle.kq_model.specs.declared.doing.PipeRecord.{PipeRecord}
use Rattle.kq_model.specs.declared.doing.PipeRecord.TheVariants as pipe
use Rattle.kq_model.specs.declared.doing.SocketRecord.{SocketRecord}
use Rattle.kq_model.specs.declared.doing.SocketRecord.TheVariants as socket
use Rattle.kq_model.specs.declared.object.Hint.{Hint}
use Rattle.kq_model.specs.declared.object.Target.{Target}
use Rattle.kq_model.specs.declared.object.Target.TheVariants.{Socket, Pipe, Open, File, Process, Signal, Own}
use Rattle.kq_model.specs.declared.side.Side.{Side}
use Rattle.kq_model.specs.declared.side.Side.TheVariants as side
use Rattle.kq_model.specs.ObjectPlan as object
use Rattle.kq_model.specs.Objects.{Objects, counted, done, all_done, kept, told_of, view_of}
use Rattle.kq_model.specs.Pipes.{PipeState, pipe_after, pipe_view, is_pipe_held}
use Rattle.kq_model.specs.Sockets.{SocketState, socket_after, socket_view, is_socket_held}
use Rattle.kq_model.specs.Targets.{Posted}
use Rattle.kq_model.specs.Touching.{touches, touched_by}
use Rattle.kq_model.proofs.KnoteLaws.{by_test}
use Rattle.kq_model.proofs.UntouchedViews.{untouched-all}
use Rattle.kq_laws.proofs.PipeWakes.{TellsPipe}
use Rattle.kq_laws.proofs.Shown.{is_told, shown, shown-none, told-own, socket-shown, pipe-shown, kept-shown}
use Rattle.kq_laws.proofs.SocketWakes.{TellsSocket}

-- what comes to be shown of a target is told
abbrev pub Tells : Objects counted → List Doing → List Posted → Target → Type 0
Tells o ds posted t =
    (side : Side) (mark : ℤ → ℤ) → is_told side t posted ≡ false → shown side mark (view_of t (all_done ds o)) ≡ true
    → shown side mark (view_of t o) ≡ true

-- what is not touched need not be looked at
pub by-touch : (o : Objects counted) (ds : List Doing) (posted : List Posted) (t : Target)
    → (touched_by t ds o ≡ true → Tells o ds posted t) → Tells o ds posted t
by-touch o ds posted t touched =
    by_test (λ b. touched_by t ds o ≡ b → Tells o ds posted t) (touched_by t ds o) (λ _ yes. touched yes)
    (λ _ no side mark quiet e. ap (shown side mark) (sym (untouched-all t ds o no)) ∙ e) refl

just_first : (b : Bool) → (b || false) ≡ true → b ≡ true
just_first true e = refl
just_first false e = e

pub touched-one : (t : Target) (d : Doing) (o : Objects counted) → touched_by t (d ∷ []) o ≡ true → touches t d o ≡ true
unfolding touched_by
touched-one t d o e = just_first (touches t d o) e

-- ---- sockets

pub socket-target : (t : Target) (p : ℕ) (r : SocketRecord) (o : Objects counted) → touches t (ToSocket p r) o ≡ true → t ≡ Socket p
unfolding touches
socket-target (Socket q) p r o e = ap Socket (sym (eqb-true p q e))
socket-target (Pipe q) p r o e = absurd (true≢false (sym e))
socket-target (Open q) p r o e = absurd (true≢false (sym e))
socket-target (File n) p r o e = absurd (true≢false (sym e))
socket-target (Process pid) p r o e = absurd (true≢false (sym e))
socket-target (Signal pid signal) p r o e = absurd (true≢false (sym e))
socket-target Own p r o e = absurd (true≢false (sym e))

socket-view : (o : Objects counted) (p : ℕ) (r : SocketRecord) (x : Option SocketState) → o.socket p ≡ x
    → view_of (Socket p) (done (ToSocket p r) o) ≡ option_map socket_view (kept counted.sockets is_socket_held (told_of counted.sockets r x))
unfolding view_of done
socket-view o p r x is =
    ap (λ b. option_map socket_view (cond b (kept counted.sockets is_socket_held (told_of counted.sockets r (o.socket p))) (o.socket p))) (eq-eqb p p refl)
    ∙ ap (λ y. option_map socket_view (kept counted.sockets is_socket_held (told_of counted.sockets r y))) is

module _ (o : Objects counted) (p : ℕ) (r : SocketRecord) (hint : Option Hint) (s : SocketState) (there : o.socket p ≡ Some s)
    (tells : TellsSocket s r hint) where
  socket-own : Tells o (ToSocket p r ∷ []) (object.hints_for (Socket p) hint) (Socket p)
  unfolding all_done view_of
  socket-own side mark quiet e =
      ap (λ x. shown side mark (option_map socket_view x)) there
      ∙ socket-shown side mark s
      ∙ tells side mark (sym (told-own side (Socket p) hint) ∙ quiet)
      (sym (socket-shown side mark (socket_after r s))
      ∙ kept-shown socket_view (is_socket_held (socket_after r s)) (socket_after r s) side mark
      (ap (shown side mark) (sym (socket-view o p r (Some s) there)) ∙ e))

  pub socket-tells : (t : Target) → Tells o (ToSocket p r ∷ []) (object.hints_for (Socket p) hint) t
  socket-tells t =
      by-touch o (ToSocket p r ∷ []) (object.hints_for (Socket p) hint) t
      (λ touched. subst (Tells o (ToSocket p r ∷ []) (object.hints_for (Socket p) hint))
      (sym (socket-target t p r o (touched-one t (ToSocket p r) o touched))) socket-own)

-- of what is not there nothing is left
socket-gone : (o : Objects counted) (p : ℕ) → o.socket p ≡ None → Tells o (ToSocket p socket.Released ∷ []) [] (Socket p)
unfolding all_done socket_after
socket-gone o p none side mark quiet e =
    absurd (true≢false (sym e ∙ ap (shown side mark) (socket-view o p socket.Released None none) ∙ shown-none side mark))

pub socket-gone-tells : (o : Objects counted) (p : ℕ) → o.socket p ≡ None → (t : Target) → Tells o (ToSocket p socket.Released ∷ []) [] t
socket-gone-tells o p none t =
    by-touch o (ToSocket p socket.Released ∷ []) [] t
    (λ touched. subst (Tells o (ToSocket p socket.Released ∷ []) [])
    (sym (socket-target t p socket.Released o (touched-one t (ToSocket p socket.Released) o touched))) (socket-gone o p none))

-- ---- pipes

pub pipe-target : (t : Target) (p : ℕ) (r : PipeRecord) (o : Objects counted) → touches t (ToPipe p r) o ≡ true → t ≡ Pipe p
unfolding touches
pipe-target (Pipe q) p r o e = ap Pipe (sym (eqb-true p q e))
pipe-target (Socket q) p r o e = absurd (true≢false (sym e))
pipe-target (Open q) p r o e = absurd (true≢false (sym e))
pipe-target (File n) p r o e = absurd (true≢false (sym e))
pipe-target (Process pid) p r o e = absurd (true≢false (sym e))
pipe-target (Signal pid signal) p r o e = absurd (true≢false (sym e))
pipe-target Own p r o e = absurd (true≢false (sym e))

pipe-view : (o : Objects counted) (p : ℕ) (r : PipeRecord) (x : Option PipeState) → o.pipe p ≡ x
    → view_of (Pipe p) (done (ToPipe p r) o) ≡ option_map pipe_view (kept counted.pipes is_pipe_held (told_of counted.pipes r x))
unfolding view_of done
pipe-view o p r x is =
    ap (λ b. option_map pipe_view (cond b (kept counted.pipes is_pipe_held (told_of counted.pipes r (o.pipe p))) (o.pipe p))) (eq-eqb p p refl)
    ∙ ap (λ y. option_map pipe_view (kept counted.pipes is_pipe_held (told_of counted.pipes r y))) is

module _ (o : Objects counted) (p : ℕ) (r : PipeRecord) (hint : Option Hint) (s : PipeState) (there : o.pipe p ≡ Some s)
    (tells : TellsPipe s r hint) where
  pipe-own : Tells o (ToPipe p r ∷ []) (object.hints_for (Pipe p) hint) (Pipe p)
  unfolding all_done view_of
  pipe-own side mark quiet e =
      ap (λ x. shown side mark (option_map pipe_view x)) there
      ∙ pipe-shown side mark s
      ∙ tells side mark (sym (told-own side (Pipe p) hint) ∙ quiet)
      (sym (pipe-shown side mark (pipe_after r s))
      ∙ kept-shown pipe_view (is_pipe_held (pipe_after r s)) (pipe_after r s) side mark
      (ap (shown side mark) (sym (pipe-view o p r (Some s) there)) ∙ e))

  pub pipe-tells : (t : Target) → Tells o (ToPipe p r ∷ []) (object.hints_for (Pipe p) hint) t
  pipe-tells t =
      by-touch o (ToPipe p r ∷ []) (object.hints_for (Pipe p) hint) t
      (λ touched. subst (Tells o (ToPipe p r ∷ []) (object.hints_for (Pipe p) hint))
      (sym (pipe-target t p r o (touched-one t (ToPipe p r) o touched))) pipe-own)

ends-gone : (end : Side) → kept counted.pipes is_pipe_held (told_of counted.pipes (pipe.Released end) None) ≡ None
unfolding pipe_after
ends-gone side.Read = refl
ends-gone side.Write = refl

pipe-gone : (o : Objects counted) (p : ℕ) (end : Side) (posted : List Posted) → o.pipe p ≡ None → Tells o (ToPipe p (pipe.Released end) ∷ []) posted (Pipe p)
unfolding all_done
pipe-gone o p end posted none side mark quiet e =
    absurd (true≢false (sym e ∙ ap (shown side mark) (pipe-view o p (pipe.Released end) None none)
    ∙ ap (λ x. shown side mark (option_map pipe_view x)) (ends-gone end) ∙ shown-none side mark))

pub pipe-gone-tells : (o : Objects counted) (p : ℕ) (end : Side) (posted : List Posted) → o.pipe p ≡ None → (t : Target)
    → Tells o (ToPipe p (pipe.Released end) ∷ []) posted t
pipe-gone-tells o p end posted none t =
    by-touch o (ToPipe p (pipe.Released end) ∷ []) posted t
    (λ touched. subst (Tells o (ToPipe p (pipe.Released end) ∷ []) posted)
    (sym (pipe-target t p (pipe.Released end) o (touched-one t (ToPipe p (pipe.Released end)) o touched))) (pipe-gone o p end posted none))
