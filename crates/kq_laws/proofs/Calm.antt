-- Connections wait only at sockets that listen: each record about objects keeps that.
use Rattle.std.proofs.Common.{◌≡◌, ℕ, ◌==◌, nat_lt, nat_le, pos, ◌+ℤ◌, int_lt, int_le, Bool, true, false, cond, not, ◌&&◌, ◌||◌, eqb-true, List, [], ◌∷◌, Option, Some, None, Ok, Err, refl, sym, subst, ◌∙◌, if◌then◌else◌}
use Rattle.std.proofs.lemmas.Bool.{true≢false, or_parts}
use Rattle.std.proofs.lemmas.Option.{none-some, same_Some}
use Rattle.std.specs.List.{list_any}
use Rattle.kq_model.specs.declared.doing.Doing.{Doing}
use Rattle.kq_model.specs.declared.doing.Doing.TheVariants.{ToSocket, ToPipe, ToDescription, ToFile}
use Rattle.kq_model.specs.declared.doing.SocketRecord.{SocketRecord}
use Rattle.kq_model.specs.declared.doing.SocketRecord.TheVariants as socket
use Rattle.kq_model.specs.declared.object.Hint.TheVariants.{Readable, Writable}
use Rattle.kq_model.specs.declared.side.Side.{Side}
use Rattle.kq_model.specs.declared.why.Why.{Why}
use Rattle.kq_model.specs.declared.why.Why.TheVariants.{WrongKind, Absent, TooMany}
use Rattle.kq_model.specs.ObjectPlan.{Planned}
use Rattle.kq_model.specs.Objects.{Objects, counted, no_objects, done, all_done, kept, told_of}
use Rattle.kq_model.specs.SocketSteps as steps
use Rattle.kq_model.specs.SocketSteps.{SocketStep, is_capacity, hint_on}
use Rattle.kq_model.specs.Sockets.{SocketState, socket_after, is_socket_held, is_unconnected, no_socket, socket_space}
use Rattle.kq_model.proofs.KnoteLaws.{by_test}
use Rattle.kq_laws.proofs.Amounts.{none-after}
use Rattle.kq_laws.proofs.ActWakes.{AreCalm}
use Rattle.kq_laws.proofs.SocketWakes.{IsCalm}

pub calm-none : AreCalm (no_objects counted)
calm-none = record { calm = λ place s there. absurd (none-some s there) }

-- ---- one socket

abbrev is_arrived : SocketRecord → Bool
is_arrived socket.Arrived = true
is_arrived _ = false

abbrev pub is_arrival : Doing → Bool
is_arrival (ToSocket p r) = is_arrived r
is_arrival _ = false

abbrev pub has_arrival : List Doing → Bool
has_arrival ds = list_any is_arrival ds

told-calm : (r : SocketRecord) (s : SocketState) → is_arrived r ≡ false → IsCalm s → IsCalm (socket_after r s)
unfolding socket_after
told-calm (socket.Made receive send) s other calm = calm
told-calm (socket.Listened backlog) s other calm = λ off. absurd (true≢false off)
told-calm socket.Arrived s other calm = absurd (true≢false other)
told-calm socket.Accepted s other calm = λ off. none-after s.pending 1 (calm off)
told-calm socket.Connected s other calm = calm
told-calm (socket.Received bytes) s other calm = calm
told-calm (socket.Read bytes) s other calm = calm
told-calm (socket.Written bytes) s other calm = calm
told-calm (socket.Transmitted bytes) s other calm = calm
told-calm (socket.Shut side error) s other calm = calm
told-calm (socket.Marked side mark) s other calm = calm
told-calm socket.Held s other calm = calm
told-calm socket.Released s other calm = calm

fresh-calm : (r : SocketRecord) (x : Option SocketState) → is_arrived r ≡ false → ((s : SocketState) → x ≡ Some s → IsCalm s)
    → IsCalm (told_of counted.sockets r x)
fresh-calm r None other calm = told-calm r no_socket other (λ _. refl)
fresh-calm r (Some s) other calm = told-calm r s other (calm s refl)

kept-calm : (stays : Bool) (x s : SocketState) → IsCalm x → cond stays (Some x) None ≡ Some s → IsCalm s
kept-calm true x s calm there = subst IsCalm (same_Some x s there) calm
kept-calm false x s calm there = absurd (none-some s there)

at-calm : (here : Bool) (x s : SocketState) (y : Option SocketState) → IsCalm x → (y ≡ Some s → IsCalm s)
    → cond here (kept counted.sockets is_socket_held x) y ≡ Some s → IsCalm s
at-calm true x s y now before there = kept-calm (is_socket_held x) x s now there
at-calm false x s y now before there = before there

calm-done : (d : Doing) (o : Objects counted) → is_arrival d ≡ false → AreCalm o → AreCalm (done d o)
unfolding done
calm-done (ToSocket p r) o other c = record {
  calm = λ place s there. at-calm (p == place) (told_of counted.sockets r (o.socket place)) s (o.socket place)
      (fresh-calm r (o.socket place) other (c.calm place)) (c.calm place s) there;
}
calm-done (ToPipe p r) o other c = record { calm = c.calm }
calm-done (ToDescription p r) o other c = record { calm = c.calm }
calm-done (ToFile n r) o other c = record { calm = c.calm }

pub calm-all : (ds : List Doing) (o : Objects counted) → has_arrival ds ≡ false → AreCalm o → AreCalm (all_done ds o)
unfolding all_done
calm-all [] o other c = c
calm-all (d ∷ ds) o other c =
    let both = or_parts (is_arrival d) (has_arrival ds) other in
    calm-all ds (done d o) both.1 (calm-done d o both.0 c)

-- ---- plans

abbrev pub CalmAll : Objects counted → Planned → Type 0
CalmAll o (Err why) = Unit {0}
CalmAll o (Ok p) = AreCalm o → AreCalm (all_done p.doings o)

module _ (o : Objects counted) where
  pub calm-unless : (refused : Bool) (why : Why) (p : Planned) → (refused ≡ false → CalmAll o p) → CalmAll o (if refused then Err why else p)
  calm-unless refused why p calm = by_test (λ b. CalmAll o (if b then Err why else p)) refused (λ _. tt) calm

-- a step at a socket
abbrev pub StepCalm : ℕ → Objects counted → SocketStep → Type 0
StepCalm q o (Err why) = Unit {0}
StepCalm q o (Ok step) = AreCalm o → AreCalm (done (ToSocket q step.0) o)

module _ (o : Objects counted) (q : ℕ) where
  unless : (refused : Bool) (why : Why) (step : SocketStep) → (refused ≡ false → StepCalm q o step) → StepCalm q o (if refused then Err why else step)
  unless refused why step calm = by_test (λ b. StepCalm q o (if b then Err why else step)) refused (λ _. tt) calm

  said : (r : SocketRecord) → is_arrived r ≡ false → AreCalm o → AreCalm (done (ToSocket q r) o)
  said r other = calm-done (ToSocket q r) o other

  module _ (s : SocketState) (there : o.socket q ≡ Some s) where
    arrived-calm : s.listening ≡ true → IsCalm (told_of counted.sockets socket.Arrived (o.socket q))
    unfolding socket_after
    arrived-calm on = subst (λ x. IsCalm (told_of counted.sockets socket.Arrived x)) (sym there) (λ off. absurd (true≢false (sym on ∙ off)))

    arrives-calm : s.listening ≡ true → AreCalm o → AreCalm (done (ToSocket q socket.Arrived) o)
    unfolding done
    arrives-calm on c = record {
      calm = λ place t now. by_test (λ b. (q == place) ≡ b
          → cond b (kept counted.sockets is_socket_held (told_of counted.sockets socket.Arrived (o.socket place))) (o.socket place) ≡ Some t → IsCalm t) (q == place)
          (λ _ here kept_now. let x = told_of counted.sockets socket.Arrived (o.socket place) in
          kept-calm (is_socket_held x) x t
          (subst (λ n. IsCalm (told_of counted.sockets socket.Arrived (o.socket n))) (eqb-true q place here) (arrived-calm on)) kept_now)
          (λ _ _ before. c.calm place t before) refl now;
    }

    is_yes : (b : Bool) → not b ≡ false → b ≡ true
    is_yes true e = refl
    is_yes false e = absurd (true≢false e)

    pub arrive-calm : StepCalm q o (steps.arrive s)
    unfolding steps.arrive
    arrive-calm =
        let told : SocketStep = Ok (socket.Arrived, Some Readable) in
        unless (not s.listening) WrongKind (if int_le (pos s.backlog) s.pending then Err TooMany else told)
        (λ on. unless (int_le (pos s.backlog) s.pending) TooMany told (λ _. arrives-calm (is_yes s.listening on)))

    pub listen-calm : (backlog : ℕ) → StepCalm q o (steps.listen backlog s)
    unfolding steps.listen
    listen-calm backlog =
        let told : SocketStep = Ok (socket.Listened backlog, None) in
        unless (not (is_unconnected s)) WrongKind (if not (is_capacity backlog) then Err TooMany else told)
        (λ _. unless (not (is_capacity backlog)) TooMany told (λ _. said (socket.Listened backlog) refl))

    pub accept-calm : (receive send : ℕ) → StepCalm q o (steps.accept receive send s)
    unfolding steps.accept
    accept-calm receive send =
        let told : SocketStep = Ok (socket.Accepted, None) in
        let sized : SocketStep = if not (is_capacity receive && is_capacity send) then Err TooMany else told in
        unless (not s.listening) WrongKind (if int_le s.pending (pos 0) then Err Absent else sized)
        (λ _. unless (int_le s.pending (pos 0)) Absent sized
        (λ _. unless (not (is_capacity receive && is_capacity send)) TooMany told (λ _. said socket.Accepted refl)))

    pub connect-calm : StepCalm q o (steps.connect s)
    unfolding steps.connect
    connect-calm = unless (not (is_unconnected s)) WrongKind (Ok (socket.Connected, Some Writable)) (λ _. said socket.Connected refl)

    pub receive-calm : (bytes : ℕ) → StepCalm q o (steps.receive bytes s)
    unfolding steps.receive
    receive-calm bytes =
        let told : SocketStep = Ok (socket.Received bytes, Some Readable) in
        let over : Bool = int_lt (pos s.receive_buffer) (s.readable +ℤ pos bytes) in
        unless (not s.connected || s.read_shut) WrongKind (if over then Err TooMany else told)
        (λ _. unless over TooMany told (λ _. said (socket.Received bytes) refl))

    pub transmit-calm : (bytes : ℕ) → StepCalm q o (steps.transmit bytes s)
    unfolding steps.transmit
    transmit-calm bytes =
        let told : SocketStep = Ok (socket.Transmitted bytes, Some Writable) in
        unless (not s.connected) WrongKind (if int_lt s.unsent (pos bytes) then Err TooMany else told)
        (λ _. unless (int_lt s.unsent (pos bytes)) TooMany told (λ _. said (socket.Transmitted bytes) refl))

    pub shut-calm : (end : Side) (error : ℕ) → StepCalm q o (steps.shut end error s)
    unfolding steps.shut
    shut-calm end error = unless s.listening WrongKind (Ok (socket.Shut end error, Some (hint_on end))) (λ _. said (socket.Shut end error) refl)

    pub low_water-calm : (end : Side) (mark : ℕ) → StepCalm q o (steps.low_water end mark s)
    unfolding steps.low_water
    low_water-calm end mark =
        let told : SocketStep = Ok (socket.Marked end mark, Some (hint_on end)) in
        let outside : Bool = not (nat_lt 0 mark && nat_le mark (steps.capacity_of end s)) in
        unless s.listening WrongKind (if outside then Err TooMany else told)
        (λ _. unless outside TooMany told (λ _. said (socket.Marked end mark) refl))

    pub read-calm : (bytes : ℕ) → StepCalm q o (steps.read_socket bytes s)
    unfolding steps.read_socket
    read-calm bytes =
        let told : SocketStep = Ok (socket.Read bytes, None) in
        unless s.listening WrongKind (if int_lt s.readable (pos bytes) then Err TooMany else told)
        (λ _. unless (int_lt s.readable (pos bytes)) TooMany told (λ _. said (socket.Read bytes) refl))

    pub write-calm : (bytes : ℕ) → StepCalm q o (steps.write_socket bytes s)
    unfolding steps.write_socket
    write-calm bytes =
        let told : SocketStep = Ok (socket.Written bytes, None) in
        let over : Bool = int_lt (socket_space s) (pos bytes) in
        unless (not s.connected || s.write_shut) WrongKind (if over then Err TooMany else told)
        (λ _. unless over TooMany told (λ _. said (socket.Written bytes) refl))
