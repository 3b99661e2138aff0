-- A step at a socket makes no condition hold but on the side that its hint tells.
use Rattle.std.proofs.Common.{◌≡◌, ℕ, ℤ, pos, ◌+ℤ◌, ◌-ℤ◌, int_lt, int_le, nat_lt, nat_le, Bool, true, false, cond, not, ◌&&◌, ◌||◌, Option, Some, None, Ok, Err, refl, sym, ap, ◌∙◌, if◌then◌else◌}
use Rattle.std.proofs.lemmas.Bool.{true≢false}
use Rattle.kq_model.specs.declared.doing.SocketRecord.{SocketRecord}
use Rattle.kq_model.specs.declared.doing.SocketRecord.TheVariants as socket
use Rattle.kq_model.specs.declared.object.Hint.{Hint}
use Rattle.kq_model.specs.declared.object.Hint.TheVariants.{Readable, Writable}
use Rattle.kq_model.specs.declared.side.Side.{Side}
use Rattle.kq_model.specs.declared.side.Side.TheVariants.{Read, Write}
use Rattle.kq_model.specs.declared.why.Why.{Why}
use Rattle.kq_model.specs.declared.why.Why.TheVariants.{WrongKind, Absent, TooMany}
use Rattle.kq_model.specs.Hints.{takes}
use Rattle.kq_model.specs.SocketSteps as steps
use Rattle.kq_model.specs.SocketSteps.{SocketStep, is_capacity, hint_on}
use Rattle.kq_model.specs.Sockets.{SocketState, socket_after, is_unconnected, socket_space}
use Rattle.kq_model.proofs.KnoteLaws.{by_test}
use Rattle.kq_laws.proofs.Amounts.{reached-before, room-before, some-before}
use Rattle.kq_laws.proofs.Shown.{hears, socket_shown}

-- ---- connectives

pub first-before : (a b c : Bool) → (c ≡ true → a ≡ true) → (c || b) ≡ true → (a || b) ≡ true
first-before true b c later e = refl
first-before false b true later e = absurd (true≢false (sym (later refl)))
first-before false b false later e = e

pub second-before : (a b d : Bool) → (d ≡ true → b ≡ true) → (a || d) ≡ true → (a || b) ≡ true
second-before true b d later e = refl
second-before false b d later e = later e

and-before : (a b c : Bool) → (c ≡ true → b ≡ true) → (a && c) ≡ true → (a && b) ≡ true
and-before true b c later e = later e
and-before false b c later e = e

yes-before : (b x y p : Bool) → (p ≡ true → x ≡ true) → cond b p y ≡ true → cond b x y ≡ true
yes-before true x y p later e = later e
yes-before false x y p later e = e

no-before : (b x y q : Bool) → (q ≡ true → y ≡ true) → cond b x q ≡ true → cond b x y ≡ true
no-before true x y q later e = e
no-before false x y q later e = later e

-- ---- a step

-- connections wait only at a socket that listens
abbrev pub IsCalm : SocketState → Type 0
IsCalm s = s.listening ≡ false → int_lt (pos 0) s.pending ≡ false

abbrev pub TellsSocket : SocketState → SocketRecord → Option Hint → Type 0
TellsSocket s told hint =
    (side : Side) (mark : ℤ → ℤ) → hears side hint ≡ false → socket_shown side mark (socket_after told s) ≡ true
    → socket_shown side mark s ≡ true

abbrev pub StepTells : SocketState → SocketStep → Type 0
StepTells s (Err why) = Unit {0}
StepTells s (Ok step) = TellsSocket s step.0 step.1

module _ (s : SocketState) where
  tells-unless : (refused : Bool) (why : Why) (step : SocketStep) → (refused ≡ false → StepTells s step)
      → StepTells s (if refused then Err why else step)
  tells-unless refused why step tells = by_test (λ b. StepTells s (if b then Err why else step)) refused (λ _. tt) tells

  is_yes : (b : Bool) → not b ≡ false → b ≡ true
  is_yes true e = refl
  is_yes false e = absurd (true≢false e)

  unconnected-quiet : is_unconnected s ≡ true → s.listening ≡ false
  unconnected-quiet e = by_test (λ b. (not b && not s.connected) ≡ true → b ≡ false) s.listening (λ _ no. absurd (true≢false (sym no))) (λ _ _. refl) e

  listened : (backlog : ℕ) → IsCalm s → s.listening ≡ false → TellsSocket s (socket.Listened backlog) None
  unfolding socket_after
  listened backlog calm off Read mark quiet e = absurd (true≢false (sym e ∙ calm off))
  listened backlog calm off Write mark quiet e = absurd (true≢false (sym e))

  pub listen-tells : (backlog : ℕ) → IsCalm s → StepTells s (steps.listen backlog s)
  unfolding steps.listen
  listen-tells backlog calm =
      tells-unless (not (is_unconnected s)) WrongKind (if not (is_capacity backlog) then Err TooMany else Ok (socket.Listened backlog, None))
      (λ un. tells-unless (not (is_capacity backlog)) TooMany (Ok (socket.Listened backlog, None))
      (λ _. listened backlog calm (unconnected-quiet (is_yes (is_unconnected s) un))))

  -- a side of a socket that does not listen
  abbrev open_read : (ℤ → ℤ) → Bool
  open_read mark = int_le (mark (pos s.read_mark)) s.readable || s.read_shut

  abbrev open_write : (ℤ → ℤ) → Bool
  open_write mark = (s.connected && int_le (mark (pos s.write_mark)) (socket_space s)) || s.write_shut

  arrived : s.listening ≡ true → TellsSocket s socket.Arrived (Some Readable)
  unfolding socket_after takes
  arrived on Read mark quiet e = absurd (true≢false quiet)
  arrived on Write mark quiet e = absurd (true≢false (sym e ∙ ap (λ b. cond b false (open_write mark)) on))

  pub arrive-tells : StepTells s (steps.arrive s)
  unfolding steps.arrive
  arrive-tells =
      tells-unless (not s.listening) WrongKind (if int_le (pos s.backlog) s.pending then Err TooMany else Ok (socket.Arrived, Some Readable))
      (λ on. tells-unless (int_le (pos s.backlog) s.pending) TooMany (Ok (socket.Arrived, Some Readable)) (λ _. arrived (is_yes s.listening on)))

  accepted : TellsSocket s socket.Accepted None
  unfolding socket_after
  accepted Read mark quiet e =
      yes-before s.listening (int_lt (pos 0) s.pending) (open_read mark) (int_lt (pos 0) (s.pending -ℤ pos 1)) (some-before s.pending 1) e
  accepted Write mark quiet e = e

  pub accept-tells : (receive send : ℕ) → StepTells s (steps.accept receive send s)
  unfolding steps.accept
  accept-tells receive send =
      let sized : SocketStep = if not (is_capacity receive && is_capacity send) then Err TooMany else Ok (socket.Accepted, None) in
      tells-unless (not s.listening) WrongKind (if int_le s.pending (pos 0) then Err Absent else sized)
      (λ _. tells-unless (int_le s.pending (pos 0)) Absent sized
      (λ _. tells-unless (not (is_capacity receive && is_capacity send)) TooMany (Ok (socket.Accepted, None)) (λ _. accepted)))

  connected : TellsSocket s socket.Connected (Some Writable)
  unfolding socket_after takes
  connected Read mark quiet e = e
  connected Write mark quiet e = absurd (true≢false quiet)

  pub connect-tells : StepTells s (steps.connect s)
  unfolding steps.connect
  connect-tells = tells-unless (not (is_unconnected s)) WrongKind (Ok (socket.Connected, Some Writable)) (λ _. connected)

  received : (bytes : ℕ) → TellsSocket s (socket.Received bytes) (Some Readable)
  unfolding socket_after takes
  received bytes Read mark quiet e = absurd (true≢false quiet)
  received bytes Write mark quiet e = e

  pub receive-tells : (bytes : ℕ) → StepTells s (steps.receive bytes s)
  unfolding steps.receive
  receive-tells bytes =
      let fitting : SocketStep = if int_lt (pos s.receive_buffer) (s.readable +ℤ pos bytes) then Err TooMany else Ok (socket.Received bytes, Some Readable) in
      tells-unless (not s.connected || s.read_shut) WrongKind fitting
      (λ _. tells-unless (int_lt (pos s.receive_buffer) (s.readable +ℤ pos bytes)) TooMany (Ok (socket.Received bytes, Some Readable)) (λ _. received bytes))

  transmitted : (bytes : ℕ) → TellsSocket s (socket.Transmitted bytes) (Some Writable)
  unfolding socket_after takes
  transmitted bytes Read mark quiet e = e
  transmitted bytes Write mark quiet e = absurd (true≢false quiet)

  pub transmit-tells : (bytes : ℕ) → StepTells s (steps.transmit bytes s)
  unfolding steps.transmit
  transmit-tells bytes =
      tells-unless (not s.connected) WrongKind (if int_lt s.unsent (pos bytes) then Err TooMany else Ok (socket.Transmitted bytes, Some Writable))
      (λ _. tells-unless (int_lt s.unsent (pos bytes)) TooMany (Ok (socket.Transmitted bytes, Some Writable)) (λ _. transmitted bytes))

  was-shut : (side : Side) (error : ℕ) → TellsSocket s (socket.Shut side error) (Some (hint_on side))
  unfolding socket_after takes hint_on
  was-shut Read error Read mark quiet e = absurd (true≢false quiet)
  was-shut Read error Write mark quiet e = e
  was-shut Write error Read mark quiet e = e
  was-shut Write error Write mark quiet e = absurd (true≢false quiet)

  pub shut-tells : (side : Side) (error : ℕ) → StepTells s (steps.shut side error s)
  unfolding steps.shut
  shut-tells side error = tells-unless s.listening WrongKind (Ok (socket.Shut side error, Some (hint_on side))) (λ _. was-shut side error)

  was-marked : (side : Side) (mark : ℕ) → TellsSocket s (socket.Marked side mark) (Some (hint_on side))
  unfolding socket_after takes hint_on
  was-marked Read bytes Read mark quiet e = absurd (true≢false quiet)
  was-marked Read bytes Write mark quiet e = e
  was-marked Write bytes Read mark quiet e = e
  was-marked Write bytes Write mark quiet e = absurd (true≢false quiet)

  pub low_water-tells : (side : Side) (mark : ℕ) → StepTells s (steps.low_water side mark s)
  unfolding steps.low_water
  low_water-tells side mark =
      let told : SocketStep = Ok (socket.Marked side mark, Some (hint_on side)) in
      let outside : Bool = not (nat_lt 0 mark && nat_le mark (steps.capacity_of side s)) in
      tells-unless s.listening WrongKind (if outside then Err TooMany else told)
      (λ _. tells-unless outside TooMany told (λ _. was-marked side mark))

  was-read : (bytes : ℕ) → TellsSocket s (socket.Read bytes) None
  unfolding socket_after
  was-read bytes Read mark quiet e =
      let reaches : ℤ → Bool = int_le (mark (pos s.read_mark)) in
      no-before s.listening (int_lt (pos 0) s.pending) (open_read mark) (reaches (s.readable -ℤ pos bytes) || s.read_shut)
      (first-before (reaches s.readable) s.read_shut (reaches (s.readable -ℤ pos bytes))
      (reached-before (mark (pos s.read_mark)) s.readable bytes)) e
  was-read bytes Write mark quiet e = e

  pub read-tells : (bytes : ℕ) → StepTells s (steps.read_socket bytes s)
  unfolding steps.read_socket
  read-tells bytes =
      tells-unless s.listening WrongKind (if int_lt s.readable (pos bytes) then Err TooMany else Ok (socket.Read bytes, None))
      (λ _. tells-unless (int_lt s.readable (pos bytes)) TooMany (Ok (socket.Read bytes, None)) (λ _. was-read bytes))

  was-written : (bytes : ℕ) → TellsSocket s (socket.Written bytes) None
  unfolding socket_after
  was-written bytes Read mark quiet e = e
  was-written bytes Write mark quiet e =
      let reaches : ℤ → Bool = int_le (mark (pos s.write_mark)) in
      let used : ℤ = pos s.send_buffer -ℤ (s.unsent +ℤ pos bytes) in
      no-before s.listening false (open_write mark) ((s.connected && reaches used) || s.write_shut)
      (first-before (s.connected && reaches (socket_space s)) s.write_shut (s.connected && reaches used)
      (and-before s.connected (reaches (socket_space s)) (reaches used)
      (room-before (mark (pos s.write_mark)) (pos s.send_buffer) s.unsent bytes))) e

  pub write-tells : (bytes : ℕ) → StepTells s (steps.write_socket bytes s)
  unfolding steps.write_socket
  write-tells bytes =
      let fitting : SocketStep = if int_lt (socket_space s) (pos bytes) then Err TooMany else Ok (socket.Written bytes, None) in
      tells-unless (not s.connected || s.write_shut) WrongKind fitting
      (λ _. tells-unless (int_lt (socket_space s) (pos bytes)) TooMany (Ok (socket.Written bytes, None)) (λ _. was-written bytes))

  -- descriptors more and less are nothing to what is shown
  pub held-tells : TellsSocket s socket.Held None
  unfolding socket_after
  held-tells Read mark quiet e = e
  held-tells Write mark quiet e = e

  pub released-tells : TellsSocket s socket.Released None
  unfolding socket_after
  released-tells Read mark quiet e = e
  released-tells Write mark quiet e = e
