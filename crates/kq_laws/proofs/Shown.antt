-- What READ and WRITE are shown of a target: whether their condition holds, told off the quantities of the object.
use Rattle.std.proofs.Common.{◌≡◌, ℕ, ℤ, pos, int_lt, int_le, Bool, true, false, cond, not, ◌&&◌, ◌||◌, List, Option, Some, None, option_map, refl, sym, ap, ◌∙◌}
use Rattle.std.proofs.lemmas.Bool.{true≢false}
use Rattle.std.specs.List.{list_any}
use Rattle.std.specs.Option.{is_some}
use Rattle.kq_model.specs.declared.filter.Filter.{Filter}
use Rattle.kq_model.specs.declared.filter.Filter.TheVariants as filter
use Rattle.kq_model.specs.declared.object.Hint.{Hint}
use Rattle.kq_model.specs.declared.object.Target.{Target}
use Rattle.kq_model.specs.declared.object.View.{View}
use Rattle.kq_model.specs.declared.object.View.TheVariants as view
use Rattle.kq_model.specs.declared.side.Side.{Side}
use Rattle.kq_model.specs.declared.side.Side.TheVariants.{Read, Write}
use Rattle.kq_model.specs.Hints.{takes}
use Rattle.kq_model.specs.Look.{difference, pipe_mark, side_seen, amount_seen, read_seen, write_seen}
use Rattle.kq_model.specs.ObjectPlan as object
use Rattle.kq_model.specs.Pipes.{PipeState, pipe_view, has_reader, has_writer}
use Rattle.kq_model.specs.Sockets.{SocketState, socket_view, socket_space}
use Rattle.kq_model.specs.Targets.{Posted, target_eq}
use Rattle.kq_model.proofs.KnoteLaws.{by_test}
use Rattle.kq_model.proofs.SameTarget.{target_eq-refl}
use Rattle.kq_laws.proofs.Amounts.{is_apart}

-- ---- which hints are for a side of a target

abbrev pub filter_of : Side → Filter
filter_of Read = filter.Read
filter_of Write = filter.Write

abbrev pub hears : Side → Option Hint → Bool
hears side None = false
hears side (Some hint) = takes (filter_of side) hint

abbrev pub is_for : Side → Target → Posted → Bool
is_for side t p = target_eq t p.0 && takes (filter_of side) p.1

abbrev pub is_told : Side → Target → List Posted → Bool
is_told side t posted = list_any (is_for side t) posted

just_first : (b : Bool) → (b || false) ≡ b
just_first true = refl
just_first false = refl

pub told-own : (side : Side) (t : Target) (hint : Option Hint) → is_told side t (object.hints_for t hint) ≡ hears side hint
unfolding object.hints_for
told-own side t None = refl
told-own side t (Some hint) =
    ap (λ b. (b && takes (filter_of side) hint) || false) (target_eq-refl t) ∙ just_first (takes (filter_of side) hint)

-- ---- what is shown of a view; a knote's mark stands in the place of the object's

abbrev pub shown : Side → (ℤ → ℤ) → Option View → Bool
shown Read mark v = is_some (read_seen mark v)
shown Write mark v = is_some (write_seen mark v)

pub shown-none : (side : Side) (mark : ℤ → ℤ) → shown side mark None ≡ false
unfolding read_seen write_seen
shown-none Read mark = refl
shown-none Write mark = refl

is_some-if : {X : Type 0} (b : Bool) (x : X) → is_some (cond b (Some x) None) ≡ b
is_some-if true x = refl
is_some-if false x = refl

side-shown : (ready shut : Bool) (error : ℕ) (amount : ℤ) → is_some (side_seen ready shut error amount) ≡ (ready || shut)
unfolding side_seen
side-shown ready shut error amount = is_some-if (ready || shut) _

amount-shown : (ready : Bool) (amount : ℤ) → is_some (amount_seen ready amount) ≡ ready
unfolding amount_seen
amount-shown ready amount = side-shown ready false 0 amount ∙ just_first ready

-- ---- of a socket

abbrev pub socket_shown : Side → (ℤ → ℤ) → SocketState → Bool
socket_shown Read mark s =
    cond s.listening (int_lt (pos 0) s.pending) (int_le (mark (pos s.read_mark)) s.readable || s.read_shut)
socket_shown Write mark s =
    cond s.listening false ((s.connected && int_le (mark (pos s.write_mark)) (socket_space s)) || s.write_shut)

pub socket-shown : (side : Side) (mark : ℤ → ℤ) (s : SocketState) → shown side mark (Some (socket_view s)) ≡ socket_shown side mark s
unfolding socket_view read_seen write_seen
socket-shown Read mark s =
    by_test (λ b. is_some (read_seen mark (Some (cond b (view.Listen s.pending) (view.Sock s.readable (pos s.read_mark) s.read_shut s.connected s.read_error
    (socket_space s) (pos s.write_mark) s.write_shut s.write_error))))
    ≡ cond b (int_lt (pos 0) s.pending) (int_le (mark (pos s.read_mark)) s.readable || s.read_shut)) s.listening
    (λ _. amount-shown (int_lt (pos 0) s.pending) s.pending)
    (λ _. side-shown (int_le (mark (pos s.read_mark)) s.readable) s.read_shut s.read_error s.readable)
socket-shown Write mark s =
    by_test (λ b. is_some (write_seen mark (Some (cond b (view.Listen s.pending) (view.Sock s.readable (pos s.read_mark) s.read_shut s.connected s.read_error
    (socket_space s) (pos s.write_mark) s.write_shut s.write_error))))
    ≡ cond b false ((s.connected && int_le (mark (pos s.write_mark)) (socket_space s)) || s.write_shut)) s.listening
    (λ _. refl)
    (λ _. side-shown (s.connected && int_le (mark (pos s.write_mark)) (socket_space s)) s.write_shut s.write_error (socket_space s))

-- ---- of a pipe

abbrev pub pipe_shown : Side → (ℤ → ℤ) → PipeState → Bool
pipe_shown Read mark s = int_lt (pos 0) s.bytes || not (has_writer s)
pipe_shown Write mark s = int_le (pipe_mark (pos s.cap)) (difference (pos s.cap) s.bytes) || not (has_reader s)

pub pipe-shown : (side : Side) (mark : ℤ → ℤ) (s : PipeState) → shown side mark (Some (pipe_view s)) ≡ pipe_shown side mark s
unfolding pipe_view read_seen write_seen
pipe-shown Read mark s = side-shown (int_lt (pos 0) s.bytes) (not (has_writer s)) 0 s.bytes
pipe-shown Write mark s =
    side-shown (int_le (pipe_mark (pos s.cap)) (difference (pos s.cap) s.bytes)) (not (has_reader s)) 0 (difference (pos s.cap) s.bytes)

-- ---- of an open file

abbrev pub open_shown : Side → ℕ → ℕ → Bool
open_shown Read size offset = is_apart size offset
open_shown Write size offset = false

pub open-shown : (side : Side) (mark : ℤ → ℤ) (size offset : ℕ) → shown side mark (Some (view.Open (pos size) (pos offset))) ≡ open_shown side size offset
unfolding read_seen write_seen
open-shown Read mark size offset = amount-shown (is_apart size offset) (difference (pos size) (pos offset))
open-shown Write mark size offset = refl

-- ---- what is kept of an object only while a descriptor names it

pub kept-shown : {S : Type 0} (seen : S → View) (stays : Bool) (s : S) (side : Side) (mark : ℤ → ℤ)
    → shown side mark (option_map seen (cond stays (Some s) None)) ≡ true → shown side mark (Some (seen s)) ≡ true
kept-shown seen true s side mark e = e
kept-shown seen false s side mark e = absurd (true≢false (sym e ∙ shown-none side mark))
