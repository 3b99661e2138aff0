use Rattle.std.proofs.Common.{ap, arith, length, true, false, refl, rules, subst, sym}
use Rattle.std.specs.Io.KnownBytes.{prepend_known}
use Rattle.kq_input.specs.Unread.{HasMore, LinesState}
use Rattle.kq_input.proofs.LineFeeds.{HasSoFar, fewer_wait, goes_on, kept_on, last_came, line_came, next_line, no_line, none_left, nothing_came, nothing_yet}
use Rattle.kq_input.proofs.lines.Lines.next.Goals as goal

pub pieces-init : goal.pieces-init
pieces-init g c =
    let input = g.I.Read.remaining c.args.input.now in
    let now = prepend_known c.self.inside.arrived input in
    record {
      so_far = subst (λ (s : LinesState). HasSoFar 1048577 (prepend_known s.waiting input) now c.clear.new.self.items false) c.self.view_is
          (subst (λ l. HasSoFar 1048577 now now l false) (sym c.clear.ensures.items) (nothing_yet 1048577 now));
      all = λ lt. absurd (omega (arith, lt));
    }

pub returns-then-not-branch-clause-line : goal.returns-then-not-branch-clause-line
returns-then-not-branch-clause-line g c = λ any.
    let before = prepend_known c.args.self.now.waiting (g.I.Read.remaining c.args.input.now) in
    let now = prepend_known c.pieces.self.waiting (g.I.Read.remaining c.pieces.input) in
    let input = g.I.Read.remaining c.arrive.new.input in
    let later = prepend_known c.arrive.new.self.waiting input in
    let came : HasSoFar 1048577 before later c.arrive.new.self.line c.pieces.some =
    kept_on 1048577 before now later c.pieces.self.line c.arrive.new.self.line c.pieces.some c.pieces.invariant.so_far c.in_ok-arrive.ensures.kept
    c.in_ok-arrive.ensures.line in
    let end = c.in_ok-arrive.ensures.none (search rules) in
    next_line 1048577 before later c.arrive.new.self.line (last_came 1048577 before later c.arrive.new.self.line c.pieces.some came end.1 any)

pub returns-then-not-branch-clause-none : goal.returns-then-not-branch-clause-none
returns-then-not-branch-clause-none g c = λ none.
    let before = prepend_known c.args.self.now.waiting (g.I.Read.remaining c.args.input.now) in
    let now = prepend_known c.pieces.self.waiting (g.I.Read.remaining c.pieces.input) in
    let input = g.I.Read.remaining c.arrive.new.input in
    let later = prepend_known c.arrive.new.self.waiting input in
    let came : HasSoFar 1048577 before later c.arrive.new.self.line c.pieces.some =
    kept_on 1048577 before now later c.pieces.self.line c.arrive.new.self.line c.pieces.some c.pieces.invariant.so_far c.in_ok-arrive.ensures.kept
    c.in_ok-arrive.ensures.line in
    no_line 1048577 before later c.arrive.new.self.line c.pieces.some came none

pub returns-then-not-branch-clause-last : goal.returns-then-not-branch-clause-last
returns-then-not-branch-clause-last g c = λ none.
    let before = prepend_known c.args.self.now.waiting (g.I.Read.remaining c.args.input.now) in
    let now = prepend_known c.pieces.self.waiting (g.I.Read.remaining c.pieces.input) in
    let input = g.I.Read.remaining c.arrive.new.input in
    let later = prepend_known c.arrive.new.self.waiting input in
    let came : HasSoFar 1048577 before later c.arrive.new.self.line c.pieces.some =
    kept_on 1048577 before now later c.pieces.self.line c.arrive.new.self.line c.pieces.some c.pieces.invariant.so_far c.in_ok-arrive.ensures.kept
    c.in_ok-arrive.ensures.line in
    let end = c.in_ok-arrive.ensures.none (search rules) in
    none_left before later (nothing_came 1048577 before later c.arrive.new.self.line c.pieces.some came none) end.1

pub returns-then-not-branch-clause-taken : goal.returns-then-not-branch-clause-taken
returns-then-not-branch-clause-taken g c = λ any.
    let before = prepend_known c.args.self.now.waiting (g.I.Read.remaining c.args.input.now) in
    let now = prepend_known c.pieces.self.waiting (g.I.Read.remaining c.pieces.input) in
    let input = g.I.Read.remaining c.arrive.new.input in
    let later = prepend_known c.arrive.new.self.waiting input in
    let came : HasSoFar 1048577 before later c.arrive.new.self.line c.pieces.some =
    kept_on 1048577 before now later c.pieces.self.line c.arrive.new.self.line c.pieces.some c.pieces.invariant.so_far c.in_ok-arrive.ensures.kept
    c.in_ok-arrive.ensures.line in
    let end = c.in_ok-arrive.ensures.none (search rules) in
    last_came 1048577 before later c.arrive.new.self.line c.pieces.some came end.1 any

pub returns-then-not-branch-clause-kept : goal.returns-then-not-branch-clause-kept
returns-then-not-branch-clause-kept g c = λ none.
    let before = prepend_known c.args.self.now.waiting (g.I.Read.remaining c.args.input.now) in
    let now = prepend_known c.pieces.self.waiting (g.I.Read.remaining c.pieces.input) in
    let input = g.I.Read.remaining c.arrive.new.input in
    let later = prepend_known c.arrive.new.self.waiting input in
    let came : HasSoFar 1048577 before later c.arrive.new.self.line c.pieces.some =
    kept_on 1048577 before now later c.pieces.self.line c.arrive.new.self.line c.pieces.some c.pieces.invariant.so_far c.in_ok-arrive.ensures.kept
    c.in_ok-arrive.ensures.line in
    nothing_came 1048577 before later c.arrive.new.self.line c.pieces.some came none

pub returns-then-not-branch-clause-few : goal.returns-then-not-branch-clause-few
returns-then-not-branch-clause-few g c =
    let end = c.in_ok-arrive.ensures.none (search rules) in
    omega (arith, ap length end.0)

pub returns-then-branch-clause-line : goal.returns-then-branch-clause-line
returns-then-branch-clause-line g c = λ _.
    let before = prepend_known c.args.self.now.waiting (g.I.Read.remaining c.args.input.now) in
    let now = prepend_known c.pieces.self.waiting (g.I.Read.remaining c.pieces.input) in
    let input = g.I.Read.remaining c.arrive.new.input in
    let later = prepend_known c.arrive.new.self.waiting input in
    let came : HasSoFar 1048577 before later c.arrive.new.self.line c.pieces.some =
    kept_on 1048577 before now later c.pieces.self.line c.arrive.new.self.line c.pieces.some c.pieces.invariant.so_far c.in_ok-arrive.ensures.kept
    c.in_ok-arrive.ensures.line in
    let added : HasMore 1048577 c.arrive.new.self c.add.new.self true =
    subst (HasMore 1048577 c.arrive.new.self c.add.new.self) c.if-branch.true c.in_ok-add.ensures.more in
    next_line 1048577 before (prepend_known c.add.new.self.waiting input) c.add.new.self.line
    (line_came 1048577 before input c.pieces.some c.arrive.new.self c.add.new.self came added)

pub returns-then-branch-clause-taken : goal.returns-then-branch-clause-taken
returns-then-branch-clause-taken g c = λ _.
    let before = prepend_known c.args.self.now.waiting (g.I.Read.remaining c.args.input.now) in
    let now = prepend_known c.pieces.self.waiting (g.I.Read.remaining c.pieces.input) in
    let input = g.I.Read.remaining c.arrive.new.input in
    let later = prepend_known c.arrive.new.self.waiting input in
    let came : HasSoFar 1048577 before later c.arrive.new.self.line c.pieces.some =
    kept_on 1048577 before now later c.pieces.self.line c.arrive.new.self.line c.pieces.some c.pieces.invariant.so_far c.in_ok-arrive.ensures.kept
    c.in_ok-arrive.ensures.line in
    let added : HasMore 1048577 c.arrive.new.self c.add.new.self true =
    subst (HasMore 1048577 c.arrive.new.self c.add.new.self) c.if-branch.true c.in_ok-add.ensures.more in
    line_came 1048577 before input c.pieces.some c.arrive.new.self c.add.new.self came added

pub returns-then-branch-clause-few : goal.returns-then-branch-clause-few
returns-then-branch-clause-few g c =
    let added : HasMore 1048577 c.arrive.new.self c.add.new.self true =
    subst (HasMore 1048577 c.arrive.new.self c.add.new.self) c.if-branch.true c.in_ok-add.ensures.more in
    fewer_wait 1048577 c.arrive.new.self c.add.new.self 65536 added c.in_ok-arrive.ensures.few

pub pieces-preserved : goal.pieces-preserved
pieces-preserved g c =
    let before = prepend_known c.args.self.now.waiting (g.I.Read.remaining c.args.input.now) in
    let now = prepend_known c.pieces.self.waiting (g.I.Read.remaining c.pieces.input) in
    let input = g.I.Read.remaining c.arrive.new.input in
    let later = prepend_known c.arrive.new.self.waiting input in
    let came : HasSoFar 1048577 before later c.arrive.new.self.line c.pieces.some =
    kept_on 1048577 before now later c.pieces.self.line c.arrive.new.self.line c.pieces.some c.pieces.invariant.so_far c.in_ok-arrive.ensures.kept
    c.in_ok-arrive.ensures.line in
    let added : HasMore 1048577 c.arrive.new.self c.add.new.self false =
    subst (HasMore 1048577 c.arrive.new.self c.add.new.self) c.if-branch.false c.in_ok-add.ensures.more in
    record {
      so_far = goes_on 1048577 before input c.pieces.some c.arrive.new.self c.add.new.self came (c.in_ok-arrive.ensures.some (search rules)) added;
      all = λ _. (added.whole refl).1;
    }

pub returns-clause-read : goal.returns-clause-read
returns-clause-read g c = λ _. c.pieces.invariant.all (omega arith)

pub returns-clause-few : goal.returns-clause-few
returns-clause-few g c =
    omega (arith, ap length (c.pieces.invariant.all (omega arith)))
