-- The lines are read, or one of them is bad, or there is a line too many.
use Rattle.std.proofs.Common.{Bor, ◌≡◌, ℕ, ◌+◌, ◌-◌, ◌<◌, ◌≤◌, ◌++◌, List, length, rules, tests, sym, ap, ◌∙◌, append-nil, arith}
use Rattle.std.proofs.lemmas.List.{length-map}
use Rattle.kq_model.proofs.Results.{error_passed}
use Rattle.kq_trace.specs.Rest.{lines_behind, texts}
use Rattle.kq_trace.specs.Unread.{IsFaultFrom}
use Rattle.kq_trace.proofs.BlockRecords.{faulty_from, late_from, read_from}
use Rattle.kq_trace.proofs.LinesCut.{no_lines}
use Rattle.kq_trace.proofs.PutTogether.{counted}
use Rattle.kq_trace.proofs.TraceLines.{empty_list}
use Rattle.kq_trace.proofs.block_part.part_alone.Goals as goal

pub returns-in_err-events-clause-bad : goal.returns-in_err-events-clause-bad
returns-in_err-events-clause-bad c =
    let all = lines_behind c.args.block.now in
    let behind = lines_behind c.in_ok-lines.behind.now in
    let cut = c.in_ok-lines.ensures.all ∙ ap (λ ls. texts ls ++ behind) (sym c.as_slice.ensures.value) in
    let error = c.in_err-events.field-0.0 in
    error_passed c.from_residual-in_err-events.result error (IsFaultFrom c.args.number all) c.from_residual-in_err-events.ensures.1
    (faulty_from c.args.number all (texts c.as_slice.result.now) behind error cut c.in_err-events.ensures.bad)

pub returns-then-not-is_empty-clause-bad : goal.returns-then-not-is_empty-clause-bad
returns-then-not-is_empty-clause-bad c =
    let all = lines_behind c.args.block.now in
    let lines = c.as_slice.result.now in
    let rest = c.in_ok-lines.behind.now in
    let some : 0 < length rest = search (rules, tests) in
    let full : length c.in_ok-lines.lines.items ≡ 1000002 - c.args.number = sym c.in_ok-lines.lines.ok.0 ∙ c.in_ok-lines.ensures.full some in
    let many : length (texts lines) ≡ 1000002 - c.args.number =
    length-map lines (λ (line : Bor (List ℕ)). line.now) ∙ ap length c.as_slice.ensures.value ∙ full in
    let cut = c.in_ok-lines.ensures.all ∙ ap (λ ls. texts ls ++ lines_behind rest) (sym c.as_slice.ensures.value)
    ∙ ap (λ ls. texts lines ++ ls) (c.first_line.ensures.later some) in
    late_from c.args.number (1000002 - c.args.number) all (texts lines) _ _ _ c.in_ok-events.events.items cut many c.in_ok-events.ensures.good
    c.late_fault.ensures (omega (arith, c.requires.number))

pub returns-clause-part : goal.returns-clause-part
returns-clause-part c =
    let all = lines_behind c.args.block.now in
    let lines = c.as_slice.result.now in
    let rest = c.in_ok-lines.behind.now in
    let events = c.in_ok-events.events.items in
    let none : length rest ≡ 0 = search (rules, tests) in
    let cut : all ≡ texts lines =
    c.in_ok-lines.ensures.all ∙ ap (λ ls. texts ls ++ lines_behind rest) (sym c.as_slice.ensures.value)
    ∙ ap (λ t. texts lines ++ lines_behind t) (empty_list rest none) ∙ ap (λ l. texts lines ++ l) no_lines ∙ append-nil (texts lines) in
    let few : length lines ≤ 1000002 - c.args.number = omega (arith, c.as_slice.ensures.len, c.in_ok-lines.ensures.few) in
    let count = counted 0 c.args.number (texts lines) 0 events (c.in_ok-events.ensures.good 0) in
    let limit : c.args.number + length events ≤ 1000002 =
    omega (arith, count, few, length-map lines (λ (line : Bor (List ℕ)). line.now), c.requires.number) in
    let pushed : c.push.new.self ≡ events = search rules in
    rw pushed (read_from c.args.number all (texts lines) events cut c.in_ok-events.ensures.good limit)
