-- The first line feed at or behind so many bytes.
use Rattle.std.proofs.Common.{◌≡◌, ◌<◌, ◌+◌, ◌==◌, true, length, drop, get_or, ap, sym, ◌∙◌, add-one, arith}
use Rattle.std.proofs.lemmas.List.{get_or-drop, length-drop}
use Rattle.kq_trace.proofs.Cuts.{behind, nothing_behind}
use Rattle.kq_trace.proofs.LinesCut.{cut_lines, uncut_lines}
use Rattle.kq_trace.proofs.line.cut_behind.Goals as goal

pub returns-then-text-least-clause-cut : goal.returns-then-text-least-clause-cut
returns-then-text-least-clause-cut c = rw (nothing_behind c.args.text.now) (uncut_lines c.args.text.now)

pub returns-in-Some-clause-cut : goal.returns-in-Some-clause-cut
returns-in-Some-clause-cut c =
    let text = c.args.text.now in
    let least = c.args.least in
    let end = c.in-Some.end in
    let found = c.in-Some.ensures in
    let there : (get_or text (least + end) 0 == 10) ≡ true =
    ap (λ b. b == 10) (sym (get_or-drop least text end 0)) ∙ ap (λ l. get_or l end 0 == 10) (sym (behind text least)) ∙ found.1 in
    let high : end < length (drop least text) = rw (← behind text least) found.0.high in
    let lt : least + end < length text = omega (arith, high, length-drop least text) in
    rw (behind text (least + end + 1), add-one (least + end)) (cut_lines text (least + end) lt there)

pub returns-in-None-clause-cut : goal.returns-in-None-clause-cut
returns-in-None-clause-cut c = rw (nothing_behind c.args.text.now) (uncut_lines c.args.text.now)
