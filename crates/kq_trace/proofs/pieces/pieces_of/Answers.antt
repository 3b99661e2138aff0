-- A piece more, or none.
use Rattle.std.proofs.Common.{◌≡◌, length, rules, tests}
use Rattle.kq_trace.specs.Rest.{lines_behind}
use Rattle.kq_trace.proofs.PieceLines.{all_cut, piece_cut}
use Rattle.kq_trace.proofs.TraceLines.{empty_list}
use Rattle.kq_trace.proofs.pieces.pieces_of.Goals as goal

pub pieces-init : goal.pieces-init
pieces-init c = search rules

pub pieces-preserved : goal.pieces-preserved
pieces-preserved c =
    piece_cut (lines_behind c.args.text.now) (lines_behind c.pieces.rest.now) c.pieces.pieces.items c.push.new.self.items c.cut_behind.result.0 c.cut_behind.result.1.now
    c.pieces.invariant c.cut_behind.ensures.cut (search rules)

pub returns : goal.returns
returns c =
    let none : length c.pieces.rest.now ≡ 0 = search (rules, tests) in
    all_cut (lines_behind c.args.text.now) c.pieces.pieces.items c.pieces.rest.now (empty_list c.pieces.rest.now none) c.pieces.invariant
