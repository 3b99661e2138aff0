use Rattle.kq_table.specs.declared.node.Thread.TheVariants.{Order}
use Rattle.kq_table.specs.Threads.{births_in, links_in, SameButBirths}
use Rattle.kq_table.proofs.AnewLaws.{IsNumbering}
use Rattle.kq_table.proofs.birth.number_anew.Given as goal

abbrev pub invariant-loop-step : goal.invariant-loop-step
invariant-loop-step g l = record {
  numbering : IsNumbering (links_in Order l.initial.nodes) l.fn.first (births_in l.nodes) l.next l.step;
  same : SameButBirths l.initial.nodes l.nodes;
}
