use Rattle.std.proofs.Common.{◌+◌, ℕ, Option, sym, ap, ◌∙◌, subst, arith}
use Rattle.slab.specs.Slab.{get, slab_len}
use Rattle.kq_table.specs.declared.node.Links.{Links}
use Rattle.kq_table.specs.declared.node.Thread.TheVariants.{Order}
use Rattle.kq_table.specs.Kept.{AreBorn}
use Rattle.kq_table.specs.Threads.{after_of, births_in, links_in}
use Rattle.kq_table.proofs.AnewLaws.{IsNumbering, passed-none, passed-all, passed-out, numbering-step}
use Rattle.kq_table.proofs.NodeLaws.{SameButBirths-refl, SameButBirths-trans, linked-birth}
use Rattle.kq_table.proofs.WithoutLaws.{AreBorn-higher}
use Rattle.kq_table.proofs.birth.number_anew.Goals as goal

pub loop-step-init : goal.loop-step-init
loop-step-init g c =
    let nodes = c.args.nodes.now in
    record {
      numbering = λ slots linked distinct first. passed-none (λ done. AreBorn (births_in nodes) 0 0 done) c.args.first slots first (omega arith);
      same = SameButBirths-refl nodes;
    }

pub loop-step-preserved : goal.loop-step-preserved
loop-step-preserved g c =
    let old = c.args.nodes.now in
    let now = c.loop-step.nodes in
    let new = c.set_birth.new.nodes in
    let is = c.loop-step.invariant in
    record {
      numbering = subst (λ (f : ℕ → Option ℕ). IsNumbering (links_in Order old) c.args.first f c.slot_behind-next.result (c.loop-step.step + 1)) (sym c.set_birth.ensures.births)
          (numbering-step (links_in Order old) c.args.first (births_in now) c.in-Some.slot c.slot_behind-next.result c.loop-step.step
          (λ s l at. linked-birth Order (get now s) l (ap (λ (f : ℕ → Option Links). f s) (is.same.links Order) ∙ at))
          (c.slot_behind-next.ensures ∙ ap (λ (f : ℕ → Option Links). after_of (f c.in-Some.slot)) (c.set_birth.ensures.same.links Order ∙ is.same.links Order))
          (subst (λ (o : Option ℕ). IsNumbering (links_in Order old) c.args.first (births_in now) o c.loop-step.step) c.in-Some.is is.numbering));
      same = SameButBirths-trans old now new is.same c.set_birth.ensures.same;
    }

pub returns-in_default-clause-born : goal.returns-in_default-clause-born
returns-in_default-clause-born g c = λ slots linked distinct first counted.
    let old = c.args.nodes.now in
    let now = c.loop-step.nodes in
    AreBorn-higher (births_in now) 0 c.loop-step.step (slab_len old) slots (omega arith)
    (passed-out (λ done. AreBorn (births_in now) 0 c.loop-step.step done) c.loop-step.step slots
    (subst (λ (o : Option ℕ). IsNumbering (links_in Order old) c.args.first (births_in now) o c.loop-step.step) c.in_default.is c.loop-step.invariant.numbering slots linked distinct first))

pub returns-clause-born : goal.returns-clause-born
returns-clause-born g c = λ slots linked distinct first counted.
    let old = c.args.nodes.now in
    let now = c.loop-step.nodes in
    AreBorn-higher (births_in now) 0 c.loop-step.step (slab_len old) slots (omega arith)
    (passed-all (λ done. AreBorn (births_in now) 0 c.loop-step.step done) c.loop-step.next c.loop-step.step slots (c.loop-step.invariant.numbering slots linked distinct first) (omega arith))
