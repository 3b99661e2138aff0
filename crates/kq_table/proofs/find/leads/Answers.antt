use Rattle.std.proofs.Common.{ℕ, Option, Some, sym, ap, ◌∙◌}
use Rattle.kq_table.specs.declared.node.Links.{Links}
use Rattle.kq_table.specs.declared.node.Thread.TheVariants.{Watch}
use Rattle.kq_table.specs.Links.{is_target}
use Rattle.kq_table.specs.Threads.{row_of, links_of}
use Rattle.kq_table.proofs.find.leads.Goals as goal

abbrev link : Option ℕ → Option ℕ → Option Links
link before after = Some (record { before = before; after = after })

pub returns : goal.returns
returns g c =
    let node = c.in-Some.node.now in
    λ is. record {
      row = node.row;
      here = sym (ap row_of c.in-Some.ensures);
      is = ap (is_target g.T.Target.PartialEq.eq c.args.target) (sym c.in-Some-target.ensures) ∙ sym c.eq.ensures ∙ is;
      after = node.watch.after;
      first = sym (ap (links_of Watch) c.in-Some.ensures) ∙ ap (λ (o : Option ℕ). link o node.watch.after) c.in-None.is;
    }
