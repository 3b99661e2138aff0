use Rattle.std.proofs.Common.{◌≡◌, true, take, get_or, pos, subst, sym}
use Rattle.std.proofs.lemmas.List.{take_all, take_more}
use Rattle.std.proofs.lemmas.List.Elements.{All-push, All-weaker}
use Rattle.std.specs.Prelude.{All}
use Rattle.kq_model.specs.declared.change.Change.{Change}
use Rattle.kq_model.specs.declared.filter.Filter.TheVariants.{Read}
use Rattle.kq_model.specs.Bits.{add, asks}
use Rattle.kq_model.specs.Targets.{target_of}
use Rattle.kq_system.specs.Showing.{IsListed}
use Rattle.kq_system.proofs.FoundLemmas.{found_among}
use Rattle.kq_system.proofs.watching.watch_all.Goals as goal

-- the change that stands for none, behind the end of a list
abbrev no_change : Change
no_change = record { ident = 0; filter = Read; flags = record { 0 = 0 }; fflags = 0; datum = pos 0; udata = 0 }

pub loop-change-preserved : goal.loop-change-preserved
loop-change-preserved g c =
    let views = g.V.Views.sees c.args.views.now in
    let changes = c.args.changes.now in
    let i = c.loop-change.change-index in
    let before = c.loop-change.watching.table in
    let after = c.watch_one.new.watching.table in
    let grows = c.watch_one.ensures.grows in
    record {
      grows = record { grows = λ key place has. grows.grows key place (c.loop-change.invariant.grows.grows key place has) };
      listed =
          subst (All (λ (x : Change). asks x.flags add ≡ true → IsListed c.args.place after x.filter x.ident
          (target_of views c.args.owner x.filter x.ident))) (sym (take_more changes i no_change c.loop-change-test.true))
          (All-push (λ (x : Change). asks x.flags add ≡ true → IsListed c.args.place after x.filter x.ident
          (target_of views c.args.owner x.filter x.ident)) (take i changes) (get_or changes i no_change)
          (All-weaker (λ (x : Change). asks x.flags add ≡ true → IsListed c.args.place before x.filter x.ident
          (target_of views c.args.owner x.filter x.ident)) (λ (x : Change). asks x.flags add ≡ true
          → IsListed c.args.place after x.filter x.ident (target_of views c.args.owner x.filter x.ident))
          (λ x listed adds. found_among c.args.place before after grows x.filter
          (target_of views c.args.owner x.filter x.ident) (listed adds)) (take i changes)
          c.loop-change.invariant.listed) c.in_ok-watch_one.ensures.listed);
    }

pub returns-clause-listed : goal.returns-clause-listed
returns-clause-listed g c =
    subst (All (λ (x : Change). asks x.flags add ≡ true → IsListed c.args.place c.loop-change.watching.table x.filter x.ident
    (target_of (g.V.Views.sees c.args.views.now) c.args.owner x.filter x.ident)))
    (take_all c.loop-change.change-index c.args.changes.now c.loop-change-test.false) c.loop-change.invariant.listed
