use Rattle.std.proofs.Common.{◌∙◌, sym, ap}
use Rattle.kq_model.specs.Shares.{dealt, share}
use Rattle.kq_model.proofs.Shares.{share-empty}
use Rattle.kq_system.specs.Dealing.{share_for}
use Rattle.kq_system.proofs.sharing.Share.new.Goals as goal

pub invariant_of-result : goal.invariant_of-result
invariant_of-result c =
    let own = dealt (share_for c.args.dealing) c.args.number in (
      c.requires.number,
      ap (share own) c.in_ok-new.ensures.system ∙ share-empty own c.args.version ∙ sym c.in_ok-new.ensures.system,
    )
