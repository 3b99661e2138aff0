use Rattle.std.proofs.Common.{rules, refl}
use Rattle.kq_lock.proofs.Allowed.{may_pass_on}
use Rattle.kq_lock.proofs.turn.pass_on.Goals as goal

pub store-requires : goal.store-requires
store-requires g c =
    let may = c.requires.2 in (
      search rules,
      search rules,
      may_pass_on _ _ _ _ _ c.args.token.now.me (search rules) c.args.ticket may.kept.value
          may.log may.kept _ may.stage may.slot refl may.items refl,
    )
