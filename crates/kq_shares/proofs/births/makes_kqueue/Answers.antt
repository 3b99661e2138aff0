use Rattle.std.proofs.Common.{◌∙◌, ap, sym, subst, refl, IsOk}
use Rattle.kq_model.specs.Plans.{plan}
use Rattle.kq_process.specs.World.{world_of}
use Rattle.kq_system.proofs.SystemLemmas.{done, refused}
use Rattle.kq_shares.proofs.BirthLemmas.{made-by, made-nothing, next-world}
use Rattle.kq_shares.proofs.births.makes_kqueue.Goals as goal

pub returns-in-Err-clause-world : goal.returns-in-Err-clause-world
returns-in-Err-clause-world c =
    let w = world_of c.args.world.now in
    c.in_ok-effect.ensures.world ∙ next-world c.args.place (plan c.args.place c.args.event.now w) w

pub returns-in-Err-clause-makes : goal.returns-in-Err-clause-makes
returns-in-Err-clause-makes c =
    let w = world_of c.args.world.now in
    let q = plan c.args.place c.args.event.now w in
    made-nothing c.args.place c.args.event.now w c.in-Err._why (refused q c.in_ok-effect.effect c.in-Err._why c.in_ok-effect.ensures.effect c.in-Err.is)

pub returns-clause-world : goal.returns-clause-world
returns-clause-world c =
    let w = world_of c.args.world.now in
    c.in_ok-effect.ensures.world ∙ next-world c.args.place (plan c.args.place c.args.event.now w) w

pub returns-clause-makes : goal.returns-clause-makes
returns-clause-makes c =
    let w = world_of c.args.world.now in
    let q = plan c.args.place c.args.event.now w in
    let ok : IsOk c.in_ok-effect.effect.verdict = subst IsOk (sym c.in_default.is) refl in
    let d = done q c.in_ok-effect.effect c.in_ok-effect.ensures.effect ok in
    made-by c.is_kqueue.result c.args.place c.args.event.now w d.plan_is d.is c.is_kqueue.ensures.yes c.is_kqueue.ensures.no
