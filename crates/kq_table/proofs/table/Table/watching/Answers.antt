use Rattle.std.proofs.Common.{◌≡◌, ◌++◌, ◌∷◌, [], length, vec_len, length-append, rules, refl, sym, ap, ◌∙◌, arith}
use Rattle.std.proofs.lemmas.Bool.{true≢false}
use Rattle.std.proofs.lemmas.Option.{none-some}
use Rattle.std.specs.HashMap.{get as found}
use Rattle.kq_table.specs.declared.node.Thread.TheVariants.{Watch}
use Rattle.kq_table.specs.Links.{keys_watching}
use Rattle.kq_table.specs.Kept.{ends_of}
use Rattle.kq_table.specs.Threads.{after_of, row_of, links_of, links_in, rows_in}
use Rattle.kq_table.proofs.AlongLaws.{along-start, along-step}
use Rattle.kq_table.proofs.KeptLaws.{seen}
use Rattle.kq_table.proofs.WatchLaws.{watching-more, watching-there, watching-end, are-led}
use Rattle.kq_table.proofs.table.Table.watching.Goals as goal

pub first_near-next-requires : goal.first_near-next-requires
first_near-next-requires g c =
    are-led (seen g.met.T.Key.Eq.laws g.met.T.Target.Eq.laws g.met.T.Keyed.one_key c.self.invariant c.self.view_is)

pub loop-next-init : goal.loop-next-init
loop-next-init g c =
    let nodes = c.self.inside.nodes in
    record {
      along = along-start g.T.Keyed.key_of (rows_in nodes) (links_in Watch nodes) (ends_of (found g.T.Target.PartialEq.eq c.self.inside.targets c.args.target)) c.first_near-next.result c.first_near-next.ensures c.args.found.now.items;
      capacity = refl;
    }

pub returns-in_default-get-clause-room : goal.returns-in_default-get-clause-room
returns-in_default-get-clause-room g c =
    let table = seen g.met.T.Key.Eq.laws g.met.T.Target.Eq.laws g.met.T.Keyed.one_key c.self.invariant c.self.view_is in
    let there = watching-there table c.args.target c.args.found.now.items c.loop-next.found.items c.loop-next.next c.loop-next.invariant.along c.in-Some.slot c.in-Some.is in
    absurd (none-some there.0 (ap row_of c.in_default-get.ensures ∙ there.1))

pub returns-in_default-get-clause-found : goal.returns-in_default-get-clause-found
returns-in_default-get-clause-found g c =
    let table = seen g.met.T.Key.Eq.laws g.met.T.Target.Eq.laws g.met.T.Keyed.one_key c.self.invariant c.self.view_is in
    let there = watching-there table c.args.target c.args.found.now.items c.loop-next.found.items c.loop-next.next c.loop-next.invariant.along c.in-Some.slot c.in-Some.is in
    absurd (none-some there.0 (ap row_of c.in_default-get.ensures ∙ there.1))

pub returns-then-len-capacity-clause-room : goal.returns-then-len-capacity-clause-room
returns-then-len-capacity-clause-room g c =
    let table = seen g.met.T.Key.Eq.laws g.met.T.Target.Eq.laws g.met.T.Keyed.one_key c.self.invariant c.self.view_is in
    let more = watching-more table c.args.target c.args.found.now.items c.loop-next.found.items c.loop-next.next c.loop-next.invariant.along c.in-Some.slot c.in-Some.is in
    let here : vec_len c.loop-next.found ≡ length c.loop-next.found.items = search rules in
    let before : vec_len c.args.found.now ≡ length c.args.found.now.items = search rules in
    let capacity = c.loop-next.invariant.capacity in
    (λ is. absurd (true≢false (sym is)), λ fits. absurd (omega arith))

pub loop-next-preserved : goal.loop-next-preserved
loop-next-preserved g c =
    let nodes = c.self.inside.nodes in
    let node = c.in-Some-get.node.now in
    record {
      along = along-step g.T.Keyed.key_of (rows_in nodes) (links_in Watch nodes) (ends_of (found g.T.Target.PartialEq.eq c.self.inside.targets c.args.target)) c.args.found.now.items c.loop-next.found.items c.push_reserved.new.self.items
          c.in-Some.slot node.row node.watch.after (sym (ap row_of c.in-Some-get.ensures)) (ap (λ o. after_of (links_of Watch o)) c.in-Some-get.ensures)
          (c.push_reserved.ensures.items ∙ ap (λ (key : g.row.T-Key.Denot). c.loop-next.found.items ++ key ∷ []) c.key.ensures)
          c.loop-next.next c.in-Some.is c.loop-next.invariant.along;
      capacity = c.push_reserved.ensures.capacity ∙ c.loop-next.invariant.capacity;
    }

pub returns-clause-room : goal.returns-clause-room
returns-clause-room g c =
    let table = seen g.met.T.Key.Eq.laws g.met.T.Target.Eq.laws g.met.T.Keyed.one_key c.self.invariant c.self.view_is in
    let watching = keys_watching g.T.Target.PartialEq.eq g.T.Keyed.key_of g.T.Keyed.target_of c.args.target c.args.self.now.rows in
    let as_many = ap length (watching-end table c.args.target c.args.found.now.items c.loop-next.found.items c.loop-next.next c.loop-next.invariant.along c.in_default.is) ∙ length-append c.args.found.now.items watching in
    let here : vec_len c.loop-next.found ≡ length c.loop-next.found.items = search rules in
    let before : vec_len c.args.found.now ≡ length c.args.found.now.items = search rules in
    let capacity = c.loop-next.invariant.capacity in
    (λ _. omega arith, λ _. refl)

pub returns-clause-found : goal.returns-clause-found
returns-clause-found g c =
    let table = seen g.met.T.Key.Eq.laws g.met.T.Target.Eq.laws g.met.T.Keyed.one_key c.self.invariant c.self.view_is in
    λ _. watching-end table c.args.target c.args.found.now.items c.loop-next.found.items c.loop-next.next c.loop-next.invariant.along c.in_default.is
