use Rattle.std.proofs.Common.{◌+◌, List, drop, get_or, refl, ◌∙◌, subst, arith}
use Rattle.std.proofs.lemmas.List.{at_drop_more, at_drop_all}
use Rattle.kq_model.specs.declared.filter.Filter.TheVariants.{Read}
use Rattle.kq_model.specs.declared.key.Key.{Key}
use Rattle.kq_model.specs.Hints.{notified}
use Rattle.kq_kevent.proofs.NotifyLaws.{IsAmong, keys-start, keys-end, keys-go}
use Rattle.kq_kevent.proofs.kq.Kq.notice_each.Goals as goal

-- what a read past the end of the keys would give
abbrev no_key : Key
no_key = record { ident = 0; filter = Read }

pub loop-index-init : goal.loop-index-init
loop-index-init g c = record {
  among = keys-start (g.V.Views.sees c.args.views.now) c.args.hints.now c.args.self.now.kq c.args.keys.now c.requires;
  owner = refl;
  version = refl;
  reserved = omega arith;
  limit = refl;
}

pub loop-index-preserved : goal.loop-index-preserved
loop-index-preserved g c =
    let views = g.V.Views.sees c.args.views.now in
    let hints = c.args.hints.now in
    let wanted = notified views hints c.args.self.now.kq in
    let keys = c.args.keys.now in
    let i = c.loop-index.index in
    record {
      among = keys-go views hints wanted (get_or keys i no_key) (drop (i + 1) keys) c.loop-index.self.kq c.notice.ensures.own_keys
          (subst (λ (ks : List Key). IsAmong views hints wanted ks c.loop-index.self.kq) (at_drop_more (λ ks. ks) keys i no_key (omega arith)) c.loop-index.invariant.among)
          c.notice.new.self.kq c.notice.ensures.kq;
      owner = c.notice.ensures.owner ∙ c.loop-index.invariant.owner;
      version = c.notice.ensures.version ∙ c.loop-index.invariant.version;
      reserved = omega arith;
      limit = c.notice.ensures.limit ∙ c.loop-index.invariant.limit;
    }

pub returns-clause-kq : goal.returns-clause-kq
returns-clause-kq g c =
    let views = g.V.Views.sees c.args.views.now in
    let hints = c.args.hints.now in
    let wanted = notified views hints c.args.self.now.kq in
    keys-end views hints wanted c.loop-index.self.kq
    (subst (λ (ks : List Key). IsAmong views hints wanted ks c.loop-index.self.kq) (at_drop_all (λ ks. ks) c.args.keys.now c.loop-index.index (omega arith)) c.loop-index.invariant.among)
