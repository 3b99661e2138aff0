use Rattle.std.proofs.Common.{◌+◌, List, Some, drop, get_or, refl, ◌∙◌, subst, arith}
use Rattle.std.proofs.lemmas.List.{at_drop_more, at_drop_all}
use Rattle.kq_model.specs.declared.filter.Filter.TheVariants.{Read}
use Rattle.kq_model.specs.declared.key.Key.{Key}
use Rattle.kq_model.specs.Clock.{clocked}
use Rattle.kq_kevent.proofs.RingDue.{IsRingingEach, each-start, each-goes, each-ends}
use Rattle.kq_kevent.proofs.kq.Kq.ring_each.Goals as goal

-- what a read past the end of the keys would give
abbrev no_key : Key
no_key = record { ident = 0; filter = Read }

pub loop-key-init : goal.loop-key-init
loop-key-init c = record {
  at = each-start c.args.from c.args.to c.args.self.now.kq c.requires.sound c.requires.ordered c.requires.within c.args.keys.now c.requires.keys;
  owner = refl;
  version = refl;
  room = refl;
  limit = refl;
}

pub loop-key-preserved : goal.loop-key-preserved
loop-key-preserved c =
    let wanted = clocked (Some (record { from = c.args.from; to = c.args.to })) c.args.self.now.kq in
    let keys = c.args.keys.now in
    let i = c.loop-key.key-index in
    record {
      at = each-goes c.args.from c.args.to wanted (get_or keys i no_key) (drop (i + 1) keys) c.loop-key.self.kq c.ring_key.new.self.kq
          (subst (λ (ks : List Key). IsRingingEach c.args.from c.args.to wanted ks c.loop-key.self.kq) (at_drop_more (λ ks. ks) keys i no_key (omega arith)) c.loop-key.invariant.at)
          c.ring_key.ensures.kq;
      owner = c.ring_key.ensures.owner ∙ c.loop-key.invariant.owner;
      version = c.ring_key.ensures.version ∙ c.loop-key.invariant.version;
      room = c.ring_key.ensures.room ∙ c.loop-key.invariant.room;
      limit = c.ring_key.ensures.limit ∙ c.loop-key.invariant.limit;
    }

pub returns-clause-kq : goal.returns-clause-kq
returns-clause-kq c =
    let wanted = clocked (Some (record { from = c.args.from; to = c.args.to })) c.args.self.now.kq in
    each-ends c.args.from c.args.to wanted c.loop-key.self.kq
    (subst (λ (ks : List Key). IsRingingEach c.args.from c.args.to wanted ks c.loop-key.self.kq) (at_drop_all (λ ks. ks) c.args.keys.now c.loop-key.key-index (omega arith)) c.loop-key.invariant.at)
