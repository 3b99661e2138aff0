use Rattle.std.proofs.Common.{List, sym, subst, arith}
use Rattle.std.proofs.lemmas.List.{at_drop_more, at_drop_all}
use Rattle.kq_model.specs.declared.object.Hint.TheVariants.{Readable}
use Rattle.kq_model.specs.declared.object.Target.TheVariants.{Socket}
use Rattle.kq_model.specs.Targets.{Posted}
use Rattle.kq_kevent.specs.Telling.{AreLeft}
use Rattle.kq_kevent.proofs.notify.is_left.Goals as goal

-- what a read past the end of the hints would give
abbrev no_hint : Posted
no_hint = (Socket 0, Readable)

pub loop-posted-preserved : goal.loop-posted-preserved
loop-posted-preserved c =
    let i = c.loop-posted.posted-index in
    let hints = c.args.hints.now in
    record {
      so_far = λ rest. c.loop-posted.invariant.so_far
          (subst (λ (ps : List Posted). AreLeft c.args.knote.now ps) (sym (at_drop_more (λ ps. ps) hints i no_hint (omega arith)))
          (c.leaves.ensures c.if-not-leaves.false, rest));
    }

pub returns : goal.returns
returns c = λ _. c.loop-posted.invariant.so_far
    (subst (λ (ps : List Posted). AreLeft c.args.knote.now ps)
    (sym (at_drop_all (λ ps. ps) c.args.hints.now c.loop-posted.posted-index (omega arith))) tt)
