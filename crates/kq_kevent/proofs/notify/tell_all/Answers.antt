use Rattle.std.proofs.Common.{◌+◌, drop, sym, ap, ◌∙◌, arith}
use Rattle.std.proofs.lemmas.List.{at_drop_more, at_drop_all}
use Rattle.kq_model.specs.declared.object.Hint.TheVariants.{Readable}
use Rattle.kq_model.specs.declared.object.Target.TheVariants.{Socket}
use Rattle.kq_model.specs.Targets.{Posted}
use Rattle.kq_kevent.specs.Telling.{told_all}
use Rattle.kq_kevent.proofs.notify.tell_all.Goals as goal

-- what a read past the end of the hints would give
abbrev no_hint : Posted
no_hint = (Socket 0, Readable)

pub loop-posted-preserved : goal.loop-posted-preserved
unfolding told_all
loop-posted-preserved c =
    let i = c.loop-posted.posted-index in
    let hints = c.args.hints.now in
    record {
      so_far = c.loop-posted.invariant.so_far
          ∙ at_drop_more (λ ps. told_all ps c.loop-posted.telling) hints i no_hint (omega arith)
          ∙ ap (told_all (drop (i + 1) hints)) (sym c.tell.ensures);
    }

pub returns : goal.returns
unfolding told_all
returns c =
    sym (c.loop-posted.invariant.so_far
    ∙ at_drop_all (λ ps. told_all ps c.loop-posted.telling) c.args.hints.now c.loop-posted.posted-index (omega arith))
