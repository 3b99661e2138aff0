use Rattle.std.proofs.Common.{◌≡◌, ◌∙◌, ◌<◌, ◌≤◌, ◌+◌, List, [], ◌∷◌, length, get_or, drop, sym, ap, arith}
use Rattle.std.proofs.lemmas.List.{drop_all}
use Rattle.kq_model.specs.declared.doing.Doing.{Doing}
use Rattle.kq_model.specs.declared.doing.Doing.TheVariants.{ToSocket}
use Rattle.kq_model.specs.declared.doing.SocketRecord.TheVariants.{Made}
use Rattle.kq_model.specs.Objects.{all_done}
use Rattle.kq_objects.specs.Objects.{objects_of}
use Rattle.kq_objects.proofs.Notes.{next, step-ready, step-rest}
use Rattle.kq_objects.proofs.objects.Objects.note_all.Goals as goal

-- what a read past the end would give
abbrev no_doing : Doing
no_doing = ToSocket 0 (Made 0 0)

pub loop-doing-preserved : goal.loop-doing-preserved
loop-doing-preserved c =
    let ds = c.args.doings.now in
    let i = c.loop-doing.doing-index in
    let below : i < length ds = omega arith in
    let cons : drop i ds ≡ get_or ds i no_doing ∷ drop (i + 1) ds = next ds i no_doing below in
    record {
      rest = step-rest (drop i ds) (get_or ds i no_doing) (drop (i + 1) ds) c.loop-doing.self c.note.new.self cons c.note.ensures.done ∙ c.loop-doing.invariant.rest;
      ready = step-ready (drop i ds) (get_or ds i no_doing) (drop (i + 1) ds) c.loop-doing.self c.note.new.self cons
          c.loop-doing.invariant.ready c.note.ensures.done (c.note.ensures.room (drop (i + 1) ds));
    }

pub returns : goal.returns
unfolding all_done
returns c =
    let past : length c.args.doings.now ≤ c.loop-doing.doing-index = omega arith in
    let none : drop c.loop-doing.doing-index c.args.doings.now ≡ [] = drop_all c.loop-doing.doing-index c.args.doings.now past in
    ap (λ (ds : List Doing). all_done ds (objects_of c.loop-doing.self)) (sym none) ∙ c.loop-doing.invariant.rest
