use Rattle.std.proofs.Common.{◌≡◌, false, Option, None, refl, ap, ◌∙◌}
use Rattle.std.proofs.lemmas.Bool.{true≢false}
use Rattle.std.specs.Prelude.{option_and_then}
use Rattle.kq_filters.specs.Alone.{reads_target}
use Rattle.kq_model.specs.declared.filter.Filter.{Filter}
use Rattle.kq_model.specs.declared.filter.Filter.TheVariants.{Read, Write, Vnode, Proc, Signal, Timer, User, Aio, Lio, Fs, Procdesc, Sendfile, Empty}
use Rattle.kq_model.specs.declared.object.View.{View}
use Rattle.kq_model.specs.Look.{look, look_by, notice_or}
use Rattle.kq_model.specs.Tallied.{Knote}
use Rattle.kq_filters.proofs.filter.look_alone.Goals as goal

unread : (f : Filter) (view : Option View) (k : Knote) → reads_target f ≡ false → look_by f None k ≡ look_by f view k
unfolding look_by reads_target
unread Read view k alone = absurd (true≢false alone)
unread Write view k alone = absurd (true≢false alone)
unread Proc view k alone = absurd (true≢false alone)
unread Vnode view k alone = refl
unread Signal view k alone = refl
unread Timer view k alone = refl
unread User view k alone = refl
unread Aio view k alone = refl
unread Lio view k alone = refl
unread Fs view k alone = refl
unread Procdesc view k alone = refl
unread Sendfile view k alone = refl
unread Empty view k alone = refl

pub returns-clause-seen : goal.returns-clause-seen
returns-clause-seen c =
    let k = c.args.knote.now in
    c.notice_or.ensures ∙ ap (λ (n : Knote). notice_or n.notice c.look_by.result) c.knote.view_is ∙ ap (notice_or k.notice) c.look_by.ensures

pub returns-clause-alone : goal.returns-clause-alone
unfolding look
returns-clause-alone c = λ alone views.
    let k = c.args.knote.now in
    returns-clause-seen c ∙ ap (notice_or k.notice) (unread k.key.filter (option_and_then views.view k.target) k alone)
