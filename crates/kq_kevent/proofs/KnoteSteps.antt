-- A change leaves a knote active that was so.
use Rattle.std.proofs.Common.{◌≡◌, ◌&&◌, false, cond, Option, Some, None, refl, sym, ap, ◌∙◌}
use Rattle.std.proofs.lemmas.Bool.{true≢false, cond_both}
use Rattle.kq_model.specs.Caller.{Caller}
use Rattle.kq_model.specs.declared.change.Change.{Change}
use Rattle.kq_model.specs.declared.filter.Filter.{Filter}
use Rattle.kq_model.specs.declared.filter.Filter.TheVariants.{Read, Write, Vnode, Proc, Signal, Timer, User, Aio, Lio, Fs, Procdesc, Sendfile, Empty}
use Rattle.kq_model.specs.Bits.{asks, add}
use Rattle.kq_model.specs.Look.{Seen, look}
use Rattle.kq_model.specs.Views.{Views}
use Rattle.kq_model.specs.ChangedKnote.{started, replaced, restarted, changed, switched, activated, attended, modified}
use Rattle.kq_model.specs.Tallying.{tallying}
use Rattle.kq_model.specs.Knote.{is_timer}
use Rattle.kq_model.specs.Registration.{is_restart}
use Rattle.kq_model.specs.Tallied.{Knote}
use Rattle.kq_model.proofs.KnoteLaws.{by_test}

pub activated-active : (seen : Option Seen) (k : Knote) → (activated seen k).active ≡ false → k.active ≡ false
unfolding activated
activated-active None k idle = idle
activated-active (Some seen) k idle = absurd (true≢false idle)

attended-active : (views : Views) (k : Knote) → (attended views k).active ≡ false → k.active ≡ false
unfolding attended
attended-active views k =
    by_test (λ b. (cond b (activated (look views k) k) k).active ≡ false → k.active ≡ false) k.enabled
    (λ _. activated-active (look views k) k) (λ _ idle. idle)

replaced-active : (c : Change) (k : Knote) → (replaced c k).active ≡ k.active
unfolding replaced
replaced-active c k = cond_both (asks c.flags add) _ _ (λ (n : Knote). n.active ≡ k.active) (λ _. refl) (λ _. refl)

-- only a TIMER that is added again is made inactive
restarted-active : (f : Filter) (caller : Caller) (c : Change) (k : Knote) → is_timer f && asks c.flags add ≡ false
    → (restarted f caller c k).active ≡ k.active
unfolding restarted started is_timer
restarted-active Timer caller c k same =
    ap (λ b. (cond b (started caller c (record k { seen = tallying.empty; active = false })) k).active) same
restarted-active Read caller c k same = refl
restarted-active Write caller c k same = refl
restarted-active Vnode caller c k same = refl
restarted-active Proc caller c k same = refl
restarted-active Signal caller c k same = refl
restarted-active User caller c k same = refl
restarted-active Aio caller c k same = refl
restarted-active Lio caller c k same = refl
restarted-active Fs caller c k same = refl
restarted-active Procdesc caller c k same = refl
restarted-active Sendfile caller c k same = refl
restarted-active Empty caller c k same = refl

changed-active : (f : Filter) (c : Change) (k : Knote) → (changed f c k).active ≡ k.active
unfolding changed
changed-active Read c k = refl
changed-active Write c k = refl
changed-active Vnode c k = refl
changed-active Proc c k = refl
changed-active Signal c k = refl
changed-active Timer c k = refl
changed-active User c k = refl
changed-active Aio c k = refl
changed-active Lio c k = refl
changed-active Fs c k = refl
changed-active Procdesc c k = refl
changed-active Sendfile c k = refl
changed-active Empty c k = refl

switched-active : (c : Change) (k : Knote) → (switched c k).active ≡ k.active
unfolding switched
switched-active c k = refl

-- a change makes no active knote inactive, but a TIMER that is added again
pub modified-active : (caller : Caller) (c : Change) (k : Knote) → is_restart c ≡ false
    → (modified caller c k).active ≡ false → k.active ≡ false
unfolding modified
modified-active caller c k same idle =
    let r = restarted c.filter caller c (replaced c k) in
    sym (replaced-active c k) ∙ sym (restarted-active c.filter caller c (replaced c k) same)
    ∙ sym (changed-active c.filter c r)
    ∙ sym (switched-active c (changed c.filter c r)) ∙ attended-active caller.views
    (switched c (changed c.filter c r)) idle
