use Rattle.std.proofs.Common.{◌≡◌, Bool, sym, ap, ◌∙◌, subst}
use Rattle.kq_model.specs.Knote.{has_key}
use Rattle.kq_judge.specs.declared.absence.Absence.{Absence}
use Rattle.kq_judge.specs.Pending.{IsAbsence}
use Rattle.kq_judge.specs.declared.absence.Absence.TheVariants.{NotRegistered, Disabled, NotActive, Idle}
use Rattle.kq_judge.specs.declared.verdict.Verdict.{Verdict}
use Rattle.kq_judge.specs.declared.verdict.Verdict.TheVariants.{Returned, Absent}
use Rattle.kq_judge.specs.Verdicts.{IsVerdict, keys_looked_at, verdict_in_queue}
use Rattle.kq_judge.proofs.VerdictLaws.{verdict-pending, verdict-idle, verdict-alone}
use Rattle.kq_judge.proofs.verdict.verdict_of.Goals as goal

pub returns-in-Ok-clause-is : goal.returns-in-Ok-clause-is
returns-in-Ok-clause-is g c =
    let views = g.V.Views.sees c.args.views.now in
    let kq = c.args.kq.now.kq in
    let looked : c.was_returned-looked.result ≡ has_key c.args.key (keys_looked_at c.args.outcome views kq) =
    c.was_returned-looked.ensures ∙ ap (has_key c.args.key) c.requires in
    let is = c.verdict_in_queue.ensures ∙ ap (λ (b : Bool). verdict_in_queue c.args.outcome b Returned) looked in
    subst (λ (v : Verdict). IsVerdict c.args.outcome views kq c.args.key v) (sym is)
    (verdict-pending c.args.outcome views kq c.args.key c.in-Ok.field-0 c.pending_event.ensures.sound
    c.in-Ok.ensures.event)

pub returns-in-Ok-clause-alone : goal.returns-in-Ok-clause-alone
returns-in-Ok-clause-alone g c = λ other is.
    verdict-alone c.args.outcome (g.V.Views.sees c.args.views.now) c.args.kq.now.kq c.args.key c.verdict_in_queue.result
    other c.pending_event.ensures.sound (returns-in-Ok-clause-is g c) is

pub returns-in-Err-Idle-clause-is : goal.returns-in-Err-Idle-clause-is
returns-in-Err-Idle-clause-is g c =
    let views = g.V.Views.sees c.args.views.now in
    let kq = c.args.kq.now.kq in
    let looked : c.was_returned-looked.result ≡ has_key c.args.key (keys_looked_at c.args.outcome views kq) =
    c.was_returned-looked.ensures ∙ ap (has_key c.args.key) c.requires in
    let is = c.verdict_in_queue-in-Err-Idle.ensures
    ∙ ap (λ (b : Bool). verdict_in_queue c.args.outcome b (Absent Idle)) looked in
    subst (λ (v : Verdict). IsVerdict c.args.outcome views kq c.args.key v) (sym is)
    (verdict-idle c.args.outcome views kq c.args.key c.pending_event.ensures.sound
    (subst
    (λ (a : Absence). IsAbsence (g.V.Views.sees c.args.views.now) c.args.kq.now.kq.knotes c.args.key a)
    c.in-Err-Idle.field-0-is
    c.in-Err-Idle.ensures.event))

pub returns-in-Err-Idle-clause-alone : goal.returns-in-Err-Idle-clause-alone
returns-in-Err-Idle-clause-alone g c = λ other is.
    verdict-alone c.args.outcome (g.V.Views.sees c.args.views.now) c.args.kq.now.kq c.args.key
    c.verdict_in_queue-in-Err-Idle.result other c.pending_event.ensures.sound (returns-in-Err-Idle-clause-is g c) is

pub returns-in-Err-NotRegistered-clause-alone : goal.returns-in-Err-NotRegistered-clause-alone
returns-in-Err-NotRegistered-clause-alone g c = λ other is.
    verdict-alone c.args.outcome (g.V.Views.sees c.args.views.now) c.args.kq.now.kq c.args.key (Absent NotRegistered)
    other c.pending_event.ensures.sound
    (subst
    (λ (a : Absence). IsAbsence (g.V.Views.sees c.args.views.now) c.args.kq.now.kq.knotes c.args.key a)
    c.in-Err-NotRegistered.field-0-is
    c.in-Err-NotRegistered.ensures.event) is

pub returns-in-Err-Disabled-clause-alone : goal.returns-in-Err-Disabled-clause-alone
returns-in-Err-Disabled-clause-alone g c = λ other is.
    verdict-alone c.args.outcome (g.V.Views.sees c.args.views.now) c.args.kq.now.kq c.args.key (Absent Disabled)
    other c.pending_event.ensures.sound
    (subst
    (λ (a : Absence). IsAbsence (g.V.Views.sees c.args.views.now) c.args.kq.now.kq.knotes c.args.key a)
    c.in-Err-Disabled.field-0-is
    c.in-Err-Disabled.ensures.event) is

pub returns-in-Err-NotActive-clause-alone : goal.returns-in-Err-NotActive-clause-alone
returns-in-Err-NotActive-clause-alone g c = λ other is.
    verdict-alone c.args.outcome (g.V.Views.sees c.args.views.now) c.args.kq.now.kq c.args.key
    (Absent (NotActive c.in-Err-NotActive.holds)) other c.pending_event.ensures.sound
    (subst
    (λ (a : Absence). IsAbsence (g.V.Views.sees c.args.views.now) c.args.kq.now.kq.knotes c.args.key a)
    c.in-Err-NotActive.field-0-is
    c.in-Err-NotActive.ensures.event) is
