-- The line of these members is the line of the event that has them.
use Rattle.std.proofs.Common.{OnOk, subst, sym}
use Rattle.kq_model.specs.declared.event.Event.TheVariants as event
use Rattle.kq_model.specs.Spelling.{line_text, members_of, record_data}
use Rattle.kq_text.specs.Adds.{Adds}
use Rattle.kq_spell.proofs.record_line.put_process_record.Goals as goal

pub returns-in-Proc-clause-text : goal.returns-in-Proc-clause-text
unfolding record_data members_of
returns-in-Proc-clause-text c =
    subst (λ e. OnOk c.put_line.result (Adds c.args.out.now.items (line_text (record_data e)) c.put_line.new.out.items))
    (sym c.in-Proc.is) c.put_line.ensures.text

pub returns-in-Fork-clause-text : goal.returns-in-Fork-clause-text
unfolding record_data members_of
returns-in-Fork-clause-text c =
    subst (λ e. OnOk c.put_line-in-Fork.result (Adds c.args.out.now.items (line_text (record_data e)) c.put_line-in-Fork.new.out.items))
    (sym c.in-Fork.is) c.put_line-in-Fork.ensures.text

pub returns-in-Exit-clause-text : goal.returns-in-Exit-clause-text
unfolding record_data members_of
returns-in-Exit-clause-text c =
    subst (λ e. OnOk c.put_line-in-Exit.result (Adds c.args.out.now.items (line_text (record_data e)) c.put_line-in-Exit.new.out.items))
    (sym c.in-Exit.is) c.put_line-in-Exit.ensures.text

pub returns-in-Exec-clause-text : goal.returns-in-Exec-clause-text
unfolding record_data members_of
returns-in-Exec-clause-text c =
    subst (λ e. OnOk c.put_line-in-Exec.result (Adds c.args.out.now.items (line_text (record_data e)) c.put_line-in-Exec.new.out.items))
    (sym c.in-Exec.is) c.put_line-in-Exec.ensures.text

pub returns-in-Sigset-clause-text : goal.returns-in-Sigset-clause-text
unfolding record_data members_of
returns-in-Sigset-clause-text c =
    subst (λ e. OnOk c.put_line-in-Sigset.result (Adds c.args.out.now.items (line_text (record_data e)) c.put_line-in-Sigset.new.out.items))
    (sym c.in-Sigset.is) c.put_line-in-Sigset.ensures.text

pub returns-in-Sig-clause-text : goal.returns-in-Sig-clause-text
unfolding record_data members_of
returns-in-Sig-clause-text c =
    subst (λ e. OnOk c.put_line-in-Sig.result (Adds c.args.out.now.items (line_text (record_data e)) c.put_line-in-Sig.new.out.items))
    (sym c.in-Sig.is) c.put_line-in-Sig.ensures.text

pub returns-in-Kqueue-clause-text : goal.returns-in-Kqueue-clause-text
unfolding record_data members_of
returns-in-Kqueue-clause-text c =
    subst (λ e. OnOk c.put_plain.result (Adds c.args.out.now.items (line_text (record_data e)) c.put_plain.new.out.items))
    (sym c.in-Kqueue.is) c.put_plain.ensures.text

pub returns-in-Kevent-clause-text : goal.returns-in-Kevent-clause-text
unfolding record_data members_of
returns-in-Kevent-clause-text c =
    subst (λ e. OnOk c.put_line-in-Kevent.result (Adds c.args.out.now.items (line_text (record_data e)) c.put_line-in-Kevent.new.out.items))
    (sym c.in-Kevent.is)
    (subst (λ changes. OnOk c.put_line-in-Kevent.result (Adds c.args.out.now.items (line_text (record_data (event.Kevent c.in-Kevent.pid c.in-Kevent.fd changes c.in-Kevent.room))) c.put_line-in-Kevent.new.out.items))
    c.as_slice.ensures c.put_line-in-Kevent.ensures.text)
