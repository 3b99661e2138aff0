-- The line of these members is the line of the event that has them.
use Rattle.std.proofs.Common.{OnOk, subst, sym}
use Rattle.kq_model.specs.Spelling.{line_text, members_of, record_data}
use Rattle.kq_text.specs.Adds.{Adds}
use Rattle.kq_spell.proofs.record_line.put_descriptor_record.Goals as goal

pub returns-in-Dup-clause-text : goal.returns-in-Dup-clause-text
unfolding record_data members_of
returns-in-Dup-clause-text c =
    subst (λ e. OnOk c.put_line.result (Adds c.args.out.now.items (line_text (record_data e)) c.put_line.new.out.items))
    (sym c.in-Dup.is) c.put_line.ensures.text

pub returns-in-Close-clause-text : goal.returns-in-Close-clause-text
unfolding record_data members_of
returns-in-Close-clause-text c =
    subst (λ e. OnOk c.put_plain.result (Adds c.args.out.now.items (line_text (record_data e)) c.put_plain.new.out.items))
    (sym c.in-Close.is) c.put_plain.ensures.text

pub returns-in-Socket-clause-text : goal.returns-in-Socket-clause-text
unfolding record_data members_of
returns-in-Socket-clause-text c =
    subst (λ e. OnOk c.put_line-in-Socket.result (Adds c.args.out.now.items (line_text (record_data e)) c.put_line-in-Socket.new.out.items))
    (sym c.in-Socket.is) c.put_line-in-Socket.ensures.text

pub returns-in-Listen-clause-text : goal.returns-in-Listen-clause-text
unfolding record_data members_of
returns-in-Listen-clause-text c =
    subst (λ e. OnOk c.put_line-in-Listen.result (Adds c.args.out.now.items (line_text (record_data e)) c.put_line-in-Listen.new.out.items))
    (sym c.in-Listen.is) c.put_line-in-Listen.ensures.text

pub returns-in-Arrive-clause-text : goal.returns-in-Arrive-clause-text
unfolding record_data members_of
returns-in-Arrive-clause-text c =
    subst (λ e. OnOk c.put_plain-in-Arrive.result (Adds c.args.out.now.items (line_text (record_data e)) c.put_plain-in-Arrive.new.out.items))
    (sym c.in-Arrive.is) c.put_plain-in-Arrive.ensures.text

pub returns-in-Accept-clause-text : goal.returns-in-Accept-clause-text
unfolding record_data members_of
returns-in-Accept-clause-text c =
    subst (λ e. OnOk c.put_line-in-Accept.result (Adds c.args.out.now.items (line_text (record_data e)) c.put_line-in-Accept.new.out.items))
    (sym c.in-Accept.is) c.put_line-in-Accept.ensures.text

pub returns-in-Connect-clause-text : goal.returns-in-Connect-clause-text
unfolding record_data members_of
returns-in-Connect-clause-text c =
    subst (λ e. OnOk c.put_plain-in-Connect.result (Adds c.args.out.now.items (line_text (record_data e)) c.put_plain-in-Connect.new.out.items))
    (sym c.in-Connect.is) c.put_plain-in-Connect.ensures.text

pub returns-in-Rx-clause-text : goal.returns-in-Rx-clause-text
unfolding record_data members_of
returns-in-Rx-clause-text c =
    subst (λ e. OnOk c.put_amount.result (Adds c.args.out.now.items (line_text (record_data e)) c.put_amount.new.out.items))
    (sym c.in-Rx.is) c.put_amount.ensures.text

pub returns-in-Tx-clause-text : goal.returns-in-Tx-clause-text
unfolding record_data members_of
returns-in-Tx-clause-text c =
    subst (λ e. OnOk c.put_amount-in-Tx.result (Adds c.args.out.now.items (line_text (record_data e)) c.put_amount-in-Tx.new.out.items))
    (sym c.in-Tx.is) c.put_amount-in-Tx.ensures.text
