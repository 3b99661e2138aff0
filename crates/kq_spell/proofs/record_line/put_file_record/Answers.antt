-- The line of these members is the line of the event that has them.
use Rattle.std.proofs.Common.{OnOk, subst, sym}
use Rattle.kq_model.specs.Spelling.{line_text, members_of, record_data}
use Rattle.kq_text.specs.Adds.{Adds}
use Rattle.kq_spell.proofs.record_line.put_file_record.Goals as goal

pub returns-in-Pipe-clause-text : goal.returns-in-Pipe-clause-text
unfolding record_data members_of
returns-in-Pipe-clause-text c =
    subst (λ e. OnOk c.put_line.result (Adds c.args.out.now.items (line_text (record_data e)) c.put_line.new.out.items))
    (sym c.in-Pipe.is) c.put_line.ensures.text

pub returns-in-Read-clause-text : goal.returns-in-Read-clause-text
unfolding record_data members_of
returns-in-Read-clause-text c =
    subst (λ e. OnOk c.put_amount.result (Adds c.args.out.now.items (line_text (record_data e)) c.put_amount.new.out.items))
    (sym c.in-Read.is) c.put_amount.ensures.text

pub returns-in-Write-clause-text : goal.returns-in-Write-clause-text
unfolding record_data members_of
returns-in-Write-clause-text c =
    subst (λ e. OnOk c.put_amount-in-Write.result (Adds c.args.out.now.items (line_text (record_data e)) c.put_amount-in-Write.new.out.items))
    (sym c.in-Write.is) c.put_amount-in-Write.ensures.text
