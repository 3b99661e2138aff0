use Rattle.std.proofs.Common.{OnOk, sym, subst}
use Rattle.std.proofs.lemmas.Result.{on_ok_weaker}
use Rattle.serde_json.specs.Written.{compact_text}
use Rattle.kq_text.specs.Adds.{Adds}
use Rattle.kq_text.proofs.Appends.{as_text}
use Rattle.kq_split.specs.Lines.{hint_data}
use Rattle.kq_split.proofs.Spelled.{readable-is, writable-is, note-is, delivered-is, child-is}
use Rattle.kq_split.proofs.item.put_hint.Goals as goal

pub returns-in-Readable : goal.returns-in-Readable
returns-in-Readable c =
    subst (λ x. OnOk c.put.result (Adds c.args.out.now.items (compact_text (hint_data x)) c.put.new.out.items))
    (sym c.in-Readable.is) (on_ok_weaker c.put.result (λ added. as_text readable-is added) c.put.ensures)

pub returns-in-Writable : goal.returns-in-Writable
returns-in-Writable c =
    subst (λ x. OnOk c.put-in-Writable.result (Adds c.args.out.now.items (compact_text (hint_data x)) c.put-in-Writable.new.out.items))
    (sym c.in-Writable.is) (on_ok_weaker c.put-in-Writable.result (λ added. as_text writable-is added) c.put-in-Writable.ensures)

pub returns-in-Note : goal.returns-in-Note
returns-in-Note c =
    subst (λ x. OnOk c.put_member.result (Adds c.args.out.now.items (compact_text (hint_data x)) c.put_member.new.out.items))
    (sym c.in-Note.is) (on_ok_weaker c.put_member.result (λ added. as_text (note-is c.in-Note.bits) added) c.put_member.ensures)

pub returns-in-Delivered : goal.returns-in-Delivered
returns-in-Delivered c =
    subst (λ x. OnOk c.put-in-Delivered.result (Adds c.args.out.now.items (compact_text (hint_data x)) c.put-in-Delivered.new.out.items))
    (sym c.in-Delivered.is) (on_ok_weaker c.put-in-Delivered.result (λ added. as_text delivered-is added) c.put-in-Delivered.ensures)

pub returns-in-Child : goal.returns-in-Child
returns-in-Child c =
    subst (λ x. OnOk c.put_member-in-Child.result (Adds c.args.out.now.items (compact_text (hint_data x)) c.put_member-in-Child.new.out.items))
    (sym c.in-Child.is) (on_ok_weaker c.put_member-in-Child.result (λ added. as_text (child-is c.in-Child.pid) added) c.put_member-in-Child.ensures)
