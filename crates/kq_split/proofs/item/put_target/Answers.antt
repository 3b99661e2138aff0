use Rattle.std.proofs.Common.{OnOk, sym, subst}
use Rattle.std.proofs.lemmas.Result.{on_ok_weaker}
use Rattle.serde_json.specs.Written.{compact_text}
use Rattle.kq_text.specs.Adds.{Adds}
use Rattle.kq_text.proofs.Appends.{as_text}
use Rattle.kq_split.specs.Lines.{target_data}
use Rattle.kq_split.proofs.Spelled.{socket-is, pipe-is, open-is, file-is, process-is, own-is}
use Rattle.kq_split.proofs.item.put_target.Goals as goal

pub returns-in-Socket : goal.returns-in-Socket
returns-in-Socket c =
    subst (λ x. OnOk c.put_member.result (Adds c.args.out.now.items (compact_text (target_data x)) c.put_member.new.out.items))
    (sym c.in-Socket.is) (on_ok_weaker c.put_member.result (λ added. as_text (socket-is c.in-Socket.place) added) c.put_member.ensures)

pub returns-in-Pipe : goal.returns-in-Pipe
returns-in-Pipe c =
    subst (λ x. OnOk c.put_member-in-Pipe.result (Adds c.args.out.now.items (compact_text (target_data x)) c.put_member-in-Pipe.new.out.items))
    (sym c.in-Pipe.is) (on_ok_weaker c.put_member-in-Pipe.result (λ added. as_text (pipe-is c.in-Pipe.place) added) c.put_member-in-Pipe.ensures)

pub returns-in-Open : goal.returns-in-Open
returns-in-Open c =
    subst (λ x. OnOk c.put_member-in-Open.result (Adds c.args.out.now.items (compact_text (target_data x)) c.put_member-in-Open.new.out.items))
    (sym c.in-Open.is) (on_ok_weaker c.put_member-in-Open.result (λ added. as_text (open-is c.in-Open.place) added) c.put_member-in-Open.ensures)

pub returns-in-File : goal.returns-in-File
returns-in-File c =
    subst (λ x. OnOk c.put_member-in-File.result (Adds c.args.out.now.items (compact_text (target_data x)) c.put_member-in-File.new.out.items))
    (sym c.in-File.is) (on_ok_weaker c.put_member-in-File.result (λ added. as_text (file-is c.in-File.number) added) c.put_member-in-File.ensures)

pub returns-in-Process : goal.returns-in-Process
returns-in-Process c =
    subst (λ x. OnOk c.put_member-in-Process.result (Adds c.args.out.now.items (compact_text (target_data x)) c.put_member-in-Process.new.out.items))
    (sym c.in-Process.is) (on_ok_weaker c.put_member-in-Process.result (λ added. as_text (process-is c.in-Process.pid) added) c.put_member-in-Process.ensures)

pub returns-in-Own : goal.returns-in-Own
returns-in-Own c =
    subst (λ x. OnOk c.put.result (Adds c.args.out.now.items (compact_text (target_data x)) c.put.new.out.items))
    (sym c.in-Own.is) (on_ok_weaker c.put.result (λ added. as_text own-is added) c.put.ensures)
