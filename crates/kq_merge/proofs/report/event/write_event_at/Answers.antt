use Rattle.std.proofs.Common.{◌++◌, codes, decimal, subst, rules}
use Rattle.std.specs.Fmt.{signed_decimal}
use Rattle.serde_json.specs.Written.{comma_if, compact_text}
use Rattle.kq_model.specs.Spelling.{flags_data}
use Rattle.kq_text.specs.Writes.{Writes}
use Rattle.kq_text.proofs.WritesLemmas.{and_then, as_text}
use Rattle.kq_merge.specs.EventsText.{before_flags}
use Rattle.kq_merge.proofs.ReportLines.{listed_text}
use Rattle.kq_merge.proofs.report.event.write_event_at.Goals as goal

pub returns-clause-text : goal.returns-clause-text
returns-clause-text c =
    let event = c.args.event.now in
    let a = c.write_opening_at-end in
    let b = c.write_signed_at-end in
    let d = c.write_at-end in
    let e = c.write_number_at-end in
    let f = c.write_first_at-end in
    let g = c.write_flags_at-end in
    let h = c.write_at-end-2 in
    let i = c.write_number_at-end-2 in
    let j = c.write_at-end-3 in
    let k = c.write_number_at-end-3 in
    let opening : Writes c.args.out.now c.args.start (comma_if c.args.is_later ++ codes "{\"data\":") a.new.out
    a.result = search rules in
    let datum : Writes a.new.out a.result (signed_decimal event.datum) b.new.out b.result = search rules in
    let fflags_name : Writes b.new.out b.result (codes ",\"fflags\":") d.new.out d.result = search rules in
    let fflags_from : Writes d.new.out d.result (decimal c.from.result) e.new.out e.result = search rules in
    let fflags : Writes d.new.out d.result (decimal event.fflags) e.new.out e.result =
    subst (λ n. Writes d.new.out d.result (decimal n) e.new.out e.result) c.from.ensures fflags_from in
    let filter : Writes e.new.out e.result (before_flags event.filter) f.new.out f.result =
    subst (λ text. Writes e.new.out e.result text f.new.out f.result) c.before_flags-bytes.ensures.text f.ensures in
    let flags : Writes f.new.out f.result (compact_text (flags_data event.flags)) g.new.out g.result = search rules in
    let ident_name : Writes g.new.out g.result (codes ",\"ident\":") h.new.out h.result = search rules in
    let ident : Writes h.new.out h.result (decimal event.ident) i.new.out i.result = search rules in
    let udata_name : Writes i.new.out i.result (codes ",\"udata\":") j.new.out j.result = search rules in
    let udata : Writes j.new.out j.result (decimal event.udata) k.new.out k.result = search rules in
    let close : Writes k.new.out k.result (codes "}") c.write_at.new.out c.write_at.result = search rules in
    as_text (listed_text c.args.is_later event) (
    and_then opening (and_then datum (and_then fflags_name (and_then fflags
    (and_then filter (and_then flags (and_then ident_name
    (and_then ident (and_then udata_name (and_then udata close))))))))))
