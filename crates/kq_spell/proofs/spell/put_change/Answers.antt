use Rattle.std.proofs.Common.{subst, w64, rules}
use Rattle.std.specs.Fmt.{signed_decimal}
use Rattle.std.specs.Int.RustNames.{FitsSigned}
use Rattle.std.proofs.lemmas.Result.{on_ok_weaker}
use Rattle.kq_text.specs.Adds.{Adds}
use Rattle.kq_text.proofs.Appends.{and_then, as_text}
use Rattle.kq_spell.proofs.LineTexts.{change_text, integer_fits}
use Rattle.kq_spell.proofs.spell.put_change.Goals as goal

pub returns-clause-text : goal.returns-clause-text
returns-clause-text c =
    let datum : Adds c.put.new.out.items (signed_decimal c.args.change.now.datum) c.put_i64.new.out.items = search rules in
    let name = subst (λ name. Adds c.put-3.new.out.items name c.put-4.new.out.items) c.name.ensures c.in_ok-put-4.ensures in
    on_ok_weaker c.put-8.result
    (λ end. as_text (change_text c.args.change.now) (
    and_then c.in_ok-put.ensures (and_then datum (and_then c.in_ok-put-2.ensures
    (and_then c.in_ok-put_u32.ensures.text (and_then c.in_ok-put-3.ensures (and_then name
    (and_then c.in_ok-put-5.ensures (and_then c.in_ok-put_flags.ensures (and_then c.in_ok-put-6.ensures
    (and_then c.in_ok-put_u64.ensures.text (and_then c.in_ok-put-7.ensures (and_then c.in_ok-put_u64-2.ensures.text end)))))))))))))
    c.put-8.ensures

pub returns-clause-fits : goal.returns-clause-fits
returns-clause-fits c =
    let datum : FitsSigned w64 c.args.change.now.datum = search rules in
    on_ok_weaker c.put-8.result
    (λ end. record {
      ident = c.in_ok-put_u64.ensures.fits;
      fflags = c.in_ok-put_u32.ensures.fits;
      datum = integer_fits c.args.change.now.datum datum;
      udata = c.in_ok-put_u64-2.ensures.fits;
    })
    c.put-8.ensures
