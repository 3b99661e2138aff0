-- A line at a time.
use Rattle.std.proofs.Common.{◌++◌, sym, ap, ◌∙◌, subst}
use Rattle.kq_model.specs.Reading.{reading}
use Rattle.kq_model.specs.Spelling.{records_text}
use Rattle.kq_spell.proofs.LineTexts.{text_begins, text_ends, text_goes_on}
use Rattle.kq_spell.proofs.ReadAgain.{FitRecords, fits_all, fits_more, read_again}
use Rattle.kq_spell.proofs.write.write_trace.Goals as goal

pub loop-event-init : goal.loop-event-init
loop-event-init c = record {
  so_far = text_begins c.args.trace.now.version c.args.trace.now.events c.new-text.result.items c.put_header.new.out.items c.new-text.ensures.items c.in_ok-put_header.ensures
      ∙ ap (λ events. c.put_header.new.out.items ++ records_text events) (sym c.as_slice-event-items.ensures);
  fits = tt;
}

pub loop-event-preserved : goal.loop-event-preserved
loop-event-preserved c = record {
  so_far = text_goes_on c.as_slice-event-items.result.now c.loop-event.event-index c.event-item.result _ c.loop-event.text.items c.put_record.new.out.items
      c.loop-event-test.true c.event-item.is c.in_ok-put_record.ensures.text c.loop-event.invariant.so_far;
  fits = fits_more c.as_slice-event-items.result.now c.loop-event.event-index c.event-item.result
      c.loop-event-test.true c.event-item.is c.loop-event.invariant.fits c.in_ok-put_record.ensures.fits;
}

pub returns-clause-text : goal.returns-clause-text
returns-clause-text c =
    text_ends c.as_slice-event-items.result.now c.loop-event.event-index _ c.loop-event.text.items c.loop-event-test.false c.loop-event.invariant.so_far

pub returns-clause-read_again : goal.returns-clause-read_again
returns-clause-read_again c = λ can.
    ap reading (text_ends c.as_slice-event-items.result.now c.loop-event.event-index _ c.loop-event.text.items c.loop-event-test.false c.loop-event.invariant.so_far)
    ∙ read_again c.args.trace.now.version c.args.trace.now.events c.args.trace.now.version_known
    (subst FitRecords c.as_slice-event-items.ensures
    (fits_all c.as_slice-event-items.result.now c.loop-event.event-index c.loop-event-test.false c.loop-event.invariant.fits)) can
