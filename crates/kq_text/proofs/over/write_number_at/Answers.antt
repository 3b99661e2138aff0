use Rattle.std.proofs.Common.{◌∙◌, ◌++◌, ap, sym, take, drop, ◌+◌, decimal, arith}
use Rattle.std.proofs.lemmas.Fmt.{decimal_digit, length-decimal-le}
use Rattle.std.proofs.lemmas.List.{take_more_set}
use Rattle.itoa.proofs.Decimal.{length_one}
use Rattle.kq_text.proofs.WritesLemmas.{placed_back}
use Rattle.kq_text.proofs.over.write_number_at.Goals as goal

pub returns-then-number-lt10-clause-text : goal.returns-then-number-lt10-clause-text
returns-then-number-lt10-clause-text c =
    let n = c.args.number in
    let old = c.args.out.now in
    let start = c.args.start in
    record {
      ends = ap (λ k. start + k) (sym (length_one n c.if-number-lt10.true));
      is = take_more_set old start _ (omega (arith, c.requires)) ∙ ap (λ l. take start old ++ l)
          (sym (decimal_digit n c.if-number-lt10.true));
    }

pub overflow_add-end : goal.overflow_add-end
overflow_add-end c =
    omega (
      arith,
      c.digit_count.ensures,
      c.requires,
      length-decimal-le 20 c.args.number (omega arith) (omega arith)
          (omega arith),
    )

pub write_digits-requires : goal.write_digits-requires
write_digits-requires c = (
  omega (arith, c.digit_count.ensures),
  omega (
    arith,
    c.digit_count.ensures,
    c.requires,
    length-decimal-le 20 c.args.number (omega arith) (omega arith)
        (omega arith),
  ),
)

pub returns-clause-text : goal.returns-clause-text
returns-clause-text c =
    let old = c.args.out.now in
    let start = c.args.start in
    placed_back old c.write_digits.new.buf (decimal c.args.number) (drop (start + c.digit_count.result) old) start
    c.digit_count.result c.write_digits.result
    (omega (arith, c.requires)) c.digit_count.ensures c.write_digits.ensures.start c.write_digits.ensures.before
    c.write_digits.ensures.written

pub returns-clause-short : goal.returns-clause-short
returns-clause-short c =
    omega (arith, c.digit_count.ensures, length-decimal-le 20 c.args.number (omega arith) (omega arith) (omega arith))
