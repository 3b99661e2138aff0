-- A digit at a time.
use Rattle.std.proofs.Common.{◌+◌, ◌∷◌, ap, ◌∙◌, arith}
use Rattle.kq_line.proofs.Digits.{digits_begin, digits_go_on}
use Rattle.kq_line.proofs.numbers.number.Goals as goal

pub returns-then-first-eq0-clause-cut : goal.returns-then-first-eq0-clause-cut
returns-then-first-eq0-clause-cut c =
    digits_begin c.args.text.now c.in_ok-first.behind_first.now 0 (omega arith)
    (c.in_ok-first.ensures.cut ∙ ap (λ d. (48 + d) ∷ c.in_ok-first.behind_first.now) c.if-first-eq0.true)

pub digits-init : goal.digits-init
digits-init c = record {
  some = omega arith;
  fits = omega (arith, c.in_ok-first.ensures.value);
  cut = digits_begin c.args.text.now c.in_ok-first.behind_first.now c.in_ok-first.first c.in_ok-first.ensures.value c.in_ok-first.ensures.cut;
  shorter = c.in_ok-first.ensures.shorter;
}

pub digits-preserved : goal.digits-preserved
digits-preserved c = record {
  some = omega (arith, c.in_ok-number.ensures.value, c.digits.invariant.some);
  fits = c.in_ok-number.ensures.fits;
  cut = digits_go_on c.args.text.now c.digits.rest.now c.in-Some.behind_next.now c.digits.number c.in-Some.next c.in_ok-number.number
      c.digits.invariant.some c.in-Some.ensures.value c.in_ok-number.ensures.fits c.in_ok-number.ensures.value c.digits.invariant.cut c.in-Some.ensures.cut;
  shorter = omega (arith, c.digits.invariant.shorter, c.in-Some.ensures.shorter);
}
