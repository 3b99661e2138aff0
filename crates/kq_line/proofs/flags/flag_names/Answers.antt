-- A name at a time.
use Rattle.std.proofs.Common.{◌≡◌, bit_or, arith, rules}
use Rattle.kq_line.proofs.Lists.{flags_begin, flags_end, flags_more, flags_next, no_flags}
use Rattle.kq_line.proofs.flags.flag_names.Goals as goal

pub returns-in-Some-clause-value : goal.returns-in-Some-clause-value
returns-in-Some-clause-value c =
    let none : c.empty-flags.result.0 ≡ 0 = search rules in
    no_flags c.args.text.now c.in-Some.tail.now c.empty-flags.result.0 none c.in-Some.ensures.cut

pub names-init : goal.names-init
names-init c =
    let none : c.empty-flags.result.0 ≡ 0 = search rules in
    record { so_far = flags_begin c.args.text.now c.empty-flags.result.0 none; shorter = omega arith }

pub returns-in-Some-behind-clause-value : goal.returns-in-Some-behind-clause-value
returns-in-Some-behind-clause-value c =
    let after = c.union-flags.result.0 in
    let is : after ≡ bit_or c.names.flags.0 c.in_ok-flag_named.field-0.0 = search rules in
    flags_end c.args.text.now c.in_ok-name.behind_name.now c.in-Some-behind.tail.now after
    (flags_more c.args.text.now c.names.rest.now c.in_ok-name.name.now c.in_ok-name.behind_name.now c.names.flags.0 c.in_ok-flag_named.field-0.0 after
    c.names.invariant.so_far c.in_ok-name.ensures.name c.in_ok-name.ensures.cut c.in_ok-flag_named.ensures is)
    c.in-Some-behind.ensures.cut

pub names-preserved : goal.names-preserved
names-preserved c =
    let after = c.union-flags.result.0 in
    let is : after ≡ bit_or c.names.flags.0 c.in_ok-flag_named.field-0.0 = search rules in
    let gap = c.without_blank-rest.ensures.cut in
    record {
      so_far = flags_next c.args.text.now c.in_ok-name.behind_name.now c.without_blank-rest.result.now gap.0 c.in_ok-behind.field-0.now after
          (flags_more c.args.text.now c.names.rest.now c.in_ok-name.name.now c.in_ok-name.behind_name.now c.names.flags.0 c.in_ok-flag_named.field-0.0 after
          c.names.invariant.so_far c.in_ok-name.ensures.name c.in_ok-name.ensures.cut c.in_ok-flag_named.ensures is)
          gap.1 c.in_ok-behind.ensures.cut gap.2;
      shorter = omega (arith, c.names.invariant.shorter, c.in_ok-name.ensures.shorter, c.in_ok-behind.ensures.shorter, c.without_blank-rest.ensures.shorter);
    }
