use Rattle.std.proofs.Common.{◌∙◌, [], ◌++◌, sym, ap, drop, take, arith}
use Rattle.bitflags.specs.declared.traits.Flag.{Flag}
use Rattle.kq_model.specs.declared.event_flags.EvFlags.{EvFlags}
use Rattle.kq_text.proofs.FlagTextLemmas.{name_taken, name_left, names_ended, names_bytes-all, names_bytes-more, names_bytes-some}
use Rattle.kq_text.proofs.WritesLemmas.{as_adds, from_adds}
use Rattle.kq_text.specs.FlagText.{rows_of}
use Rattle.kq_text.proofs.flags.write_names_at.Goals as goal
use Rattle.kq_text.proofs.flags.write_names_at.Goals.{then-contains, else-contains}

-- what a read past the end of the table would give
abbrev no_flag : Flag EvFlags
no_flag = record { name = record { ref_ptr = (0, 0); now = [] }; value = record { 0 = 0 } }

pub loop-flag-preserved : goal.loop-flag-preserved
loop-flag-preserved c =
    let items = c.flags-flag-items.result.now in
    let i = c.loop-flag.flag-index in
    let done = take c.loop-flag.end c.loop-flag.out in
    elim c.if-contains.branch [
      | then-contains w ↦ rw (w.out-is, w.end-is, w.is_later-is) (record {
        text = name_taken c.args.flags c.loop-flag.is_later items i _ done _ c.loop-flag-test.true
            (sym (c.contains.ensures tt) ∙ w.if-contains.true) (as_adds w.write_name_at-end.ensures.text)
            ∙ c.loop-flag.invariant.text;
        room = omega (arith, names_bytes-more items i no_flag c.loop-flag-test.true, w.write_name_at-end.ensures.short);
      })
      | else-contains w ↦ rw (w.out-is, w.end-is, w.is_later-is) (record {
        text = ap (λ l. done ++ l) (name_left c.args.flags c.loop-flag.is_later items i _ c.loop-flag-test.true
            (sym (c.contains.ensures tt) ∙ w.if-contains.false)) ∙ c.loop-flag.invariant.text;
        room = omega (arith, names_bytes-more items i no_flag c.loop-flag-test.true);
      })
    ]

pub returns-clause-text : goal.returns-clause-text
returns-clause-text c =
    let start = c.args.start in
    let items = c.flags-flag-items.result.now in
    from_adds c.args.out.now c.write_at.new.out _ start c.write_at.result
    (omega (arith, c.requires))
    (omega (
      arith,
      c.requires,
      c.write_at-end.ensures.ends,
      c.write_at.ensures.ends,
      c.loop-flag.invariant.room,
      c.loop-flag.auto.out,
      names_bytes-all items (c.flags-flag-items.ensures tt),
      names_bytes-some (rows_of (drop c.loop-flag.flag-index items)),
    ))
    (names_ended c.args.flags c.loop-flag.is_later items c.loop-flag.flag-index
    (take start c.args.out.now) (take c.write_at-end.result c.write_at-end.new.out)
    (take c.loop-flag.end c.loop-flag.out) (take c.write_at.result c.write_at.new.out) c.loop-flag-test.false
    (c.flags-flag-items.ensures tt) (as_adds c.write_at-end.ensures) c.loop-flag.invariant.text
    (as_adds c.write_at.ensures))
