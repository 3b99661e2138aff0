-- One block after another, up to the last one or the first bad line.
use Rattle.std.proofs.Common.{◌≡◌, ℕ, ◌<◌, ◌+◌, ◌++◌, true, List, [], length, rules, tests, refl, sym, ap, subst, ◌∙◌, append-nil, arith, length-append}
use Rattle.std.proofs.lemmas.Bool.{true_from_ne_false}
use Rattle.kq_model.specs.declared.event.Event.{Event}
use Rattle.kq_model.specs.Lines.{lines_of}
use Rattle.kq_model.specs.Reading.{Good, read_lines, read_records, reading}
use Rattle.kq_trace.specs.declared.input_error.InputError.TheVariants as error
use Rattle.kq_trace.specs.Blocks.{EndsWith, IsFaultSoFar, IsKnown, IsNextBlock}
use Rattle.kq_trace.specs.Rest.{lines_behind}
use Rattle.kq_trace.specs.Unread.{AreRecordsFrom, IsFaultAhead, IsFaultFrom}
use Rattle.kq_trace.proofs.BlockLines.{some_line}
use Rattle.kq_trace.proofs.BlocksRead.{all_read, AreRead, first_fault, first_read, less_ahead, less_told, next_fault, next_read, no_item, now_fault, passed}
use Rattle.kq_trace.proofs.reading.read_blocks.Goals as goal
use Rattle.kq_trace.proofs.reading.read_blocks.Goals.{then-not-is_empty, else-not-is_empty+then-not-is_empty-2}

pub returns-in_err-version-clause-bad : goal.returns-in_err-version-clause-bad
returns-in_err-version-clause-bad g c =
    let before = g.S.Source.ahead c.args.source.now in
    let after = g.S.Source.ahead c.next.new.source in
    let old = c.args.text.now.coming in
    let new = c.next.new.self in
    let block = c.next.new.block.items in
    let next : IsNextBlock before after old new block = search rules in
    let ends : EndsWith new after = search rules in
    let found = c.in_err-version.field-0.0 in
    let bad : (later : List (List ℕ)) → IsFaultAhead (read_lines (lines_of block ++ later)) found =
    rw (← c.deref.ensures.value) c.in_err-version.ensures.bad_longer in
    let may_fail = g.S.Source.may_fail in
    passed c.from_residual-in_err-version.result (error.Trace found) (IsFaultSoFar may_fail before after new) c.from_residual-in_err-version.ensures.1
    (first_fault before after old new block next c.requires.nothing ends may_fail found bad)

pub returns-in_err-part-clause-bad : goal.returns-in_err-part-clause-bad
returns-in_err-part-clause-bad g c =
    let before = g.S.Source.ahead c.args.source.now in
    let after = g.S.Source.ahead c.next.new.source in
    let old = c.args.text.now.coming in
    let new = c.next.new.self in
    let block = c.next.new.block.items in
    let next : IsNextBlock before after old new block = search rules in
    let ends : EndsWith new after = search rules in
    let version = c.in_ok-version.version in
    let rest = c.in_ok-version.first.now in
    let opened : (later : List (List ℕ)) → read_lines (lines_of block ++ later) ≡ read_records version 2 (lines_behind rest ++ later) =
    rw (← c.deref.ensures.value) c.in_ok-version.ensures.longer in
    let so_far = first_read before after old new block next c.requires.nothing ends version rest opened in
    let found = c.in_err-part.field-0.0 in
    let may_fail = g.S.Source.may_fail in
    passed c.from_residual-in_err-part.result (error.Trace found) (IsFaultSoFar may_fail before after new) c.from_residual-in_err-part.ensures.1
    (now_fault before after new [] version 2 rest so_far ends may_fail found c.in_err-part.ensures.bad)

pub rounds-init : goal.rounds-init
rounds-init g c =
    let before = g.S.Source.ahead c.args.source.now in
    let mid = g.S.Source.ahead c.next.new.source in
    let after = g.S.Source.ahead c.next-2.new.source in
    let old = c.args.text.now.coming in
    let now = c.next.new.self in
    let new = c.next-2.new.self in
    let block = c.next.new.block.items in
    let ahead = c.next-2.new.block.items in
    let next : IsNextBlock before mid old now block = search rules in
    let ends : EndsWith now mid = search rules in
    let version = c.in_ok-version.version in
    let rest = c.in_ok-version.first.now in
    let opened : (later : List (List ℕ)) → read_lines (lines_of block ++ later) ≡ read_records version 2 (lines_behind rest ++ later) =
    rw (← c.deref.ensures.value) c.in_ok-version.ensures.longer in
    let first = first_read before mid old now block next c.requires.nothing ends version rest opened in
    let part = c.in_ok-part.part in
    let are : AreRecordsFrom 2 (lines_behind rest) part = c.in_ok-part.ensures.part in
    let then : IsNextBlock mid after now new ahead = search rules in
    record {
      under_way = record {
        events = [];
        so_far = next_read mid after now new ahead then before [] version 2 rest first part are;
        counted = refl;
        in_limit = omega (arith, are.limit);
        has = c.in_ok-begin.ensures;
        ends = search rules;
      };
      some = then.some;
    }

pub returns-in_err-part-2-clause-bad : goal.returns-in_err-part-2-clause-bad
returns-in_err-part-2-clause-bad g c =
    let before = g.S.Source.ahead c.args.source.now in
    let mid = g.S.Source.ahead c.rounds.source in
    let after = g.S.Source.ahead c.round-read.new.source in
    let now = c.rounds.text.coming in
    let new = c.round-read.new.text.coming in
    let block = c.rounds.text.block.items in
    let ahead = c.round-read.new.text.next.items in
    let next : IsNextBlock mid after now new ahead = search rules in
    let ends : EndsWith new after = search rules in
    let found = c.in_err-part-2.field-0.0 in
    let part = c.rounds.decoded.part in
    let number = 2 + c.rounds.decoded.before + length part in
    let bad : IsFaultFrom number (lines_behind block) found = search rules in
    let so_far = c.rounds.invariant.under_way in
    let may_fail = g.S.Source.may_fail in
    passed c.from_residual-in_err-part-2.result (error.Trace found) (IsFaultSoFar may_fail before after new) c.from_residual-in_err-part-2.ensures.1
    (next_fault mid after now new ahead next before (so_far.events ++ part) c.in_ok-version.version number block so_far.so_far may_fail ends found bad)

pub rounds-smaller : goal.rounds-smaller
rounds-smaller g c =
    let told = c.rounds.decoded.before in
    let part = c.rounds.decoded.part in
    let next = c.in_ok-part-2.part in
    let block = c.rounds.text.block.items in
    let are : AreRecordsFrom (2 + told + length part) (lines_behind block) next = search rules in
    let added : told + c.len.result ≡ told + length part = ap (λ n. told + n) c.len.ensures in
    let few = c.rounds.invariant.under_way.in_limit in
    elim c.if-not-is_empty.branch [
      | then-not-is_empty w ↦
          let some : 0 < length part = search (rules, tests) in
          less_told told (told + c.len.result) (length part) (length next) added few some
      | else-not-is_empty+then-not-is_empty-2 w ↦
          let none : length part ≡ 0 = search (rules, tests) in
          let some : 0 < length block = search (rules, tests) in
          less_ahead told (told + c.len.result) (length part) (length next) added few none (omega (arith, some_line block some, are.count))
    ]

pub rounds-preserved : goal.rounds-preserved
rounds-preserved g c =
    let before = g.S.Source.ahead c.args.source.now in
    let mid = g.S.Source.ahead c.rounds.source in
    let after = g.S.Source.ahead c.round-read.new.source in
    let now = c.rounds.text.coming in
    let new = c.round-read.new.text.coming in
    let version = c.in_ok-version.version in
    let block = c.rounds.text.block.items in
    let ahead = c.round-read.new.text.next.items in
    let told = c.rounds.decoded.before in
    let part = c.rounds.decoded.part in
    let number = 2 + told + length part in
    let next = c.in_ok-part-2.part in
    let so_far = c.rounds.invariant.under_way in
    let then : IsNextBlock mid after now new ahead = search rules in
    let are : AreRecordsFrom number (lines_behind block) next = search rules in
    let took : (v : ℕ) (events : List Event) → length events ≡ told → g.K.Sink.took v c.rounds.sink events → g.K.Sink.took v c.round-read.new.sink (events ++ part) =
    search rules in
    let swapped : c.swap.new.x.items ≡ ahead = ap (λ v. v.items) c.swap.ensures.x_after in
    let both = next_read mid after now new ahead then before (so_far.events ++ part) version number block so_far.so_far next are in
    let all : told + c.len.result ≡ told + length part = ap (λ n. told + n) c.len.ensures in
    let here : number + length next ≡ 2 + (told + c.len.result) + length next = omega (arith, all) in
    record {
      under_way = record {
        events = so_far.events ++ part;
        so_far = subst (λ n. AreRead before after new ((so_far.events ++ part) ++ next) version n c.swap.new.x.items) here
            (subst (λ b. AreRead before after new ((so_far.events ++ part) ++ next) version (number + length next) b) (sym swapped) both);
        counted = omega (arith, so_far.counted, all, length-append so_far.events part);
        in_limit = omega (arith, are.limit, all);
        has = took version so_far.events so_far.counted so_far.has;
        ends = search rules;
      };
      some = λ is. omega (arith, then.some is, ap length swapped);
    }

pub returns-clause-good : goal.returns-clause-good
returns-clause-good g c =
    let before = g.S.Source.ahead c.args.source.now in
    let after = g.S.Source.ahead c.rounds.source in
    let b = c.rounds.text.coming in
    let version = c.in_ok-version.version in
    let part = c.rounds.decoded.part in
    let block = c.rounds.text.block.items in
    let so_far = c.rounds.invariant.under_way in
    let no_part : length part ≡ 0 = search (rules, tests) in
    let no_block : length block ≡ 0 = search (rules, tests) in
    let none : part ≡ [] = no_item part no_part in
    let ended : b.ended ≡ true = true_from_ne_false b.ended (λ not_yet. absurd (omega (arith, c.rounds.invariant.some not_yet, no_block))) in
    let same : so_far.events ++ part ≡ so_far.events = ap (λ es. so_far.events ++ es) none ∙ append-nil so_far.events in (
      so_far.events,
      record {
        known = subst (λ es. IsKnown before after b (λ bytes. reading bytes ≡ Good version es)) same
            (all_read before after b (so_far.events ++ part) version _ block so_far.so_far (no_item block no_block) ended so_far.ends);
        ended = ended;
        ends = so_far.ends;
        version_known = c.in_ok-version.ensures.known;
        few = omega (arith, so_far.counted, so_far.in_limit);
      },
      so_far.has,
    )
