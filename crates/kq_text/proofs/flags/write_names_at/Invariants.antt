-- The names so far, and room for those ahead.
use Rattle.std.proofs.Common.{◌≡◌, ◌≤◌, ◌+◌, ◌++◌, drop, false, take}
use Rattle.kq_text.specs.FlagText.{names_text, rows_of}
use Rattle.kq_text.proofs.FlagTextLemmas.{names_bytes}
use Rattle.kq_text.proofs.flags.write_names_at.Given as goal

abbrev pub invariant-loop-flag : goal.invariant-loop-flag
invariant-loop-flag l = record {
  text : take l.end l.out ++ names_text l.flags l.is_later (rows_of (drop l.flag-index l.flag-items))
      ≡ take l.initial.end l.initial.out ++ names_text l.flags false (rows_of l.flag-items);
  room : l.end + names_bytes (rows_of (drop l.flag-index l.flag-items))
      ≤ l.initial.end + names_bytes (rows_of l.flag-items);
}
