-- The changes so far.
use Rattle.std.proofs.Common.{◌≡◌, ◌++◌, drop, false, take}
use Rattle.kq_spell.specs.Again.{FitsChanges}
use Rattle.kq_spell.specs.Texts.{changes_text}
use Rattle.kq_spell.proofs.spell.put_changes.Given as goal

abbrev pub invariant-loop-change : goal.invariant-loop-change
invariant-loop-change l = record {
  text : l.out.items ++ changes_text l.is_later (drop l.change-index l.changes) ≡ l.initial.out.items ++ changes_text false l.changes;
  fits : FitsChanges (take l.change-index l.changes);
}
