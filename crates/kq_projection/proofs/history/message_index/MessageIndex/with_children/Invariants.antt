use Rattle.std.proofs.Common.{◌≡◌, ℕ, true, take, Bool}
use Rattle.kq_projection.specs.declared.history.item.Source.{Source}
use Rattle.kq_projection.specs.Children.{AreClosed, IsForkIn, of_process}
use Rattle.kq_projection.specs.Items.{has_source}
use Rattle.kq_projection.proofs.history.message_index.MessageIndex.with_children.Given as goal

abbrev pub invariant-loop-next : goal.invariant-loop-next
invariant-loop-next l = record {
  more : (x : Source) → has_source l.named x ≡ true → has_source l.all.set.keys x ≡ true;
  least : (among : Source → Bool) → ((x : Source) → has_source l.named x ≡ true → among x ≡ true) → AreClosed l.self among
      → (x : Source) → has_source l.all.set.keys x ≡ true → among x ≡ true;
  done : (parent child : ℕ) → IsForkIn l.self parent child
      → has_source (take l.next l.all.set.keys) (of_process parent) ≡ true → has_source l.all.set.keys (of_process child) ≡ true;
}
