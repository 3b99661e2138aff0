use Rattle.std.proofs.Common.{◌≡◌, map}
use Rattle.kq_model.specs.declared.rows.Rows.{Rows}
use Rattle.kq_shares.specs.declared.going.Gone.{Gone}
use Rattle.kq_shares.proofs.shares.parted.Given as goal

abbrev pub invariant-loop-one : goal.invariant-loop-one
invariant-loop-one l =
    (l.shares.items ≡ map (λ (g : Gone). g.share) l.yielded)
    × (map (λ (k : Rows). k.rows) l.lists.items ≡ map (λ (g : Gone). g.rows.items) l.yielded)
