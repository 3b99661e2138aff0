-- A READ, WRITE or VNODE knote watches what its number names.
use Rattle.std.specs.Prelude.{◌≡◌, ℕ, true, Option}
use Rattle.std.specs.Option.{is_some}
use Rattle.kq_model.specs.declared.filter.Filter.{Filter}
use Rattle.kq_model.specs.declared.object.Target.{Target}
use Rattle.kq_model.specs.Knote.{watches_number}
use Rattle.kq_model.specs.Targets.{target_of}
use Rattle.kq_model.specs.Views.{Views}

-- the number is open in the owner and names something to watch, which is the knote's target
abbrev pub IsNamed : Views → ℕ → Filter → ℕ → Option Target → Type 0
IsNamed views owner filter ident target =
    watches_number filter ≡ true → (is_some target ≡ true) × (target ≡ target_of views owner filter ident)
