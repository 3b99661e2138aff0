-- What a shelf ends as, where a `&mut` to a thing on it is returned.
use Rattle.std.specs.Prelude.{ℕ, List, Option}
use Rattle.std.specs.Borrow.{Lends, LendsIf, Fml, RattleType, MutBor}
use Rattle.kq_process.specs.Shelf.{put}
use Rattle.kq_process.specs.contracts.shelf.Shelf.{the_row}

module _ (T : RattleType) (s : MutBor (List (ℕ × T.Denot))) (number : ℕ) where
  -- once the borrow ends, what was last written stands under the number
  abbrev pub lends_thing : MutBor T.Denot → Fml
  lends_thing r = Lends (the_row T) T s r (λ x. put number x s.now)

  -- the same where there is a thing; else the shelf stays as it is
  abbrev pub lends_entry : Option (MutBor T.Denot) → Fml
  lends_entry r = LendsIf (the_row T) T s r (λ x. put number x s.now) s.now
