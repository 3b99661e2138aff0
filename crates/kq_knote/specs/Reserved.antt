-- The knotes of a kqueue with its queue, and the room that was reserved for further ones.
use Rattle.std.specs.Prelude.{ℕ, List}
use Rattle.kq_model.specs.declared.key.Key.{Key}
use Rattle.kq_model.specs.Tallied.{Knote}

pub record Reserved : Type 0 where
  -- in order of registration
  pub knotes : List Knote
  -- the keys of those that are to be returned, the next one first
  pub queue : List Key
  -- how many more can be attached
  pub room : ℕ
