-- Each call is on a live kqueue.
use Rattle.std.specs.Prelude.{◌≡◌, ℕ, ◌+◌, ◌==◌, Bool, true, List, [], ◌∷◌, Option, Some, None}
use Rattle.std.specs.List.{list_any}
use Rattle.kq_model.specs.Hearing.{Hearing}
use Rattle.kq_model.specs.Objects.{Keeping}
use Rattle.kq_model.specs.System.{Live, System, step_by}
use Rattle.kq_model.specs.World.{Call, Planned, Impossible, Possible}

unfoldable pub call_of : Planned → Option Call
call_of (Impossible why) = None
call_of (Possible p) = p.call

module _ {S : Type 0} {h : Hearing S} where
  -- the kqueue that was made at this place
  abbrev pub is_live : ℕ → List (Live h) → Bool
  is_live place live = list_any (λ (l : Live h). place == l.place) live

  unfoldable pub OnLive : List (Live h) → Option Call → Type 0
  OnLive live None = Unit {0}
  OnLive live (Some c) = is_live c.kqueue live ≡ true

  -- of the records with these plans, the first of which stands at `place`
  unfoldable pub CallLive : {A B C D : Type 0} {k : Keeping A B C D} → ℕ → System h k → List Planned → Type 0
  CallLive place s [] = Unit {0}
  CallLive place s (q ∷ qs) = OnLive s.live (call_of q) × CallLive (place + 1) (step_by place q s).system qs
