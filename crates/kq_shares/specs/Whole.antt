-- The shares of one system, and the rows that they give together.
use Rattle.std.specs.Prelude.{◌≡◌, ◌≤◌, ◌+◌, ℕ, List, [], ◌∷◌, length}
use Rattle.std.specs.List.Sorted.{IsPermutation}
use Rattle.kq_merge.specs.ByPlace.{rows_in}
use Rattle.kq_model.specs.declared.row.Row.{Row}
use Rattle.kq_model.specs.declared.rows.Rows.{Rows}
use Rattle.kq_model.specs.OwnedRows.{Rise}
use Rattle.kq_model.specs.Shares.{dealt, share}
use Rattle.kq_model.specs.Tallied.{System}
use Rattle.kq_system.specs.declared.dealing.Dealing.{Dealing}
use Rattle.kq_system.specs.Dealing.{share_for}
use Rattle.kq_system.specs.Sharing.{ShareState}
use Rattle.kq_system.specs.SystemState.{system_of}

-- this is the share of a number of a system that so many events were applied to
pub record IsShareOf (number : ℕ) (dealing : Dealing) (applied : ℕ) (s : System) (x : ShareState) : Type 0 where
  pub number_is : x.number ≡ number
  pub dealing_is : x.dealing ≡ dealing
  pub applied_is : x.state.applied ≡ applied
  pub system_is : system_of x.state ≡ share (dealt (share_for dealing) number) s

-- these are the shares from a number on
abbrev pub AreFrom : ℕ → Dealing → ℕ → System → List ShareState → Type 0
AreFrom number dealing applied s [] = Unit {0}
AreFrom number dealing applied s (x ∷ xs) =
    IsShareOf number dealing applied s x × AreFrom (number + 1) dealing applied s xs

-- these are all shares, however the kqueues are dealt
pub record AreSharesOf (applied : ℕ) (s : System) (xs : List ShareState) : Type 0 where
  pub dealing : Dealing
  pub some : 1 ≤ length xs
  pub count : dealing.shares ≡ length xs
  pub are : AreFrom 0 dealing applied s xs

-- these rows, by rising place, are those of the lists
abbrev pub AreRowsOf : List Rows → List Row → Type 0
AreRowsOf lists rows = IsPermutation (rows_in lists []) rows × Rise rows
