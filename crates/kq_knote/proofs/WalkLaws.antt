-- What comes next behind a knote, and which of those ahead is the first that hints are for.
use Rattle.std.proofs.Common.{◌≡◌, ◌≤◌, false, cond, List, [], ◌∷◌, ◌++◌, map, filter, length, Option, None, Some, slice_get, refl, ap, ◌∙◌, arith}
use Rattle.std.proofs.lemmas.Option.{none-some}
use Rattle.kq_model.specs.declared.key.Key.{Key}
use Rattle.kq_model.specs.Knote.{key_eq, find_knote}
use Rattle.kq_model.specs.Tallied.{Knote}
use Rattle.kq_model.specs.Targets.{Posted}
use Rattle.kq_model.proofs.KeyLaws.{key_eq-refl}
use Rattle.kq_model.proofs.KnoteLaws.{by_test, find_knote-head, find_knote-tail}
use Rattle.kq_knote.specs.Index.{first_hinted, is_hinted}
use Rattle.kq_table.specs.Rows.{row_after}

abbrev key_of : Knote → Key
key_of k = k.key

abbrev pub after : Key → List Knote → Option Knote
after key ks = row_after key_eq key_of key ks

after-here : (k : Knote) (ks : List Knote) → after k.key (k ∷ ks) ≡ slice_get ks 0
unfolding row_after
after-here k ks = ap (λ b. cond b (slice_get ks 0) (after k.key ks)) (key_eq-refl k.key)

after-later : (key : Key) (x : Knote) (ks : List Knote) → key_eq key x.key ≡ false → after key (x ∷ ks) ≡ after key ks
unfolding row_after
after-later key x ks apart = ap (λ b. cond b (slice_get ks 0) (after key ks)) apart

-- next after a knote in the middle comes the one behind it
pub after-middle : (past : List Knote) (k : Knote) (ks : List Knote) → find_knote k.key past ≡ None → after k.key (past ++ k ∷ ks) ≡ slice_get ks 0
after-middle [] k ks absent = after-here k ks
after-middle (x ∷ past) k ks absent =
    after-later k.key x (past ++ k ∷ ks) (find_knote-head k.key x past absent)
    ∙ after-middle past k ks (find_knote-tail k.key x past absent)

pub first-cons : (posted : List Posted) (k : Knote) (ks : List Knote) → first_hinted posted (k ∷ ks) ≡ cond (is_hinted posted k) (Some k.key) (first_hinted posted ks)
first-cons posted k ks =
    by_test (λ b. slice_get (map key_of (cond b (k ∷ filter (is_hinted posted) ks) (filter (is_hinted posted) ks))) 0 ≡ cond b (Some k.key) (first_hinted posted ks)) (is_hinted posted k)
    (λ _. refl) (λ _. refl)

-- ---- where none is ahead

pub walk-none : (posted : List Posted) (ahead : List Knote) → None ≡ slice_get ahead 0 → None ≡ first_hinted posted ahead
walk-none posted [] is = refl
walk-none posted (k ∷ ks) is = absurd (none-some k is)

pub nothing_left : (posted : List Posted) (ahead : List Knote) → length ahead ≤ 0 → None ≡ first_hinted posted ahead
nothing_left posted [] none = refl
nothing_left posted (k ∷ ks) none = absurd (omega (arith, none))
