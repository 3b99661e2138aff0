-- What a seat claimed, of what it drew.
use Rattle.std.proofs.Common.{◌≡◌, ℕ, ◌<◌, ◌≤◌, Bool, true, false, ltb, arith}
use Rattle.std.specs.List.{All}
use Rattle.std.proofs.lemmas.Bool.Decides.{nat_tests}
use mathlib.Core.Logic.{dite}
use native.Mathlib.Decide.{dec_lt}
use Rattle.kq_jobs.specs.declared.view.View.{View}
use Rattle.kq_jobs.specs.Claims.{times, once_below, IsAtMostOnce, HasAll}
use Rattle.kq_jobs.specs.Handing.{claimed, DrewAll}
use Rattle.kq_jobs.proofs.Counting.{all_below, times_kept, times_dropped, times_fewer}
use Rattle.kq_jobs.proofs.Counting.{once_inside, once_outside}

is_below : (x n : ℕ) → x < n → ltb x n ≡ true
is_below x n lt = grind (arith, nat_tests)

is_past : (x n : ℕ) → n ≤ x → ltb x n ≡ false
is_past x n le = grind (arith, nat_tests)

fewer : (v : View) (x : ℕ) → times x (claimed v) ≤ times x v.drawn
fewer v x = times_fewer (λ (n : ℕ). ltb n v.count) x v.drawn

-- a number that is drawn is above all that the seat has claimed
pub claimed_below : (v : View) (n : ℕ) → ((x : ℕ) → times x v.drawn ≤ once_below x n)
    → All (λ (m : ℕ). m < n) (claimed v)
claimed_below v n h = all_below (claimed v) n (λ x.
    let a = fewer v x in let b = h x in omega arith)

pub claimed_once : (v : View) → IsAtMostOnce v.drawn → IsAtMostOnce (claimed v)
claimed_once v h x = let a = fewer v x in let b = h x in omega arith

pub claims_all : (v : View) (count : ℕ) → v.count ≡ count → DrewAll v → v.parts ≡ 256
    → 0 < v.past → HasAll count (claimed v)
claims_all v count is drew all past x =
    let p : ℕ → Bool = λ n. ltb n v.count in dite (dec_lt x count)
    (λ lt.
    let kept = times_kept p x v.drawn (is_below x v.count (omega arith)) in
    let one = drew all past x (omega arith) in let once = once_inside x count lt in omega arith)
    (λ not_lt.
    let gone = times_dropped p x v.drawn (is_past x v.count (omega arith)) in
    let none = once_outside x count (omega arith) in omega arith)
