-- What a seat's numbers say of what it has seen.
use Rattle.std.proofs.Common.{◌≡◌, ◌≢◌, ℕ, ◌+◌, ◌%◌, ◌<◌, List, [], ◌∙◌, arith}
use Rattle.std.proofs.Math.Nat.{add-mod_right, mod-eq_of_lt}
use Rattle.kq_lock.specs.declared.view.Call.{Call}
use Rattle.kq_lock.specs.Calls.{calls_by, IsNumbered}
use Rattle.kq_lock.proofs.Numbers.{first_owns, second_owns}

module _ {S A : Type 0} where
  pub numbered_first : (a s : ℕ) (l : List (Call S A)) → IsNumbered a s l → IsNumbered a (s + s) l
  numbered_first a s l h = let small = h.small in
      record { small = omega arith; others = λ n o ne. h.others n (first_owns n s a h.small o) ne }

  pub numbered_second : (a s : ℕ) (l : List (Call S A)) → IsNumbered a s l
      → IsNumbered (a + s) (s + s) l
  numbered_second a s l h = let small = h.small in record {
    small = omega arith;
    others = λ n o ne. h.others n (second_owns n s a h.small o) (λ e. let lt : n < s + s =
        omega arith in let same = mod-eq_of_lt lt in omega arith);
  }

  -- a seat that is split off has made no call
  pub numbered_none : (a s : ℕ) (l : List (Call S A)) → IsNumbered a s l → calls_by (a + s) l ≡ []
  numbered_none a s l h = let small = h.small in
      h.others (a + s) (add-mod_right a s ∙ mod-eq_of_lt small) (λ e. omega arith)

  pub numbered_on : (a s : ℕ) (l m : List (Call S A)) → IsNumbered a s l
      → ((n : ℕ) → n % s ≡ a → n ≢ a → calls_by n m ≡ calls_by n l) → IsNumbered a s m
  numbered_on a s l m h same = record {
    small = h.small;
    others = λ n o ne. same n o ne
        ∙ h.others n o ne;
  }
