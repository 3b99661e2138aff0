-- Keys of kq_model that are equal are one.
use Rattle.std.specs.Prelude.{◌≡◌, Bool, true}
use Rattle.std.proofs.Common.{sym, ◌∙◌}
use Rattle.kq_model.specs.declared.key.Key.{Key}
use Rattle.kq_model.specs.Knote.{key_eq}
use Rattle.kq_model.proofs.KeyLaws.{same_key}

pub one_key_by : (same : Key → Key → Bool) → ((a b : Key) → same a b ≡ key_eq a b)
    → (a b : Key) → same a b ≡ true → a ≡ b
one_key_by same same_is a b is = same_key a b (sym (same_is a b) ∙ is)
