-- What stands under numbers: pairs of a number and a thing, in rising order of the numbers.
use Rattle.std.specs.Prelude.{◌≡◌, ℕ, ◌==◌, ◌<◌, ◌≤◌, not, List, [], ◌∷◌, length}
use Rattle.std.specs.Prelude.{filter, nat_lt, Option, Some, None}
use Rattle.std.specs.Prelude.{if◌then◌else◌, slice_index_or, slice_set}
use Rattle.std.specs.List.{AllByRecursion, insert, remove}

module _ {X : Type 0} where
  -- what stands under a number
  abbrev pub lookup : ℕ → List (ℕ × X) → Option X
  lookup number [] = None
  lookup number (e ∷ es) = if e.0 == number then Some e.1 else lookup number es

  -- the thing stands under the number, in place of what stood there
  abbrev pub put : ℕ → X → List (ℕ × X) → List (ℕ × X)
  put number x [] = (number, x) ∷ []
  put number x (e ∷ es) =
      if nat_lt number e.0 then (number, x) ∷ e ∷ es
      else if e.0 == number then (number, x) ∷ es
      else e ∷ put number x es

  -- nothing stands under the number
  abbrev pub without : ℕ → List (ℕ × X) → List (ℕ × X)
  without number es = filter (λ e. not (e.0 == number)) es

  -- each number is below all later ones
  abbrev pub AreRising : List (ℕ × X) → Type 0
  AreRising [] = Unit {0}
  AreRising (e ∷ es) = AllByRecursion (λ f. e.0 < f.0) es × AreRising es

  -- the number's pair stands at this index
  pub record IsPlace (number : ℕ) (es : List (ℕ × X)) (index : ℕ) : Type 0 where
    pub within : index < length es
    pub number_there : (d : ℕ × X) → (slice_index_or es index d).0 ≡ number
    pub found : (d : ℕ × X) → lookup number es ≡ Some (slice_index_or es index d).1
    pub sets : (x : X) → slice_set es index (number, x) ≡ put number x es
    pub removes : remove es index ≡ without number es
    pub put_rises : (x : X) → AreRising (put number x es)
    pub without_rises : AreRising (without number es)

  -- there is no pair of the number, and this is where it would stand
  pub record IsGap (number : ℕ) (es : List (ℕ × X)) (index : ℕ) : Type 0 where
    pub within : index ≤ length es
    pub absent : lookup number es ≡ None
    pub inserts : (x : X) → insert es index (number, x) ≡ put number x es
    pub put_rises : (x : X) → AreRising (put number x es)
    pub without_is : without number es ≡ es
