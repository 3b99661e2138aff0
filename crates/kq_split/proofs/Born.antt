-- The record of a birth is that of a new kqueue, with the birth's owner and number.
use Rattle.std.proofs.Common.{◌≡◌, ◌∙◌, ℕ, suc, zero, ◌+◌, List, [], ◌∷◌, ◌++◌, map, length, slice_get, Option, Some, None, refl, sym, ap, subst, arith}
use Rattle.std.proofs.lemmas.List.Elements.{All-nil, All-cons, All-append, All-weaker, All-contains}
use Rattle.std.specs.List.{All, Contains}
use Rattle.kq_model.specs.declared.event.Event.{Event}
use Rattle.kq_model.specs.declared.event.Event.TheVariants as event
use Rattle.kq_model.specs.Births.{Birth, birth_at, birth_by, births_from}
use Rattle.kq_model.specs.Clock.{Span}
use Rattle.kq_model.specs.Close.{Pair}
use Rattle.kq_model.specs.Moments.{plans_from, world_by}
use Rattle.kq_model.specs.Objects.{Keeping}
use Rattle.kq_model.specs.Objects as objects
use Rattle.kq_model.specs.Plans.{plan}
use Rattle.kq_model.specs.World.{Call, World, Planned, Impossible, Possible, empty_world, seen_world}
use Rattle.kq_projection.specs.declared.history.item.Item.{Item}
use Rattle.kq_projection.specs.Private.{IsPrivate}
use Rattle.kq_projection.specs.Sayings.{SaysBy, born_of, call_of, clock_of}
use Rattle.kq_projection.specs.Traced.{Traced, births_of, event_at, IsBorn}
use Rattle.kq_projection.proofs.PrivateOf.{owner-born}
use Rattle.kq_projection.proofs.Sayings.{says}

-- of the events from this place on: the record of the birth
pub record IsMade (place : ℕ) (es : List Event) (b : Birth) : Type 0 where
  pub before : ℕ
  pub at : b.place ≡ place + before
  pub there : slice_get es before ≡ Some (event.Kqueue b.owner b.number)

later : (place : ℕ) (e : Event) (es : List Event) (b : Birth) → IsMade (place + 1) es b → IsMade place (e ∷ es) b
later place e es b is = record { before = suc is.before; at = is.at ∙ omega arith; there = is.there }

made-here : (place : ℕ) (e : Event) (es : List Event) (born : Option Pair) → born ≡ born_of e → All (IsMade place (e ∷ es)) (birth_at place born)
unfolding born_of birth_at
made-here place (event.Kqueue pid fd) es born is =
    subst (λ b. All (IsMade place (event.Kqueue pid fd ∷ es)) (birth_at place b)) (sym is)
    (All-cons (IsMade place (event.Kqueue pid fd ∷ es)) _ [] (record { before = 0; at = omega arith; there = refl })
    (All-nil (IsMade place (event.Kqueue pid fd ∷ es))))
made-here place e es born is =
    subst (λ b. All (IsMade place (e ∷ es)) (birth_at place b)) (sym is) (All-nil (IsMade place (e ∷ es)))

first : (place : ℕ) (e : Event) (es : List Event) (call : Option Call) (clock : Option Span) (q : Planned) (rest : List Birth)
    → SaysBy (born_of e) call clock q → All (IsMade place (e ∷ es)) rest → All (IsMade place (e ∷ es)) (birth_by place q ++ rest)
unfolding birth_by
first place e es call clock (Impossible why) rest says_it all = all
first place e es call clock (Possible p) rest says_it all =
    All-append (IsMade place (e ∷ es)) (birth_at place p.born) rest (made-here place e es p.born says_it.born_is) all

module _ {A B C D : Type 0} {k : Keeping A B C D} where
  each-made : (place : ℕ) (w : World k) (es : List Event) → All (IsMade place es) (births_from place (plans_from place w es))
  unfolding births_from plans_from
  each-made place w [] = All-nil (IsMade place [])
  each-made place w (e ∷ es) =
      let q = plan place e (seen_world w) in
      let next = world_by place q w in
      let rest = births_from (place + 1) (plans_from (place + 1) next es) in
      first place e es (call_of e (seen_world w)) (clock_of e (seen_world w).now) q rest (says (seen_world w) place e)
      (All-weaker (IsMade (place + 1) es) (IsMade place (e ∷ es)) (later place e es) rest (each-made (place + 1) next es))

birth-record : (t : Traced) (b : Birth) → Contains (births_of t) b → event_at t b.place ≡ Some (event.Kqueue b.owner b.number)
unfolding event_at
birth-record t b there =
    let made = All-contains (IsMade 1 t.events) (births_of t) b (each-made 1 (empty_world objects.listed) t.events) there in
    let at : b.place ≡ suc made.before = omega (arith, made.at) in
    ap (event_at t) at ∙ made.there

birth-at : (bs : List Birth) (place : ℕ) → Contains (map (λ (b : Birth). b.place) bs) place
    → (b : Birth) × Contains bs b × (b.place ≡ place)
birth-at [] place (k, lt, is) = absurd (omega (arith, lt))
birth-at (b ∷ bs) place (zero, lt, is) = (b, (0, omega arith, refl), is)
birth-at (b ∷ bs) place (suc k, lt, is) =
    let found = birth-at bs place (k, omega (arith, lt), is) in
    (found.0, (suc found.1.0, omega (arith, found.1.1), found.1.2), found.2)

-- what the record at the place of a birth is
pub born-record : (t : Traced) (place : ℕ) → IsBorn place t → (owner : ℕ) × (number : ℕ) × (event_at t place ≡ Some (event.Kqueue owner number))
born-record t place born =
    let found = birth-at (births_of t) place born in
    (found.0.owner, found.0.number, ap (event_at t) (sym found.2) ∙ birth-record t found.0 found.1)

-- the birth at a place has the owner of the private list, and the number of the record there
pub is-birth : (t : Traced) (place owner number other : ℕ) (items : List Item) → IsPrivate t place owner items
    → event_at t place ≡ Some (event.Kqueue other number)
    → Contains (births_of t) (record { place = place; owner = owner; number = number })
is-birth t place owner number other items own is =
    let born = owner-born t place owner items own in
    let b = born.0 in
    let made : Some (event.Kqueue b.owner b.number) ≡ Some (event.Kqueue other number) =
    sym (birth-record t b born.1) ∙ ap (event_at t) born.2 ∙ is in
    let number_is : b.number ≡ number = cc in
    subst (λ (p : ℕ). Contains (births_of t) (record { place = p; owner = owner; number = number })) born.2
    (subst (λ (o : ℕ). Contains (births_of t) (record { place = b.place; owner = o; number = number })) born.3
    (subst (λ (n : ℕ). Contains (births_of t) (record { place = b.place; owner = b.owner; number = n })) number_is born.1))
