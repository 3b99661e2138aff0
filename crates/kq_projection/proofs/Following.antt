-- What the marks of a key give with those of one record more.
use Rattle.std.proofs.Common.{◌≡◌, ◌≤◌, ◌&&◌, ◌||◌, ℕ, Bool, true, false, not, cond, leb, ltb, List, [], ◌∷◌, ◌++◌, refl, sym, ap, subst, ◌∙◌, arith}
use Rattle.std.proofs.lemmas.Bool.{lt-leb, le-leb, leb-true, ltb-true, ltb-false}
use Rattle.std.proofs.lemmas.List.{append-nil}
use Rattle.std.proofs.lemmas.List.Elements.{All-weaker, All-nil, All-cons, All-head, All-tail, All-append}
use Rattle.kq_model.specs.declared.object.Target.{Target}
use Rattle.kq_model.specs.Ticks.{last_moment}
use Rattle.kq_model.specs.Views.{Views}
use Rattle.kq_model.proofs.KnoteLaws.{by_test}
use Rattle.kq_projection.specs.declared.history.timeline.Mark.{Mark}
use Rattle.kq_projection.specs.Noted.{IsNextWorld}
use Rattle.kq_projection.specs.Seen.{Shows}
use Rattle.kq_projection.specs.Timeline.{last_value, marked, value_at, IsUpTo}
use Rattle.kq_projection.specs.Touched.{has_number, has_target}

module _ {V : Type 0} where
  value_at-push : (at : ℕ) (before : V) (ms : List (Mark V)) (m : Mark V)
      → value_at at before (ms ++ m ∷ []) ≡ cond (leb m.place at) m.value (value_at at before ms)
  value_at-push at before [] m = refl
  value_at-push at before (x ∷ ms) m = value_at-push at (cond (leb x.place at) x.value before) ms m

  pub value_at-marked : (touched : Bool) (place at : ℕ) (before value : V) (ms : List (Mark V))
      → value_at at before (ms ++ marked touched place value) ≡ cond (touched && leb place at) value (value_at at before ms)
  value_at-marked false place at before value ms = ap (value_at at before) (append-nil ms)
  value_at-marked true place at before value ms = value_at-push at before ms (record { place = place; value = value })

-- one key more in a list of those that are marked with what `read` gives for the key
pub marked-more : {V : Type 0} (is any up : Bool) (here read before : V) → (is ≡ true → here ≡ read)
    → cond (is && up) here (cond (any && up) read before) ≡ cond ((any || is) && up) read before
marked-more true true true here read before same = same refl
marked-more true false true here read before same = same refl
marked-more true true false here read before same = refl
marked-more true false false here read before same = refl
marked-more false true true here read before same = refl
marked-more false true false here read before same = refl
marked-more false false up here read before same = refl

-- ---- the next world

not_before : (place at : ℕ) → leb place at ≡ not (ltb at place)
not_before place at =
    by_test (λ b. leb place at ≡ not b) (ltb at place)
    (λ is. lt-leb place at (ltb-true at place is)) (λ isnt. le-leb place at (ltb-false at place isnt))

joined : {V : Type 0} (has before : Bool) (after old : V) → (before ≡ false → has ≡ false → after ≡ old)
    → cond (has && not before) after old ≡ cond before old after
joined true true after old same = refl
joined true false after old same = refl
joined false true after old same = refl
joined false false after old same = sym (same refl refl)

read-cond : {V : Type 0} (read : Views → V) (b : Bool) (v w : Views) → cond b (read v) (read w) ≡ read (cond b v w)
read-cond read true v w = refl
read-cond read false v w = refl

-- what was seen is what the worlds show with the next one among them, where all that it changes was noted
pub shows-next : (place : ℕ) (before after : Views) (touched : List (ℕ × ℕ)) (targets : List Target) (worlds next old new : ℕ → Views)
    → IsNextWorld place before after touched targets worlds next → after.now ≤ last_moment → Shows worlds old
    → ((pid number at : ℕ) → (new at).descriptor pid number
    ≡ cond (has_number pid number touched && leb place at) (after.descriptor pid number) ((old at).descriptor pid number))
    → ((t : Target) (at : ℕ) → (new at).view t ≡ cond (has_target t targets && leb place at) (after.view t) ((old at).view t))
    → ((at : ℕ) → (new at).now ≡ cond (leb place at) after.now (old at).now) → Shows next new
shows-next place before after touched targets worlds next old new is ranged shows numbers views clock = record {
  view = λ at t.
      let has = has_target t targets in
      views t at ∙ ap (λ v. cond (has && leb place at) (after.view t) v) (shows.view at t)
      ∙ ap (λ b. cond (has && b) (after.view t) ((worlds at).view t)) (not_before place at)
      ∙ joined has (ltb at place) (after.view t) ((worlds at).view t)
      (λ later untouched. is.same_views t untouched ∙ ap (λ (w : Views). w.view t) (sym (is.stood at later)))
      ∙ read-cond (λ (w : Views). w.view t) (ltb at place) (worlds at) after ∙ ap (λ (w : Views). w.view t) (sym (is.earlier at));
  descriptor = λ at pid number.
      let has = has_number pid number touched in
      numbers pid number at ∙ ap (λ v. cond (has && leb place at) (after.descriptor pid number) v) (shows.descriptor at pid number)
      ∙ ap (λ b. cond (has && b) (after.descriptor pid number) ((worlds at).descriptor pid number)) (not_before place at)
      ∙ joined has (ltb at place) (after.descriptor pid number) ((worlds at).descriptor pid number)
      (λ later untouched. is.same_numbers pid number untouched ∙ ap (λ (w : Views). w.descriptor pid number) (sym (is.stood at later)))
      ∙ read-cond (λ (w : Views). w.descriptor pid number) (ltb at place) (worlds at) after
      ∙ ap (λ (w : Views). w.descriptor pid number) (sym (is.earlier at));
  now = λ at.
      clock at ∙ ap (λ v. cond (leb place at) after.now v) (shows.now at)
      ∙ ap (λ b. cond b after.now (worlds at).now) (not_before place at)
      ∙ turned (ltb at place) after.now (worlds at).now
      ∙ read-cond (λ (w : Views). w.now) (ltb at place) (worlds at) after ∙ ap (λ (w : Views). w.now) (sym (is.earlier at));
  within = λ at.
      subst (λ (w : Views). w.now ≤ last_moment) (sym (is.earlier at))
      (by_test (λ b. (cond b (worlds at) after).now ≤ last_moment) (ltb at place) (λ _. shows.within at) (λ _. ranged));
}
  where
    turned : (b : Bool) (x y : ℕ) → cond (not b) x y ≡ cond b y x
    turned true x y = refl
    turned false x y = refl

-- behind its last mark a timeline stays as it is
pub settled : {V : Type 0} (place at : ℕ) (before : V) (ms : List (Mark V)) → IsUpTo place ms → place ≤ at
    → value_at at before ms ≡ last_value before ms
settled place at before [] up later = refl
settled place at before (m ∷ ms) up later =
    let here = All-head (λ (x : Mark _). x.place ≤ place) m ms up in
    let begun : leb m.place at ≡ true = le-leb m.place at (omega (arith, here, later)) in
    ap (λ b. value_at at (cond b m.value before) ms) begun
    ∙ settled place at m.value ms (All-tail (λ (x : Mark _). x.place ≤ place) m ms up) later

-- what has the value already needs no mark
pub value-noted : {V : Type 0} (is had : Bool) (place at : ℕ) (start here : V) (ms : List (Mark V)) → IsUpTo place ms
    → (is ≡ true → had ≡ true → last_value start ms ≡ here)
    → value_at at start (ms ++ marked (is && not had) place here) ≡ cond (is && leb place at) here (value_at at start ms)
value-noted false had place at start here ms up same = value_at-marked false place at start here ms
value-noted true false place at start here ms up same = value_at-marked true place at start here ms
value-noted true true place at start here ms up same =
    value_at-marked false place at start here ms
    ∙ by_test (λ b. value_at at start ms ≡ cond b here (value_at at start ms)) (leb place at)
    (λ later. settled place at start ms up (leb-true place at later) ∙ same refl refl) (λ _. refl)

-- a key's marks with one more record's, of keys that were gone through one after the other
pub noted-more : {V : Type 0} (is had any : Bool) (place at : ℕ) (here read start before : V) (cur new : List (Mark V)) → IsUpTo place cur
    → new ≡ cur ++ marked (is && not had) place here → (is ≡ true → had ≡ true → last_value start cur ≡ here)
    → value_at at start cur ≡ cond (any && leb place at) read before → (is ≡ true → here ≡ read)
    → value_at at start new ≡ cond ((any || is) && leb place at) read before
noted-more is had any place at here read start before cur new up pushed kept noted same =
    ap (value_at at start) pushed ∙ value-noted is had place at start here cur up kept
    ∙ ap (λ v. cond (is && leb place at) here v) noted ∙ marked-more is any (leb place at) here read before same

-- one more mark is no later one
pub up_to-marked : {V : Type 0} (is : Bool) (place : ℕ) (value : V) (ms : List (Mark V)) → IsUpTo place ms → IsUpTo place (ms ++ marked is place value)
up_to-marked false place value ms all = subst (IsUpTo place) (sym (append-nil ms)) all
up_to-marked true place value ms all =
    All-append (λ (m : Mark _). m.place ≤ place) ms (record { place = place; value = value } ∷ []) all
    (All-cons (λ (m : Mark _). m.place ≤ place) (record { place = place; value = value }) [] (omega arith) (All-nil (λ (m : Mark _). m.place ≤ place)))

-- no mark that was not later than one place is later than a later one
pub marks-later : {V : Type 0} (n m : ℕ) → n ≤ m → (ms : List (Mark V)) → IsUpTo n ms → IsUpTo m ms
marks-later n m later ms up = All-weaker (λ (x : Mark _). x.place ≤ n) (λ (x : Mark _). x.place ≤ m) (λ x below. omega (arith, below, later)) ms up
