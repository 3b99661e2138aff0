-- The items of a private list are those of all items that concern the kqueue, in their order.
use Rattle.std.proofs.Common.{◌≡◌, ℕ, Bool, false, cond, eqb, List, [], ◌∷◌, ◌++◌, map, filter, Option, Some, None, refl, ap, ap₂, ◌∙◌}
use Rattle.std.proofs.lemmas.List.Elements.{filter-append}
use Rattle.std.specs.List.{flat_map}
use Rattle.kq_model.specs.Clock.{Span}
use Rattle.kq_model.specs.Close.{Pair}
use Rattle.kq_model.specs.Hearing.{listed}
use Rattle.kq_model.specs.Items.{What, Closed, Told, Clocked, Called, Item, clock_whats, call_whats, whats, items_at, items_in, all_items, items_of, is_own}
use Rattle.kq_model.specs.Moment.{Moment}
use Rattle.kq_model.specs.PrivateList.{Concern, own_call, own_closed, own_hints, own_clock, concern_of, concerns, private_by}
use Rattle.kq_model.specs.References.{Names}
use Rattle.kq_model.specs.Targets.{Posted}
use Rattle.kq_model.specs.World.{Call}
use Rattle.kq_model.proofs.KnoteLaws.{by_test}
use Rattle.kq_model.proofs.PrivateStep.{no_items}

filter-map : {A B : Type 0} (p : B → Bool) (f : A → B) (xs : List A) → filter p (map f xs) ≡ map f (filter (λ x. p (f x)) xs)
filter-map p f [] = refl
filter-map p f (x ∷ xs) =
    by_test (λ b. cond b (f x ∷ filter p (map f xs)) (filter p (map f xs)) ≡ map f (cond b (x ∷ filter (λ y. p (f y)) xs) (filter (λ y. p (f y)) xs))) (p (f x))
    (λ _. ap (λ rest. f x ∷ rest) (filter-map p f xs)) (λ _. filter-map p f xs)

module _ (kqueue owner : ℕ) (ns : Names) where
  abbrev own : What → Bool
  own w = is_own kqueue owner ns w

  own-clock : (span : Option Span) → filter own (clock_whats span) ≡ clock_whats (own_clock ns span)
  unfolding clock_whats is_own
  own-clock None = by_test (λ b. [] ≡ clock_whats (cond b None None)) ns.timer (λ _. refl) (λ _. refl)
  own-clock (Some span) =
      by_test (λ b. cond b (Clocked span ∷ []) [] ≡ clock_whats (cond b (Some span) None)) ns.timer (λ _. refl) (λ _. refl)

  own-called : (c : Option Call) → filter own (call_whats c) ≡ call_whats (own_call kqueue c)
  unfolding call_whats own_call is_own
  own-called None = refl
  own-called (Some c) =
      by_test (λ b. cond b (Called c ∷ []) [] ≡ call_whats (cond b (Some c) None)) (eqb c.kqueue kqueue) (λ _. refl) (λ _. refl)

  own-whats : (closed : List Pair) (hints : List Posted) (clock : Option Span) (call : Option Call)
      → filter own (whats closed hints clock call) ≡ whats (own_closed owner ns closed) (own_hints ns hints) (own_clock ns clock) (own_call kqueue call)
  unfolding is_own
  own-whats closed hints clock call =
      filter-append own (map Closed closed) _
      ∙ ap₂ (λ xs ys. xs ++ ys) (filter-map own Closed closed)
      (filter-append own (map Told hints) _
      ∙ ap₂ (λ xs ys. xs ++ ys) (filter-map own Told hints)
      (filter-append own (clock_whats clock) (call_whats call) ∙ ap₂ (λ xs ys. xs ++ ys) (own-clock clock) (own-called call)))

  own-items : (m : Moment) → filter (λ (i : Item). own i.what) (items_in m) ≡ items_of (concern_of kqueue owner ns m)
  own-items m =
      filter-map (λ (i : Item). own i.what) (λ (w : What). record { place = m.place; what = w }) (whats m.closed m.hints m.clock m.call)
      ∙ ap (items_at m.place) (own-whats m.closed m.hints m.clock m.call)

  no-items : (c : Concern) → concerns c ≡ false → items_of c ≡ []
  unfolding clock_whats call_whats
  no-items c quiet =
      let none = no_items listed c.closed c.hints c.clock c.call quiet in
      ap (λ x. items_at c.place (whats x c.hints c.clock c.call)) none.0
      ∙ ap (λ x. items_at c.place (whats [] x c.clock c.call)) none.1
      ∙ ap (λ x. items_at c.place (whats [] [] x c.call)) none.2
      ∙ ap (λ x. items_at c.place (whats [] [] None x)) none.3

  pub private-items : (ms : List Moment) → filter (λ (i : Item). own i.what) (all_items ms) ≡ flat_map items_of (private_by kqueue owner ns ms)
  private-items [] = refl
  private-items (m ∷ ms) =
      let c = concern_of kqueue owner ns m in
      let rest = private_by kqueue owner ns ms in
      filter-append (λ (i : Item). own i.what) (items_in m) (all_items ms)
      ∙ ap₂ (λ xs ys. xs ++ ys) (own-items m) (private-items ms)
      ∙ by_test (λ b. concerns c ≡ b → items_of c ++ flat_map items_of rest ≡ flat_map items_of (cond b (c ∷ rest) rest)) (concerns c)
      (λ _ _. refl) (λ _ quiet. ap (λ xs. xs ++ flat_map items_of rest) (no-items c quiet)) refl
