-- The index and the threads by target, when a slot is entered and when it is withdrawn.
use Rattle.std.proofs.Common.{◌≡◌, ℕ, Bool, true, false, cond, not, eqb, List, [], ◌∷◌, ◌++◌, Option, Some, None, inl, inr, append-nil, refl, sym, ap, ◌∙◌, subst}
use Rattle.std.proofs.lemmas.Bool.{false≢true, eqb-true, or_cases, false_from_ne_true}
use Rattle.std.proofs.lemmas.Option.{none-some, same_Some}
use Rattle.std.specs.Cmp.{IsEquivalence}
use Rattle.std.specs.HashMap.{HashMap, get as found}
use Rattle.std.specs.Option.{option_map}
use Rattle.kq_table.specs.declared.node.Ends.{Ends}
use Rattle.kq_table.specs.declared.node.Links.{Links}
use Rattle.kq_table.specs.Links.{is_target}
use Rattle.kq_table.specs.Threads.{is_in, without_slot, IsThread, put_last, ends_with, passed_over, ends_past}
use Rattle.kq_table.specs.Kept.{ends_of, watches, watching, AreWatched, IsEntered}
use Rattle.kq_table.proofs.RowLaws.{by_test}
use Rattle.kq_table.proofs.FoundLaws.{filter-swap}
use Rattle.kq_table.proofs.ThreadLaws.{is_in-append, apart-in, IsThread-same, IsThread-push, put_last-away}
use Rattle.kq_table.proofs.WithoutLaws.{in_filter, in_filter-from, out_of-filter, filter-same, filter-append, without-absent, IsThread-without, passed_over-others}

abbrev kept : {X : Type 0} → X → List X → Bool → List X
kept x rest b = cond b (x ∷ rest) rest

-- a thread that has a slot has ends
entry : (links : ℕ → Option Links) (o : Option Ends) (l : List ℕ) (s : ℕ) → IsThread links (ends_of o) l → is_in s l ≡ true → (e : Ends) × (o ≡ Some e)
entry links (Some e) l s is there = (e, refl)
entry links None [] s is there = absurd (false≢true there)
entry links None (x ∷ l) s is there = absurd (none-some x is.first)

module _ {T G : Type 0} (alike : G → G → Bool) (target_of : T → Option G) (matches : IsEquivalence alike) where
  -- a row that watches one target watches one that is alike
  watches-alike : (g t : G) → alike t g ≡ true → (o : Option T) → watches alike target_of t o ≡ watches alike target_of g o
  watches-alike g t is None = refl
  watches-alike g t is (Some row) = at (target_of row)
    where
      at : (o : Option G) → is_target alike t o ≡ is_target alike g o
      at None = refl
      at (Some x) = matches.congr t g x is

  -- and no other one
  watches-other : (g t : G) → alike t g ≡ false → (o : Option T) → watches alike target_of g o ≡ true → watches alike target_of t o ≡ false
  watches-other g t other None is = absurd (false≢true is)
  watches-other g t other (Some row) is = at (target_of row) is
    where
      at : (o : Option G) → is_target alike g o ≡ true → is_target alike t o ≡ false
      at None here = absurd (false≢true here)
      at (Some x) here =
          false_from_ne_true (alike t x) (λ both. false≢true (sym other ∙ matches.symm t g ∙ matches.congr g x t here ∙ matches.symm x t ∙ both))

  pub watching-same : (target : G) (f g : ℕ → Option T) (slots : List ℕ) → ((t : ℕ) → is_in t slots ≡ true → g t ≡ f t) → watching alike target_of target g slots ≡ watching alike target_of target f slots
  watching-same target f g slots agree =
      filter-same (λ s. watches alike target_of target (g s)) (λ s. watches alike target_of target (f s)) slots (λ t there. ap (watches alike target_of target) (agree t there))

  pub in_watching : (target : G) (rows : ℕ → Option T) (slots : List ℕ) (t : ℕ) → is_in t (watching alike target_of target rows slots) ≡ true → (is_in t slots ≡ true) × (watches alike target_of target (rows t) ≡ true)
  in_watching target rows slots t there = in_filter (λ s. watches alike target_of target (rows s)) slots t there

  out_of-watching : (target : G) (rows : ℕ → Option T) (slots : List ℕ) (t : ℕ) → is_in t slots ≡ false → is_in t (watching alike target_of target rows slots) ≡ false
  out_of-watching target rows slots t out =
      false_from_ne_true (is_in t (watching alike target_of target rows slots)) (λ there. false≢true (sym out ∙ (in_watching target rows slots t there).0))

  not-watching : (target : G) (rows : ℕ → Option T) (slots : List ℕ) (t : ℕ) → watches alike target_of target (rows t) ≡ false → is_in t (watching alike target_of target rows slots) ≡ false
  not-watching target rows slots t fails = out_of-filter (λ s. watches alike target_of target (rows s)) slots t fails

  pub watching-push : (target : G) (rows : ℕ → Option T) (slots : List ℕ) (slot : ℕ) → watching alike target_of target rows (slots ++ slot ∷ []) ≡ watching alike target_of target rows slots ++ kept slot [] (watches alike target_of target (rows slot))
  watching-push target rows slots slot = filter-append (λ s. watches alike target_of target (rows s)) slots (slot ∷ [])

  pub watching-without : (target : G) (rows : ℕ → Option T) (slots : List ℕ) (slot : ℕ) → watching alike target_of target rows (without_slot slot slots) ≡ without_slot slot (watching alike target_of target rows slots)
  watching-without target rows slots slot = filter-swap (λ s. watches alike target_of target (rows s)) (λ s. not (eqb s slot)) slots

  module _ {R : Type 0} (rows : ℕ → Option T) (links : ℕ → Option Links) (targets : HashMap G Ends R) (slots : List ℕ) where
    pub AreWatched-same : (others : ℕ → Option T) (more : ℕ → Option Links) → ((t : ℕ) → is_in t slots ≡ true → others t ≡ rows t) → ((t : ℕ) → is_in t slots ≡ true → more t ≡ links t)
        → AreWatched alike target_of rows links targets slots → AreWatched alike target_of others more targets slots
    AreWatched-same others more same_rows same_links are target =
        subst (λ l. IsThread more (ends_of (found alike targets target)) l) (sym (watching-same target rows others slots same_rows))
        (IsThread-same links more (ends_of (found alike targets target)) (watching alike target_of target rows slots)
        (λ t there. same_links t (in_watching target rows slots t there).0) (are target))

    module _ (slot : ℕ) (row : T) (here : rows slot ≡ Some row) (are : AreWatched alike target_of rows links targets slots) where
      pub watch-nothing : target_of row ≡ None → AreWatched alike target_of rows links targets (slots ++ slot ∷ [])
      watch-nothing none target =
          subst (λ l. IsThread links (ends_of (found alike targets target)) l)
          (sym (watching-push target rows slots slot
          ∙ ap (λ o. watching alike target_of target rows slots ++ kept slot [] (watches alike target_of target o)) here
          ∙ ap (λ o. watching alike target_of target rows slots ++ kept slot [] (is_target alike target o)) none
          ∙ append-nil (watching alike target_of target rows slots))) (are target)

      pub withdraw-nothing : target_of row ≡ None → AreWatched alike target_of rows links targets (without_slot slot slots)
      withdraw-nothing none target =
          subst (λ l. IsThread links (ends_of (found alike targets target)) l)
          (sym (watching-without target rows slots slot
          ∙ without-absent slot (watching alike target_of target rows slots)
          (not-watching target rows slots slot (ap (watches alike target_of target) here ∙ ap (is_target alike target) none)))) (are target)

      module _ (t : G) (is : target_of row ≡ Some t) (e : Ends) (e_is : e ≡ ends_of (found alike targets t)) where
        -- the row there watches what is alike
        at-slot : (target : G) → watches alike target_of target (rows slot) ≡ alike target t
        at-slot target = ap (watches alike target_of target) here ∙ ap (is_target alike target) is

        thread : IsThread links e (watching alike target_of t rows slots)
        thread = subst (λ ends. IsThread links ends (watching alike target_of t rows slots)) (sym e_is) (are t)

        thread-alike : (target : G) → alike t target ≡ true → IsThread links e (watching alike target_of target rows slots)
        thread-alike target alike_t =
            subst (λ l. IsThread links e l) (filter-same (λ s. watches alike target_of t (rows s)) (λ s. watches alike target_of target (rows s)) slots (λ s _. watches-alike target t alike_t (rows s))) thread

        -- the slots of another target are none of this one
        elsewhere : (target : G) → alike t target ≡ false → (s : ℕ) → is_in s (watching alike target_of target rows slots) ≡ true → is_in s (watching alike target_of t rows slots) ≡ false
        elsewhere target other s there =
            not-watching t rows slots s (watches-other target t other (rows s) (in_watching target rows slots s there).1)

        module _ {S : Type 0} (noted : HashMap G Ends S) where
          pub watch-linked : is_in slot slots ≡ false → ((g : G) → found alike noted g ≡ cond (alike t g) (Some (ends_with slot e)) (found alike targets g))
              → AreWatched alike target_of rows (put_last e.last slot links) noted (slots ++ slot ∷ [])
          watch-linked out noted_is target =
              by_test (λ b. alike t target ≡ b → IsThread (put_last e.last slot links) (ends_of (found alike noted target)) (watching alike target_of target rows (slots ++ slot ∷ []))) (alike t target)
              (λ _ alike_t.
              subst (λ l. IsThread (put_last e.last slot links) (ends_of (found alike noted target)) l)
              (sym (watching-push target rows slots slot ∙ ap (λ b. watching alike target_of target rows slots ++ kept slot [] b) (at-slot target ∙ matches.symm target t ∙ alike_t)))
              (subst (λ o. IsThread (put_last e.last slot links) (ends_of o) (watching alike target_of target rows slots ++ slot ∷ []))
              (sym (noted_is target ∙ ap (λ b. cond b (Some (ends_with slot e)) (found alike targets target)) alike_t))
              (IsThread-push links e (watching alike target_of target rows slots) slot (thread-alike target alike_t) (out_of-watching target rows slots slot out))))
              (λ _ other.
              subst (λ l. IsThread (put_last e.last slot links) (ends_of (found alike noted target)) l)
              (sym (watching-push target rows slots slot ∙ ap (λ b. watching alike target_of target rows slots ++ kept slot [] b) (at-slot target ∙ matches.symm target t ∙ other)
              ∙ append-nil (watching alike target_of target rows slots)))
              (subst (λ o. IsThread (put_last e.last slot links) (ends_of o) (watching alike target_of target rows slots))
              (sym (noted_is target ∙ ap (λ b. cond b (Some (ends_with slot e)) (found alike targets target)) other))
              (IsThread-same links (put_last e.last slot links) (ends_of (found alike targets target)) (watching alike target_of target rows slots)
              (λ s there. put_last-away links e (watching alike target_of t rows slots) slot thread s (elsewhere target other s there)
              (apart-in slot s slots out (in_watching target rows slots s there).0)) (are target)))) refl

          pub withdraw-linked : is_in slot slots ≡ true → ((g : G) → found alike noted g ≡ cond (alike t g) (option_map (ends_past (links slot)) (found alike targets g)) (found alike targets g))
              → AreWatched alike target_of rows (passed_over (links slot) links) noted (without_slot slot slots)
          withdraw-linked there noted_is target =
              by_test (λ b. alike t target ≡ b → IsThread (passed_over (links slot) links) (ends_of (found alike noted target)) (watching alike target_of target rows (without_slot slot slots))) (alike t target)
              (λ _ alike_t.
              let in_list : is_in slot (watching alike target_of target rows slots) ≡ true = in_filter-from (λ s. watches alike target_of target (rows s)) slots slot there (at-slot target ∙ matches.symm target t ∙ alike_t) in
              let had = entry links (found alike targets target) (watching alike target_of target rows slots) slot (are target) in_list in
              subst (λ l. IsThread (passed_over (links slot) links) (ends_of (found alike noted target)) l) (sym (watching-without target rows slots slot))
              (subst (λ o. IsThread (passed_over (links slot) links) (ends_of o) (without_slot slot (watching alike target_of target rows slots)))
              (sym (noted_is target ∙ ap (λ b. cond b (option_map (ends_past (links slot)) (found alike targets target)) (found alike targets target)) alike_t
              ∙ ap (option_map (ends_past (links slot))) had.1))
              (IsThread-without links had.0 (watching alike target_of target rows slots) slot
              (subst (λ o. IsThread links (ends_of o) (watching alike target_of target rows slots)) had.1 (are target)) in_list)))
              (λ _ other.
              let mine : is_in slot (watching alike target_of t rows slots) ≡ true = in_filter-from (λ s. watches alike target_of t (rows s)) slots slot there (at-slot t ∙ matches.refl t) in
              subst (λ l. IsThread (passed_over (links slot) links) (ends_of (found alike noted target)) l)
              (sym (watching-without target rows slots slot
              ∙ without-absent slot (watching alike target_of target rows slots) (not-watching target rows slots slot (at-slot target ∙ matches.symm target t ∙ other))))
              (subst (λ o. IsThread (passed_over (links slot) links) (ends_of o) (watching alike target_of target rows slots))
              (sym (noted_is target ∙ ap (λ b. cond b (option_map (ends_past (links slot)) (found alike targets target)) (found alike targets target)) other))
              (IsThread-same links (passed_over (links slot) links) (ends_of (found alike targets target)) (watching alike target_of target rows slots)
              (λ s in_list. passed_over-others links e (watching alike target_of t rows slots) slot s thread mine (elsewhere target other s in_list)) (are target)))) refl

module _ {K T G : Type 0} (same : K → K → Bool) (alike : G → G → Bool) (key_of : T → K) (target_of : T → Option G) (laws : IsEquivalence same) (matches : IsEquivalence alike) where
  pub IsEntered-none : {S R : Type 0} (rows : ℕ → Option T) (links : ℕ → Option Links) (index : HashMap K ℕ S) (targets : HashMap G Ends R) → ((g : G) → found alike targets g ≡ None) → IsEntered same alike key_of target_of rows links index targets []
  IsEntered-none rows links index targets none = record {
    indexed = λ slot row there here. absurd (false≢true there);
    watched = λ g. subst (λ o. IsThread links (ends_of o) []) (sym (none g)) (record { linked = tt; distinct = tt; first = refl; last = refl });
  }

  pub IsEntered-same : {S R : Type 0} (rows others : ℕ → Option T) (links more : ℕ → Option Links) (index : HashMap K ℕ S) (targets : HashMap G Ends R) (slots : List ℕ) → ((t : ℕ) → is_in t slots ≡ true → others t ≡ rows t) → ((t : ℕ) → is_in t slots ≡ true → more t ≡ links t)
      → IsEntered same alike key_of target_of rows links index targets slots → IsEntered same alike key_of target_of others more index targets slots
  IsEntered-same rows others links more index targets slots same_rows same_links is = record {
    indexed = λ slot row there here. is.indexed slot row there (sym (same_rows slot there) ∙ here);
    watched = AreWatched-same alike target_of matches rows links targets slots others more same_rows same_links is.watched;
  }

  -- a slot is noted in the index behind others
  pub indexed-push : {S N : Type 0} (rows : ℕ → Option T) (index : HashMap K ℕ S) (noted : HashMap K ℕ N) (slots : List ℕ) (slot : ℕ) (row : T) (key : K) → key ≡ key_of row → rows slot ≡ Some row
      → ((t : ℕ) (r : T) → is_in t slots ≡ true → rows t ≡ Some r → same (key_of row) (key_of r) ≡ false)
      → ((k : K) → found same noted k ≡ cond (same key k) (Some slot) (found same index k))
      → ((t : ℕ) (r : T) → is_in t slots ≡ true → rows t ≡ Some r → found same index (key_of r) ≡ Some t)
      → (t : ℕ) (r : T) → is_in t (slots ++ slot ∷ []) ≡ true → rows t ≡ Some r → found same noted (key_of r) ≡ Some t
  indexed-push rows index noted slots slot row key key_is here apart noted_is indexed t r there at =
      elim (or_cases (is_in t slots) (is_in t (slot ∷ [])) (sym (is_in-append t slots (slot ∷ [])) ∙ there)) [
        | inl before ↦
            noted_is (key_of r)
            ∙ ap (λ b. cond b (Some slot) (found same index (key_of r))) (ap (λ k. same k (key_of r)) key_is ∙ apart t r before at)
            ∙ indexed t r before at
        | inr last ↦
            let is : t ≡ slot = elim (or_cases (eqb t slot) false last) [ inl e ↦ eqb-true t slot e | inr none ↦ absurd (false≢true none) ] in
            let one : r ≡ row = same_Some r row (sym at ∙ ap rows is ∙ here) in
            noted_is (key_of r)
            ∙ ap (λ b. cond b (Some slot) (found same index (key_of r))) (ap (λ k. same k (key_of r)) key_is ∙ ap (λ (x : T). same (key_of row) (key_of x)) one ∙ laws.refl (key_of row))
            ∙ ap Some (sym is)
      ]
