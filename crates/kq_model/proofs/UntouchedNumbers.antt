-- A number that a record does not touch names what it named.
use Rattle.std.proofs.Common.{◌≡◌, ℕ, Bool, true, false, cond, not, ◌&&◌, eqb, List, [], ◌∷◌, ◌++◌, map, Option, Some, None, refl, sym, ap, ◌∙◌}
use Rattle.std.proofs.lemmas.Bool.{and_parts, both_ways, eqb-true, false_from_ne_true, or_parts}
use Rattle.std.proofs.lemmas.List.Folds.{list_any-append}
use Rattle.kq_model.specs.Close.{Pair, has_pair}
use Rattle.kq_model.specs.Descriptors.{Descriptor, named_among, is_before, with_descriptor, with_descriptors, without_closed}
use Rattle.kq_model.specs.Objects.{Keeping}
use Rattle.kq_model.specs.TouchedNumbers.{pair_of, born_numbers, touched_numbers}
use Rattle.kq_model.specs.World.{World, Plan, with_kqueue, carried_out}
use Rattle.kq_model.proofs.KnoteLaws.{by_test}

module _ (pid number : ℕ) where
  abbrev pub is_it : Descriptor → Bool
  is_it d = eqb d.pid pid && eqb d.number number

  pub passed : (d : Descriptor) (es : List Descriptor) → is_it d ≡ false → named_among pid number (d ∷ es) ≡ named_among pid number es
  unfolding named_among
  passed d es other = ap (λ b. cond b (Some d.named) (named_among pid number es)) other

  behind : (d : Descriptor) (es fs : List Descriptor) → named_among pid number es ≡ named_among pid number fs → named_among pid number (d ∷ es) ≡ named_among pid number (d ∷ fs)
  unfolding named_among
  behind d es fs same = ap (λ rest. cond (is_it d) (Some d.named) rest) same

  -- one more descriptor
  pub other-descriptor : (d : Descriptor) (es : List Descriptor) → is_it d ≡ false → named_among pid number (with_descriptor d es) ≡ named_among pid number es
  unfolding with_descriptor
  other-descriptor d [] other = passed d [] other
  other-descriptor d (e ∷ es) other =
      by_test (λ b. named_among pid number (cond b (d ∷ e ∷ es) (e ∷ with_descriptor d es)) ≡ named_among pid number (e ∷ es)) (is_before d e)
      (λ _. passed d (e ∷ es) other) (λ _. behind e (with_descriptor d es) es (other-descriptor d es other))

  other-descriptors : (ds es : List Descriptor) → has_pair pid number (map pair_of ds) ≡ false → named_among pid number (with_descriptors ds es) ≡ named_among pid number es
  unfolding with_descriptors
  other-descriptors [] es others = refl
  other-descriptors (d ∷ ds) es others =
      let both = or_parts (is_it d) (has_pair pid number (map pair_of ds)) others in
      other-descriptors ds (with_descriptor d es) both.1 ∙ other-descriptor d es both.0

  -- those that are closed
  shut-other : (pairs : List Pair) (e : Descriptor) → has_pair pid number pairs ≡ false → has_pair e.pid e.number pairs ≡ true → is_it e ≡ false
  shut-other pairs e stays shut =
      false_from_ne_true (is_it e)
      (λ is. let parts = and_parts (eqb e.pid pid) (eqb e.number number) is in
      both_ways (has_pair pid number pairs) stays
      (ap (λ p. has_pair p number pairs) (sym (eqb-true e.pid pid parts.0)) ∙ ap (λ n. has_pair e.pid n pairs) (sym (eqb-true e.number number parts.1)) ∙ shut))

  pub other-closed : (pairs : List Pair) (es : List Descriptor) → has_pair pid number pairs ≡ false → named_among pid number (without_closed pairs es) ≡ named_among pid number es
  other-closed pairs [] stays = refl
  other-closed pairs (e ∷ es) stays =
      by_test (λ b. named_among pid number (cond (not b) (e ∷ without_closed pairs es) (without_closed pairs es)) ≡ named_among pid number (e ∷ es)) (has_pair e.pid e.number pairs)
      (λ shut. other-closed pairs es stays ∙ sym (passed e es (shut-other pairs e stays shut)))
      (λ _. behind e (without_closed pairs es) es (other-closed pairs es stays))

  other-kqueue : (place : ℕ) (p : Option Pair) (es : List Descriptor) → has_pair pid number (born_numbers p) ≡ false → named_among pid number (with_kqueue place p es) ≡ named_among pid number es
  unfolding with_kqueue born_numbers
  other-kqueue place None es others = refl
  other-kqueue place (Some p) es others = other-descriptor _ es (or_parts (eqb p.pid pid && eqb p.number number) false others).0

  pub untouched-number : {A B C D : Type 0} {k : Keeping A B C D} (place : ℕ) (p : Plan) (w : World k) → has_pair pid number (touched_numbers p) ≡ false
      → named_among pid number (carried_out place p w).table ≡ named_among pid number w.table
  unfolding carried_out
  untouched-number place p w untouched =
      let test : Pair → Bool = λ x. eqb x.pid pid && eqb x.number number in
      let first = or_parts (has_pair pid number p.closed) _ (sym (list_any-append test p.closed (map pair_of p.opened ++ born_numbers p.born)) ∙ untouched) in
      let second = or_parts (has_pair pid number (map pair_of p.opened)) _ (sym (list_any-append test (map pair_of p.opened) (born_numbers p.born)) ∙ first.1) in
      other-kqueue place p.born _ second.1 ∙ other-descriptors p.opened _ second.0 ∙ other-closed p.closed w.table first.0
