-- The births of the rows of given keys: how they are gathered, and that in rising order they give the keys in the order
-- of the rows.
use Rattle.std.proofs.Common.{◌≡◌, ℕ, suc, ◌+◌, ◌<◌, ◌≤◌, Bool, true, false, cond, ◌||◌, eqb, List, [], ◌∷◌, ◌++◌, map, filter, length, Option, Some, None, ◌⊎◌, inl, inr, get_or, refl, sym, ap, ◌∙◌, subst, arith}
use Rattle.std.proofs.lemmas.Bool.{true≢false, false≢true, eqb-true, eqb-false, or_cases, or_left, or_right, cases_lt}
use Rattle.std.proofs.lemmas.List.Elements.{Contains-append_left, Contains-push, Contains-push_cases}
use Rattle.std.proofs.lemmas.Option.{none-some, same_Some}
use Rattle.std.specs.Cmp.{IsEquivalence}
use Rattle.std.specs.HashMap.{HashMap, get as found}
use Rattle.std.specs.Option.{option_map}
use Rattle.std.specs.List.{Contains, dedup, dedup_from}
use Rattle.std.specs.List.Sorted.{IsNonDecreasingBy}
use Rattle.slab.proofs.SlabLemmas.{Contains-cons, Contains-cons_cases}
use Rattle.kq_table.specs.declared.numbered.Birth.{Birth}
use Rattle.kq_table.specs.Births.{AreRising, before_keys, keys_born, IsBirthOf, AreBirthsOf}
use Rattle.kq_table.specs.Kept.{IsIndexed, AreBorn}
use Rattle.kq_table.specs.Rows.{is_among}
use Rattle.kq_table.specs.Threads.{is_in, before_rows, rows_at}
use Rattle.kq_table.proofs.RowLaws.{by_test}
use Rattle.kq_table.proofs.ThreadLaws.{is_in-here}

-- ---- what a list contains

module _ {X : Type 0} where
  in_none : (x : X) → Contains [] x → ⊥
  in_none x there = let below : there.0 < 0 = there.1 in omega arith

  in_front : (x : X) (xs : List X) → Contains (x ∷ xs) x
  in_front x xs = Contains-append_left (x ∷ []) xs x (Contains-push [] x)

-- ---- births that rise

-- each is no earlier than the one before it
abbrev IsUp : ℕ → List Birth → Type 0
IsUp low [] = Unit {0}
IsUp low (b ∷ births) = (low ≤ b.born) × IsUp b.born births

up : (low : ℕ) (bs : List Birth) → ((d : Birth) → 0 < length bs → low ≤ (get_or bs 0 d).born) → IsNonDecreasingBy (λ (b : Birth). b.born) bs → IsUp low bs
up low [] first sorted = tt
up low (b ∷ bs) first sorted = (
  first b (omega arith),
  up b.born bs (λ d some. sorted 0 1 d (omega arith) (omega arith)) (λ i j d below within. sorted (suc i) (suc j) d (omega arith) (omega arith)),
)

rising-from : (low : ℕ) (k : Birth) (bs : List Birth) → low ≤ k.born → IsUp k.born bs → AreRising low (dedup_from (λ (p q : Birth). eqb p.born q.born) k bs)
rising-from low k [] past is = (past, tt)
rising-from low k (b ∷ bs) past is =
    let next = is.0 in
    by_test (λ t. eqb b.born k.born ≡ t → AreRising low (cond t (dedup_from (λ (p q : Birth). eqb p.born q.born) k bs) (k ∷ dedup_from (λ (p q : Birth). eqb p.born q.born) b bs))) (eqb b.born k.born)
    (λ _ e. rising-from low k bs past (subst (λ n. IsUp n bs) (eqb-true b.born k.born e) is.1))
    (λ _ e. let apart = eqb-false b.born k.born e in (past, rising-from (k.born + 1) b bs (elim (cases_lt k.born b.born) [ inl less ↦ omega arith | inr more ↦ absurd (apart (omega arith)) ]) is.1))
    refl

pub rising-dedup : (bs : List Birth) → IsNonDecreasingBy (λ (b : Birth). b.born) bs → AreRising 0 (dedup (λ (p q : Birth). eqb p.born q.born) bs)
rising-dedup [] sorted = tt
rising-dedup (b ∷ bs) sorted =
    rising-from 0 b bs (omega arith) (up b.born bs (λ d some. sorted 0 1 d (omega arith) (omega arith)) (λ i j d below within. sorted (suc i) (suc j) d (omega arith) (omega arith)))

-- of each number one is kept
kept-from : (k : Birth) (bs : List Birth) (b : Birth) → Contains (k ∷ bs) b → (c : Birth) × Contains (dedup_from (λ (p q : Birth). eqb p.born q.born) k bs) c × (c.born ≡ b.born)
kept-from k [] b there =
    elim (Contains-cons_cases k b [] there) [ inl is ↦ (k, in_front k [], ap (λ (x : Birth). x.born) is) | inr none ↦ absurd (in_none b none) ]
kept-from k (x ∷ bs) b there =
    by_test (λ t. eqb x.born k.born ≡ t → (c : Birth) × Contains (cond t (dedup_from (λ (p q : Birth). eqb p.born q.born) k bs) (k ∷ dedup_from (λ (p q : Birth). eqb p.born q.born) x bs)) c × (c.born ≡ b.born)) (eqb x.born k.born)
    (λ _ e. elim (Contains-cons_cases k b (x ∷ bs) there) [
      | inl is ↦ kept-from k bs b (subst (λ y. Contains (k ∷ bs) y) is (in_front k bs))
      | inr later ↦ elim (Contains-cons_cases x b bs later) [
        | inl is ↦ let c = kept-from k bs k (in_front k bs) in (c.0, c.1, c.2 ∙ sym (eqb-true x.born k.born e) ∙ ap (λ (y : Birth). y.born) is)
        | inr rest ↦ kept-from k bs b (Contains-cons k b bs rest)
      ]
    ])
    (λ _ _. elim (Contains-cons_cases k b (x ∷ bs) there) [
      | inl is ↦ (k, in_front k (dedup_from (λ (p q : Birth). eqb p.born q.born) x bs), ap (λ (y : Birth). y.born) is)
      | inr later ↦ let c = kept-from x bs b later in (c.0, Contains-cons k c.0 (dedup_from (λ (p q : Birth). eqb p.born q.born) x bs) c.1, c.2)
    ])
    refl

pub kept-dedup : (bs : List Birth) (b : Birth) → Contains bs b → (c : Birth) × Contains (dedup (λ (p q : Birth). eqb p.born q.born) bs) c × (c.born ≡ b.born)
kept-dedup [] b there = absurd (in_none b there)
kept-dedup (k ∷ bs) b there = kept-from k bs b there

rising-least : (low : ℕ) (bs : List Birth) (b : Birth) → AreRising low bs → Contains bs b → low ≤ b.born
rising-least low [] b rise there = absurd (in_none b there)
rising-least low (x ∷ bs) b rise there =
    let first = rise.0 in
    elim (Contains-cons_cases x b bs there) [
      | inl is ↦ let born = ap (λ (y : Birth). y.born) is in omega arith
      | inr rest ↦ let past = rising-least (x.born + 1) bs b rise.1 rest in omega arith
    ]

-- ---- births along slots

born-least : (births : ℕ → Option ℕ) (low next : ℕ) (slots : List ℕ) (s born : ℕ) → AreBorn births low next slots → is_in s slots ≡ true → births s ≡ Some born → low ≤ born
born-least births low next [] s born are there at = absurd (false≢true there)
born-least births low next (x ∷ slots) s born are there at =
    let first = are.2 in
    elim (or_cases (eqb s x) (is_in s slots) there) [
      | inl is ↦ let one : born ≡ are.0 = same_Some born are.0 (sym at ∙ ap births (eqb-true s x is) ∙ are.1) in omega arith
      | inr later ↦ let past = born-least births (are.0 + 1) next slots s born are.3 later at in omega arith
    ]

-- ---- reading them

module _ {K T : Type 0} (key_of : T → K) where
  pub key-missed : (o : Option T) → None ≡ option_map key_of o → before_keys key_of o [] ≡ []
  key-missed None none = refl
  key-missed (Some row) none = absurd (none-some (key_of row) none)

  pub key-found : (o : Option T) (key : K) → Some key ≡ option_map key_of o → before_keys key_of o [] ≡ key ∷ []
  key-found None key is = absurd (none-some key (sym is))
  key-found (Some row) key is = ap (λ k. k ∷ []) (sym (same_Some key (key_of row) is))

module _ {K T : Type 0} (key_of : T → K) (rows : ℕ → Option T) where
  pub keys_born-push : (bs : List Birth) (b : Birth) → keys_born key_of rows (bs ++ b ∷ []) ≡ keys_born key_of rows bs ++ before_keys key_of (rows b.slot) []
  keys_born-push [] b = refl
  keys_born-push (x ∷ bs) b = ap (before_keys key_of (rows x.slot)) (keys_born-push bs b) ∙ one (rows x.slot)
    where
      one : (o : Option T) → before_keys key_of o (keys_born key_of rows bs ++ before_keys key_of (rows b.slot) []) ≡ before_keys key_of o (keys_born key_of rows bs) ++ before_keys key_of (rows b.slot) []
      one None = refl
      one (Some row) = refl

module _ {K T : Type 0} (same : K → K → Bool) (key_of : T → K) (rows : ℕ → Option T) (births : ℕ → Option ℕ) where
  -- ---- gathering them

  pub AreBirthsOf-none : AreBirthsOf same key_of rows births [] []
  AreBirthsOf-none = record {
    taken = λ b there. absurd (in_none b there);
    whole = λ b there. absurd (true≢false (sym there.among));
  }

  -- what has gone through a sort, or what was kept of each number
  pub AreBirthsOf-same : (keys : List K) (list others : List Birth) → ((b : Birth) → Contains others b → Contains list b) → ((b : Birth) → Contains list b → (c : Birth) × Contains others c × (c.born ≡ b.born))
      → AreBirthsOf same key_of rows births keys list → AreBirthsOf same key_of rows births keys others
  AreBirthsOf-same keys list others back on are = record {
    taken = λ b there. are.taken b (back b there);
    whole = λ b there. let had = are.whole b there in let now = on had.0 had.1 in (now.0, now.1, now.2 ∙ had.2);
  }

  module _ {S : Type 0} (laws : IsEquivalence same) (one_key : (a b : K) → same a b ≡ true → a ≡ b) (index : HashMap K ℕ S) (indexed : IsIndexed same key_of rows index)
      (keys more : List K) (key : K) (more_is : (row : T) → is_among same key_of more row ≡ (is_among same key_of keys row || same (key_of row) key)) (list : List Birth) (are : AreBirthsOf same key_of rows births keys list) where
    of_more : (b : Birth) → IsBirthOf same key_of rows births keys b → IsBirthOf same key_of rows births more b
    of_more b there = record {
      row = there.row;
      here = there.here;
      born = there.born;
      among = more_is there.row ∙ or_left (is_among same key_of keys there.row) (same (key_of there.row) key) there.among;
    }

    either : (b : Birth) (there : IsBirthOf same key_of rows births more b) → IsBirthOf same key_of rows births keys b ⊎ (same (key_of there.row) key ≡ true)
    either b there =
        elim (or_cases (is_among same key_of keys there.row) (same (key_of there.row) key) (sym (more_is there.row) ∙ there.among)) [
          | inl before ↦ inl (record { row = there.row; here = there.here; born = there.born; among = before })
          | inr now ↦ inr now
        ]

    -- a key that has no row has no birth
    pub AreBirthsOf-missed : ((slot : ℕ) (row : T) → rows slot ≡ Some row → same key (key_of row) ≡ true → ⊥) → AreBirthsOf same key_of rows births more list
    AreBirthsOf-missed never = record {
      taken = λ b there. of_more b (are.taken b there);
      whole = λ b there. elim (either b there) [
        | inl before ↦ are.whole b before
        | inr now ↦ absurd (never b.slot there.row there.here (laws.symm key (key_of there.row) ∙ now))
      ];
    }

    -- a key that has one has its birth
    pub AreBirthsOf-found : (slot born : ℕ) (row : T) → rows slot ≡ Some row → births slot ≡ Some born → same key (key_of row) ≡ true → AreBirthsOf same key_of rows births more (list ++ record { born = born; slot = slot } ∷ [])
    AreBirthsOf-found slot born row here at is =
        let new : Birth = record { born = born; slot = slot } in
        record {
          taken = λ b there. elim (Contains-push_cases list new b there) [
            | inl before ↦ of_more b (are.taken b before)
            | inr it ↦ subst (λ n. IsBirthOf same key_of rows births more n) it (record {
              row = row;
              here = here;
              born = at;
              among = more_is row ∙ or_right (is_among same key_of keys row) (same (key_of row) key) (laws.symm (key_of row) key ∙ is);
            })
          ];
          whole = λ b there. elim (either b there) [
            | inl before ↦ let had = are.whole b before in (had.0, Contains-append_left list (new ∷ []) had.0 had.1, had.2)
            | inr now ↦
                let keys_are : key_of row ≡ key_of there.row = sym (one_key key (key_of row) is) ∙ sym (one_key (key_of there.row) key now) in
                let slots_are : slot ≡ b.slot = same_Some slot b.slot (sym (indexed slot row here) ∙ ap (found same index) keys_are ∙ indexed b.slot there.row there.here) in
                (new, Contains-push list new, same_Some born b.born (sym at ∙ ap births slots_are ∙ there.born))
          ];
        }

  module _ (passes : T → Bool) where
    -- rows that pass stand there, in these slots
    abbrev Taken : List ℕ → List Birth → Type 0
    Taken slots bs = (b : Birth) → Contains bs b → (row : T) × (rows b.slot ≡ Some row) × (births b.slot ≡ Some b.born) × (passes row ≡ true) × (is_in b.slot slots ≡ true)

    -- and those of all that pass in these slots
    abbrev Whole : List ℕ → List Birth → Type 0
    Whole slots bs = (s : ℕ) (row : T) (born : ℕ) → is_in s slots ≡ true → rows s ≡ Some row → passes row ≡ true → births s ≡ Some born → (b : Birth) × Contains bs b × (b.born ≡ born)

    -- where none stands in the first slot, all stand in the others
    skipped : (s : ℕ) (slots : List ℕ) (bs : List Birth) → Taken (s ∷ slots) bs → ((b : Birth) → Contains bs b → b.slot ≡ s → ⊥) → Taken slots bs
    skipped s slots bs taken never b there =
        let it = taken b there in
        elim (or_cases (eqb b.slot s) (is_in b.slot slots) it.4) [
          | inl is ↦ absurd (never b there (eqb-true b.slot s is))
          | inr later ↦ (it.0, it.1, it.2, it.3, later)
        ]

    raised : (low next : ℕ) (slots : List ℕ) (bs : List Birth) → AreBorn births low next slots → Taken slots bs → (old : ℕ) → AreRising old bs → AreRising low bs
    raised low next slots [] are taken old rise = tt
    raised low next slots (b ∷ bs) are taken old rise =
        let it = taken b (in_front b bs) in (born-least births low next slots b.slot b.born are it.4 it.2, rise.1)

    -- so it is of later slots
    abbrev Again : List ℕ → ℕ → Type 0
    Again slots low = (more : List Birth) → AreRising low more → Taken slots more → Whole slots more
        → keys_born key_of rows more ≡ map key_of (filter passes (rows_at rows slots))

    pub in_order : (slots : List ℕ) (low next : ℕ) (bs : List Birth) → AreBorn births low next slots → AreRising low bs → Taken slots bs → Whole slots bs → keys_born key_of rows bs ≡ map key_of (filter passes (rows_at rows slots))
    in_order [] low next [] are rise taken whole = refl
    in_order [] low next (b ∷ bs) are rise taken whole = absurd (false≢true (taken b (in_front b bs)).4)
    in_order (s ∷ slots) low next bs are rise taken whole =
        at (λ more up_more taken_more whole_more. in_order slots (are.0 + 1) next more are.3 up_more taken_more whole_more) (rows s) refl
      where
        later : (s' : ℕ) → is_in s' slots ≡ true → is_in s' (s ∷ slots) ≡ true
        later s' there = or_right (eqb s' s) (is_in s' slots) there

        -- where the row of the first slot does not pass
        passed_by : Again slots (are.0 + 1) → ((row : T) → rows s ≡ Some row → passes row ≡ false) → keys_born key_of rows bs ≡ map key_of (filter passes (rows_at rows slots))
        passed_by again fails =
            let rest = skipped s slots bs taken (λ b there is. let it = taken b there in true≢false (sym it.3 ∙ fails it.0 (ap rows (sym is) ∙ it.1))) in
            again bs (raised (are.0 + 1) next slots bs are.3 rest low rise) rest (λ s' row born there. whole s' row born (later s' there))

        -- where it passes, its birth is the first
        first : Again slots (are.0 + 1) → (row : T) → rows s ≡ Some row → passes row ≡ true → (bs : List Birth) → AreRising low bs → Taken (s ∷ slots) bs → Whole (s ∷ slots) bs → keys_born key_of rows bs ≡ key_of row ∷ map key_of (filter passes (rows_at rows slots))
        first again row here is [] rise taken whole = let it = whole s row are.0 (is_in-here s slots) here is are.1 in absurd (in_none it.0 it.1)
        first again row here is (b ∷ bs) rise taken whole =
            let it = taken b (in_front b bs) in
            let own = whole s row are.0 (is_in-here s slots) here is are.1 in
            let own_is : own.0.born ≡ are.0 = own.2 in
            let least : b.born ≤ are.0 = elim (Contains-cons_cases b own.0 bs own.1) [
              | inl e ↦ let born = ap (λ (y : Birth). y.born) e in omega arith
              | inr behind ↦ let past = rising-least (b.born + 1) bs own.0 rise.1 behind in omega arith
            ] in
            let at_s : b.slot ≡ s = elim (or_cases (eqb b.slot s) (is_in b.slot slots) it.4) [
              | inl e ↦ eqb-true b.slot s e
              | inr behind ↦ let past = born-least births (are.0 + 1) next slots b.slot b.born are.3 behind it.2 in absurd (omega arith)
            ] in
            let born_is : b.born ≡ are.0 = same_Some b.born are.0 (sym it.2 ∙ ap births at_s ∙ are.1) in
            let rest : Taken slots bs = skipped s slots bs (λ c there. taken c (Contains-cons b c bs there)) (λ c there e.
            let past = rising-least (b.born + 1) bs c rise.1 there in
            let own_born : c.born ≡ are.0 = same_Some c.born are.0 (sym (taken c (Contains-cons b c bs there)).2 ∙ ap births e ∙ are.1) in
            absurd (omega arith)) in
            ap (λ o. before_keys key_of o (keys_born key_of rows bs)) (ap rows at_s ∙ here)
            ∙ ap (λ keys. key_of row ∷ keys)
            (again bs (raised (are.0 + 1) next slots bs are.3 rest (b.born + 1) rise.1) rest
            (λ s' r born there at_s' pass at_born.
            let got = whole s' r born (later s' there) at_s' pass at_born in
            let past = born-least births (are.0 + 1) next slots s' born are.3 there at_born in
            let got_is : got.0.born ≡ born = got.2 in
            elim (Contains-cons_cases b got.0 bs got.1) [
              | inl e ↦ let born' = ap (λ (y : Birth). y.born) e in absurd (omega arith)
              | inr behind ↦ (got.0, behind, got.2)
            ]))

        at : Again slots (are.0 + 1) → (o : Option T) → rows s ≡ o → keys_born key_of rows bs ≡ map key_of (filter passes (before_rows o (rows_at rows slots)))
        at again None e = passed_by again (λ row here. absurd (none-some row (sym e ∙ here)))
        at again (Some row) e =
            by_test (λ t. passes row ≡ t → keys_born key_of rows bs ≡ map key_of (cond t (row ∷ filter passes (rows_at rows slots)) (filter passes (rows_at rows slots)))) (passes row)
            (λ _ is. first again row e is bs rise taken whole)
            (λ _ fails. passed_by again (λ r here. ap passes (same_Some r row (sym here ∙ e)) ∙ fails))
            refl
