-- Walks along the order that enter the rows anew, and that number them anew.
use Rattle.std.proofs.Common.{◌≡◌, ℕ, ◌+◌, Bool, true, false, cond, List, [], ◌∷◌, ◌++◌, length, length-append, Option, Some, None, append_assoc, append-nil, refl, sym, ap, ◌∙◌, subst, arith}
use Rattle.std.proofs.lemmas.Bool.{false≢true, false_from_ne_true}
use Rattle.std.proofs.lemmas.Option.{none-some, same_Some}
use Rattle.std.specs.HashMap.{HashMap}
use Rattle.std.specs.Option.{option_map}
use Rattle.kq_table.specs.declared.node.Ends.{Ends}
use Rattle.kq_table.specs.declared.node.Links.{Links}
use Rattle.kq_table.specs.Threads.{is_in, AreDistinct, AreLinked, head_or, after_of, with_birth}
use Rattle.kq_table.specs.Kept.{AreApart, AreBorn, IsEntered}
use Rattle.kq_table.proofs.ThreadLaws.{is_in-here, in_left, in_right, apart-in, eqb-refl, AreDistinct-gone, AreLinked-between}
use Rattle.kq_table.proofs.WithoutLaws.{AreBorn-same, AreBorn-push}

-- where nothing is left, nothing was
nothing-left : (done rest : List ℕ) → length done ≡ length (done ++ rest) → rest ≡ []
nothing-left done [] as_many = refl
nothing-left done (x ∷ rest) as_many = let all = length-append done (x ∷ rest) in absurd (omega arith)

pub none-left : (rest : List ℕ) → head_or None rest ≡ None → rest ≡ []
none-left [] none = refl
none-left (x ∷ rest) some = absurd (none-some x (sym some))

-- a walk along the order that came to `next` after so many steps, and did P with what it passed
abbrev pub HasPassed : (List ℕ → Type 0) → Option ℕ → ℕ → List ℕ → Type 0
HasPassed P next steps slots = (done : List ℕ) × (rest : List ℕ) × (slots ≡ done ++ rest) × (length done ≡ steps) × (next ≡ head_or None rest) × P done

pub passed-none : (P : List ℕ → Type 0) (first : Option ℕ) (slots : List ℕ) → first ≡ head_or None slots → P [] → HasPassed P first 0 slots
passed-none P first slots at start = ([], slots, refl, refl, at, start)

-- one step more
pub passed-step : (order : ℕ → Option Links) (P Q : List ℕ → Type 0) (slot : ℕ) (next : Option ℕ) (steps : ℕ) (slots : List ℕ) → AreLinked order None slots None → AreDistinct slots
    → ((done rest : List ℕ) → slots ≡ done ++ slot ∷ rest → length done ≡ steps → is_in slot done ≡ false → P done → Q (done ++ slot ∷ []))
    → next ≡ after_of (order slot) → HasPassed P (Some slot) steps slots → HasPassed Q next (steps + 1) slots
passed-step order P Q slot next steps slots linked distinct does next_is has = go has.1 has.2 has.4
  where
    go : (rest : List ℕ) → slots ≡ has.0 ++ rest → Some slot ≡ head_or None rest → HasPassed Q next (steps + 1) slots
    go [] is none = absurd (none-some slot (sym none))
    go (x ∷ rest) is at =
        let one : slot ≡ x = same_Some slot x at in
        let here : slots ≡ has.0 ++ slot ∷ rest = is ∙ ap (λ n. has.0 ++ n ∷ rest) (sym one) in
        let own = AreDistinct-gone has.0 slot rest (subst AreDistinct here distinct) in
        let many = length-append has.0 (slot ∷ []) in
        let before = has.3 in (
          has.0 ++ slot ∷ [],
          rest,
          here ∙ sym (append_assoc has.0 (slot ∷ []) rest),
          omega arith,
          next_is ∙ ap after_of (AreLinked-between order has.0 slot rest (subst (λ l. AreLinked order None l None) here linked)),
          does has.0 rest here has.3 own.0 has.5,
        )

-- at the end all were passed
pub passed-all : (P : List ℕ → Type 0) (next : Option ℕ) (steps : ℕ) (slots : List ℕ) → HasPassed P next steps slots → steps ≡ length slots → P slots
passed-all P next steps slots has all =
    let none = nothing-left has.0 has.1 (has.3 ∙ all ∙ ap length has.2) in
    subst P (sym (has.2 ∙ ap (λ l. has.0 ++ l) none ∙ append-nil has.0)) has.5

pub passed-out : (P : List ℕ → Type 0) (steps : ℕ) (slots : List ℕ) → HasPassed P None steps slots → P slots
passed-out P steps slots has =
    subst P (sym (has.2 ∙ ap (λ l. has.0 ++ l) (none-left has.1 (sym has.4)) ∙ append-nil has.0)) has.5

-- ---- entered anew

module _ {K T G : Type 0} (same : K → K → Bool) (alike : G → G → Bool) (key_of : T → K) (target_of : T → Option G) (order : ℕ → Option Links) (rows : ℕ → Option T) (first : Option ℕ) where
  -- whatever the order is, what was passed is entered
  abbrev pub IsEntering : {S R : Type 0} → (ℕ → Option Links) → HashMap K ℕ S → HashMap G Ends R → Option ℕ → ℕ → Type 0
  IsEntering watch index targets next steps =
      (slots : List ℕ) → AreLinked order None slots None → AreDistinct slots → first ≡ head_or None slots → AreApart same key_of rows slots
      → HasPassed (λ done. IsEntered same alike key_of target_of rows watch index targets done) next steps slots

  pub entering-step : {S R S' R' : Type 0} (watch more : ℕ → Option Links) (index : HashMap K ℕ S) (targets : HashMap G Ends R) (noted : HashMap K ℕ S') (listed : HashMap G Ends R') (slot : ℕ) (next : Option ℕ) (steps : ℕ)
      → ((s : ℕ) (l : Links) → order s ≡ Some l → (row : T) × (rows s ≡ Some row))
      → ((done : List ℕ) (row : T) → rows slot ≡ Some row → is_in slot done ≡ false → ((other : ℕ) (r : T) → is_in other done ≡ true → rows other ≡ Some r → same (key_of row) (key_of r) ≡ false)
      → IsEntered same alike key_of target_of rows watch index targets done → IsEntered same alike key_of target_of rows more noted listed (done ++ slot ∷ []))
      → next ≡ after_of (order slot) → IsEntering watch index targets (Some slot) steps → IsEntering more noted listed next (steps + 1)
  entering-step watch more index targets noted listed slot next steps standing does next_is has slots linked distinct at apart =
      passed-step order (λ done. IsEntered same alike key_of target_of rows watch index targets done) (λ done. IsEntered same alike key_of target_of rows more noted listed done) slot next steps slots linked distinct
      (λ done rest here _ out entered.
      let in_all : is_in slot slots ≡ true = ap (is_in slot) here ∙ in_right slot done (slot ∷ rest) (is_in-here slot rest) in
      let row = standing slot _ (AreLinked-between order done slot rest (subst (λ l. AreLinked order None l None) here linked)) in
      does done row.0 row.1 out (λ other r there at_other. false_from_ne_true (same (key_of row.0) (key_of r)) (λ is.
      let one : slot ≡ other = apart slot other row.0 r in_all (ap (is_in other) here ∙ in_left other done (slot ∷ rest) there) row.1 at_other is in
      false≢true (sym out ∙ ap (λ n. is_in n done) one ∙ there))) entered)
      next_is (has slots linked distinct at apart)

-- ---- numbered anew

-- whatever the order is, what was passed is numbered by its place
abbrev pub IsNumbering : (ℕ → Option Links) → Option ℕ → (ℕ → Option ℕ) → Option ℕ → ℕ → Type 0
IsNumbering order first births next steps =
    (slots : List ℕ) → AreLinked order None slots None → AreDistinct slots → first ≡ head_or None slots
    → HasPassed (λ done. AreBorn births 0 steps done) next steps slots

pub numbering-step : (order : ℕ → Option Links) (first : Option ℕ) (births : ℕ → Option ℕ) (slot : ℕ) (next : Option ℕ) (steps : ℕ)
    → ((s : ℕ) (l : Links) → order s ≡ Some l → (born : ℕ) × (births s ≡ Some born))
    → next ≡ after_of (order slot) → IsNumbering order first births (Some slot) steps → IsNumbering order first (with_birth slot steps births) next (steps + 1)
numbering-step order first births slot next steps standing next_is has slots linked distinct at =
    passed-step order (λ done. AreBorn births 0 steps done) (λ done. AreBorn (with_birth slot steps births) 0 (steps + 1) done) slot next steps slots linked distinct
    (λ done rest here _ out born.
    let had = standing slot _ (AreLinked-between order done slot rest (subst (λ l. AreLinked order None l None) here linked)) in
    AreBorn-push (with_birth slot steps births) 0 steps done slot
    (AreBorn-same births (with_birth slot steps births) 0 steps done (λ t there. ap (λ b. cond b (option_map (λ (_ : ℕ). steps) (births t)) (births t)) (apart-in slot t done out there)) born)
    (ap (λ b. cond b (option_map (λ (_ : ℕ). steps) (births slot)) (births slot)) (eqb-refl slot) ∙ ap (option_map (λ (_ : ℕ). steps)) had.1))
    next_is (has slots linked distinct at)
