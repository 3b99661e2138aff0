-- A walk along the rows of one target that adds their keys to a list.
use Rattle.std.proofs.Common.{◌≡◌, ℕ, ◌+◌, ◌≤◌, Bool, true, List, [], ◌∷◌, ◌++◌, map, length, length-append, Option, Some, None, append_assoc, append-nil, refl, sym, ap, ◌∙◌, subst, arith}
use Rattle.std.proofs.lemmas.Option.{none-some, same_Some}
use Rattle.std.proofs.lemmas.List.{map-append}
use Rattle.kq_table.specs.declared.node.Ends.{Ends}
use Rattle.kq_table.specs.declared.node.Links.{Links}
use Rattle.kq_table.specs.Links.{is_target, keys_watching}
use Rattle.kq_table.specs.Threads.{is_in, AreLinked, head_or, after_of, IsThread, rows_at}
use Rattle.kq_table.specs.Kept.{watches, watching}
use Rattle.kq_table.proofs.AnewLaws.{none-left}
use Rattle.kq_table.proofs.SeatLaws.{AreFilled, rows_at-push, rows_at-split}
use Rattle.kq_table.proofs.ThreadLaws.{in_right, is_in-here, AreLinked-between}
use Rattle.kq_table.proofs.WithoutLaws.{rows_at-filter}

-- the keys that watch a target are those of the slots that do
pub keys-watching : {K T G : Type 0} (alike : G → G → Bool) (key_of : T → K) (target_of : T → Option G) (target : G) (rows : ℕ → Option T) (slots : List ℕ) → AreFilled rows slots
    → map key_of (rows_at rows (watching alike target_of target rows slots)) ≡ keys_watching alike key_of target_of target (rows_at rows slots)
keys-watching {K} {T} {G} alike key_of target_of target rows slots filled =
    ap (map key_of) (rows_at-filter rows (λ s. watches alike target_of target (rows s)) (λ r. is_target alike target (target_of r)) slots
    (λ t row _ here. ap (watches alike target_of target) (sym here)) filled)

module _ {K T : Type 0} (key_of : T → K) (rows : ℕ → Option T) (links : ℕ → Option Links) (ends : Ends) where
  -- whatever the thread is, the keys of the slots before this one were added
  abbrev pub IsAlong : List K → List K → Option ℕ → Type 0
  IsAlong before added next =
      (slots : List ℕ) → IsThread links ends slots → AreFilled rows slots
      → (done : List ℕ) × (rest : List ℕ) × (slots ≡ done ++ rest) × (next ≡ head_or None rest) × (added ≡ before ++ map key_of (rows_at rows done))

  pub along-start : (first : Option ℕ) → first ≡ ends.first → (before : List K) → IsAlong before before first
  along-start first first_is before slots is filled = ([], slots, refl, first_is ∙ is.first, sym (append-nil before))

  pub along-step : (before added more : List K) (slot : ℕ) (row : T) (next : Option ℕ) → rows slot ≡ Some row → next ≡ after_of (links slot) → more ≡ added ++ key_of row ∷ []
      → (now : Option ℕ) → now ≡ Some slot → IsAlong before added now → IsAlong before more next
  along-step before added more slot row next here next_is more_is now now_is along slots is filled =
      go (along slots is filled).1 (along slots is filled).2 (sym now_is ∙ (along slots is filled).3)
    where
      go : (rest : List ℕ) → slots ≡ (along slots is filled).0 ++ rest → Some slot ≡ head_or None rest
          → (done : List ℕ) × (rest : List ℕ) × (slots ≡ done ++ rest) × (next ≡ head_or None rest) × (more ≡ before ++ map key_of (rows_at rows done))
      go [] at none = absurd (none-some slot (sym none))
      go (x ∷ rest) at first =
          let one : slot ≡ x = same_Some slot x first in
          let split : slots ≡ (along slots is filled).0 ++ slot ∷ rest = at ∙ ap (λ n. (along slots is filled).0 ++ n ∷ rest) (sym one) in (
            (along slots is filled).0 ++ slot ∷ [],
            rest,
            split ∙ sym (append_assoc (along slots is filled).0 (slot ∷ []) rest),
            next_is ∙ ap after_of (AreLinked-between links (along slots is filled).0 slot rest (subst (λ l. AreLinked links None l None) split is.linked)),
            more_is ∙ ap (λ (keys : List K). keys ++ key_of row ∷ []) (along slots is filled).4
                ∙ append_assoc before (map key_of (rows_at rows (along slots is filled).0)) (key_of row ∷ [])
                ∙ ap (λ (keys : List K). before ++ keys) (sym (map-append key_of (rows_at rows (along slots is filled).0) (row ∷ [])) ∙ ap (map key_of) (sym (rows_at-push rows (along slots is filled).0 slot row here))),
          )

  -- at the end all are added
  pub along-end : (before added : List K) (slots : List ℕ) → IsThread links ends slots → AreFilled rows slots → (now : Option ℕ) → now ≡ None → IsAlong before added now
      → added ≡ before ++ map key_of (rows_at rows slots)
  along-end before added slots is filled now now_is along =
      let it = along slots is filled in
      it.4 ∙ ap (λ l. before ++ map key_of (rows_at rows l)) (sym (it.2 ∙ ap (λ l. it.0 ++ l) (none-left it.1 (sym it.3 ∙ now_is)) ∙ append-nil it.0))

  -- where a slot is left, more are to be added
  pub along-more : (before added : List K) (slot : ℕ) (slots : List ℕ) → IsThread links ends slots → AreFilled rows slots → (now : Option ℕ) → now ≡ Some slot → IsAlong before added now
      → length added + 1 ≤ length before + length (map key_of (rows_at rows slots))
  along-more before added slot slots is filled now now_is along =
      go (along slots is filled).1 (along slots is filled).2 (sym now_is ∙ (along slots is filled).3)
    where
      go : (rest : List ℕ) → slots ≡ (along slots is filled).0 ++ rest → Some slot ≡ head_or None rest → length added + 1 ≤ length before + length (map key_of (rows_at rows slots))
      go [] at none = absurd (none-some slot (sym none))
      go (x ∷ rest) at first =
          let it = along slots is filled in
          let in_all : is_in x slots ≡ true = ap (is_in x) at ∙ in_right x it.0 (x ∷ rest) (is_in-here x rest) in
          let row = filled x in_all in
          let all : rows_at rows slots ≡ rows_at rows it.0 ++ row.0 ∷ rows_at rows rest = ap (rows_at rows) at ∙ rows_at-split rows it.0 x rest row.0 row.1 in
          let counted = ap (λ (l : List T). length (map key_of l)) all ∙ ap length (map-append key_of (rows_at rows it.0) (row.0 ∷ rows_at rows rest)) ∙ length-append (map key_of (rows_at rows it.0)) (map key_of (row.0 ∷ rows_at rows rest)) in
          let so_far = ap length it.4 ∙ length-append before (map key_of (rows_at rows it.0)) in
          omega arith

  -- what is next is a slot of the thread
  pub along-there : (before added : List K) (slot : ℕ) (slots : List ℕ) → IsThread links ends slots → AreFilled rows slots → (now : Option ℕ) → now ≡ Some slot → IsAlong before added now
      → (row : T) × (rows slot ≡ Some row)
  along-there before added slot slots is filled now now_is along =
      go (along slots is filled).1 (along slots is filled).2 (sym now_is ∙ (along slots is filled).3)
    where
      go : (rest : List ℕ) → slots ≡ (along slots is filled).0 ++ rest → Some slot ≡ head_or None rest → (row : T) × (rows slot ≡ Some row)
      go [] at none = absurd (none-some slot (sym none))
      go (x ∷ rest) at first =
          filled slot (ap (is_in slot) at ∙ in_right slot (along slots is filled).0 (x ∷ rest) (ap (λ n. is_in slot (n ∷ rest)) (sym (same_Some slot x first)) ∙ is_in-here slot rest))
