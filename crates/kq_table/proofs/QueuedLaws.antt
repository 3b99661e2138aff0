-- The queue of slots, when one is put in, when one is taken out, and when one is taken to its front.
use Rattle.std.proofs.Common.{◌≡◌, ℕ, ◌+◌, ◌-◌, true, false, cond, ◌||◌, eqb, List, [], ◌∷◌, ◌++◌, length, length-append, Option, Some, None, is_some, refl, sym, ap, ◌∙◌, subst, arith}
use Rattle.std.proofs.lemmas.Bool.{or_left, false_from_ne_true}
use Rattle.std.proofs.lemmas.Option.{none-some}
use Rattle.std.specs.Option.{option_map}
use Rattle.kq_table.specs.declared.node.Ends.{Ends}
use Rattle.kq_table.specs.declared.node.Links.{Links}
use Rattle.kq_table.specs.Threads.{is_at, is_in, without_slot, with_after, with_before, IsQueue, written, put_first, put_last, ends_led, ends_with, passed_over, ends_past}
use Rattle.kq_table.proofs.RowLaws.{by_test}
use Rattle.kq_table.proofs.MoveLaws.{left-other, read-other}
use Rattle.kq_table.proofs.ThreadLaws.{in_left, in_right, IsThread-at, IsThread-same, IsThread-push, IsThread-lead}
use Rattle.kq_table.proofs.WithoutLaws.{without-absent, without-gone, without-in, without-in_from, length-without, IsThread-without}

-- what is linked stays linked, and nothing else comes to be
some-after : (at after : Option ℕ) (f : ℕ → Option Links) (t : ℕ) → is_some (with_after at after f t) ≡ is_some (f t)
some-after at after f t =
    by_test (λ b. is_some (cond b (option_map (λ (l : Links). record l { after = after }) (f t)) (f t)) ≡ is_some (f t)) (is_at at t)
    (λ _. one (f t)) (λ _. refl)
  where
    one : (o : Option Links) → is_some (option_map (λ (l : Links). record l { after = after }) o) ≡ is_some o
    one None = refl
    one (Some l) = refl

some-before : (at before : Option ℕ) (f : ℕ → Option Links) (t : ℕ) → is_some (with_before at before f t) ≡ is_some (f t)
some-before at before f t =
    by_test (λ b. is_some (cond b (option_map (λ (l : Links). record l { before = before }) (f t)) (f t)) ≡ is_some (f t)) (is_at at t)
    (λ _. one (f t)) (λ _. refl)
  where
    one : (o : Option Links) → is_some (option_map (λ (l : Links). record l { before = before }) o) ≡ is_some o
    one None = refl
    one (Some l) = refl

some-past : (o : Option Links) (f : ℕ → Option Links) (t : ℕ) → is_some (passed_over o f t) ≡ is_some (f t)
some-past None f t = refl
some-past (Some l) f t = some-before l.after l.before (with_after l.before l.after f) t ∙ some-after l.before l.after f t

some-first : (first : Option ℕ) (s : ℕ) (f : ℕ → Option Links) (t : ℕ) → eqb t s ≡ false → is_some (put_first first s f t) ≡ is_some (f t)
some-first first s f t apart =
    let at : Option Links = Some (record { before = None; after = first }) in
    some-before first (Some s) (written s at f) t ∙ ap is_some (read-other s t at f apart)

module _ (f : ℕ → Option Links) (e : Ends) (waits : List ℕ) (waiting slot : ℕ) where
  pub IsQueue-push : is_in slot waits ≡ false → IsQueue f e waits waiting → IsQueue (put_last e.last slot f) (ends_with slot e) (waits ++ slot ∷ []) (waiting + 1)
  IsQueue-push out is = record {
    thread = IsThread-push f e waits slot is.thread out;
    whole = λ t some.
        by_test (λ b. eqb t slot ≡ b → is_in t (waits ++ slot ∷ []) ≡ true) (eqb t slot)
        (λ _ here. in_right t waits (slot ∷ []) (or_left (eqb t slot) false here))
        (λ _ apart. in_left t waits (slot ∷ []) (is.whole t (ap is_some (sym (read-other slot t (Some (record { before = e.last; after = None })) f apart))
        ∙ sym (some-after e.last (Some slot) (written slot (Some (record { before = e.last; after = None })) f) t) ∙ some))) refl;
    counted = let counted = is.counted in let many = length-append waits (slot ∷ []) in omega arith;
  }

  pub IsQueue-out : (l : Links) → f slot ≡ Some l → IsQueue f e waits waiting → IsQueue (written slot None (passed_over (f slot) f)) (ends_past (f slot) e) (without_slot slot waits) (waiting - 1)
  IsQueue-out l here is =
      let there = is.whole slot (ap is_some here) in
      let fewer = length-without slot waits is.thread.distinct there in
      record {
        thread = IsThread-same (passed_over (f slot) f) (written slot None (passed_over (f slot) f)) (ends_past (f slot) e) (without_slot slot waits)
            (λ t in_l. read-other slot t None (passed_over (f slot) f) (without-in slot t waits in_l).1) (IsThread-without f e waits slot is.thread there);
        whole = λ t some.
            let both = left-other slot t (passed_over (f slot) f) some in
            without-in_from slot t waits (is.whole t (sym (some-past (f slot) f t) ∙ both.1)) both.0;
        counted = let counted = is.counted in omega arith;
      }

  pub IsQueue-first : is_in slot waits ≡ true → IsQueue f e waits waiting
      → IsQueue (put_first (ends_past (f slot) e).first slot (passed_over (f slot) f)) (ends_led slot (ends_past (f slot) e)) (slot ∷ without_slot slot waits) waiting
  IsQueue-first there is =
      let past = passed_over (f slot) f in
      let ends = ends_past (f slot) e in
      let left = without_slot slot waits in
      record {
        thread = IsThread-lead past ends left slot (IsThread-without f e waits slot is.thread there) (without-gone slot waits);
        whole = λ t some.
            by_test (λ b. eqb t slot ≡ b → (b || is_in t left) ≡ true) (eqb t slot)
            (λ _ _. refl)
            (λ _ apart. without-in_from slot t waits (is.whole t (sym (some-past (f slot) f t) ∙ sym (some-first ends.first slot past t apart) ∙ some)) apart) refl;
        counted = let counted = is.counted in let fewer = length-without slot waits is.thread.distinct there in omega arith;
      }

  pub IsQueue-absent : f slot ≡ None → IsQueue f e waits waiting → IsQueue f e (without_slot slot waits) waiting
  IsQueue-absent none is =
      let out = false_from_ne_true (is_in slot waits) (λ there. let at = IsThread-at f e waits slot is.thread there in none-some at.0 (sym none ∙ at.1)) in
      subst (λ l. IsQueue f e l waiting) (sym (without-absent slot waits out)) is
