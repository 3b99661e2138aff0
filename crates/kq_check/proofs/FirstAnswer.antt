-- The first of some answers, by its place.
use Rattle.std.proofs.Common.{◌≡◌, ℕ, ◌<◌, ◌≤◌, ◌-◌, List, take, [], ◌∷◌, length, drop, get_or, Some, None, refl, sym, ap, ◌∙◌, arith}
use Rattle.std.proofs.lemmas.Bool.{eq-eqb, ne_eqb}
use Rattle.std.proofs.lemmas.List.{take_all}
use Rattle.kq_answers.specs.declared.answer.Answer.{Answer}
use Rattle.kq_check.specs.Replies.{behind_place, given_at}

pub no_answer : (place : ℕ) (answers : List Answer) → length answers ≡ 0 → None ≡ given_at place answers
unfolding given_at
no_answer place [] none = refl
no_answer place (a ∷ answers) none = absurd (omega (arith, none))

pub none_behind : (place : ℕ) (answers : List Answer) → length answers ≡ 0 → answers ≡ behind_place place answers
unfolding behind_place
none_behind place [] none = refl
none_behind place (a ∷ answers) none = absurd (omega (arith, none))

pub other_answer : (place : ℕ) (answers : List Answer) (d : Answer) → (0 < length answers)
    → ((get_or answers 0 d).at ≡ place → ⊥) → None ≡ given_at place answers
unfolding given_at
other_answer place [] d some other = absurd (omega (arith, some))
other_answer place (x ∷ answers) d some other = rw (ne_eqb x.at place other) refl

pub other_behind : (place : ℕ) (answers : List Answer) (d : Answer) → (0 < length answers)
    → ((get_or answers 0 d).at ≡ place → ⊥) → answers ≡ behind_place place answers
unfolding behind_place
other_behind place [] d some other = absurd (omega (arith, some))
other_behind place (x ∷ answers) d some other = rw (ne_eqb x.at place other) refl

pub this_answer : (place : ℕ) (answers : List Answer) (d e : Answer) → 0 < length answers
    → (get_or answers 0 d).at ≡ place → Some (get_or answers 0 e).given ≡ given_at place answers
unfolding given_at
this_answer place [] d e some this = absurd (omega (arith, some))
this_answer place (x ∷ answers) d e some this = rw (eq-eqb x.at place this) refl

pub this_behind : (place : ℕ) (answers : List Answer) (d : Answer) → 0 < length answers
    → (get_or answers 0 d).at ≡ place → take (length answers - 1) (drop 1 answers) ≡ behind_place place answers
unfolding behind_place
this_behind place [] d some this = absurd (omega (arith, some))
this_behind place (x ∷ answers) d some this = rw (eq-eqb x.at place this) (take_all _ answers (omega arith))
