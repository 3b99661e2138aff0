-- A tally answers what the definitions of version 1 ask of all that a knote heard, as it answers the present ones.
use Rattle.std.proofs.Common.{◌≡◌, ℕ, ◌+◌, min, ◌&&◌, not, true, List, [], ◌∷◌, ◌++◌, length, eqb, refl, sym, ap, ◌∙◌}
use Rattle.std.proofs.lemmas.Bool.{true≢false}
use Rattle.std.proofs.lemmas.List.{length-append}
use Rattle.std.specs.Int.RustNames.{bit_or}
use Rattle.std.specs.List.{fold}
use Rattle.kq_model.specs.declared.filter.Filter.{Filter}
use Rattle.kq_model.specs.declared.filter.Filter.TheVariants.{Signal, Timer}
use Rattle.kq_model.specs.declared.object.Hint.{Hint}
use Rattle.kq_model.specs.declared.object.Hint.TheVariants.{Readable, Writable, Note, Delivered, Child}
use Rattle.kq_model.specs.Hearing.{Occurrence, Told, Expired, is_counted, counted_in, notes_of, most_counted}
use Rattle.kq_model.specs.Tallying.{Tally, tallying}
use Rattle.kq_model.specs.Hints.{takes}
use Rattle.kq_model.specs.Recast.{IsHearingMap, has_other}
use Rattle.kq_model.specs.VersionOne as one
use Rattle.kq_model.proofs.RecastTally.{count_with, counted-more, counted-once, counts_none, heard-more, kept-told, tally_by}

-- a SIGNAL and a TIMER hear only what is counted
abbrev number_of : Filter → List Occurrence → ℕ
number_of Signal xs = length xs
number_of Timer xs = length xs
number_of _ xs = counted_in xs

abbrev pub tally_one : Filter → List Occurrence → Tally
tally_one filter xs = tally_by (number_of filter) filter xs

length-more : (xs : List Occurrence) (x : Occurrence) → length (xs ++ x ∷ []) ≡ length xs + 1
length-more xs x = length-append xs (x ∷ [])

told-more : (filter : Filter) (hint : Hint) (xs : List Occurrence) → takes filter hint ≡ true
    → number_of filter (xs ++ Told hint ∷ []) ≡ count_with (is_counted (Told hint)) (number_of filter xs)
unfolding takes
told-more Signal Delivered xs taken = length-more xs (Told Delivered)
told-more Signal _ xs taken = absurd (true≢false (sym taken))
told-more Timer hint xs taken = absurd (true≢false (sym taken))
told-more _ hint xs taken = counted-more xs (Told hint)

expired-more : (filter : Filter) (xs : List Occurrence) → number_of filter (xs ++ Expired ∷ []) ≡ number_of filter xs + 1
expired-more Signal xs = length-more xs Expired
expired-more Timer xs = length-more xs Expired
expired-more _ xs = counted-more xs Expired

same-notes : (x : Occurrence) → notes_of x ≡ one.notes_of x
unfolding notes_of one.notes_of
same-notes (Told (Note bits)) = refl
same-notes (Told Readable) = refl
same-notes (Told Writable) = refl
same-notes (Told Delivered) = refl
same-notes (Told (Child pid)) = refl
same-notes Expired = refl

same-union : (bits : ℕ) (xs : List Occurrence)
    → fold (λ bits x. bit_or bits (notes_of x)) bits xs ≡ fold (λ bits x. bit_or bits (one.notes_of x)) bits xs
same-union bits [] = refl
same-union bits (x ∷ xs) =
    same-union (bit_or bits (notes_of x)) xs
    ∙ ap (λ n. fold (λ bits x. bit_or bits (one.notes_of x)) (bit_or bits n) xs) (same-notes x)

silent-one : (xs : List Occurrence)
    → eqb (min (counted_in xs) most_counted) 0 && not (has_other xs && true) ≡ one.is_none_of xs
unfolding one.is_none_of
silent-one [] = counts_none []
silent-one (x ∷ xs) = counts_none (x ∷ xs)

pub one-map : IsHearingMap one.listed tallying tally_one
one-map = record {
  empty = empty;
  told = λ filter hint xs taken.
      heard-more (number_of filter) filter (Told hint) xs (told-more filter hint xs taken) (kept-told filter hint taken);
  expired = λ filter xs. heard-more (number_of filter) filter Expired xs (expired-more filter xs) refl;
  deliveries = λ xs. counted-once (length xs);
  expirations = λ xs. counted-once (length xs);
  notes = λ filter xs. same-union 0 xs;
  is_empty = silent-one;
}
  where
    empty : (filter : Filter) → tally_one filter [] ≡ tallying.empty
    empty Signal = refl
    empty Timer = refl
    empty _ = refl
