-- Texts, cut at their first line feed.
use Rattle.std.proofs.Common.{◌≡◌, ◌∙◌, ℕ, zero, suc, ◌+◌, ◌-◌, ◌<◌, ◌≤◌, Bool, true, false, ◌==◌, ◌||◌, cond, List, [], ◌∷◌, ◌++◌, length, take, drop, get_or, min, refl, sym, ap, arith, drop-cons, true≢false, Option, None, Some, append-nil, append_assoc, length-append, add-one, take_all, drop_of_length-le, inl, inr, subst}
use Rattle.std.proofs.lemmas.List.{drop-take, take-append-drop, take_min}
use Rattle.std.proofs.lemmas.Bool.{eqb-true}
use Rattle.std.proofs.lemmas.List.Folds.{list_any-append}
use Rattle.std.proofs.lemmas.Grind.{common_steps}
use Rattle.std.specs.Io.KnownBytes.{Consumes, IsAtEnd, Keeps, prepend_known}
use Rattle.std.proofs.KnownBytes.{Consumes-kept, Consumes-nil, Consumes-trans}
use Rattle.kq_model.specs.Lines.{line_feed, onto_first, pieces_of, without_empty_end}
use Rattle.kq_input.specs.Unread.{HasMore, IsLastLine, IsNextLine, LinesState, TookLine, TookPart, has_line_feed, lines_left}

-- ---- texts without a line feed

pub plain-append : (a b : List ℕ) → has_line_feed a ≡ false → has_line_feed b ≡ false → has_line_feed (a ++ b) ≡ false
plain-append a b first second = rw (list_any-append (λ c. c == line_feed) a b, first) second

-- no line feed stands below this place
abbrev pub NoneBelow : List ℕ → ℕ → Type 0
NoneBelow text k = (j : ℕ) → j < k → (get_or text j 0 == 10) ≡ true → ⊥

not_true : (b : Bool) → (b ≡ true → ⊥) → b ≡ false
not_true true h = absurd (h refl)
not_true false h = refl

pub plain_front : (text : List ℕ) (k : ℕ) → NoneBelow text k → has_line_feed (take k text) ≡ false
plain_front text zero none = refl
plain_front [] (suc k) none = refl
plain_front (b ∷ bs) (suc k) none =
    rw (not_true _ (none 0 (omega arith))) (plain_front bs k (λ j lt e. none (suc j) (omega (arith, lt)) e))

-- a text at the place of a line feed
pub split_at : (text : List ℕ) (k : ℕ) → k < length text → (get_or text k 0 == 10) ≡ true → text ≡ take k text ++ 10 ∷ drop (suc k) text
split_at text k lt here =
    sym (take-append-drop k text) ∙ ap (λ l. take k text ++ l) (drop-cons text k 0 lt)
    ∙ ap (λ b. take k text ++ b ∷ drop (suc k) text) (eqb-true (get_or text k 0) 10 here)

-- ---- the lines of a text whose first line is this one

or_false : (p q : Bool) → (p || q) ≡ false → (p ≡ false) × (q ≡ false)
or_false true q none = absurd (true≢false none)
or_false false q none = (refl, none)

no_feed : (b : ℕ) (bs : List ℕ) → has_line_feed (b ∷ bs) ≡ false → (b == 10) ≡ false
no_feed b bs plain = (or_false (b == 10) (has_line_feed bs) plain).0

no_feed_behind : (b : ℕ) (bs : List ℕ) → has_line_feed (b ∷ bs) ≡ false → has_line_feed bs ≡ false
no_feed_behind b bs plain = (or_false (b == 10) (has_line_feed bs) plain).1

pub cut : (line rest : List ℕ) → has_line_feed line ≡ false → pieces_of (line ++ 10 ∷ rest) ≡ line ∷ pieces_of rest
unfolding pieces_of onto_first
cut [] rest plain = refl
cut (b ∷ bs) rest plain = rw (no_feed b bs plain, cut bs rest (no_feed_behind b bs plain)) refl

pub uncut : (line : List ℕ) → has_line_feed line ≡ false → pieces_of line ≡ line ∷ []
unfolding pieces_of onto_first
uncut [] plain = refl
uncut (b ∷ bs) plain = rw (no_feed b bs plain, uncut bs (no_feed_behind b bs plain)) refl

some_onto : (b : ℕ) (pieces : List (List ℕ)) → (q : List ℕ) × (qs : List (List ℕ)) × (onto_first b pieces ≡ q ∷ qs)
unfolding onto_first
some_onto b [] = (b ∷ [], [], refl)
some_onto b (piece ∷ pieces) = (b ∷ piece, pieces, refl)

some_if : (c : Bool) (b : ℕ) (pieces : List (List ℕ)) → (q : List ℕ) × (qs : List (List ℕ)) × (cond c ([] ∷ pieces) (onto_first b pieces) ≡ q ∷ qs)
some_if true b pieces = ([], pieces, refl)
some_if false b pieces = some_onto b pieces

some_piece : (text : List ℕ) → (q : List ℕ) × (qs : List (List ℕ)) × (pieces_of text ≡ q ∷ qs)
unfolding pieces_of
some_piece [] = ([], [], refl)
some_piece (b ∷ bs) = some_if (b == 10) b (pieces_of bs)

keeps_at : (piece q : List ℕ) (qs : List (List ℕ)) → without_empty_end (piece ∷ q ∷ qs) ≡ piece ∷ without_empty_end (q ∷ qs)
unfolding without_empty_end
keeps_at [] q qs = refl
keeps_at (b ∷ bs) q qs = refl

ends_behind : (piece text : List ℕ) → without_empty_end (piece ∷ pieces_of text) ≡ piece ∷ without_empty_end (pieces_of text)
ends_behind piece text = let some = some_piece text in rw some.2 (keeps_at piece some.0 some.1)

-- a line that a line feed ends
pub line_then : (line rest : List ℕ) → has_line_feed line ≡ false → lines_left (line ++ 10 ∷ rest) ≡ line ∷ lines_left rest
unfolding lines_left
line_then line rest plain = rw (cut line rest plain) (ends_behind line rest)

alone : (line : List ℕ) → 0 < length line → without_empty_end (line ∷ []) ≡ line ∷ []
unfolding without_empty_end
alone [] some = absurd (omega (arith, some))
alone (b ∷ bs) some = refl

-- one that the end of the text ends
pub last_line : (line : List ℕ) → 0 < length line → has_line_feed line ≡ false → lines_left line ≡ line ∷ lines_left []
unfolding lines_left pieces_of without_empty_end
last_line line some plain = rw (uncut line plain) (alone line some)

-- ---- what is kept of a line

pub kept_twice : (most : ℕ) (line piece : List ℕ) → take most (take most line ++ piece) ≡ take most (line ++ piece)
kept_twice zero line piece = refl
kept_twice (suc most) [] piece = refl
kept_twice (suc most) (b ∷ bs) piece = ap (λ l. b ∷ l) (kept_twice most bs piece)

pub kept_with : (most room : ℕ) (line piece : List ℕ) → length line + room ≡ most
    → line ++ take (min (length piece) room) piece ≡ take most (line ++ piece)
kept_with most room [] piece full =
    let same : min (length piece) room ≡ min most (length piece) = omega (arith, full) in
    rw same (take_min most piece)
kept_with zero room (b ∷ bs) piece full = absurd (omega (arith, full))
kept_with (suc most) room (b ∷ bs) piece full = ap (λ l. b ∷ l) (kept_with most room bs piece (omega (arith, full)))

-- ---- what one read brought

drop_twice : (from count : ℕ) (text : List ℕ) → drop count (drop from text) ≡ drop (from + count) text
drop_twice from count text = grind (arith, common_steps)

pub skipped : (text : List ℕ) (from to count : ℕ) → count ≤ to - from → from ≤ to
    → take (to - (from + count)) (drop (from + count) text) ≡ drop count (take (to - from) (drop from text))
skipped text from to count within ordered =
    let left = to - (from + count) in
    let all : to - from ≡ count + left = omega (arith, within, ordered) in
    rw (all, drop-take count left (drop from text)) (ap (take left) (sym (drop_twice from count text)))

-- ---- a line that comes piece by piece

-- these bytes of a line came, some where this is not the first turn
pub record HasSoFar (most : ℕ) (before now : Option (List ℕ)) (line : List ℕ) (some : Bool) : Type 0 where
  pub took : TookPart most before now line
  pub none : some ≡ false → took.part ≡ []
  pub any : some ≡ true → 0 < length took.part

none_kept : (most : ℕ) → take {A = ℕ} most [] ≡ []
none_kept zero = refl
none_kept (suc most) = refl

pub nothing_yet : (most : ℕ) (given : Option (List ℕ)) → HasSoFar most given given [] false
nothing_yet most given = record {
  took = record { part = []; plain = refl; gone = Consumes-nil given; kept = sym (none_kept most) };
  none = λ _. refl;
  any = λ is. absurd (true≢false (sym is));
}

-- a read brought nothing new
pub took_kept : (most : ℕ) (before now later : Option (List ℕ)) (line : List ℕ) → TookPart most before now line → Keeps now later
    → TookPart most before later line
took_kept most before now later line took same = record {
  part = took.part;
  plain = took.plain;
  gone = Consumes-kept before now later took.part took.gone same;
  kept = took.kept;
}

pub kept_on : (most : ℕ) (before now later : Option (List ℕ)) (line new : List ℕ) (some : Bool) → HasSoFar most before now line some → Keeps now later
    → new ≡ line → HasSoFar most before later new some
unfolding took_kept
kept_on most before now later line new some so_far same is =
    subst (λ l. HasSoFar most before later l some) (sym is)
    (record { took = took_kept most before now later line so_far.took same; none = so_far.none; any = so_far.any })

-- the first bytes of those that waited were taken
waited_gone : (input : Option (List ℕ)) (old new front : List ℕ) → old ≡ front ++ new → Consumes (prepend_known old input) (prepend_known new input) front
waited_gone None old new front is = tt
waited_gone (Some rest) old new front is = ap (λ w. w ++ rest) is ∙ append_assoc front new rest

kept_more : (most : ℕ) (came line piece new : List ℕ) → line ≡ take most came → new ≡ take most (line ++ piece) → new ≡ take most (came ++ piece)
kept_more most came line piece new was is = is ∙ ap (λ l. take most (l ++ piece)) was ∙ kept_twice most came piece

-- all that waited went behind the line
pub goes_on : (most : ℕ) (before input : Option (List ℕ)) (some : Bool) (old new : LinesState)
    → HasSoFar most before (prepend_known old.waiting input) old.line some → 0 < length old.waiting → HasMore most old new false
    → HasSoFar most before (prepend_known new.waiting input) new.line true
goes_on most before input some old new so_far waited added =
    let all = added.whole refl in
    let took = so_far.took in
    let is : old.waiting ≡ added.piece ++ new.waiting = all.0 ∙ sym (append-nil added.piece) ∙ ap (λ w. added.piece ++ w) (sym all.1) in
    record {
      took = record {
        part = took.part ++ added.piece;
        plain = plain-append took.part added.piece took.plain added.plain;
        gone = Consumes-trans before (prepend_known old.waiting input) (prepend_known new.waiting input) took.part added.piece took.gone
            (waited_gone input old.waiting new.waiting added.piece is);
        kept = kept_more most took.part old.line added.piece new.line took.kept added.kept;
      };
      none = λ is. absurd (true≢false is);
      any = λ _. omega (arith, length-append took.part added.piece, waited, ap length all.0);
    }

-- the line feed came
pub line_came : (most : ℕ) (before input : Option (List ℕ)) (some : Bool) (old new : LinesState)
    → HasSoFar most before (prepend_known old.waiting input) old.line some → HasMore most old new true
    → TookLine most before (prepend_known new.waiting input) new.line
line_came most before input some old new so_far added =
    let took = so_far.took in
    let whole = took.part ++ added.piece in
    let end : List ℕ = added.piece ++ 10 ∷ [] in
    let is : old.waiting ≡ end ++ new.waiting = added.closed refl ∙ sym (append_assoc added.piece (10 ∷ []) new.waiting) in
    record {
      whole = whole;
      plain = plain-append took.part added.piece took.plain added.plain;
      gone = inl (subst (Consumes before (prepend_known new.waiting input)) (sym (append_assoc took.part added.piece (10 ∷ [])))
          (Consumes-trans before (prepend_known old.waiting input) (prepend_known new.waiting input) took.part end took.gone
          (waited_gone input old.waiting new.waiting end is)));
      kept = kept_more most took.part old.line added.piece new.line took.kept added.kept;
    }

-- the input ended behind some bytes
pub last_came : (most : ℕ) (before now : Option (List ℕ)) (line : List ℕ) (some : Bool) → HasSoFar most before now line some → IsAtEnd now
    → some ≡ true → TookLine most before now line
last_came most before now line some so_far end any =
    let took = so_far.took in
    record { whole = took.part; plain = took.plain; gone = inr (so_far.any any, took.gone, end); kept = took.kept }

-- what was taken is the first line that was left
pub line_taken : (most : ℕ) (text rest line : List ℕ) → (took : TookLine most (Some text) (Some rest) line) → lines_left text ≡ took.whole ∷ lines_left rest
line_taken most text rest line took =
    elim took.gone [
      | inl gone ↦ ap lines_left (gone ∙ append_assoc took.whole (10 ∷ []) rest) ∙ line_then took.whole rest took.plain
      | inr last ↦ ap lines_left (last.1 ∙ ap (λ l. took.whole ++ l) last.2 ∙ append-nil took.whole) ∙ last_line took.whole last.0 took.plain
          ∙ ap (λ l. took.whole ∷ lines_left l) (sym last.2)
    ]

pub next_line : (most : ℕ) (before now : Option (List ℕ)) (line : List ℕ) → TookLine most before now line → IsNextLine most before now line
next_line most None now line took = tt
next_line most (Some text) None line took = elim took.gone [ inl gone ↦ absurd gone | inr last ↦ absurd last.1 ]
next_line most (Some text) (Some rest) line took = (took.whole, line_taken most text rest line took, took.kept)

-- the input had ended
no_bytes : (before now : Option (List ℕ)) (part : List ℕ) → Consumes before now part → part ≡ [] → Keeps before now
no_bytes None now part gone none = tt
no_bytes (Some text) None part gone none = absurd gone
no_bytes (Some text) (Some rest) part gone none = sym (gone ∙ ap (λ p. p ++ rest) none)

pub nothing_came : (most : ℕ) (before now : Option (List ℕ)) (line : List ℕ) (some : Bool) → HasSoFar most before now line some → some ≡ false → Keeps before now
nothing_came most before now line some so_far none = no_bytes before now so_far.took.part so_far.took.gone (so_far.none none)

pub none_left : (before now : Option (List ℕ)) → Keeps before now → IsAtEnd now → IsLastLine before now
none_left None now same end = (tt, end)
none_left (Some text) None same end = absurd same
none_left (Some text) (Some rest) same end = (sym same ∙ end, end)

pub no_line : (most : ℕ) (before now : Option (List ℕ)) (line : List ℕ) (some : Bool) → HasSoFar most before now line some → some ≡ false → line ≡ []
no_line most before now line some so_far none = so_far.took.kept ∙ ap (take most) (so_far.none none) ∙ none_kept most

-- behind a line feed fewer bytes wait than came with it
pub fewer_wait : (most : ℕ) (old new : LinesState) (room : ℕ) → HasMore most old new true → length old.waiting ≤ room → length new.waiting < room
fewer_wait most old new room added few =
    omega (arith, few, ap length (added.closed refl), length-append added.piece (10 ∷ new.waiting))

-- ---- where the line feed is in what waits

pub found : (most : ℕ) (line waiting came new left : List ℕ) (end : ℕ) → came ≡ waiting → end < length came → NoneBelow came end
    → (get_or came end 0 == 10) ≡ true → new ≡ take most (line ++ take end came) → left ≡ drop (end + 1) waiting
    → HasMore most (record { line = line; waiting = waiting }) (record { line = new; waiting = left }) true
found most line waiting came new left end same lt none here kept skipped = record {
  piece = take end came;
  plain = plain_front came end none;
  kept = kept;
  closed = λ _. sym same ∙ split_at came end lt here ∙ ap (λ l. take end came ++ 10 ∷ l) (ap (drop (suc end)) same ∙ ap (λ n. drop n waiting) (sym (add-one end)) ∙ sym skipped);
  whole = λ is. absurd (true≢false is);
}

pub not_found : (most : ℕ) (line waiting came new left : List ℕ) → came ≡ waiting → NoneBelow came (length came)
    → new ≡ take most (line ++ came) → left ≡ drop (length came) waiting
    → HasMore most (record { line = line; waiting = waiting }) (record { line = new; waiting = left }) false
not_found most line waiting came new left same none kept skipped = record {
  piece = came;
  plain = ap has_line_feed (sym (take_all (length came) came (omega arith))) ∙ plain_front came (length came) none;
  kept = kept;
  closed = λ is. absurd (true≢false (sym is));
  whole = λ _. (sym same, skipped ∙ drop_of_length-le waiting (omega (arith, ap length same)));
}
