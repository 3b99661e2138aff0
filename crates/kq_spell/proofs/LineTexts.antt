-- The canonical text, piece by piece.
use Rattle.std.proofs.Common.{◌≡◌, ℕ, zero, suc, ◌+◌, ◌<◌, ◌≤◌, ℤ, pos, negsuc, Bool, true, false, List, [], ◌∷◌, ◌++◌, length, take, drop, get_or, codes, decimal, refl, sym, ap, ◌∙◌, subst, add-one, append_assoc, append-nil, arith, drop-cons, drop_of_length-le}
use Rattle.std.proofs.lemmas.Int.{ints}
use Rattle.std.proofs.lemmas.List.{drop_all, take_all}
use Rattle.std.specs.Fmt.{signed_decimal}
use Rattle.std.specs.Int.{w64}
use Rattle.std.specs.Int.RustNames.{FitsSigned}
use Rattle.json.specs.Print.{escape, escape_byte}
use Rattle.serde_json.specs.Find.{of_integer}
use Rattle.serde_json.specs.Written.{comma_if, compact_text, number_text}
use Rattle.kq_model.specs.declared.change.Change.{Change}
use Rattle.kq_model.specs.declared.event.Event.{Event}
use Rattle.kq_model.specs.declared.filter.Filter.{Filter}
use Rattle.kq_model.specs.declared.filter.Filter.TheVariants.{Read, Write, Vnode, Proc as ProcFilter, Signal, Timer, User, Aio, Lio, Fs, Procdesc, Sendfile, Empty}
use Rattle.kq_model.specs.Names.{filter_name}
use Rattle.kq_model.specs.Spelling.{change_data, flags_data, header_data, integer, line_text, natural, record_data, records_text, spelling}
use Rattle.kq_text.specs.Adds.{Adds}
use Rattle.kq_spell.specs.Again.{FitsChange, FitsChanges, FitsInteger}
use Rattle.kq_spell.specs.Texts.{changes_text}

-- ---- a change

number_text-of_integer : (z : ℤ) → number_text (of_integer z) ≡ signed_decimal z
number_text-of_integer (pos n) = refl
number_text-of_integer (negsuc n) = refl

pub integer_text : (z : ℤ) → compact_text (integer z) ≡ signed_decimal z
unfolding integer
integer_text z = number_text-of_integer z

-- a filter's name has nothing to escape
escape-filter_name : (f : Filter) → escape (filter_name f) ≡ filter_name f
unfolding escape_byte
escape-filter_name Read = refl
escape-filter_name Write = refl
escape-filter_name Vnode = refl
escape-filter_name ProcFilter = refl
escape-filter_name Signal = refl
escape-filter_name Timer = refl
escape-filter_name User = refl
escape-filter_name Aio = refl
escape-filter_name Lio = refl
escape-filter_name Fs = refl
escape-filter_name Procdesc = refl
escape-filter_name Sendfile = refl
escape-filter_name Empty = refl

pub change_text : (c : Change) → compact_text (change_data c)
    ≡ codes "{\"data\":" ++ (signed_decimal c.datum ++ (codes ",\"fflags\":" ++ (decimal c.fflags
    ++ (codes ",\"filter\":\"" ++ (filter_name c.filter ++ (codes "\",\"flags\":" ++ (compact_text (flags_data c.flags)
    ++ (codes ",\"ident\":" ++ (decimal c.ident ++ (codes ",\"udata\":" ++ (decimal c.udata ++ codes "}")))))))))))
unfolding change_data natural integer escape_byte
change_text c = simp (number_text-of_integer, escape-filter_name, append_assoc)

pub integer_fits : (z : ℤ) → FitsSigned w64 z → FitsInteger z
integer_fits (pos n) fits = omega (arith, ints, fits)
integer_fits (negsuc n) fits = omega (arith, ints, fits)

-- ---- changes, one at a time

pub change_taken : (later : Bool) (cs : List Change) (i : ℕ) (d : Change) (old new : List ℕ) → i < length cs
    → Adds old (comma_if later ++ compact_text (change_data (get_or cs i d))) new
    → new ++ changes_text true (drop (i + 1) cs) ≡ old ++ changes_text later (drop i cs)
unfolding changes_text
change_taken later cs i d old new lt is = rw (is.is, add-one, drop-cons cs i d) (simp append_assoc)

pub changes_ended : (later : Bool) (cs : List Change) (i : ℕ) (first out new : List ℕ) → length cs ≤ i
    → out ++ changes_text later (drop i cs) ≡ first ++ changes_text false cs → Adds out (93 ∷ []) new
    → Adds first (changes_text false cs) new
unfolding changes_text
changes_ended later cs i first out new past kept end =
    let none : drop i cs ≡ [] = drop_of_length-le cs past in
    let closed : changes_text later (drop i cs) ≡ 93 ∷ [] = rw none refl in
    record { is = end.is ∙ ap (λ l. out ++ l) (sym closed) ∙ kept }

more : (changes : List Change) (i : ℕ) (d : Change) → i < length changes
    → FitsChanges (take i changes) → FitsChange (get_or changes i d) → FitsChanges (take (suc i) changes)
more [] i d lt so_far new = absurd (omega arith)
more (c ∷ cs) zero d lt so_far new = (new, tt)
more (c ∷ cs) (suc i) d lt so_far new = (so_far.0, more cs i d (omega arith) so_far.1 new)

pub changes_fit_more : (changes : List Change) (i : ℕ) (d : Change) → i < length changes
    → FitsChanges (take i changes) → FitsChange (get_or changes i d) → FitsChanges (take (i + 1) changes)
changes_fit_more changes i d lt so_far new = rw (add-one i) (more changes i d lt so_far new)

pub changes_fit_all : (changes : List Change) (i : ℕ) → length changes ≤ i → FitsChanges (take i changes) → FitsChanges changes
changes_fit_all changes i end so_far = subst FitsChanges (take_all i changes end) so_far

-- ---- lines

pub header_line : (version : ℕ) → line_text (header_data version) ≡ codes "{\"kqsim\":" ++ (decimal version ++ codes "}\n")
unfolding header_data natural line_text escape_byte
header_line version = simp append_assoc

-- ---- the text, a line at a time

pub text_begins : (version : ℕ) (events : List Event) (empty text : List ℕ) → empty ≡ [] → Adds empty (line_text (header_data version)) text
    → spelling version events ≡ text ++ records_text events
unfolding spelling
text_begins version events empty text none header = rw (header.is, none) refl

pub text_goes_on : (events : List Event) (i : ℕ) (event : Event) (whole text after : List ℕ)
    → i < length events → event ≡ get_or events i event → Adds text (line_text (record_data event)) after
    → whole ≡ text ++ records_text (drop i events) → whole ≡ after ++ records_text (drop (i + 1) events)
unfolding records_text
text_goes_on events i event whole text after lt is added so_far =
    so_far ∙ ap (λ es. text ++ records_text es) (drop-cons events i event lt)
    ∙ ap (λ e. text ++ (line_text (record_data e) ++ records_text (drop (suc i) events))) (sym is)
    ∙ sym (append_assoc text (line_text (record_data event)) (records_text (drop (suc i) events)))
    ∙ rw (sym added.is, add-one i) refl

pub text_ends : (events : List Event) (i : ℕ) (whole text : List ℕ) → length events ≤ i
    → whole ≡ text ++ records_text (drop i events) → text ≡ whole
unfolding records_text
text_ends events i whole text end so_far =
    sym (so_far ∙ ap (λ es. text ++ records_text es) (drop_all i events end) ∙ append-nil text)
