use Rattle.std.proofs.Common.{◌≡◌, ◌∙◌, ◌+◌, ◌<◌, ◌≤◌, ℕ, ℤ, pos, negsuc, Bool, true, false, List, [], ◌∷◌, ◌++◌, map, length, drop, take, get_or, arith, eqb, refl, sym, ap, codes, add-one, append_assoc, append-nil, drop-cons, drop_of_length-le}
use Rattle.std.proofs.lemmas.Bool.{eqb-true}
use Rattle.std.specs.Prelude.{decimal}
use Rattle.std.specs.Fmt.{signed_decimal}
use Rattle.json.specs.Print.{escape, escape_byte}
use Rattle.serde_json.specs.View.{items_of}
use Rattle.serde_json.specs.Written.{comma_if, compact_text, items_text, number_text}
use Rattle.serde_json.specs.Find.{of_integer}
use Rattle.kq_model.specs.declared.kevent.Kevent.{Kevent}
use Rattle.kq_model.specs.declared.filter.Filter.{Filter}
use Rattle.kq_model.specs.declared.filter.Filter.TheVariants.{Read, Write, Vnode, Proc, Signal, Timer, User, Aio, Lio, Fs, Procdesc, Sendfile, Empty}
use Rattle.kq_model.specs.Names.{filter_name, why_name}
use Rattle.kq_model.specs.declared.errno.Errno.{Errno}
use Rattle.kq_model.specs.declared.reply.Reply.TheVariants.{Done, Events, Failed, Impossible}
use Rattle.kq_model.specs.declared.why.Why.{Why}
use Rattle.kq_model.specs.declared.why.Why.TheVariants.{NoProcess, UsedPid, NoDescriptor, UsedDescriptor, WrongKind, Absent, UsedFile, ClockBack, TooMany}
use Rattle.kq_model.specs.Errno.{error_number}
use Rattle.kq_model.specs.Spelling.{flags_data, integer, line_text, natural}
use Rattle.kq_model.specs.Report.{events_data, kevent_data, last_line, reply_line, row_data}
use Rattle.kq_text.specs.Adds.{Adds}
use Rattle.kq_text.specs.Writes.{Writes}
use Rattle.kq_merge.specs.EventsText.{before_flags, events_text}

pub number_text-of_integer : (z : ℤ) → number_text (of_integer z) ≡ signed_decimal z
number_text-of_integer (pos n) = refl
number_text-of_integer (negsuc n) = refl

-- a filter's name has nothing to escape
escape-filter_name : (f : Filter) → escape (filter_name f) ≡ filter_name f
unfolding escape_byte
escape-filter_name Read = refl
escape-filter_name Write = refl
escape-filter_name Vnode = refl
escape-filter_name Proc = refl
escape-filter_name Signal = refl
escape-filter_name Timer = refl
escape-filter_name User = refl
escape-filter_name Aio = refl
escape-filter_name Lio = refl
escape-filter_name Fs = refl
escape-filter_name Procdesc = refl
escape-filter_name Sendfile = refl
escape-filter_name Empty = refl

-- the text of an event, piece by piece
kevent_text : (e : Kevent) → compact_text (kevent_data e)
    ≡ codes "{\"data\":" ++ (signed_decimal e.datum ++ (codes ",\"fflags\":" ++ (decimal e.fflags
    ++ (before_flags e.filter ++ (compact_text (flags_data e.flags)
    ++ (codes ",\"ident\":" ++ (decimal e.ident ++ (codes ",\"udata\":" ++ (decimal e.udata ++ codes "}")))))))))
unfolding kevent_data natural integer escape_byte
kevent_text e = simp (number_text-of_integer, escape-filter_name, append_assoc)

-- the same behind another event, or as the first
pub listed_text : (later : Bool) (e : Kevent) → comma_if later ++ compact_text (kevent_data e)
    ≡ (comma_if later ++ codes "{\"data\":") ++ (signed_decimal e.datum ++ (codes ",\"fflags\":" ++ (decimal e.fflags
    ++ (before_flags e.filter ++ (compact_text (flags_data e.flags)
    ++ (codes ",\"ident\":" ++ (decimal e.ident ++ (codes ",\"udata\":" ++ (decimal e.udata ++ codes "}")))))))))
listed_text later e = ap (λ text. comma_if later ++ text) (kevent_text e) ∙ sym (append_assoc (comma_if later) (codes "{\"data\":") _)

-- a list of events, event by event
events_text-is : (later : Bool) (es : List Kevent) → items_text later (items_of (map kevent_data es)) ≡ events_text later es
unfolding events_text
events_text-is later [] = refl
events_text-is later (e ∷ es) = ap (λ rest. comma_if later ++ (compact_text (kevent_data e) ++ rest)) (events_text-is true es)

-- the line of each answer, piece by piece
regrouped : (a b c d e f : List ℕ) → (a ++ (b ++ (c ++ (d ++ e)))) ++ f ≡ (a ++ b) ++ (c ++ (d ++ (e ++ f)))
regrouped a b c d e f = simp append_assoc

returned_text : (place : ℕ) (es : List Kevent) → compact_text (row_data place (codes "events") (events_data es))
    ≡ codes "{\"at\":" ++ (decimal place ++ (codes ",\"events\":[" ++ (events_text false es ++ codes "}")))
unfolding row_data events_data natural escape_byte
returned_text place es = ap (λ items. codes "{\"at\":" ++ (decimal place ++ (codes ",\"events\":[" ++ (items ++ codes "}")))) (events_text-is false es)

pub returned_line : (place : ℕ) (es : List Kevent) → reply_line place (Events es)
    ≡ (codes "{\"at\":" ++ decimal place) ++ (codes ",\"events\":[" ++ (events_text false es ++ codes "}\n"))
unfolding reply_line line_text
returned_line place es =
    ap (λ text. text ++ 10 ∷ []) (returned_text place es)
    ∙ regrouped (codes "{\"at\":") (decimal place) (codes ",\"events\":[") (events_text false es) (codes "}") (10 ∷ [])

is_nothing : (es : List Kevent) → eqb (length es) 0 ≡ true → es ≡ []
is_nothing [] is = refl
is_nothing (e ∷ es) is = let none = eqb-true (length (e ∷ es)) 0 is in absurd (omega arith)

pub nothing_returned_line : (place : ℕ) (es : List Kevent) → eqb (length es) 0 ≡ true → reply_line place (Events es)
    ≡ (codes "{\"at\":" ++ decimal place) ++ codes ",\"events\":[]}\n"
unfolding events_text
nothing_returned_line place es none =
    returned_line place es
    ∙ ap (λ (l : List Kevent). (codes "{\"at\":" ++ decimal place) ++ (codes ",\"events\":[" ++ (events_text false l ++ codes "}\n"))) (is_nothing es none)

pub failed_line : (place : ℕ) (e : Errno) → reply_line place (Failed e)
    ≡ (codes "{\"at\":" ++ decimal place) ++ (codes ",\"failed\":" ++ (decimal (error_number e) ++ codes "}\n"))
unfolding reply_line row_data natural line_text escape_byte
failed_line place e = simp append_assoc

escape-why_name : (why : Why) → escape (why_name why) ≡ why_name why
unfolding escape_byte
escape-why_name NoProcess = refl
escape-why_name UsedPid = refl
escape-why_name NoDescriptor = refl
escape-why_name UsedDescriptor = refl
escape-why_name WrongKind = refl
escape-why_name Absent = refl
escape-why_name UsedFile = refl
escape-why_name ClockBack = refl
escape-why_name TooMany = refl

pub impossible_line : (place : ℕ) (why : Why) → reply_line place (Impossible why)
    ≡ (codes "{\"at\":" ++ decimal place) ++ (codes ",\"impossible\":\"" ++ (why_name why ++ codes "\"}\n"))
unfolding reply_line row_data natural line_text escape_byte
impossible_line place why = simp (append_assoc, escape-why_name)

-- the last line, piece by piece
pub last_line-is : (calls events records : ℕ) → last_line calls events records
    ≡ codes "{\"calls\":" ++ (decimal calls ++ (codes ",\"events\":" ++ (decimal events
    ++ (codes ",\"records\":" ++ (decimal records ++ codes "}\n")))))
unfolding last_line natural line_text escape_byte
last_line-is calls events records = simp append_assoc

-- one event at a time
pub event_taken : (later : Bool) (es : List Kevent) (i : ℕ) (d : Kevent) (old new : List ℕ) → i < length es
    → Adds old (comma_if later ++ compact_text (kevent_data (get_or es i d))) new
    → new ++ events_text true (drop (i + 1) es) ≡ old ++ events_text later (drop i es)
unfolding events_text
event_taken later es i d old new lt is = rw (is.is, add-one, drop-cons es i d) (simp append_assoc)

-- the whole list, once every event was passed
pub events_ended : (later : Bool) (es : List Kevent) (i : ℕ) (first out new : List ℕ) → length es ≤ i
    → out ++ events_text later (drop i es) ≡ first ++ events_text false es → Adds out (93 ∷ []) new
    → Adds first (events_text false es) new
unfolding events_text
events_ended later es i first out new past kept end =
    let none : drop i es ≡ [] = drop_of_length-le es past in
    let closed : events_text later (drop i es) ≡ 93 ∷ [] = rw none refl in
    record { is = end.is ∙ ap (λ l. out ++ l) (sym closed) ∙ kept }

-- a record that was only done has no line
pub done_line : (place : ℕ) (old : List ℕ) (start : ℕ) → Writes old start (reply_line place Done) old start
unfolding reply_line
done_line place old start = record { ends = omega arith; is = sym (append-nil (take start old)) }
