-- The lines of a text, piece by piece, and the batches that they are read as.
use denote.Ref.{Bor}
use Rattle.std.proofs.Common.{Vec, Global, ◌≡◌, ℕ, ◌+◌, ◌≤◌, List, [], ◌∷◌, ◌++◌, length, map, refl, sym, ap, subst, ◌∙◌, append_assoc, append-nil, arith, length-append}
use Rattle.std.proofs.lemmas.Grind.{flat_map-append}
use Rattle.std.proofs.lemmas.List.Folds.{flat_map-map}
use Rattle.std.specs.List.{AllZip}
use Rattle.rayon.proofs.ListFacts.{AllZip-append, AllZip-through}
use Rattle.kq_model.specs.declared.event.Event.{Event}
use Rattle.kq_model.specs.Limits.{most_records}
use Rattle.kq_model.specs.Reading.{Good, read_records}
use Rattle.kq_trace.specs.declared.batches.Batch.{Batch}
use Rattle.kq_trace.specs.declared.batches.Batch.TheVariants as batch
use Rattle.kq_trace.specs.Batches.{AreReadAs, AreRecordsAnywhere, IsReadAs}
use Rattle.kq_trace.specs.Rest.{lines_behind, lines_in}
use Rattle.kq_trace.specs.Unread.{behind_events}
use Rattle.kq_trace.proofs.LinesCut.{no_lines}
use Rattle.kq_trace.proofs.PutTogether.{followed_by, lines_followed, next_of, no_part}

-- ---- pieces of text

pub piece_cut : (all ahead : List (List ℕ)) (pieces after : List (Bor (List ℕ))) (piece : Bor (List ℕ)) (rest : List ℕ)
    → all ≡ lines_in pieces ++ ahead → ahead ≡ lines_behind piece.now ++ lines_behind rest → after ≡ pieces ++ piece ∷ []
    → all ≡ lines_in after ++ lines_behind rest
piece_cut all ahead pieces after piece rest so_far cut added =
    let lines = λ (p : Bor (List ℕ)). lines_behind p.now in
    so_far ∙ ap (λ l. lines_in pieces ++ l) cut ∙ sym (append_assoc (lines_in pieces) (lines_behind piece.now) (lines_behind rest))
    ∙ ap (λ l. (lines_in pieces ++ l) ++ lines_behind rest) (sym (append-nil (lines_behind piece.now)))
    ∙ ap (λ l. l ++ lines_behind rest) (sym (flat_map-append lines pieces (piece ∷ [])))
    ∙ ap (λ ps. lines_in ps ++ lines_behind rest) (sym added)

pub all_cut : (all : List (List ℕ)) (pieces : List (Bor (List ℕ))) (rest : List ℕ)
    → rest ≡ [] → all ≡ lines_in pieces ++ lines_behind rest → lines_in pieces ≡ all
all_cut all pieces rest none so_far =
    sym (so_far ∙ ap (λ t. lines_in pieces ++ lines_behind t) none ∙ ap (λ l. lines_in pieces ++ l) no_lines ∙ append-nil (lines_in pieces))

-- each piece is read as its batch
pub pieces_read : (pieces : List (Bor (List ℕ))) (batches : List Batch)
    → AllZip (λ (piece : Bor (List ℕ)) (b : Batch). IsReadAs (lines_behind piece.now) b) pieces batches → AreReadAs (lines_in pieces) batches
pieces_read pieces batches each =
    let lines = λ (piece : Bor (List ℕ)). lines_behind piece.now in (
      map lines pieces,
      flat_map-map (λ (part : List (List ℕ)). part) lines pieces,
      AllZip-through lines (λ (piece : Bor (List ℕ)) (b : Batch). IsReadAs (lines_behind piece.now) b) IsReadAs (λ piece b is. is) pieces batches each,
    )

-- a piece alone is read as its batch
pub piece_read : (piece : Bor (List ℕ)) (batch : Batch) → IsReadAs (lines_behind piece.now) batch
    → AreReadAs (lines_in (piece ∷ [])) (batch ∷ [])
piece_read piece batch is = pieces_read (piece ∷ []) (batch ∷ []) (is, tt)

-- the pieces before the last are read as their batches, and the last as its own
pub pieces_read-last : (others : List (Bor (List ℕ))) (batches : List Batch) (last : Bor (List ℕ)) (batch : Batch)
    → AreReadAs (lines_in others) batches → IsReadAs (lines_behind last.now) batch
    → AreReadAs (lines_in (others ++ last ∷ [])) (batches ++ batch ∷ [])
pieces_read-last others batches last batch read is =
    let lines = λ (piece : Bor (List ℕ)). lines_behind piece.now in
    let part : List (List ℕ) = lines_behind last.now in (
      read.0 ++ part ∷ [],
      flat_map-append (λ (p : List (List ℕ)). p) read.0 (part ∷ [])
          ∙ ap (λ l. l ++ (part ++ [])) read.1
          ∙ sym (flat_map-append lines others (last ∷ [])),
      AllZip-append IsReadAs read.0 (part ∷ []) batches (batch ∷ []) read.2 (is, tt),
    )

-- ---- batches that are gathered

-- The records of the first of these lines, and the batches ahead are those of the others.
pub record IsGathered (lines : List (List ℕ)) (events : List Event) (ahead : List Batch) : Type 0 where
  pub before : List (List ℕ)
  pub behind : List (List ℕ)
  pub cut : lines ≡ before ++ behind
  pub good : AreRecordsAnywhere before events
  pub read : AreReadAs behind ahead

pub none_gathered : (lines : List (List ℕ)) (events : List Event) (ahead : List Batch) → events ≡ [] → AreReadAs lines ahead
    → IsGathered lines events ahead
unfolding read_records
none_gathered lines events ahead none read = record {
  before = [];
  behind = lines;
  cut = refl;
  good = (ap length none, λ version first fits. ap (Good version) (sym none));
  read = read;
}

both_anywhere : (before part : List (List ℕ)) (events more : List Event) → AreRecordsAnywhere before events → AreRecordsAnywhere part more
    → AreRecordsAnywhere (before ++ part) (events ++ more)
both_anywhere before part events more first_ones later_ones = (
  length-append events more ∙ ap (λ n. n + length more) first_ones.0 ∙ ap (λ n. length before + n) later_ones.0 ∙ sym (length-append before part),
  λ version first fits.
      let all : first + (length before + length part) ≤ 2 + most_records = omega (arith, fits, length-append before part) in
      lines_followed version first before part
      ∙ ap (λ o. followed_by o (read_records version (first + length before) part)) (first_ones.1 version first (omega (arith, all)))
      ∙ ap (behind_events events) (later_ones.1 version (first + length before) (omega (arith, all))),
)

pub one_gathered : (lines : List (List ℕ)) (events after : List Event) (more : Vec Event Global) (ahead : List Batch)
    → IsGathered lines events (batch.Records more ∷ ahead) → after ≡ events ++ more.items → IsGathered lines after ahead
one_gathered lines events after more ahead so_far added =
    let n = next_of so_far.behind so_far.read.0 (batch.Records more) ahead so_far.read.1 so_far.read.2 in
    record {
      before = so_far.before ++ n.part;
      behind = n.later;
      cut = so_far.cut ∙ ap (λ l. so_far.before ++ l) n.cut ∙ sym (append_assoc so_far.before n.part n.later);
      good = subst (AreRecordsAnywhere (so_far.before ++ n.part)) (sym added)
          (both_anywhere so_far.before n.part events more.items so_far.good n.here);
      read = n.read;
    }

pub all_gathered : (lines : List (List ℕ)) (events : List Event) (ahead : List Batch) → ahead ≡ [] → IsGathered lines events ahead
    → AreRecordsAnywhere lines events
all_gathered lines events ahead none so_far =
    let each : AllZip IsReadAs so_far.read.0 [] = subst (AllZip IsReadAs so_far.read.0) none so_far.read.2 in
    let empty : so_far.behind ≡ [] = sym so_far.read.1 ∙ no_part so_far.read.0 each in
    let whole : so_far.before ≡ lines =
    sym (so_far.cut ∙ ap (λ l. so_far.before ++ l) empty ∙ append-nil so_far.before) in
    subst (λ l. AreRecordsAnywhere l events) whole so_far.good
