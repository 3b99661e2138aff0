-- A text that was read block by block, and what more bytes make of that.
use Rattle.std.proofs.Common.{◌≡◌, ℕ, ◌+◌, ◌-◌, ◌*◌, ◌<◌, ◌≤◌, true, List, [], ◌∷◌, ◌++◌, length, Result, Ok, Err, IfErr, refl, sym, ap, subst, ◌∙◌, append_assoc, append-nil, arith}
use Rattle.std.proofs.lemmas.Bool.{true_from_ne_false}
use Rattle.std.specs.Result.{IsErrAnd}
use Rattle.kq_model.specs.declared.event.Event.{Event}
use Rattle.kq_model.specs.declared.line_fault.LineFault.{LineFault}
use Rattle.kq_model.specs.Lines.{lines_of}
use Rattle.kq_model.specs.Reading.{Outcome, Good, Bad, read_lines, read_records, reading}
use Rattle.kq_trace.specs.declared.blocks.Blocks.{Blocks}
use Rattle.kq_trace.specs.declared.fault.TraceError.{TraceError}
use Rattle.kq_trace.specs.declared.fault.TraceError.TheVariants.{Memory as NoMemory, Bad as BadTrace}
use Rattle.kq_trace.specs.declared.input_error.InputError.{InputError}
use Rattle.kq_trace.specs.declared.input_error.InputError.TheVariants.{Read, Trace}
use Rattle.kq_trace.specs.Blocks.{EndsWith, HasNothing, IsDrained, IsFaultSoFar, IsInputFault, IsKnown, IsNextBlock, MayCome}
use Rattle.kq_trace.specs.Rest.{lines_behind}
use Rattle.kq_trace.specs.Source.{Ahead, Gives, Had}
use Rattle.kq_trace.specs.Unread.{AreRecordsFrom, behind_events, IsFaultAhead, IsFaultFrom}
use Rattle.kq_trace.proofs.BlockLines.{first_lines}
use Rattle.kq_trace.proofs.Given.{gave_all, gives_more}
use Rattle.kq_trace.proofs.LinesCut.{no_lines}
use Rattle.kq_trace.proofs.TraceLines.{behind_none}

with_part : (before more : List Event) (rest : Outcome) → behind_events before (behind_events more rest) ≡ behind_events (before ++ more) rest
with_part before more (Good version events) = ap (Good version) (sym (append_assoc before more events))
with_part before more (Bad line fault) = refl

-- These events were read, and this block is next, whatever comes behind it.
pub record AreRead (before after : Ahead) (b : Blocks) (events : List Event) (version number : ℕ) (block : List ℕ) : Type 0 where
  pub given : List ℕ
  pub gave : Gives before after given
  pub meaning : (later : List ℕ) → MayCome b later → reading (given ++ later)
      ≡ behind_events events (read_records version number (lines_behind block ++ lines_behind (b.tail.items ++ later)))

-- Of these events so many were taken, and the part is next.
pub record IsUnderWay (before after : Ahead) (b : Blocks) (took : List Event → Type 0) (count : ℕ) (part : List Event) (version : ℕ) (block : List ℕ)
    : Type 0 where
  pub events : List Event
  pub so_far : AreRead before after b (events ++ part) version (2 + count + length part) block
  pub counted : length events ≡ count
  pub in_limit : count + length part ≤ 1000000
  pub has : took events
  pub ends : EndsWith b after

both_empty : (more later : List ℕ) → more ≡ [] → later ≡ [] → more ++ later ≡ []
both_empty more later none nothing = ap (λ l. l ++ later) none ∙ nothing

module _ (before after : Ahead) (old new : Blocks) (block : List ℕ) (next : IsNextBlock before after old new block) where
  pub may_come : (later : List ℕ) → MayCome new later → MayCome old (next.more ++ later)
  may_come later may = λ ended. let came = next.came ended in both_empty next.more later came.0 (may came.1)

  -- ---- the first block

  module _ (nothing : HasNothing old) (ends : EndsWith new after) where
    first : (later : List ℕ) → MayCome new later → lines_of (next.more ++ later) ≡ lines_of block ++ lines_behind (new.tail.items ++ later)
    first later may =
        first_lines (next.more ++ later) block (new.tail.items ++ later)
        (ap (λ t. lines_behind (t ++ (next.more ++ later))) (sym nothing.tail) ∙ next.lines later may)
        (λ none.
        let ended : new.ended ≡ true = true_from_ne_false new.ended (λ not_yet. absurd (omega (arith, next.some not_yet, none))) in
        both_empty new.tail.items later (ends ended).1 (may ended))

    meaning_first : (later : List ℕ) → MayCome new later
        → reading (next.more ++ later) ≡ read_lines (lines_of block ++ lines_behind (new.tail.items ++ later))
    unfolding reading
    meaning_first later may = ap read_lines (first later may)

    pub first_read : (version : ℕ) (rest : List ℕ)
        → ((later : List (List ℕ)) → read_lines (lines_of block ++ later) ≡ read_records version 2 (lines_behind rest ++ later))
        → AreRead before after new [] version 2 rest
    first_read version rest opened = record {
      given = next.more;
      gave = next.given;
      meaning = λ later may.
          let behind = lines_behind (new.tail.items ++ later) in
          meaning_first later may ∙ opened behind ∙ behind_none (read_records version 2 (lines_behind rest ++ behind));
    }

    first_bad : (line : ℕ) (fault : LineFault)
        → ((later : List (List ℕ)) → IsFaultAhead (read_lines (lines_of block ++ later)) (BadTrace line fault))
        → IsKnown before after new (λ bytes. reading bytes ≡ Bad line fault)
    first_bad line fault bad = record {
      given = next.more;
      gave = next.given;
      holds = λ later may. meaning_first later may ∙ bad (lines_behind (new.tail.items ++ later));
    }

    pub first_fault : (may_fail : Type 0) (error : TraceError) → ((later : List (List ℕ)) → IsFaultAhead (read_lines (lines_of block ++ later)) error)
        → IsFaultSoFar may_fail before after new (Trace error)
    first_fault may_fail NoMemory bad = tt
    first_fault may_fail (BadTrace line fault) bad = (first_bad line fault bad, ends)

  -- ---- another one

  module _ (start : Ahead) (events : List Event) (version number : ℕ) (now : List ℕ)
      (so_far : AreRead start before old events version number now) where
    meaning_next : (later : List ℕ) → MayCome new later → reading ((so_far.given ++ next.more) ++ later)
        ≡ behind_events events (read_records version number (lines_behind now ++ (lines_behind block ++ lines_behind (new.tail.items ++ later))))
    meaning_next later may =
        ap reading (append_assoc so_far.given next.more later) ∙ so_far.meaning (next.more ++ later) (may_come later may)
        ∙ ap (λ l. behind_events events (read_records version number (lines_behind now ++ l))) (next.lines later may)

    pub next_read : (part : List Event) → AreRecordsFrom number (lines_behind now) part
        → AreRead start after new (events ++ part) version (number + length part) block
    next_read part are = record {
      given = so_far.given ++ next.more;
      gave = gives_more start before after so_far.given next.more so_far.gave next.given;
      meaning = λ later may.
          let behind = lines_behind block ++ lines_behind (new.tail.items ++ later) in
          meaning_next later may ∙ ap (behind_events events) (are.meaning version behind)
          ∙ with_part events part (read_records version (number + length part) behind);
    }

    next_bad : (line : ℕ) (fault : LineFault) → IsFaultFrom number (lines_behind now) (BadTrace line fault)
        → IsKnown start after new (λ bytes. reading bytes ≡ Bad line fault)
    next_bad line fault bad = record {
      given = so_far.given ++ next.more;
      gave = gives_more start before after so_far.given next.more so_far.gave next.given;
      holds = λ later may.
          meaning_next later may
          ∙ ap (behind_events events) (bad version (lines_behind block ++ lines_behind (new.tail.items ++ later)));
    }

    pub next_fault : (may_fail : Type 0) → EndsWith new after → (error : TraceError) → IsFaultFrom number (lines_behind now) error
        → IsFaultSoFar may_fail start after new (Trace error)
    next_fault may_fail ends NoMemory bad = tt
    next_fault may_fail ends (BadTrace line fault) bad = (next_bad line fault bad, ends)

-- with no block behind it
module _ (before after : Ahead) (b : Blocks) (events : List Event) (version number : ℕ) (block : List ℕ)
    (so_far : AreRead before after b events version number block) (ends : EndsWith b after) where
  pub now_fault : (may_fail : Type 0) (error : TraceError) → IsFaultFrom number (lines_behind block) error → IsFaultSoFar may_fail before after b (Trace error)
  now_fault may_fail NoMemory bad = tt
  now_fault may_fail (BadTrace line fault) bad = (
    record {
      given = so_far.given;
      gave = so_far.gave;
      holds = λ later may. so_far.meaning later may ∙ ap (behind_events events) (bad version (lines_behind (b.tail.items ++ later)));
    },
    ends,
  )

-- an error that is passed on
pub passed : {A : Type 0} (r : Result A InputError) (error : InputError) (P : InputError → Type 0)
    → IsErrAnd r (λ e. e ≡ error) → P error → IfErr r P
passed (Ok x) error P is holds = tt
passed (Err e) error P is holds = subst P (sym is) holds

pub no_item : {A : Type 0} (items : List A) → length items ≡ 0 → items ≡ []
no_item [] none = refl
no_item (item ∷ items) none = absurd (omega (arith, none))

-- ---- each round there is less to tell

module _ (told after part next : ℕ) (added : after ≡ told + part) (few : told + part ≤ 1000000) where
  pub less_told : 0 < part → 2 * (1000000 - after) + (1 - next) < 2 * (1000000 - told) + (1 - part)
  less_told some = omega (arith, some, added, few)

  pub less_ahead : part ≡ 0 → 0 < next → 2 * (1000000 - after) + (1 - next) < 2 * (1000000 - told) + (1 - part)
  less_ahead none some = omega (arith, none, some, added, few)

-- ---- all of it

nothing_more : (version number : ℕ) (events : List Event) (block tail later : List ℕ) → block ≡ [] → tail ≡ [] → later ≡ []
    → behind_events events (read_records version number (lines_behind block ++ lines_behind (tail ++ later))) ≡ Good version events
unfolding read_records
nothing_more version number events block tail later none no_tail nothing =
    ap (λ l. behind_events events (read_records version number l))
    (ap (λ t. lines_behind t ++ lines_behind (tail ++ later)) none ∙ ap (λ t. lines_behind [] ++ lines_behind t) (both_empty tail later no_tail nothing)
    ∙ ap (λ l. l ++ l) no_lines)
    ∙ ap (Good version) (append-nil events)

module _ (before after : Ahead) (b : Blocks) where
  pub all_read : (events : List Event) (version number : ℕ) (block : List ℕ) → AreRead before after b events version number block
      → block ≡ [] → b.ended ≡ true → EndsWith b after → IsKnown before after b (λ bytes. reading bytes ≡ Good version events)
  all_read events version number block so_far none ended ends = record {
    given = so_far.given;
    gave = so_far.gave;
    holds = λ later may.
        so_far.meaning later may ∙ nothing_more version number events block b.tail.items later none (ends ended).1 (may ended);
  }

  pub all_known : (P : List ℕ → Type 0) → IsKnown before after b P → b.ended ≡ true → EndsWith b after
      → (bytes : List ℕ) × Had before bytes × P bytes
  all_known P known ended ends = (
    known.given,
    gave_all before after known.given known.gave (ends ended).0,
    subst P (append-nil known.given) (known.holds [] (λ is. refl)),
  )

-- what is left out changes nothing of it
module _ (may_fail : Type 0) (start before after : Ahead) (old new : Blocks) (drained : IsDrained before after old new) where
  pub known_on : (P : List ℕ → Type 0) → IsKnown start before old P → (bytes : List ℕ) × Had start bytes × P bytes
  known_on P known =
      let bytes = known.given ++ drained.more in (
        bytes,
        gave_all start after bytes (gives_more start before after known.given drained.more known.gave drained.given) drained.at_end,
        known.holds drained.more (λ ended. drained.came ended),
      )

  pub fault_on : (error : InputError) → IsFaultSoFar may_fail start before old error → IsInputFault may_fail start error
  fault_on Read is = is
  fault_on (Trace NoMemory) is = tt
  fault_on (Trace (BadTrace line fault)) is = known_on (λ bytes. reading bytes ≡ Bad line fault) is.0
