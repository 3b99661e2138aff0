-- A block while its bytes come.
use Rattle.std.proofs.Common.{◌≡◌, ℕ, zero, suc, ◌<◌, Bool, true, false, List, [], ◌++◌, take, refl, sym, ap, ◌∙◌, append_assoc, append-nil, arith, true≢false}
use Rattle.std.specs.Io.KnownBytes.{IsAtEnd}
use Rattle.kq_trace.specs.declared.blocks.Blocks.{Blocks}
use Rattle.kq_trace.specs.Blocks.{ArePut, EndsWith, HasRead, IsDrained, IsNextBlock}
use Rattle.kq_trace.specs.Rest.{lines_behind}
use Rattle.kq_trace.specs.Source.{Ahead, Gives}
use Rattle.kq_trace.proofs.BlockLines.{some_byte}
use Rattle.kq_trace.proofs.Given.{gives_more, gives_none}
use Rattle.kq_trace.proofs.LinesCut.{line_then, uncut_lines}

-- The source gave bytes more.
pub record AreTaken (before now : Ahead) (old : Blocks) (ended : Bool) (more : List ℕ) : Type 0 where
  pub given : Gives before now more
  pub came : old.ended ≡ true → (more ≡ []) × (ended ≡ true)
  pub at_end : ended ≡ true → IsAtEnd now.known

-- They are in the block, behind what waited.
pub record IsPutSoFar (before now : Ahead) (old : Blocks) (ended : Bool) (block : List ℕ) : Type 0 where
  pub more : List ℕ
  pub taken : AreTaken before now old ended more
  pub put : block ≡ old.tail.items ++ more

module _ (before : Ahead) (old : Blocks) (ends : EndsWith old before) where
  pub none_taken : AreTaken before before old old.ended []
  none_taken = record {
    given = gives_none before;
    came = λ ended. (refl, ended);
    at_end = λ ended. (ends ended).0;
  }

  pub none_put : (block : List ℕ) → block ≡ old.tail.items → IsPutSoFar before before old old.ended block
  none_put block is = record { more = []; taken = none_taken; put = is ∙ sym (append-nil old.tail.items) }

-- all came, so this is the end
end_of : (count : ℕ) (ended : Bool) (A : Type 0) → (count ≡ 0 → (ended ≡ true) × A) → (0 < count → ended ≡ false) → ended ≡ true → A
end_of zero ended A none some is = (none refl).1
end_of (suc n) ended A none some is = absurd (true≢false (sym is ∙ some (omega arith)))

module _ (before mid after : Ahead) (old now next : Blocks) (count : ℕ) (not_ended : now.ended ≡ false)
    (read : HasRead mid after now next count) where
  abbrev pub came : List ℕ
  came = take count next.chunk.bytes.items

  pub more_taken : (more : List ℕ) → AreTaken before mid old now.ended more
      → AreTaken before after old next.ended (more ++ came)
  more_taken more so_far = record {
    given = gives_more before mid after more came so_far.given read.given;
    came = λ ended. absurd (true≢false (sym (so_far.came ended).1 ∙ not_ended));
    at_end = end_of count next.ended (IsAtEnd after.known) read.none read.some;
  }

  module _ (block longer waiting : List ℕ) (so_far : IsPutSoFar before mid old now.ended block) where
    whole : ArePut came block longer waiting true → old.tail.items ++ (so_far.more ++ came) ≡ longer ++ waiting
    whole put =
        sym (append_assoc old.tail.items so_far.more came) ∙ ap (λ l. l ++ came) (sym so_far.put) ∙ put.split

    -- a line ends the block
    pub whole_block : ArePut came block longer waiting true → (new : Blocks) → new.ended ≡ next.ended
        → new.tail.items ≡ waiting → IsNextBlock before after old new longer
    whole_block put new same_ended tail =
        let taken = more_taken so_far.more so_far.taken in
        let more = so_far.more ++ came in
        let line = put.line refl in
        record {
          more = more;
          given = taken.given;
          lines = λ later may.
              ap lines_behind (sym (append_assoc old.tail.items more later) ∙ ap (λ l. l ++ later) (whole put) ∙ append_assoc longer waiting later)
              ∙ line_then longer (waiting ++ later) line ∙ ap (λ l. lines_behind longer ++ lines_behind (l ++ later)) (sym tail);
          some = λ is. some_byte longer line;
          came = λ ended. let it = taken.came ended in (it.0, same_ended ∙ it.1);
        }

    -- no line ends it yet
    pub more_put : ArePut came block longer waiting false → IsPutSoFar before after old next.ended longer
    more_put put = record {
      more = so_far.more ++ came;
      taken = more_taken so_far.more so_far.taken;
      put = sym (append-nil longer) ∙ ap (λ l. longer ++ l) (sym (put.none refl)) ∙ sym put.split ∙ ap (λ l. l ++ came) so_far.put
          ∙ append_assoc old.tail.items so_far.more came;
    }

-- ---- all came

module _ (before after : Ahead) (old new : Blocks) (ended : new.ended ≡ true) where
  last_lines : (text tail later block : List ℕ) → tail ≡ [] → later ≡ [] → block ≡ text
      → lines_behind (text ++ later) ≡ lines_behind block ++ lines_behind (tail ++ later)
  last_lines text tail later block no_tail nothing same =
      ap (λ l. lines_behind (text ++ l)) nothing ∙ ap lines_behind (append-nil text ∙ sym same) ∙ uncut_lines block
      ∙ ap (λ l. lines_behind block ++ lines_behind (l ++ [])) (sym no_tail)
      ∙ ap (λ l. lines_behind block ++ lines_behind (tail ++ l)) (sym nothing)

  pub last_block : (block : List ℕ) → IsPutSoFar before after old new.ended block → new.tail.items ≡ []
      → IsNextBlock before after old new block
  last_block block so_far no_tail = record {
    more = so_far.more;
    given = so_far.taken.given;
    lines = λ later may.
        ap lines_behind (sym (append_assoc old.tail.items so_far.more later))
        ∙ last_lines (old.tail.items ++ so_far.more) new.tail.items later block no_tail (may ended) so_far.put;
    some = λ not_yet. absurd (true≢false (sym ended ∙ not_yet));
    came = so_far.taken.came;
  }

  pub all_taken : (more : List ℕ) → AreTaken before after old new.ended more → IsDrained before after old new
  all_taken more taken = record {
    more = more;
    given = taken.given;
    came = λ is. (taken.came is).0;
    ended = ended;
    at_end = taken.at_end ended;
  }
