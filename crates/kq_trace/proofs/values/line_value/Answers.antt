-- A line is read just where it is text and its text is JSON.
use Rattle.std.proofs.Common.{◌≡◌, ℕ, List, Bool, true, false, Some, None, refl, sym, rules}
use Rattle.std.specs.Str.{IsUtf8, is_utf8}
use Rattle.std.proofs.lemmas.Str.{is_utf8-from_IsUtf8, IsUtf8-from_is_utf8}
use Rattle.serde_json.specs.Data.{Data}
use Rattle.serde_json.specs.Read.{read}
use Rattle.kq_model.specs.Reading.{json_of}
use Rattle.kq_trace.proofs.values.line_value.Goals as goal

json_of_read : (line : List ℕ) (d : Data) → IsUtf8 line → read line ≡ Some d → Some d ≡ json_of line
unfolding json_of
json_of_read line d text reads = rw (is_utf8-from_IsUtf8 line text) (sym reads)

unread : (b : Bool) (line : List ℕ) → is_utf8 line ≡ b → (IsUtf8 line → read line ≡ None) → None ≡ json_of line
unfolding json_of
unread true line e refused = rw e (sym (refused (IsUtf8-from_is_utf8 line e)))
unread false line e refused = rw e refl

pub returns-in-Ok : goal.returns-in-Ok
returns-in-Ok c = json_of_read c.args.line.now _ c.in-Ok.ensures.ok.0 c.in-Ok.ensures.ok.1

pub returns-else-is_memory : goal.returns-else-is_memory
returns-else-is_memory c = unread _ c.args.line.now refl (λ text. c.in-Err.ensures.err (search rules) text)
