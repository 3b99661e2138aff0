-- How many lines of a text are JSON values. That a line is a value when it is UTF-8 and `read` takes it
-- is RFC 8259; that lines end in LF is JSON Lines.
use Rattle.std.specs.Prelude.{ℕ, List, Bool, false, if◌then◌else◌, ◌==◌}
use Rattle.std.specs.List.{slice_split, count_by}
use Rattle.std.specs.Option.{is_some}
use Rattle.std.specs.Str.{is_utf8}
use Rattle.serde_json.specs.Read.{read}

-- whether a line is one JSON value
unfoldable pub is_value : List ℕ → Bool
is_value line = if is_utf8 line then is_some (read line) else false

-- the number of lines that are
unfoldable pub values_in : List ℕ → ℕ
values_in text = count_by is_value (slice_split (λ b. b == 10) text)
