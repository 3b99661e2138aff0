-- Pipes: their records, the quantities of a list of them, and what a filter sees. Amounts are bytes.
-- Source: pipe(2), here with one direction; an end is open while a descriptor names it.
use Rattle.std.specs.Prelude.{ℕ, ℤ, pos, ◌-ℤ◌, int_lt, Bool, ◌||◌, List, Option, Some, None}
use Rattle.kq_model.specs.declared.doing.PipeRecord.{PipeRecord}
use Rattle.kq_model.specs.declared.doing.PipeRecord.TheVariants.{Made, Read, Written, Held, Released}
use Rattle.kq_model.specs.declared.object.View.{View}
use Rattle.kq_model.specs.declared.object.View.TheVariants as view
use Rattle.kq_model.specs.declared.side.Side.TheVariants as side
use Rattle.kq_model.specs.Accounts.{plus, less, instead, balance, latest}

pub record PipeState : Type 0 where
  -- how many bytes the pipe holds at most
  pub cap : ℕ
  -- written and not read yet
  pub bytes : ℤ
  -- descriptors that name the read end
  pub readers : ℤ
  -- descriptors that name the write end
  pub writers : ℤ

-- ---- what one record says of each quantity

abbrev pub cap_of : PipeRecord → Option ℕ
cap_of (Made cap) = Some cap
cap_of _ = None

abbrev pub written : PipeRecord → Option ℕ
written (Written bytes) = Some bytes
written _ = None

abbrev pub taken : PipeRecord → Option ℕ
taken (Read bytes) = Some bytes
taken _ = None

abbrev pub holds_read : PipeRecord → Option ℕ
holds_read (Made cap) = Some 1
holds_read (Held side.Read) = Some 1
holds_read _ = None

abbrev pub releases_read : PipeRecord → Option ℕ
releases_read (Released side.Read) = Some 1
releases_read _ = None

abbrev pub holds_write : PipeRecord → Option ℕ
holds_write (Made cap) = Some 1
holds_write (Held side.Write) = Some 1
holds_write _ = None

abbrev pub releases_write : PipeRecord → Option ℕ
releases_write (Released side.Write) = Some 1
releases_write _ = None

-- ---- the quantities of a list of records

unfoldable pub pipe_state : List PipeRecord → PipeState
pipe_state rs = record {
  cap = latest 0 cap_of rs;
  bytes = balance written taken rs;
  readers = balance holds_read releases_read rs;
  writers = balance holds_write releases_write rs;
}

-- the quantities after one more record
unfoldable pub pipe_after : PipeRecord → PipeState → PipeState
pipe_after r s = record {
  cap = instead s.cap (cap_of r);
  bytes = less (plus s.bytes (written r)) (taken r);
  readers = less (plus s.readers (holds_read r)) (releases_read r);
  writers = less (plus s.writers (holds_write r)) (releases_write r);
}

abbrev pub no_pipe : PipeState
no_pipe = record { cap = 0; bytes = pos 0; readers = pos 0; writers = pos 0 }

-- ---- read off the quantities

abbrev pub has_reader : PipeState → Bool
has_reader s = int_lt (pos 0) s.readers

abbrev pub has_writer : PipeState → Bool
has_writer s = int_lt (pos 0) s.writers

abbrev pub is_pipe_held : PipeState → Bool
is_pipe_held s = has_reader s || has_writer s

-- how many more bytes fit into the pipe
abbrev pub pipe_space : PipeState → ℤ
pipe_space s = pos s.cap -ℤ s.bytes

unfoldable pub pipe_view : PipeState → View
pipe_view s = view.Pipe s.bytes (pos s.cap) (has_writer s) (has_reader s)
