-- A step at a pipe makes no condition hold but on the side that its hint tells.
use Rattle.std.proofs.Common.{◌≡◌, ℕ, ℤ, pos, ◌+ℤ◌, ◌-ℤ◌, int_lt, int_le, Bool, true, false, not, Option, Some, None, Ok, Err, refl, sym, ◌∙◌, if◌then◌else◌, arith}
use Rattle.std.proofs.lemmas.Bool.{true≢false}
use Rattle.std.proofs.lemmas.Int.{ints}
use Rattle.kq_model.specs.declared.doing.PipeRecord.{PipeRecord}
use Rattle.kq_model.specs.declared.doing.PipeRecord.TheVariants as pipe
use Rattle.kq_model.specs.declared.object.Hint.{Hint}
use Rattle.kq_model.specs.declared.object.Hint.TheVariants.{Readable, Writable}
use Rattle.kq_model.specs.declared.side.Side.{Side}
use Rattle.kq_model.specs.declared.side.Side.TheVariants.{Read, Write}
use Rattle.kq_model.specs.declared.why.Why.{Why}
use Rattle.kq_model.specs.declared.why.Why.TheVariants.{WrongKind, TooMany}
use Rattle.kq_model.specs.Hints.{takes}
use Rattle.kq_model.specs.Holding.{is_last}
use Rattle.kq_model.specs.Look.{difference, pipe_mark}
use Rattle.kq_model.specs.PipeSteps as steps
use Rattle.kq_model.specs.PipeSteps.{PipeStep}
use Rattle.kq_model.specs.Pipes.{PipeState, pipe_after, has_reader, has_writer, pipe_space}
use Rattle.kq_model.proofs.KnoteLaws.{by_test}
use Rattle.kq_laws.proofs.Amounts.{some-before, space-before}
use Rattle.kq_laws.proofs.Shown.{filter_of, hears, pipe_shown}
use Rattle.kq_laws.proofs.SocketWakes.{first-before, second-before}

abbrev pub TellsPipe : PipeState → PipeRecord → Option Hint → Type 0
TellsPipe s told hint =
    (side : Side) (mark : ℤ → ℤ) → hears side hint ≡ false → pipe_shown side mark (pipe_after told s) ≡ true
    → pipe_shown side mark s ≡ true

abbrev pub StepTellsPipe : PipeState → PipeStep → Type 0
StepTellsPipe s (Err why) = Unit {0}
StepTellsPipe s (Ok step) = TellsPipe s step.0 step.1

-- one more descriptor, and one less that is not the last
none-before : (n : ℤ) → not (int_lt (pos 0) (n +ℤ pos 1)) ≡ true → not (int_lt (pos 0) n) ≡ true
none-before n e = grind (arith, ints)

more-left : (n : ℤ) → int_le n (pos 1) ≡ false → not (int_lt (pos 0) (n -ℤ pos 1)) ≡ true → not (int_lt (pos 0) n) ≡ true
more-left n more e = grind (arith, ints)

-- the hint of the last descriptor of an end
abbrev pub end_told : Hint → ℤ → Option Hint
end_told hint holders = if is_last holders then Some hint else None

module _ (s : PipeState) where
  abbrev room : ℤ → Bool
  room bytes = int_le (pipe_mark (pos s.cap)) (difference (pos s.cap) bytes)

  tells-unless : (refused : Bool) (why : Why) (step : PipeStep) → StepTellsPipe s step → StepTellsPipe s (if refused then Err why else step)
  tells-unless refused why step tells = by_test (λ b. StepTellsPipe s (if b then Err why else step)) refused (λ _. tt) (λ _. tells)

  was-read : (bytes : ℕ) → TellsPipe s (pipe.Read bytes) (Some Writable)
  unfolding pipe_after takes
  was-read bytes Read mark quiet e = first-before (int_lt (pos 0) s.bytes) (not (has_writer s)) (int_lt (pos 0) (s.bytes -ℤ pos bytes)) (some-before s.bytes bytes) e
  was-read bytes Write mark quiet e = absurd (true≢false quiet)

  pub read-tells : (bytes : ℕ) → StepTellsPipe s (steps.read_pipe bytes s)
  unfolding steps.read_pipe
  read-tells bytes = tells-unless (int_lt s.bytes (pos bytes)) TooMany (Ok (pipe.Read bytes, Some Writable)) (was-read bytes)

  was-written : (bytes : ℕ) → TellsPipe s (pipe.Written bytes) (Some Readable)
  unfolding pipe_after takes
  was-written bytes Read mark quiet e = absurd (true≢false quiet)
  was-written bytes Write mark quiet e =
      first-before (room s.bytes) (not (has_reader s)) (room (s.bytes +ℤ pos bytes))
      (space-before (pipe_mark (pos s.cap)) (pos s.cap) s.bytes bytes) e

  pub write-tells : (bytes : ℕ) → StepTellsPipe s (steps.write_pipe bytes s)
  unfolding steps.write_pipe
  write-tells bytes =
      let told : PipeStep = Ok (pipe.Written bytes, Some Readable) in
      tells-unless (not (has_reader s)) WrongKind (if int_lt (pipe_space s) (pos bytes) then Err TooMany else told)
      (tells-unless (int_lt (pipe_space s) (pos bytes)) TooMany told (was-written bytes))

  pub held-tells : (end : Side) → TellsPipe s (pipe.Held end) None
  unfolding pipe_after
  held-tells Read Read mark quiet e = e
  held-tells Read Write mark quiet e = second-before (room s.bytes) (not (has_reader s)) (not (int_lt (pos 0) (s.readers +ℤ pos 1))) (none-before s.readers) e
  held-tells Write Read mark quiet e = second-before (int_lt (pos 0) s.bytes) (not (has_writer s)) (not (int_lt (pos 0) (s.writers +ℤ pos 1))) (none-before s.writers) e
  held-tells Write Write mark quiet e = e

  untold : (side : Side) (hint : Hint) (last : Bool) → takes (filter_of side) hint ≡ true → hears side (if last then Some hint else None) ≡ false → last ≡ false
  untold side hint true taken quiet = absurd (true≢false (sym taken ∙ quiet))
  untold side hint false taken quiet = refl

  -- the last descriptor of an end
  pub reader-released : TellsPipe s (pipe.Released Read) (end_told Writable s.readers)
  unfolding pipe_after takes
  reader-released Read mark quiet e = e
  reader-released Write mark quiet e =
      second-before (room s.bytes) (not (has_reader s)) (not (int_lt (pos 0) (s.readers -ℤ pos 1)))
      (more-left s.readers (untold Write Writable (is_last s.readers) refl quiet)) e

  pub writer-released : TellsPipe s (pipe.Released Write) (end_told Readable s.writers)
  unfolding pipe_after takes
  writer-released Read mark quiet e =
      second-before (int_lt (pos 0) s.bytes) (not (has_writer s)) (not (int_lt (pos 0) (s.writers -ℤ pos 1)))
      (more-left s.writers (untold Read Readable (is_last s.writers) refl quiet)) e
  writer-released Write mark quiet e = e
