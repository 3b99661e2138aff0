-- The command lines `kqsim replay [--workers N] FILE`, `kqsim live [--threads N] FILE` and
-- `kqsim book [--threads N] FILE`, as clap reads them (the words are this project's choice). With no words at all it
-- is `kqsim replay -`.
use Rattle.std.specs.Prelude.{◌≡◌, ℕ, true, List, [], ◌∷◌, Option, Some, pos, codes, string_bytes}
use Rattle.std.specs.Prelude.{option_and_then}
use Rattle.std.specs.Prelude.{option_map}
use Rattle.std.specs.Str.Parse.{digits_value, without_leading_plus}
use Rattle.clap.specs.Words.{App, Row, Rule, Text, first_of, new_app, new_rule, one_of, subcommand_of, with_rule}
use Rattle.clap.specs.Words.{with_subcommand}
use Rattle.clap.specs.Simple.{on_top}
use Rattle.clap.specs.declared.builder.ArgAction.TheVariants.{Set}
use Rattle.clap.specs.declared.builder.value_parser.ValueParser.TheVariants as vp
use Rattle.kq_run.specs.Workers.{IsThreadCount, IsWorkerCount}
use Rattle.kq_command.specs.declared.order.Order.{Order}
use Rattle.kq_command.specs.declared.order.Order.TheVariants.{Replay, Live, Book}

-- `--NAME N`, a whole number from 1 up to a limit, and 1 where it is not given
abbrev pub number_rule : Text → ℕ → Rule
number_rule name most = record (new_rule name) {
  long = Some name;
  action = Some Set;
  defaults = codes "1" ∷ [];
  parser = Some (vp.Signed (pos 1) (pos most));
}

-- `FILE`, which has to be given
abbrev pub file_rule : Rule
file_rule = record (new_rule (codes "FILE")) { action = Some Set; required = true }

abbrev pub workers_rule : Rule
workers_rule = number_rule (codes "workers") 256

abbrev pub threads_rule : Rule
threads_rule = number_rule (codes "threads") 64

-- a command with a number and a file
abbrev pub command_app : Text → Rule → App
command_app name number = with_rule (with_rule (new_app name) number) file_rule

abbrev pub program : App
program =
    with_subcommand (with_subcommand (with_subcommand
    (on_top (λ s. record s { subcommand_required = true }) (new_app (codes "kqsim")))
    (command_app (codes "replay") workers_rule).top) (command_app (codes "live") threads_rule).top)
    (command_app (codes "book") threads_rule).top

-- what clap makes of the words after the program's name: the command that they name, and its rows
abbrev pub Entered : Type 0
Entered = Option (Text × List Row)

abbrev pub entered_by : List Text → Entered
entered_by words = subcommand_of program (codes "kqsim" ∷ words)

abbrev pub number_in : Text → ℕ
number_in text = digits_value 10 (without_leading_plus text)

-- the command was entered, with this number and this file
pub record IsEntered (command argument : Text) (entered : Entered) (number : ℕ) (file : Text) : Type 0 where
  pub command_is : option_map (λ p. p.0) entered ≡ Some command
  pub number_is : option_map number_in (option_and_then (λ p. one_of argument p.1) entered) ≡ Some number
  pub file_is : option_and_then (λ p. first_of (codes "FILE") p.1) entered ≡ Some file

abbrev pub IsOrderFrom : Entered → Order → Type 0
IsOrderFrom entered (Replay workers file) =
    IsWorkerCount workers × IsEntered (codes "replay") (codes "workers") entered workers (string_bytes file)
IsOrderFrom entered (Live threads file) =
    IsThreadCount threads × IsEntered (codes "live") (codes "threads") entered threads (string_bytes file)
IsOrderFrom entered (Book threads file) =
    IsThreadCount threads × IsEntered (codes "book") (codes "threads") entered threads (string_bytes file)

-- a replay of standard input by one worker
abbrev pub IsPlainReplay : Order → Type 0
IsPlainReplay (Replay workers file) = (workers ≡ 1) × (string_bytes file ≡ codes "-")
IsPlainReplay _ = ⊥

-- the order that these words give
abbrev pub IsOrderOf : List Text → Order → Type 0
IsOrderOf [] order = IsPlainReplay order
IsOrderOf (word ∷ words) order = IsOrderFrom (entered_by (word ∷ words)) order
