-- One command behind the other.
use Rattle.std.proofs.Common.{◌≡◌, ◌∙◌, rules, ap₂, codes, true}
use Rattle.std.proofs.lemmas.Result.{IfOk-weaker}
use Rattle.clap.specs.Words.{App, app_of, new_app, with_subcommand}
use Rattle.clap.specs.Simple.{on_top}
use Rattle.kq_command.specs.CommandLine.{command_app, threads_rule, workers_rule}
use Rattle.kq_command.proofs.command_line.command.Goals as goal

abbrev start : App
start = on_top (λ s. record s { subcommand_required = true }) (new_app (codes "kqsim"))

abbrev with_replay : App
with_replay = with_subcommand start (command_app (codes "replay") workers_rule).top

abbrev with_live : App
with_live = with_subcommand with_replay (command_app (codes "live") threads_rule).top

pub returns : goal.returns
returns c =
    let start_is : app_of c.subcommand_required-none.result ≡ start = search rules in
    let first : app_of c.in_ok-replay.replay ≡ with_replay =
    c.in_ok-replay.ensures ∙ ap₂ (λ a r. with_subcommand a (command_app (codes "replay") r).top) start_is c.workers_argument.ensures.rule in
    let second : app_of c.in_ok-live.live ≡ with_live =
    c.in_ok-live.ensures ∙ ap₂ (λ a r. with_subcommand a (command_app (codes "live") r).top) first c.threads_argument.ensures.rule in
    record {
      shape = IfOk-weaker c.with_command-3.result _ _
          (λ r added. added ∙ ap₂ (λ a t. with_subcommand a (command_app (codes "book") t).top) second c.threads_argument-2.ensures.rule) c.with_command-3.ensures;
    }
