use Rattle.std.proofs.Common.{◌≡◌, ◌∙◌, List, [], ◌∷◌, rules, refl, true, false, nat_eq, length, ap, subst, codes, map}
use Rattle.std.proofs.lemmas.Result.{IfOk-weaker}
use Rattle.std.specs.Borrow.{Bor}
use Rattle.clap.specs.Words.{HasMatchesOf, Text, app_of, is_simple, subcommand_of, subcommand_rows_of}
use Rattle.kq_command.specs.declared.order.Order.{Order}
use Rattle.kq_command.specs.CommandLine.{Entered, IsOrderFrom, IsOrderOf, entered_by, program}
use Rattle.kq_command.proofs.command_line.parse_words.Goals as goal

-- what was entered gives the order, where there are words
order_given : (words : List (Bor Text)) (entered : Entered) (order : Order) → nat_eq (length words) 0 ≡ false
    → entered ≡ entered_by (map (λ s. s.now) words) → IsOrderFrom entered order → IsOrderOf (map (λ s. s.now) words) order
order_given [] entered order some is given = absurd (cc)
order_given (word ∷ words) entered order some is given = subst (λ e. IsOrderFrom e order) is given

pub returns-clause-order : goal.returns-clause-order
returns-clause-order c =
    let made : app_of c.in_ok-command.command ≡ program = search rules in
    let words : map (λ (s : Bor Text). s.now) c.as_slice.result.now ≡ codes "kqsim" ∷ map (λ (s : Bor Text). s.now) c.args.words.now = search rules in
    let got : HasMatchesOf (app_of c.in_ok-command.command) (map (λ (s : Bor Text). s.now) c.as_slice.result.now) c.in_ok-matches.matches = search rules in
    let simple : is_simple program ≡ true = refl in
    let entered : subcommand_rows_of c.in_ok-matches.matches ≡ entered_by (map (λ (s : Bor Text). s.now) c.args.words.now) =
    (got (ap is_simple made ∙ simple)).1 ∙ ap (λ a. subcommand_of a (map (λ (s : Bor Text). s.now) c.as_slice.result.now)) made ∙ ap (subcommand_of program) words in
    IfOk-weaker c.order_of.result _ _ (λ order given. order_given c.args.words.now (subcommand_rows_of c.in_ok-matches.matches) order (search rules) entered given) c.order_of.ensures.order
