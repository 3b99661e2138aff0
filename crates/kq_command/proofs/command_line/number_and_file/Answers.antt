use Rattle.std.proofs.Common.{◌≡◌, ◌∙◌, ℕ, Option, Some, None, Result, rules, refl, sym, ap, subst, option_map}
use Rattle.std.specs.Prelude.{string_bytes}
use Rattle.std.specs.Borrow.{Bor}
use Rattle.std.specs.Str.Parse.{ExplainsUnsignedError, HasUnsignedDigitsIfOk, ParsesUnsigned}
use Rattle.clap.specs.Words.{ReadsOne, Text, found_of, one_text}
use Rattle.clap.proofs.WalkLemmas.{first_value-rows, one_text-rows}
use Rattle.kq_command.specs.CommandLine.{number_in}
use Rattle.kq_command.proofs.command_line.number_and_file.Goals as goal

-- a number that was read is the number in the text
number_read : {E : Type 0} (X Y : Text → Result ℕ E → Type 0) (text : Option Text) (r : Option ℕ) (n : ℕ) → r ≡ Some n
    → (text ≡ None → r ≡ None) → ((t : Text) → text ≡ Some t → ReadsOne (λ bs q. ParsesUnsigned 32 10 bs q × X bs q × Y bs q) t r)
    → option_map number_in text ≡ Some n
number_read X Y None r n is none some = let bad : r ≡ None = none refl in absurd (cc)
number_read X Y (Some t) r n is none some =
    let read = subst (ReadsOne (λ bs q. ParsesUnsigned 32 10 bs q × X bs q × Y bs q) t) is (some t refl) in
    ap Some (sym read.0.1)

pub returns-clause-number : goal.returns-clause-number
returns-clause-number c =
    let found = found_of c.args.matches.now in
    ap (option_map number_in) (sym (one_text-rows found c.args.argument.now))
    ∙ number_read (ExplainsUnsignedError 10) HasUnsignedDigitsIfOk (one_text found c.args.argument.now) c.get_one.result
    c.in_ok-number.number c.in_ok-number.ensures.ok_part c.get_one.ensures.none c.get_one.ensures.value

pub returns-clause-file : goal.returns-clause-file
returns-clause-file c =
    let found = found_of c.args.matches.now in
    let copied : string_bytes c.in_ok-file-2.file ≡ c.in_ok-file.file.now = search rules in
    sym (first_value-rows found _) ∙ sym c.get_str.ensures
    ∙ ap (option_map (λ (s : Bor Text). s.now)) c.in_ok-file.ensures.ok_part ∙ ap Some (sym copied)
