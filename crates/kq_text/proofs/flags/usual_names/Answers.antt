-- The text of each list.
use Rattle.std.proofs.Common.{◌≡◌, sym, ◌∙◌, rules}
use Rattle.std.proofs.lemmas.Bool.{eqb-true}
use Rattle.kq_model.specs.Bits.{clear, dispatch, eof, oneshot}
use Rattle.kq_text.proofs.FlagTextLemmas.{clear_name, dispatch_name, eof_name, no_names, oneshot_name}
use Rattle.kq_text.proofs.flags.usual_names.Goals as goal

pub returns-then-is_empty-clause-text : goal.returns-then-is_empty-clause-text
returns-then-is_empty-clause-text c =
    no_names c.args.flags (eqb-true c.args.flags.0 0 (sym (c.is_empty.ensures tt) ∙ c.if-is_empty.true))

pub returns-then-eq-clause-text : goal.returns-then-eq-clause-text
returns-then-eq-clause-text c = let e : c.args.flags.0 ≡ clear = search rules in clear_name c.args.flags e

pub returns-then-eq-2-clause-text : goal.returns-then-eq-2-clause-text
returns-then-eq-2-clause-text c = let e : c.args.flags.0 ≡ eof = search rules in eof_name c.args.flags e

pub returns-then-eq-3-clause-text : goal.returns-then-eq-3-clause-text
returns-then-eq-3-clause-text c = let e : c.args.flags.0 ≡ oneshot = search rules in oneshot_name c.args.flags e

pub returns-then-eq-4-clause-text : goal.returns-then-eq-4-clause-text
returns-then-eq-4-clause-text c = let e : c.args.flags.0 ≡ dispatch = search rules in dispatch_name c.args.flags e
