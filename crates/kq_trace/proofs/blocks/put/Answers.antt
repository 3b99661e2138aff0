-- The first line feed of what came.
use Rattle.std.proofs.Common.{◌≡◌, ◌<◌, ◌+◌, ◌-◌, ◌++◌, ◌∷◌, [], ◌==◌, true, length, take, drop, get_or, rules, sym, ap, ◌∙◌, append_assoc, add-one, true≢false, arith}
use Rattle.std.proofs.lemmas.List.{take-append-drop}
use Rattle.kq_trace.proofs.BlockLines.{take_line}
use Rattle.kq_trace.proofs.Cuts.{behind}
use Rattle.kq_trace.proofs.blocks.put.Goals as goal

pub returns : goal.returns
returns c =
    let came = c.args.came.now in
    let block = c.args.block.now.items in
    let longer = c.extend_from_slice.new.self.items in
    let waiting = c.extend_from_slice-2.new.self.items in
    let end = c.in-Some.end in
    let there : (get_or came end 0 == 10) ≡ true = c.in-Some.ensures.1 in
    let lt : end < length came = c.in-Some.ensures.0.high in
    let put : longer ≡ block ++ take (end + 1) came = search rules in
    let none : c.args.waiting.now.items ≡ [] = search rules in
    let wait : waiting ≡ c.args.waiting.now.items ++ take (length came - (end + 1)) (drop (end + 1) came) = search rules in
    let rest : waiting ≡ drop (end + 1) came = wait ∙ ap (λ l. l ++ take (length came - (end + 1)) (drop (end + 1) came)) none ∙ behind came (end + 1) in
    let line = take_line came end lt there in
    record {
      split = ap (λ l. block ++ l) (sym (take-append-drop (end + 1) came)) ∙ sym (append_assoc block (take (end + 1) came) (drop (end + 1) came))
          ∙ ap (λ l. l ++ drop (end + 1) came) (sym put) ∙ ap (λ l. longer ++ l) (sym rest);
      line = λ is. (
        block ++ line.0,
        put ∙ ap (λ n. block ++ take n came) (add-one end) ∙ ap (λ l. block ++ l) line.1 ∙ sym (append_assoc block line.0 (10 ∷ [])),
      );
      some = λ is. omega (arith, lt);
      none = λ is. absurd (true≢false is);
    }
