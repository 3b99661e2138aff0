use Rattle.std.proofs.Common.{◌≡◌, vec_len, sym, ap, ◌∙◌, arith}
use Rattle.std.proofs.lemmas.Bool.{eqb-true}
use Rattle.std.proofs.lemmas.List.{nil_from_length}
use Rattle.kq_projection.specs.LoneKqueue.{LoneKqueue}
use Rattle.kq_projection.proofs.Kept.{none-heard}
use Rattle.kq_projection.proofs.alone.lone_kqueue.LoneKqueue.hear.Goals as goal

pub returns-then-is_empty : goal.returns-then-is_empty
returns-then-is_empty c =
    let told = c.self.inside.told in
    let none : vec_len told ≡ 0 = eqb-true (vec_len told) 0 (sym c.is_empty.ensures ∙ c.if-is_empty.true) in
    none-heard c.args.self.now
    (ap (λ (a : LoneKqueue). a.told) (sym c.self.view_is) ∙ nil_from_length told.items (omega (arith, told.ok.0, none)))
