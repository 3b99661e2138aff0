-- The look-ups and the count decide.
use Rattle.std.proofs.Common.{Some, w64, sym, ap, ◌∙◌, rules}
use Rattle.std.proofs.lemmas.Int.{to_z-of_z}
use Rattle.kq_model.specs.ChangeText.{change_with}
use Rattle.kq_line.proofs.KnownChange.{change_known}
use Rattle.kq_line.proofs.changes.change_from.Goals as goal

pub returns : goal.returns
returns c = λ ms shows.
    let known = change_known ms c.in_ok-ident.ident c.in_ok-filter.filter c.in_ok-flags.flags.0 c.in_ok-fflags.fflags c.in_ok-datum.datum c.in_ok-udata.udata
    c.width.result c.extra_width.result
    (c.in_ok-ident.ensures ms shows) (c.in_ok-filter.ensures ms shows) (c.in_ok-flags.ensures ms shows) (c.in_ok-fflags.ensures ms shows)
    (c.in_ok-datum.ensures ms shows) (c.in_ok-udata.ensures ms shows) (c.width.ensures ms shows) c.if-width-extra_width.false (c.extra_width.ensures.count ms shows) in
    let datum = c.in_ok-datum.datum in (
      known.0,
      known.1
          ∙ ap (λ z. change_with (Some c.in_ok-ident.ident) (Some c.in_ok-filter.filter) (Some c.in_ok-flags.flags.0) (Some c.in_ok-fflags.fflags) (Some z) (Some c.in_ok-udata.udata))
          (sym (to_z-of_z w64 datum (search rules))) ∙ sym c.change_with.ensures,
    )
