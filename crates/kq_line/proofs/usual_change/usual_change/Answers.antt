-- The members are those of a change.
use Rattle.std.proofs.Common.{Some, codes, w64, refl, sym, ap, ◌∙◌, subst, arith, rules}
use Rattle.std.proofs.lemmas.Int.{to_z-of_z}
use Rattle.serde_json.specs.Data.{object}
use Rattle.kq_model.specs.ChangeText.{change_with}
use Rattle.kq_line.specs.Spells.{IsValue}
use Rattle.kq_line.proofs.MemberSteps.{all_members, first_member, next_member}
use Rattle.kq_line.proofs.Owed.{members_value}
use Rattle.kq_line.proofs.Parts.{nests_more}
use Rattle.kq_line.proofs.Scalar.{name_value, number_value}
use Rattle.kq_line.proofs.UsualChange.{change_is}
use Rattle.kq_line.proofs.usual_change.usual_change.Goals as goal

pub returns-clause-value : goal.returns-clause-value
returns-clause-value c =
    let start = c.in_ok-members.members.now in
    let ident = c.in_ok-ident in
    let ident_text = c.in_ok-behind_key.field-0.now in
    let ident_value = nests_more 0 1 ident_text ident.rest.now _ (omega arith) (number_value ident_text ident.rest.now ident.ident ident.ensures.fits ident.ensures.cut) in
    let one = first_member 1 start ident_text ident.rest.now (codes "ident") _ refl c.in_ok-behind_key.ensures.key ident_value in
    let name = c.in_ok-name in
    let name_text = c.in_ok-behind_next_key.field-0.now in
    let name_value = nests_more 0 1 name_text name.rest.now _ (omega arith) (name_value name_text name.name.now name.rest.now name.ensures.name name.ensures.cut) in
    let two = next_member 1 start ident.rest.now name_text name.rest.now (codes "filter") _ _ refl one c.in_ok-behind_next_key.ensures.key name_value in
    let flags = c.in_ok-flags.ensures.value in
    let flags_text = c.in_ok-behind_next_key-2.field-0.now in
    let flags_value = subst (λ t. IsValue 1 t c.in_ok-flags.rest.now flags.0) (sym c.in_ok-behind.ensures.cut) flags.1 in
    let three = next_member 1 start name.rest.now flags_text c.in_ok-flags.rest.now (codes "flags") _ flags.0 refl two c.in_ok-behind_next_key-2.ensures.key flags_value in
    let fflags = c.in_ok-fflags.ensures.value in
    let datum = c.in_ok-datum.ensures.value in
    let udata = c.in_ok-udata.ensures.value in
    let six = udata.2 start _ (datum.2 start _ (fflags.2 start _ three)) in
    let all = all_members 1 start c.in_ok-udata.rest.now c.in_ok-tail.tail.now _ six c.in_ok-tail.ensures.cut in
    let is = change_is ident.ident name.name.now flags.0 c.in_ok-filter.filter c.in_ok-flags.flags.0 c.in_ok-fflags.fflags c.in_ok-datum.datum c.in_ok-udata.udata
    fflags.0 datum.0 udata.0 c.in_ok-filter.ensures flags.2 fflags.1 c.in_ok-fflags.ensures.fits datum.1 c.in_ok-datum.ensures.fits udata.1 in (
      object _,
      members_value 1 c.args.text.now start c.in_ok-tail.tail.now _ c.in_ok-members.ensures.cut all,
      is.0,
      is.1
          ∙ ap (λ z. change_with (Some ident.ident) (Some c.in_ok-filter.filter) (Some c.in_ok-flags.flags.0) (Some c.in_ok-fflags.fflags) (Some z) (Some c.in_ok-udata.udata))
          (sym (to_z-of_z w64 c.in_ok-datum.datum (search rules))) ∙ sym c.change_with-change.ensures,
    )
