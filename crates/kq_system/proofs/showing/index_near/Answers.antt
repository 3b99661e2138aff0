use Rattle.std.proofs.Common.{◌≡◌, ◌∙◌, Some, nat_eq, slice_get, sym, ap, subst}
use Rattle.std.specs.Option.{unwrap_or}
use Rattle.kq_system.proofs.NearLemmas.{found_or_end, stands_there}
use Rattle.kq_system.proofs.ShowLemmas.{Entries}
use Rattle.kq_system.proofs.showing.index_near.Goals as goal

pub returns-in-Some : goal.returns-in-Some
returns-in-Some c =
    let es = c.args.live.now.entries in
    let v = c.in-Some.field-0-1.now in
    let there : slice_get es c.args.guess ≡ Some (c.in-Some.found.now, v) =
    ap (λ (xs : Entries). slice_get xs c.args.guess) (sym c.as_slice.ensures.entries) ∙ sym c.in-Some.ensures.entry in
    sym (stands_there es c.args.guess c.args.place v c.as_slice.ensures.unique
    (subst (λ k. slice_get es c.args.guess ≡ Some (k, v)) c.if-found-place.true there))

pub returns-in_default : goal.returns-in_default
returns-in_default c =
    c.unwrap_or.ensures ∙ (λ i. unwrap_or (c.get_index_of.ensures.index i) (c.len.ensures.len i))
    ∙ found_or_end (nat_eq c.args.place) c.args.live.now.entries
