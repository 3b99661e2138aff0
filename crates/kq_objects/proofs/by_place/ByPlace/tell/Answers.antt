use Rattle.std.proofs.Common.{◌≡◌, ◌∙◌, ap}
use Rattle.std.proofs.lemmas.Option.{same_Some}
use Rattle.slab.proofs.SlabLemmas.{Updates-with_value}
use Rattle.kq_objects.specs.declared.by_place.Placed.{Placed}
use Rattle.kq_objects.proofs.by_place.ByPlace.tell.Goals as goal

pub remove-requires : goal.remove-requires
remove-requires g c =
    let at = c.in-Some.ensures in
    let same : c.in-Some-get_mut.placed.now ≡ at.placed = same_Some _ _ (c.in-Some-get_mut.ensures.value ∙ at.there) in
    record {
      told = at.told;
      placed = record { place = c.in-Some-get_mut.placed.now.place; object = c.tell.new.self };
      there = (Updates-with_value c.args.self.now.slab c.in-Some.key _ (search at.there)).changed;
      own = ap (λ (p : Placed _). p.place) same ∙ at.own;
    }
