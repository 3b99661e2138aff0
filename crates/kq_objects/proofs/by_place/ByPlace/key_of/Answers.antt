use Rattle.std.proofs.Common.{◌∙◌, sym, ap, option_copied}
use Rattle.kq_objects.proofs.by_place.ByPlace.key_of.Goals as goal

pub returns-in-Some : goal.returns-in-Some
returns-in-Some g c = record {
  told = sym c.get.ensures ∙ c.in_ok-key.was;
  placed = c.in-Some.placed.now;
  there = sym c.get-2.ensures ∙ ap option_copied c.in-Some.is;
  own = c.if-placed-place.true;
}
