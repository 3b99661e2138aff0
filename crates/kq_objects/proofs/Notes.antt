-- Noting one thing after the other: what is left can still be carried out.
use Rattle.std.proofs.Common.{◌≡◌, ◌∙◌, ◌<◌, ℕ, ◌+◌, List, ◌∷◌, length, get_or, drop, sym, ap, subst, add-one, drop-cons}
use Rattle.kq_model.specs.declared.doing.Doing.{Doing}
use Rattle.kq_model.specs.Objects as model
use Rattle.kq_objects.specs.declared.objects.Objects.{Objects}
use Rattle.kq_objects.specs.Objects.{objects_of, spare_room, AllFit, IsRoomFor, IsReady}

pub next : (ds : List Doing) (i : ℕ) (d : Doing) → i < length ds → drop i ds ≡ get_or ds i d ∷ drop (i + 1) ds
next ds i d below = rw add-one (drop-cons ds i d below)

rest-ready : (d : Doing) (ds : List Doing) (old new : Objects) → IsReady (d ∷ ds) old → objects_of new ≡ model.done d (objects_of old)
    → (IsRoomFor (d ∷ ds) (spare_room old) → IsRoomFor ds (spare_room new)) → IsReady ds new
rest-ready d ds old new ready noted room = record {
  fits = subst (AllFit ds) (sym noted) ready.fits.1;
  room = room ready.room;
}

-- what is left after the next thing was noted
pub step-ready : (all : List Doing) (d : Doing) (ds : List Doing) (old new : Objects) → all ≡ d ∷ ds → IsReady all old
    → objects_of new ≡ model.done d (objects_of old) → (IsRoomFor (d ∷ ds) (spare_room old) → IsRoomFor ds (spare_room new)) → IsReady ds new
step-ready all d ds old new cons ready noted room =
    let Ready : List Doing → Type 0 = λ l. IsReady l old in
    rest-ready d ds old new (subst Ready cons ready) noted room

pub step-rest : (all : List Doing) (d : Doing) (ds : List Doing) (old new : Objects) → all ≡ d ∷ ds
    → objects_of new ≡ model.done d (objects_of old) → model.all_done ds (objects_of new) ≡ model.all_done all (objects_of old)
unfolding model.all_done
step-rest all d ds old new cons noted =
    ap (model.all_done ds) noted ∙ ap (λ (l : List Doing). model.all_done l (objects_of old)) (sym cons)
