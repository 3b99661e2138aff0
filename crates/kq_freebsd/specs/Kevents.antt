-- Kevents as C has them, and what they are in the model.
use Rattle.std.specs.Prelude.{◌≡◌, ◌⊎◌, ℕ, ◌+◌, ◌^◌, ℤ, true, List, [], ◌∷◌}
use Rattle.std.specs.Int.RustNames.{bit_and}
use Rattle.kq_freebsd.specs.declared.c_kevent.CKevent.{CKevent}
use Rattle.kq_freebsd.specs.Numbers.{filter_number}
use Rattle.kq_model.specs.declared.change.Change.{Change}
use Rattle.kq_model.specs.declared.filter.Filter.{Filter}
use Rattle.kq_model.specs.declared.filter.Filter.TheVariants.{Empty}
use Rattle.kq_model.specs.declared.kevent.Kevent.{Kevent}
use Rattle.kq_model.specs.Refusals.{is_malformed}

-- the flags of the model: the low eight bits, EV_ERROR and EV_EOF
abbrev pub known_flags : ℕ
known_flags = 255 + 2 ^ 14 + 2 ^ 15

-- the kevent asks for this change
pub record IsChange (kevent : CKevent) (change : Change) : Type 0 where
  pub ident : change.ident ≡ kevent.ident
  pub filter : filter_number change.filter ≡ kevent.filter
  pub flags : change.flags ≡ record { 0 = kevent.flags }
  pub known : bit_and kevent.flags known_flags ≡ kevent.flags
  pub fflags : change.fflags ≡ kevent.fflags
  pub datum : change.datum ≡ kevent.datum
  pub udata : change.udata ≡ kevent.udata

-- no change of the model is what the kevent asks for
abbrev pub IsNoChange : CKevent → Type 0
IsNoChange kevent = (change : Change) → IsChange kevent change → ⊥

-- no filter has this number
abbrev pub IsNoFilter : ℤ → Type 0
IsNoFilter number = (f : Filter) → filter_number f ≡ number → ⊥

-- a change that a call of kevent(2) refuses with EINVAL, whatever is there; its filter is the kevent's, or EMPTY where
-- no filter has the number
pub record IsRefusal (kevent : CKevent) (change : Change) : Type 0 where
  pub ident : change.ident ≡ kevent.ident
  pub filter : (filter_number change.filter ≡ kevent.filter)
      ⊎ (IsNoFilter kevent.filter × (change.filter ≡ Empty))
  pub malformed : is_malformed change ≡ true
  pub fflags : change.fflags ≡ kevent.fflags
  pub datum : change.datum ≡ kevent.datum
  pub udata : change.udata ≡ kevent.udata

-- what is changed for a kevent: what it asks for, or nothing, with EINVAL, where its filter or a flag is not known
abbrev pub IsMadeOf : CKevent → Change → Type 0
IsMadeOf kevent change = IsChange kevent change ⊎ (IsNoChange kevent × IsRefusal kevent change)

-- the kevents make these changes, one by one
abbrev pub AreChanges : List CKevent → List Change → Type 0
AreChanges [] [] = Unit {0}
AreChanges [] (c ∷ cs) = ⊥
AreChanges (k ∷ ks) [] = ⊥
AreChanges (k ∷ ks) (c ∷ cs) = IsMadeOf k c × AreChanges ks cs

-- a kevent of the model, as C has it
abbrev pub as_c : Kevent → CKevent
as_c e = record {
  ident = e.ident;
  filter = filter_number e.filter;
  flags = e.flags.0;
  fflags = e.fflags;
  datum = e.datum;
  udata = e.udata;
}

-- an array with these events at its front, as many as it holds, and the rest as it was
unfoldable pub handed_out : List Kevent → List CKevent → List CKevent
handed_out [] array = array
handed_out (e ∷ es) [] = []
handed_out (e ∷ es) (slot ∷ slots) = as_c e ∷ handed_out es slots
