-- What of a knote stays as it hears hints: all but what was heard, and whether it is active.
use Rattle.std.proofs.Common.{◌≡◌, ℕ, ℤ, Bool, false, ◌&&◌, List, [], ◌∷◌, Option, Some, None, refl, sym, ap, ◌∙◌, subst}
use Rattle.kq_model.specs.declared.key.Key.{Key}
use Rattle.kq_model.specs.declared.object.Hint.{Hint}
use Rattle.kq_model.specs.declared.object.Target.{Target}
use Rattle.kq_model.specs.declared.object.Target.TheVariants.{Process}
use Rattle.kq_model.specs.Bits.{has_note, track_note}
use Rattle.kq_model.specs.ChangedKnote.{activated}
use Rattle.kq_model.specs.Following.{follows}
use Rattle.kq_model.specs.Hints.{added, kept, heard_by, hears_exit, unless_silent, alerted}
use Rattle.kq_model.specs.Look.{Seen, look}
use Rattle.kq_model.specs.Tallied.{Knote}
use Rattle.kq_model.specs.Targets.{is_target}
use Rattle.kq_model.specs.Views.{Views}

pub record Lasting : Type 0 where
  pub key : Key
  pub target : Option Target
  pub fflags : ℕ
  pub datum : ℤ
  pub udata : ℕ
  pub oneshot : Bool
  pub clear : Bool
  pub dispatch : Bool
  pub notice : Option ℕ

abbrev pub lasting : Knote → Lasting
lasting k = record {
  key = k.key;
  target = k.target;
  fflags = k.fflags;
  datum = k.datum;
  udata = k.udata;
  oneshot = k.oneshot;
  clear = k.clear;
  dispatch = k.dispatch;
  notice = k.notice;
}

pub follows-as : (pid : ℕ) (x k : Knote) → lasting x ≡ lasting k → follows pid x ≡ follows pid k
follows-as pid x k same =
    ap (λ (p : Lasting). is_target p.target (Process pid) && has_note p.fflags track_note) same

lasting-added : (hint : Option Hint) (k : Knote) → lasting (added hint k) ≡ lasting k
unfolding added
lasting-added None k = refl
lasting-added (Some hint) k = refl

pub lasting-heard : (hints : List Hint) (k : Knote) → lasting (heard_by hints k) ≡ lasting k
unfolding heard_by
lasting-heard [] k = refl
lasting-heard (hint ∷ hints) k =
    lasting-heard hints (added (kept k.fflags hint) k) ∙ lasting-added (kept k.fflags hint) k

lasting-activated : (seen : Option Seen) (k : Knote) → lasting (activated seen k) ≡ lasting k
unfolding activated
lasting-activated None k = refl
lasting-activated (Some seen) k = refl

-- ---- without an exit it is there, as it was

abbrev pub Stays : Knote → Option Knote → Type 0
Stays k None = ⊥
Stays k (Some x) = lasting x ≡ lasting k

pub stays-alerted : (views : Views) (hints : List Hint) (k : Knote) → hears_exit hints k ≡ false
    → Stays k (alerted views hints k)
unfolding alerted unless_silent
stays-alerted views [] k none = refl
stays-alerted views (hint ∷ hints) k none =
    let heard = heard_by (hint ∷ hints) k in
    subst (λ b. Stays k (unless_silent b (activated (look views heard) heard))) (sym none)
    (lasting-activated (look views heard) heard ∙ lasting-heard (hint ∷ hints) k)
