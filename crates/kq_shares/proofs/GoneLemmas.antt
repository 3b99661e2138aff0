-- A share goes over some records more.
use Rattle.std.proofs.Common.{◌≡◌, ◌∙◌, ℕ, ◌+◌, List, [], ◌∷◌, ◌++◌, Option, length, refl, sym, ap, ap₂, arith, append_assoc, append-nil, length-append, add-zero}
use Rattle.kq_model.specs.declared.event.Event.{Event}
use Rattle.kq_model.specs.declared.reply.Reply.{Reply}
use Rattle.kq_model.specs.declared.row.Row.{Row}
use Rattle.kq_model.specs.Shares.{share_after, share_rows, share_step}
use Rattle.kq_model.specs.System.{row_of}
use Rattle.kq_model.specs.Tallied.{System}
use Rattle.kq_system.specs.Sharing.{ShareState, own_of, IsShareStep}
use Rattle.kq_system.specs.SystemState.{system_of}
use Rattle.kq_shares.specs.Going.{HasGone, HaveGone}
use Rattle.kq_shares.specs.declared.going.Gone.{Gone}
use Rattle.std.specs.Prelude.{Bool}
use Rattle.kq_model.specs.Shares.{dealt}
use Rattle.kq_system.specs.declared.dealing.Dealing.{Dealing}
use Rattle.kq_system.specs.Dealing.{share_for}

abbrev Own : Type 0
Own = Option ℕ → Bool

later : (place : ℕ) (es : List Event) (e : Event) → (place + 1) + length es ≡ place + length (e ∷ es)
later place es e = omega arith

after-more : (own : Own) (place : ℕ) (s : System) (es fs : List Event)
    → share_after own place s (es ++ fs) ≡ share_after own (place + length es) (share_after own place s es) fs
unfolding share_after
after-more own place s [] fs = ap (λ n. share_after own n s fs) (sym (add-zero place))
after-more own place s (e ∷ es) fs =
    let next = (share_step own place e s).system in
    after-more own (place + 1) next es fs
    ∙ ap (λ n. share_after own n (share_after own (place + 1) next es) fs) (later place es e)

rows-more : (own : Own) (place : ℕ) (s : System) (es fs : List Event)
    → share_rows own place s (es ++ fs) ≡ share_rows own place s es ++ share_rows own (place + length es) (share_after own place s es) fs
unfolding share_rows share_after
rows-more own place s [] fs = ap (λ n. share_rows own n s fs) (sym (add-zero place))
rows-more own place s (e ∷ es) fs =
    let next = (share_step own place e s).system in
    let here = row_of place (share_step own place e s).reply in
    ap (λ rs. here ++ rs) (rows-more own (place + 1) next es fs
    ∙ ap (λ n. share_rows own (place + 1) next es ++ share_rows own n (share_after own (place + 1) next es) fs) (later place es e))
    ∙ sym (append_assoc here (share_rows own (place + 1) next es) (share_rows own (place + length (e ∷ es)) (share_after own (place + 1) next es) fs))

pub gone-none : (s : ShareState) → HasGone s [] s []
unfolding share_after share_rows
gone-none s = record { system = refl; applied = sym (add-zero s.state.applied); number = refl; dealing = refl; gave = refl }

pub gone-one : (old new : ShareState) (e : Event) (r : Reply) (at : ℕ)
    → IsShareStep (own_of old) (old.state.applied + 1) e (system_of old.state) (system_of new.state) r
    → new.state.applied ≡ old.state.applied + 1 → new.number ≡ old.number → new.dealing ≡ old.dealing → at ≡ new.state.applied
    → HasGone old (e ∷ []) new (row_of at r)
unfolding share_after share_rows
gone-one old new e r at steps applied number dealing here = record {
  system = steps.0;
  applied = applied;
  number = number;
  dealing = dealing;
  gave = ap₂ row_of (here ∙ applied) steps.1 ∙ sym (append-nil _);
}

module _ (old mid new : ShareState) (es fs : List Event) (rows more : List Row) (first : HasGone old es mid rows) (then : HasGone mid fs new more) where
  own-same : own_of mid ≡ own_of old
  own-same = ap₂ (λ (d : Dealing) (number : ℕ). dealt (share_for d) number) first.dealing first.number

  place-same : mid.state.applied + 1 ≡ (old.state.applied + 1) + length es
  place-same = let a = first.applied in omega arith

  pub gone-more : HasGone old (es ++ fs) new (rows ++ more)
  gone-more =
      let own = own_of old in
      let place = old.state.applied + 1 in
      let s = system_of old.state in
      record {
        system = then.system
            ∙ ap₂ (λ (o : Own) (t : System). share_after o (mid.state.applied + 1) t fs) own-same first.system
            ∙ ap (λ n. share_after own n (share_after own place s es) fs) place-same
            ∙ sym (after-more own place s es fs);
        applied = let a = first.applied in let b = then.applied in omega (arith, length-append es fs);
        number = then.number ∙ first.number;
        dealing = then.dealing ∙ first.dealing;
        gave = ap₂ (λ xs ys. xs ++ ys) first.gave (then.gave
            ∙ ap₂ (λ (o : Own) (t : System). share_rows o (mid.state.applied + 1) t fs) own-same first.system
            ∙ ap (λ n. share_rows own n (share_after own place s es) fs) place-same)
            ∙ sym (rows-more own place s es fs);
      }

-- one more
pub gone-push : (olds : List ShareState) (old : ShareState) (es : List Event) (gs : List Gone) (g : Gone) → HaveGone olds es gs
    → HasGone old es g.share.value g.rows.items → HaveGone (olds ++ old ∷ []) es (gs ++ g ∷ [])
gone-push [] old es [] g all one = (one, tt)
gone-push [] old es (x ∷ gs) g all one = absurd all
gone-push (o ∷ olds) old es [] g all one = absurd all
gone-push (o ∷ olds) old es (x ∷ gs) g all one = (all.0, gone-push olds old es gs g all.1 one)
