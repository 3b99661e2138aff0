-- `none` puts the two numbers together, and owns nothing.
use Rattle.std.proofs.Common.{◌≡◌, List, [], ◌∷◌, refl, w32}
use Rattle.std.proofs.raw_atomic.Walks.{proved, leaves}
use mir.Val.{Val, vint, vstruct, vcons, vnil, of_z}
use base.Logic.{emp}
use base.Fml.{ftrue}
use contract.Monad.{fact, fact_i}
use contract.Running.{tables}
use types.Kit.{‵, raw, ◌$◌, ◌∵◌, !, qed, by, keep, drop, fjoin, use0, feq_i, fpack}
use types.Run.{enter, no_more, and_then, returns}
use types.ByLocal.{alloc_all, pass_all, free_all, look_at, get, sets}
use types.Part.{agg}
use denote.Exit.{yes}
use denote.Builtin.{i32, RawPtr}
use denote.RattleType.{Valss}
use denote.RawPtr.{ptr_val, rawptr_vals, rawptr_Tells, rawptr_Lawful}
use denote.Signature.{plain}
use denote.Signed.{sint_vals, sint_Tells, sint_Lawful, sint_Makes}
use denote.Steps.{nothing, owned}
use denote.Triple.Entry.{on_entry}
use Rattle.std.proofs.ResultValues.{and_tt}
use denote.Struct.Struct.{within}
use denote.Struct.Owning.{shape}
use denote.Triple.Walked.{Stays, stay_dropped, Goes-dropped, walk_of}
use Rattle.std.specs.Prelude.{Option, None}
use Rattle.libkqsim.specs.declared.handle.Kqsim.{Kqsim}
use Rattle.libkqsim.specs.contracts.published.Published.{the_type}
use Rattle.libkqsim.specs.contracts.published.Published.none as f
use Rattle.libkqsim.proofs.published.Published.none.Statement.{statement}
use Rattle.libkqsim.proofs.published.Published.none.Code as code

abbrev stayed : Stays f.ended.signature.params f.ended.kept
stayed = (stay_dropped _ yes, (stay_dropped _ yes, tt))

pub none_spec : {M : Type 1} → statement M
none_spec 𝓤 𝓛 𝓜 𝓡 wired =
    let c = f.clauses 𝓛 𝓜.mem 𝓡.returns in
    let W = walk_of 𝓛 f.ended stayed c in
    let 𝓣 = tables 𝓤 𝓛.H 𝓜 𝓡 𝓡.env in
    proved 𝓛 f.ended stayed c 𝓜 𝓡 (
      Goes-dropped 𝓛 0 (plain (λ _. i32)) yes (λ κs x w. refl),
      (
        Goes-dropped 𝓛 0 (plain (λ _. RawPtr)) yes (λ κs x
            w. refl),
        tt,
      ),
    )
    f.Key.name code.function (code.unfolded 𝓤 𝓛.H 𝓜 𝓡 wired)
    (λ κs. (sint_vals w32, (rawptr_vals, tt))) (λ κs. (sint_Tells w32, (rawptr_Tells, tt))) (λ κs qs bounds a _ are.
    let z = a.0 in
    let p = a.1.0 in
    let y : W.Ghost = ((κs, qs, bounds, a, (sint_vals w32 z, (rawptr_vals p, tt))), tt) in
    let m : Option Kqsim = None in
    let number = ((sint_Lawful 𝓛 w32).typed z (sint_vals w32 z) are.0).0 in
    let at = ((rawptr_Lawful 𝓛).typed p (rawptr_vals p) refl).0 in
    let v : Val = vstruct (vcons (vint w32 (of_z w32 z)) (vcons (ptr_val p) vnil)) in
    qed 𝓛 (raw (on_entry 𝓛 f.signature κs qs a y.0.4) ∷ ‵ ftrue ∷ []) ∵ drop ! $ drop ! $
    enter ! _ _ _ _ _ $ alloc_all ! (λ l. pass_all ! refl (number, (at, tt)) $
    sets ! (agg ! (and_then ! (get ! refl) (and_then ! (get ! refl) (no_more !)))) refl (
      and_tt _ at.0,
      (
        number.1,
        (at.1, tt),
      ),
    ) $
    nothing ! $ nothing ! $ feq_i ! (List Val) (rawptr_vals p) (rawptr_vals p) refl $ fjoin ! $
    owned ! i32 _ (sint_Makes 𝓛 w32) z (sint_vals w32 z) are.0 $ fjoin ! $
    feq_i ! (List Val) (v ∷ []) (v ∷ []) refl $ fjoin ! $
    fpack ! (Valss (i32 ∷ RawPtr ∷ [])) (within (shape the_type) (z, (p, tt)) (v ∷ [])) (
      sint_vals w32 z,
      (rawptr_vals p, tt),
    ) $ fjoin ! $
    -- [the result]
    use0 𝓛 (raw (fact 𝓤 ((z ≡ z) × (p ≡ p) × (m ≡ m)))) (fact_i 𝓤 _ (emp 𝓤) (refl, refl, refl)) $
    nothing ! $ nothing ! $ fjoin ! $ nothing ! $ fjoin ! $ nothing ! $
    returns ! (look_at ! 0 refl) $ free_all ! refl $ keep ! (0 ∷ 1 ∷ 3 ∷ 2 ∷ []) $
    by ! (leaves 𝓛 f.ended stayed c y v (record { number = z; at = p; made = m }) (tt, (tt, tt)) (tt, (tt, tt)))))
