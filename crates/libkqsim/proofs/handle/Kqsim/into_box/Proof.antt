-- `into_box` makes the box again.
use Rattle.std.proofs.Common.{◌≡◌, List, [], ◌∷◌, ◌++◌, refl, sym, ap, ◌∙◌, subst}
use Rattle.std.proofs.raw_atomic.Walks.{proved_at, leaves}
use Rattle.std.proofs.BoxSteps.Form as box
use Rattle.std.proofs.BoxSteps.Steps.{box_out, box_in}
use mir.Syntax.{tnil, tcons, dnil, impl, Dict}
use mir.Val.{Val, vptr, vstruct, vcons, vnil}
use mir.Raw.{raw as bare}
use base.Logic.{SProp, ent, emp, id⊢, never, fst∗}
use base.Fml.{ftrue, flft}
use contract.Monad.{fact, fact_i}
use contract.Running.{tables}
use prog.Wp.{WpFn}
use types.Logic.{sem}
use types.Kit.{‵, raw, ◌⊛◌, some, later, at_ret, ◌$◌, ◌∵◌, !, qed, by, move, keep, drop, split, split3, join, fsplit}
use types.Kit.{fjoin, pick, suffices, use0, use1, use2, await, rewrite, feq_i}
use types.Run.{enter, of_opd, stop, fld, no_more, and_then, first, blocks, exec, returns}
use types.ByLocal.{alloc_all, pass_all, free_all, look_at, get, get_in, sets, lands_last, env}
use types.Part.{sub, whole}
use types.Tokens.{lft_new}
use contract.BorrowLft.{◌⊑◌, ⊑_static}
use base.Fraction.{full_share}
use denote.Exit.{no}
use denote.Laws.{shows}
use denote.Memory.{lone}
use Rattle.std.proofs.alloc.Calls.{handle_tells}
use Rattle.libkqsim.proofs.handle.Kqsim.TheLaws.{lowers}
use denote.Param.{layout, arg}
use denote.Param.Laws.{Laws, arg_laws}
use denote.Param.NoDrop.{glues}
use denote.RattleType.{RattleType, owns}
use denote.RawPtr.{Ptr, block_ptr, null_ptr, in_a_block}
use denote.Signature.{types_at, plain}
use denote.Steps.{nothing, only, peeks}
use Rattle.std.proofs.cell.Inside.{Good}
use denote.Triple.Call.{calls_at_last}
use denote.Triple.Clauses.{Lasts, lasts}
use denote.Triple.Spec.{triple_of}
use denote.Triple.Table.{framed}
use denote.Triple.Walked.{Stays, stay_dropped, Goes-dropped, walk_of}
use Rattle.std.specs.contracts.alloc.Global.{the_row as Z}
use Rattle.std.proofs.alloc.Global.TheLaws.{the_row_laws as LZ}
use Rattle.std.specs.contracts.impls.GlobalAllocator.TheImpl.{ghosts, dict}
use Rattle.std.proofs.impls.GlobalAllocator.TheImpl.Met.{passed}
use Rattle.std.specs.contracts.boxed.Box as Box
use Rattle.std.specs.contracts.boxed.Box.from_raw as g
use Rattle.std.proofs.boxed.Box.from_raw.Met.{met}
use Rattle.libkqsim.specs.contracts.sim.Sim.{the_row as S}
use Rattle.libkqsim.proofs.sim.Sim.TheLaws.{the_row_laws as LS}
use Rattle.libkqsim.specs.Handles.{heap, held}
use Rattle.libkqsim.specs.contracts.handle.Kqsim.{the_row as R}
use Rattle.libkqsim.specs.contracts.handle.Kqsim.into_box as f
use Rattle.libkqsim.proofs.handle.Kqsim.into_box.Statement.{statement}
use Rattle.libkqsim.proofs.handle.Kqsim.into_box.Code as code

abbrev none : Dict
none = impl ("libkqsim::Destruct++none::drop" ∷ []) (tcons (bare (layout Z)) tnil) dnil

-- the two types as arguments of a generic function
abbrev S' : RattleType
S' = arg (bare (layout S)) no S

abbrev Z' : RattleType
Z' = arg (bare (layout Z)) no Z

abbrev LS' : Laws S'
LS' = arg_laws (bare (layout S)) no S LS refl

abbrev LZ' : Laws Z'
LZ' = arg_laws (bare (layout Z)) no Z LZ refl

abbrev E : box.Bx
E = record { row = S'; laws = LS'; al = record { row = Z'; laws = LZ'; g = ghosts; d = dict; drops = none } }

abbrev B : RattleType
B = Box.the_row S Z ghosts

abbrev stayed : Stays f.ended.signature.params f.ended.kept
stayed = (stay_dropped (plain (λ _. R)) f.ended.kept.0, (stay_dropped (plain (λ _. Z)) f.ended.kept.1.0, tt))

pub into_box_spec : {M : Type 1} → statement M
unfolding Rattle.libkqsim.proofs.Destruct++none.drop.Code.code
into_box_spec {M = M} 𝓤 𝓛 𝓜 𝓡 wired =
    let c = f.clauses 𝓛 𝓜.mem 𝓡.returns in
    let 𝓣 = tables 𝓤 𝓛.H 𝓜 𝓡 𝓡.env in
    proved_at 𝓛 f.ended stayed c 𝓜 𝓡 (
      Goes-dropped 𝓛 0 (plain (λ _. R)) f.ended.kept.0 (λ κs x w. refl),
      (
        Goes-dropped 𝓛 0 (plain (λ _. Z))
            f.ended.kept.1.0 (λ κs x w. refl),
        tt,
      ),
    )
    f.Key.name code.function (code.unfolded 𝓤 𝓛.H 𝓜 𝓡 wired) (λ z are.
    let v = z.0.3.0 in
    let a = z.0.3.1.0 in
    let us = z.0.4.0 in
    let hs = z.0.4.1.0 in
    let Post : Val → SProp 𝓤 = (walk_of 𝓛 f.ended stayed c).post z in
    let Run : List Val → SProp 𝓤 = λ ws. WpFn 𝓤 𝓛.H 𝓣.C 𝓣.Λ code.function ws Post in
    qed 𝓛 ((‵ ftrue ⊛ ‵ (owns (types_at f.ended.signature.params tt) z.0.3 z.0.4)) ∷ ‵ ftrue ∷ []) ∵
    split ! $ drop ! $ fsplit ! $ peeks ! R _ (shows 𝓛 R) v us (λ is. fsplit ! $ move ! (2 ∷ []) $ fsplit ! $
    handle_tells E.al ! a hs (λ h ea fits. move ! (3 ∷ []) $
    in_a_block ! v.at (λ p. held p v.state) (fst∗ 𝓤 (never 𝓤) (sem 𝓛 (ghosts.dealloc_token heap (bare (lone
    S.mir)) null_ptr)))
    (λ b o e.
    -- [the system and the right to free it; the allocator; ..]
    let w : Val = vstruct (vcons (vptr b o) vnil) in
    let eu = lowers.val_is v us is ∙ ap (λ (p : Ptr). lowers.lowered (record v { at = p }) ∷ []) e in
    let alive = passed 𝓡.env (code.calls-std_heap::GlobalAllocator::allocate 𝓡.env wired)
    (code.calls-std_heap::GlobalAllocator::deallocate 𝓡.env wired)
    (code.calls-std_heap::GlobalAllocator::grow 𝓡.env wired)
    (code.calls-std_heap::GlobalAllocator::shrink 𝓡.env wired) M 𝓤 𝓛 𝓜 𝓡 in
    let plainly = glues "libkqsim::Destruct++none::drop" 𝓡.env (code.calls-libkqsim::Destruct++none::drop 𝓡.env
    wired) Z' LZ' M 𝓤 𝓛 𝓜 𝓡 in
    let k = triple_of 𝓛 (g.signature S' Z' ghosts dict none) (g.spec S' Z' ghosts dict none 𝓛 𝓜.mem 𝓡.returns) in
    suffices ! (Run (w ∷ h ∷ [])) (subst (λ (xs : List Val). ent 𝓤 (Run (w ∷ h ∷ [])) (Run xs)) (sym (λ i. eu i ++
    (ea i ++ [])))
    (id⊢ 𝓤 (Run (w ∷ h ∷ [])))) $
    enter ! 𝓣.C 𝓣.Λ code.function (w ∷ h ∷ []) Post $ alloc_all ! (λ l. pass_all ! refl ((tt, (tt, tt)), (fits, tt)) $
    sets ! (of_opd ! (get_in ! (fld ! refl (stop !)) (sub ! 0 refl (whole !)))) refl (tt, tt) $
    first ! $ blocks ! $ sets ! (of_opd ! (get ! refl)) refl (tt, tt) $
    lft_new ! tt (λ α. lft_new ! tt (λ β.
    let y : k.Ghost = (
      (
        (α ∷ [], (β ∷ [], tt)),
        (full_share, (full_share, tt)),
        tt,
        (a, (block_ptr b o, tt)),
        (h ∷ [], (vptr b o ∷ [], tt)),
      ),
      v.state,
    ) in
    nothing ! $ move ! (1 ∷ 0 ∷ []) $ join ! $ move ! (1 ∷ 0 ∷ []) $ join ! $
    nothing ! $ feq_i ! (List Val) (vptr b o ∷ []) (vptr b o ∷ []) refl $ join ! $
    move ! (3 ∷ 0 ∷ []) $ join ! $ move ! (1 ∷ 0 ∷ []) $ join ! $
    use0 𝓛 (raw (fact 𝓤 ((β ∷ []) ⊑ Z'.lives))) (fact_i 𝓤 _ (emp 𝓤) (⊑_static (β ∷ []))) $ move ! (0 ∷ 2 ∷ []) $
    join ! $
    use0 𝓛 (raw (fact 𝓤 ((α ∷ []) ⊑ S'.lives))) (fact_i 𝓤 _ (emp 𝓤) (⊑_static (α ∷ []))) $ join ! $
    move ! (1 ∷ 0 ∷ []) $ use2 𝓛 (raw (k.pre y)) (id⊢ 𝓤 _) $
    calls_at_last ! (framed 𝓤 𝓛.H 𝓜 𝓣) k
    (met 𝓤 𝓛 𝓜 𝓡 (code.calls-std_alloc::boxed::Box::from_raw 𝓡.env wired) S' Z' LS' LZ' ghosts dict none alive plainly)
    y (and_then ! (get ! refl) (and_then ! (get ! refl) (no_more !))) (λ u.
    use1 𝓛 (later (some (λ (r : (box.B E).Denot). ((‵ (flft (α ∷ []) full_share) ⊛ ‵ (flft (β ∷ []) full_share) ⊛ ‵
    ftrue) ⊛
    ‵ ((box.B E).own_val r (u ∷ []))) ⊛ some (λ (ls : Lasts (g.ended S' Z' ghosts dict none) y.0.0 y.0.3).
    ‵ (lasts (g.ended S' Z' ghosts dict none) y.0.0 y.0.3 ls) ⊛
    raw (fact 𝓤 (r.value ≡ v.state)) ⊛ raw (fact 𝓤 (r.alloc ≡ a)))))) (id⊢ 𝓤 (k.post y u)) $
    await ! tt $ pick ! (λ r. split ! $ split ! $ drop ! $ move ! (1 ∷ []) $ pick ! (λ _. split3 ! $ drop ! $
    move ! (2 ∷ []) $
    box_out E ! r (u ∷ []) (λ b' o' h' e' ws fits'. box_in E ! r b' o' r.value e' refl $
    rewrite ! 0 (λ (xs : List Val). ‵ ((box.B E).own_val r xs)) (sym ws) refl $
    let good : Good (layout B) u = subst (Good (layout B)) (sym (ap only ws)) (box.box_typed E h' b' o' fits') in
    lands_last ! refl good $ exec ! 𝓣.C 𝓣.Λ (env code.Mir.locals l) code.Mir.t-3 (at_ret _ Post) $
    sets ! (of_opd ! (get ! refl)) refl good $
    nothing ! $ nothing ! $ fjoin ! $ nothing ! $ fjoin ! $ nothing ! $
    returns ! (look_at ! 0 refl) $ free_all ! refl $ keep ! (0 ∷ 1 ∷ 2 ∷ 3 ∷ []) $
    by ! (leaves 𝓛 f.ended stayed c z u r (tt, (tt, tt)) (tt, (tt, tt))))))))))))))
