-- `of` takes the pointer out of the box.
use Rattle.std.proofs.Common.{◌≡◌, List, [], ◌∷◌, ◌++◌, refl, sym, ap, ◌∙◌, subst}
use Rattle.std.proofs.raw_atomic.Walks.{proved_at, leaves}
use Rattle.std.proofs.BoxSteps.Form as box
use Rattle.std.proofs.BoxSteps.Steps.{box_out, box_in}
use mir.Syntax.{tnil, tcons, dnil, impl, method, Dict}
use mir.Val.{Val, vptr, vstruct, vcons, vnil}
use mir.Raw.{raw as bare}
use base.Logic.{SProp, ent, emp, id⊢, never, fst∗}
use base.Fml.{ftrue, flft}
use contract.Lifetimes.{Lfts}
use contract.Monad.{fact, fact_i}
use contract.Running.{tables}
use prog.Wp.{WpFn}
use types.Logic.{sem}
use types.Kit.{‵, raw, ◌⊛◌, some, later, ◌$◌, ◌∵◌, !, qed, by, move, keep, drop, split, join, fsplit}
use types.Kit.{fjoin, pick, suffices, use0, use1, use2, await, feq_l, feq_i, fpack}
use types.Run.{enter, of_opd, no_more, and_then, returns}
use types.ByLocal.{alloc_all, pass_all, free_all, look_at, get, sets, lands_as}
use types.Part.{agg}
use types.Tokens.{lft_new}
use contract.BorrowLft.{◌⊑◌, ⊑_static}
use base.Fraction.{full_share}
use denote.Exit.{yes, no}
use denote.Memory.{lone}
use denote.Param.{layout, layouts, arg}
use denote.Param.Laws.{Laws, arg_laws}
use denote.Param.NoDrop.{glues}
use denote.RattleType.{RattleType, owns, Valss}
use denote.RawPtr.{Ptr, block_ptr, null_ptr, ptr_val, in_a_block}
use denote.Builtin.{RawPtr}
use denote.Signature.{types_at, plain}
use denote.Steps.{nothing, only}
use denote.Struct.Struct.{within}
use denote.Struct.Owning.{shape}
use denote.Triple.Call.{calls_at}
use denote.Triple.Clauses.{Lasts, lasts, at_exit}
use denote.Triple.Spec.{triple_of}
use denote.Triple.Table.{framed}
use denote.Triple.Walked.{Stays, stay_dropped, Goes-dropped, walk_of, Fit}
use Rattle.std.specs.contracts.alloc.Global.{the_row as Z}
use Rattle.std.proofs.alloc.Global.TheLaws.{the_row_laws as LZ}
use Rattle.std.specs.contracts.impls.GlobalAllocator.TheImpl.{ghosts, dict}
use Rattle.std.proofs.impls.GlobalAllocator.TheImpl.Met.{passed}
use Rattle.std.specs.contracts.boxed.Box as Box
use Rattle.std.specs.contracts.boxed.Box.into_raw as g
use Rattle.std.proofs.boxed.Box.into_raw.Met.{met}
use borrow.Fn.Glue.{glue_by, glue_ps}
use borrow.Fn.Impl.{via_longer, method_Known}
use borrow.Fn.Kinds as kinds
use borrow.Fn.Run.{Over}
use borrow.Fn.World.{World}
use denote.Triple.Carry.{AllWithin}
use Rattle.libkqsim.proofs.libkqsim++sim++Sim+Destruct.drop.Kinds as drop_kinds
use Rattle.libkqsim.proofs.libkqsim++sim++Sim+Destruct.drop.Met as drop_met
use Rattle.libkqsim.proofs.libkqsim++sim++Sim+Destruct.drop.Reads as drop_reads
use Rattle.libkqsim.proofs.libkqsim++sim++Sim+Destruct.drop.Symbol as drop_symbol
use Rattle.libkqsim.specs.contracts.sim.Sim.{the_row as S}
use Rattle.libkqsim.proofs.sim.Sim.TheLaws.{the_row_laws as LS}
use Rattle.libkqsim.specs.Handles.{heap, held}
use Rattle.libkqsim.specs.contracts.handle.Kqsim.{the_type}
use Rattle.libkqsim.specs.contracts.handle.Kqsim.of as f
use Rattle.libkqsim.proofs.handle.Kqsim.of.Statement.{statement}
use Rattle.libkqsim.proofs.handle.Kqsim.of.Code as code

abbrev none : Dict
none = impl ("libkqsim::Destruct++none::drop" ∷ []) (tcons (bare (layout Z)) tnil) dnil

-- the two types as arguments of a generic function
abbrev S' : RattleType
S' = arg (bare (layout S)) no S

abbrev Z' : RattleType
Z' = arg (bare (layout Z)) no Z

abbrev LS' : Laws S'
LS' = arg_laws (bare (layout S)) no S LS refl

abbrev LZ' : Laws Z'
LZ' = arg_laws (bare (layout Z)) no Z LZ refl

abbrev E : box.Bx
E = record { row = S'; laws = LS'; al = record { row = Z'; laws = LZ'; g = ghosts; d = dict; drops = none } }

abbrev B : RattleType
B = Box.the_row S Z ghosts

abbrev stayed : Stays f.ended.signature.params f.ended.kept
stayed = (stay_dropped (plain (λ _. B)) yes, tt)

pub of_spec : {M : Type 1} → statement M
unfolding Rattle.libkqsim.proofs.Destruct++none.drop.Code.code
of_spec {M = M} 𝓤 𝓛 𝓜 𝓡 wired =
    let c = f.clauses 𝓛 𝓜.mem 𝓡.returns in
    let 𝓣 = tables 𝓤 𝓛.H 𝓜 𝓡 𝓡.env in
    proved_at 𝓛 f.ended stayed c 𝓜 𝓡 (Goes-dropped 𝓛 0 (plain (λ _. B)) yes (λ κs x w. refl), tt)
    f.Key.name code.function (code.unfolded 𝓤 𝓛.H 𝓜 𝓡 wired) (λ z are.
    let v = z.0.3.0 in
    let Post : Val → SProp 𝓤 = (walk_of 𝓛 f.ended stayed c).post z in
    let Run : List Val → SProp 𝓤 = λ ws. WpFn 𝓤 𝓛.H 𝓣.C 𝓣.Λ code.function ws Post in
    qed 𝓛 ((‵ ftrue ⊛ ‵ (owns (types_at f.ended.signature.params tt) z.0.3 z.0.4)) ∷ ‵ ftrue ∷ []) ∵
    split ! $ drop ! $ fsplit ! $ box_out E ! v z.0.4.0 (λ b o h e ws fits.
    box_in E ! v b o v.value e refl $
    let w : Val = box.word E h b o in
    let typed = box.box_typed E h b o fits in
    let ends = impl ("libkqsim::libkqsim++sim++Sim+Destruct::drop" ∷ []) tnil dnil in
    let alive = passed 𝓡.env (code.calls-std_heap::GlobalAllocator::allocate 𝓡.env wired)
    (code.calls-std_heap::GlobalAllocator::deallocate 𝓡.env wired)
    (code.calls-std_heap::GlobalAllocator::grow 𝓡.env wired)
    (code.calls-std_heap::GlobalAllocator::shrink 𝓡.env wired) M 𝓤 𝓛 𝓜 𝓡 in
    let plainly = glues "libkqsim::Destruct++none::drop" 𝓡.env (code.calls-libkqsim::Destruct++none::drop 𝓡.env
    wired) Z' LZ' M 𝓤 𝓛 𝓜 𝓡 in
    let world : World = record { M = M; 𝓤 = 𝓤; 𝓛 = 𝓛; 𝓜 = 𝓜; 𝓡 = 𝓡 } in
    let Ends = kinds.ended_of 0 drop_kinds.ps drop_kinds.r in
    let m = method ends 0 (layouts [] tt) in
    let Told : (κs : Lfts 1) (a : kinds.Dens κs (glue_ps S' LS')) → (kinds.res_t {n = 1} kinds.r_unit κs).Denot →
    Lasts Ends tt a → Type 0 =
    λ κs a x ws. Fit Ends (kinds.stays drop_kinds.ps) tt a ws ×
    drop_reads.Learnt tt a x (at_exit Ends tt a ws) in
    let ended = glue_by S' LS' world ends 𝓡.env (λ κs a. Lasts Ends tt a) (λ κs a. lasts Ends tt a) Told
    (λ κs a. AllWithin 1 (κs.0, tt) (S'.lives, tt) × Unit {0}) 0 tt (λ κs a h. ((h, tt), tt))
    (via_longer 𝓛 (Over 𝓛 𝓜 𝓡 𝓡.env) 1 (glue_ps S' LS') kinds.r_unit (λ κs a. Lasts Ends tt a) (λ κs a. lasts Ends
    tt a) Told
    (λ κs a. AllWithin 1 (κs.0, tt) (S'.lives, tt) × Unit {0}) m 0 tt (λ κs. tt) (λ κs a. drop_reads.Asked tt a)
    (λ κs a p. (tt, tt)) (λ κs bd within a vss qs. method_Known 0 drop_kinds.ps drop_kinds.r drop_reads.requires
    drop_reads.ensures drop_reads.Asked drop_reads.Learnt drop_reads.known world drop_symbol.name m
    (drop_symbol.as_method 𝓡.env (code.calls-libkqsim::libkqsim++sim++Sim+Destruct::drop 𝓡.env wired) m refl)
    (drop_met.met 𝓤 𝓛 𝓜 𝓡 (code.calls-libkqsim::libkqsim++sim++Sim+Destruct::drop 𝓡.env wired)) (
      (
        tt,
        qs,
        tt,
        a,
        vss,
      ),
      tt,
    ))) in
    let k = triple_of 𝓛 (g.signature S' Z' ghosts dict none ends) (g.spec S' Z' ghosts dict none ends 𝓛 𝓜.mem
    𝓡.returns) in
    suffices ! (Run (w ∷ [])) (subst (λ (us : List Val). ent 𝓤 (Run (w ∷ [])) (Run us)) (sym (λ i. ws i ++ []))
    (id⊢ 𝓤 (Run (w ∷ [])))) $
    enter ! 𝓣.C 𝓣.Λ code.function (w ∷ []) Post $ alloc_all ! (λ l. pass_all ! refl (typed, tt) $
    sets ! (of_opd ! (get ! refl)) refl typed $
    lft_new ! tt (λ α. lft_new ! tt (λ β.
    let y : k.Ghost = (((α ∷ [], (β ∷ [], tt)), (full_share, (full_share, tt)), tt, (v, tt), (w ∷ [], tt)), tt) in
    nothing ! $ move ! (1 ∷ 0 ∷ []) $ join ! $ move ! (1 ∷ 0 ∷ []) $ join ! $
    nothing ! $ move ! (2 ∷ 0 ∷ []) $ join ! $ move ! (1 ∷ 0 ∷ []) $ join ! $
    nothing ! $ use0 𝓛 (raw (fact 𝓤 ((β ∷ []) ⊑ Z'.lives))) (fact_i 𝓤 _ (emp 𝓤) (⊑_static (β ∷ []))) $ join ! $
    use0 𝓛 (raw (fact 𝓤 ((α ∷ []) ⊑ S'.lives))) (fact_i 𝓤 _ (emp 𝓤) (⊑_static (α ∷ []))) $ join ! $
    move ! (1 ∷ 0 ∷ []) $ use2 𝓛 (raw (k.pre y)) (id⊢ 𝓤 _) $
    calls_at ! (framed 𝓤 𝓛.H 𝓜 𝓣) k
    (met 𝓤 𝓛 𝓜 𝓡 (code.calls-std_alloc::boxed::Box::into_raw 𝓡.env wired) S' Z' LS' LZ' ghosts dict none ends alive
    plainly ended)
    y (and_then ! (get ! refl) (no_more !)) (λ u.
    use1 𝓛 (later (some (λ (r : Ptr). ((‵ (flft (α ∷ []) full_share) ⊛ ‵ (flft (β ∷ []) full_share) ⊛ ‵ ftrue) ⊛
    ‵ (RawPtr.own_val r (u ∷ []))) ⊛ some (λ (ls : Lasts (g.ended S' Z' ghosts dict none ends) y.0.0 y.0.3).
    ‵ (lasts (g.ended S' Z' ghosts dict none ends) y.0.0 y.0.3 ls) ⊛ ‵ (held r v.value))))) (id⊢ 𝓤 _) $
    await ! tt $ pick ! (λ r. split ! $ split ! $ drop ! $ feq_l ! (λ eu. pick ! (λ _. split ! $ drop ! $
    in_a_block ! r (λ p. held p v.value) (fst∗ 𝓤 (never 𝓤) (sem 𝓛 (ghosts.dealloc_token heap (bare (lone S.mir))
    null_ptr)))
    (λ b' o' e'.
    let kv : Val = vstruct (vcons (vptr b' o') vnil) in
    lands_as ! (ap only eu ∙ ap ptr_val e') refl (tt, tt) $
    sets ! (of_opd ! (get ! refl)) refl (tt, tt) $
    sets ! (agg ! (and_then ! (get ! refl) (no_more !))) refl (tt, (tt, tt)) $
    nothing ! $ feq_i ! (List Val) (vptr b' o' ∷ []) (vptr b' o' ∷ []) refl $ fjoin ! $
    feq_i ! (List Val) (kv ∷ []) (kv ∷ []) refl $ fjoin ! $
    fpack ! (Valss (RawPtr ∷ [])) (within (shape the_type) (block_ptr b' o', tt) (kv ∷ [])) (vptr b' o' ∷ [], tt) $
    fjoin ! $
    use0 𝓛 (raw (fact 𝓤 (v.value ≡ v.value))) (fact_i 𝓤 (v.value ≡ v.value) (emp 𝓤) refl) $
    nothing ! $ nothing ! $ fjoin ! $ nothing ! $
    -- [nothing; nothing of the parameter; the `ensures`; the handle]
    returns ! (look_at ! 0 refl) $ free_all ! refl $ keep ! (0 ∷ 1 ∷ 3 ∷ 2 ∷ []) $
    by ! (leaves 𝓛 f.ended stayed c z kv (record { at = block_ptr b' o'; state = v.value }) (tt, tt) (
      tt,
      tt,
    ))))))))))))
