-- `switch` lends the system behind the pointer to `Sim::switch`, and has it back.
use Rattle.std.proofs.Common.{List, [], ◌∷◌, refl, sym, ap, ◌∙◌}
use Rattle.std.proofs.raw_atomic.Walks.{proved, leaves}
use mir.Syntax.{named}
use mir.Val.{Val, vptr}
use mir.Raw.{raw as bare}
use base.Logic.{id⊢, never, fst∗}
use base.Fml.{GName, ftrue, flft, flent}
use base.Fraction.{full_share}
use contract.Running.{tables}
use types.Logic.{sem}
use types.SemTy.{Body}
use types.Kit.{‵, raw, ◌⊛◌, some, later, at_ret, ◌$◌, ◌∵◌, !, qed, by, move, keep, split, join, fsplit, fsplit3}
use types.Kit.{fjoin, fjoin3, pick, use1, use2, use3, await, rewrite}
use types.Run.{enter, of_opd, addr, load, stop, fld, no_more, and_then, first, blocks, exec, returns}
use types.ByLocal.{alloc_all, pass_all, free_all, look_at, get, through, sets, lands_last, env}
use types.Part.{whole, sub, look_in}
use types.Tokens.{lft_new, lft_end}
use denote.Exit.{yes}
use denote.Laws.{Is, shows}
use denote.Memory.{cell_at, part_at, lone, mem}
use denote.Lend.{lends_ref, ref_back}
use denote.RawPtr.{Ptr, null_ptr, in_a_block}
use denote.Ref.{MutRef, mut_vals, mut_Tells, ShrRef, shr_vals, shr_Tells, MutBor}
use denote.RattleType.{RattleType}
use denote.Param.Laws.{of_field}
use denote.Param.Shared.{copy_shared}
use denote.Builtin.{RefOf, unit}
use denote.Signature.{plain, type_at}
use denote.Struct.Field.{unit-field}
use denote.Struct.Laws.{unit-copy, unit-laws}
use denote.Steps.{nothing, opens, closes, peeks}
use denote.Triple.Call.{calls_at_last}
use denote.Triple.Clauses.{Lasts, lasts, at_exit}
use denote.Triple.Spec.{triple_of}
use denote.Triple.Table.{framed}
use denote.Triple.Walked.{Stays, stay_ref, stay_dropped, Goes-ref, Goes-dropped, walk_of}
use Rattle.std.proofs.result.Result.TheLaws.{the_row_laws as result_laws}
use Rattle.std.specs.contracts.impls.GlobalAllocator.TheImpl.{ghosts}
use Rattle.libkqsim.specs.contracts.sim.Sim.{the_row as S}
use Rattle.libkqsim.specs.contracts.sim.Logging.{the_row as E}
use Rattle.kq_freebsd.specs.contracts.refusal.Refusal.{the_row as Y}
use Rattle.kq_freebsd.proofs.refusal.Refusal.TheLaws.{the_row_laws as refusal_laws}
use Rattle.libkqsim.specs.contracts.sim.Sim.switch as g
use Rattle.libkqsim.proofs.sim.Sim.switch.Met.{met}
use Rattle.libkqsim.specs.Handles.{heap, held}
use Rattle.libkqsim.specs.contracts.handle.Kqsim.switch as f
use Rattle.libkqsim.proofs.handle.Kqsim.switch.Statement.{statement}
use Rattle.libkqsim.proofs.handle.Kqsim.switch.Code as code
use Rattle.libkqsim.specs.contracts.handle.Kqsim.{the_row as R}
use Rattle.libkqsim.proofs.handle.Kqsim.TheLaws.{lowers}

abbrev stayed : Stays f.ended.signature.params f.ended.kept
stayed = (stay_ref (0 ∷ []) tt (plain (λ _. R)), (stay_dropped _ yes, tt))

pub switch_spec : {M : Type 1} → statement M
switch_spec 𝓤 𝓛 𝓜 𝓡 wired =
    let c = f.clauses 𝓛 𝓜.mem 𝓡.returns in
    let W = walk_of 𝓛 f.ended stayed c in
    let 𝓣 = tables 𝓤 𝓛.H 𝓜 𝓡 𝓡.env in
    let gc = g.clauses 𝓛 𝓜.mem 𝓡.returns in
    proved 𝓛 f.ended stayed c 𝓜 𝓡 (
      Goes-ref 𝓛 2 0 tt (plain (λ _. R)),
      (
        Goes-dropped 𝓛 2 (RefOf (1 ∷ []) tt (plain (λ _. E)) (λ _. tt)) yes (λ κs
            x w. refl),
        tt,
      ),
    )
    f.Key.name code.function (code.unfolded 𝓤 𝓛.H 𝓜 𝓡 wired)
    (λ κs. (mut_vals, (shr_vals, tt)))
    (λ κs. (mut_Tells (named 0) κs.0 R, (shr_Tells (named 1) κs.1.0 E, tt)))
    (λ κs qs bounds a _ are.
    let b = a.0.ref_ptr.0 in
    let o = a.0.ref_ptr.1 in
    let h = a.0.now in
    let x = h.state in
    let vs = mut_vals a.0 in
    let es = shr_vals a.1.0 in
    let y : W.Ghost = ((κs, qs, bounds, a, (vs, (es, tt))), tt) in
    let Out : RattleType = type_at f.ended.signature.result κs in
    let nothing-laws = of_field unit-field unit-laws refl (copy_shared unit-field unit-copy) in
    let LOut = result_laws unit Y nothing-laws refusal_laws in
    qed 𝓛 (((‵ (flft κs.0 qs.0) ⊛ ‵ (flft κs.1.0 qs.1.0) ⊛ ‵ ftrue) ⊛
    ‵ ((MutRef (named 0) κs.0 R).own_val a.0 vs) ⊛ ‵ ((ShrRef (named 1) κs.1.0 E).own_val a.1.0 es) ⊛ ‵ ftrue)
    ∷ ‵ ftrue ∷ []) ∵
    split ! $ split ! $ move ! (1 ∷ []) $ split ! $ move ! (3 ∷ []) $ split ! $ move ! (1 ∷ []) $ split ! $
    keep ! (2 ∷ 5 ∷ 0 ∷ 3 ∷ []) $
    -- [self; the token of self; what is done; its token]
    enter ! _ _ _ _ _ $ alloc_all ! (λ l. pass_all ! refl ((tt, tt), ((tt, tt), tt)) $
    fsplit3 ! $ move ! (1 ∷ 2 ∷ 3 ∷ []) $ opens ! tt R b o (λ us.
    move ! (1 ∷ []) $ peeks ! R _ (shows 𝓛 R) h us (λ is. fsplit ! $ move ! (1 ∷ []) $
    in_a_block ! h.at (λ p. held p x) (fst∗ 𝓤 (never 𝓤) (sem 𝓛 (ghosts.dealloc_token heap (bare (lone S.mir))
    null_ptr)))
    (λ b' o' e. fsplit ! $
    let word = lowers.val_is h us is ∙ ap (λ (p : Ptr). lowers.lowered (record h { at = p }) ∷ []) e in
    let Cell = λ (ws : List Val). ‵ (cell_at full_share R.mir ws b o) in
    rewrite ! 3 Cell word refl $
    -- [the system; the right to free it; the fields; the cell; the open borrow, three; self's first part;
    -- what is done; its token]
    sets ! (of_opd ! (load ! (through ! refl (fld ! refl (stop !))) (look_in ! 3 (sub ! 0 refl (whole !))))) refl
    (tt, tt) $
    sets ! (of_opd ! (get ! refl)) refl (tt, tt) $
    first ! $ blocks ! $
    sets ! (addr ! (through ! refl (stop !))) refl (tt, tt) $
    lft_new ! tt (λ α. move ! (1 ∷ []) $
    use1 𝓛 (later (some (λ (γ : GName). ‵ ((MutRef (named 0) (α ∷ []) S).own_val
    (record { ref_ptr = (b', o'); ghost_name = γ; now = x }) (vptr b' o' ∷ [])) ⊛ ‵ (flent (α ∷ []) (Body (mem S)
    b' o' γ)))))
    (lends_ref 𝓛 S (named 0) (α ∷ []) x b' o') $ await ! tt $ pick ! (λ γ. split ! $
    -- [the loan; what is lent; the loan's token; the right to free; the fields; the cell; the open borrow, three; ..]
    let G = triple_of 𝓛 g.signature (g.spec 𝓛 𝓜.mem 𝓡.returns) in
    let lent : MutBor S.Denot = record { ref_ptr = (b', o'); ghost_name = γ; now = x } in
    let z : G.Ghost =
    (((α ∷ [], (κs.1.0, tt)), (full_share, (qs.1.0, tt)), tt, (lent, (a.1.0, tt)), (vptr b' o' ∷ [], (es, tt))), tt) in
    nothing ! $ move ! (11 ∷ 0 ∷ []) $ join ! $ move ! (1 ∷ 0 ∷ []) $ join ! $
    nothing ! $ move ! (11 ∷ 0 ∷ []) $ join ! $ move ! (3 ∷ 0 ∷ []) $ join ! $ join ! $
    nothing ! $ move ! (1 ∷ 0 ∷ []) $ use2 𝓛 (raw (G.pre z)) (id⊢ 𝓤 _) $
    -- [before the call; what is lent; the right to free; the fields; the cell; the open borrow, three;
    -- self's first part]
    calls_at_last ! (framed 𝓤 𝓛.H 𝓜 𝓣) G (met 𝓤 𝓛 𝓜 𝓡 (code.calls-libkqsim::sim::Sim::switch 𝓡.env wired)) z
    (and_then ! (get ! refl) (and_then ! (get ! refl) (no_more !))) (λ v.
    use1 𝓛 (later (some (λ (r : Out.Denot).
    ((‵ (flft (α ∷ []) full_share) ⊛ ‵ (flft κs.1.0 qs.1.0) ⊛ ‵ ftrue) ⊛ ‵ (Out.own_val r (v ∷ []))) ⊛
    some (λ (ws : Lasts g.ended z.0.0 z.0.3). ‵ (lasts g.ended z.0.0 z.0.3 ws) ⊛
    raw ((gc z.0.0 z.0.3).ensures tt r (at_exit g.ended z.0.0 z.0.3 ws)))))) (id⊢ 𝓤 _) $
    await ! tt $ pick ! (λ r. split ! $ split ! $ split ! $ lft_end ! tt $ move ! (3 ∷ []) $ pick ! (λ ws. split ! $
    -- [the loan's last value; what the call ensures; the loan is over; what is done's token; the result; what is lent; ..]
    fsplit ! $ fsplit ! $ move ! (4 ∷ 7 ∷ 0 ∷ []) $
    use3 𝓛 (later (‵ (part_at S full_share ws.0 b' o'))) (ref_back 𝓛 S (α ∷ []) γ ws.0 b' o') $ await ! tt $
    -- [the system; ..; ..; what the call ensures; what is done's token; the result; the right to free; the
    -- fields; the cell; ..]
    move ! (0 ∷ 6 ∷ []) $ fjoin ! $ rewrite ! 0 (λ (p : Ptr). ‵ (held p ws.0)) (sym e) refl $
    rewrite ! 7 Cell (sym word) refl $ move ! (6 ∷ 0 ∷ []) $ fjoin ! $
    move ! (6 ∷ 0 ∷ 7 ∷ 8 ∷ 9 ∷ []) $ closes ! tt R (record h { state = ws.0 }) us b o $
    -- [two parts of self; its token; ..; ..; what the call ensures; what is done's token; the result; self's first part]
    move ! (7 ∷ []) $ peeks ! Out (Is Out) (shows 𝓛 Out) r (v ∷ []) (λ fits.
    let good = (LOut.lawful 𝓛).typed r (v ∷ []) fits in
    lands_last ! refl good.0 $
    exec ! 𝓣.C 𝓣.Λ (env code.Mir.locals l) code.Mir.t-4 (at_ret _ (W.post y)) $
    sets ! (of_opd ! (get ! refl)) refl good.0 $
    returns ! (look_at ! 0 refl) $ free_all ! refl $
    nothing ! $ nothing ! $ fjoin ! $ move ! (9 ∷ 2 ∷ 3 ∷ []) $ fjoin3 ! $ fjoin ! $
    move ! (2 ∷ 6 ∷ []) $ join ! $ keep ! (0 ∷ 1 ∷ 2 ∷ 5 ∷ []) $
    by ! (leaves 𝓛 f.ended stayed c y v r (record h { state = ws.0 }, (tt, tt)) (tt, (tt, tt))))))))))))))
