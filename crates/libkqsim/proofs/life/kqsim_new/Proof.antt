-- `kqsim_new` calls `publish`, and writes its pointer.
use Rattle.std.proofs.Common.{List, [], ◌∷◌, ◌++◌, refl, sym, ap, subst, w32}
use Rattle.std.proofs.raw_atomic.Walks.{proved_at, leaves}
use Rattle.std.proofs.alloc.Calls.{Al, handle_tells}
use Rattle.std.proofs.cell.Inside.{Good}
use mir.Syntax.{named, impl, tnil, dnil}
use mir.Val.{Val, vint, vptr}
use base.Logic.{SProp, ent, id⊢}
use base.Fml.{ftrue, fex, fsep, flft}
use base.Fraction.{full_share}
use contract.Monad.{fact}
use contract.Running.{tables}
use prog.Wp.{WpFn}
use types.Kit.{‵, raw, ◌⊛◌, some, later, ◌$◌, ◌∵◌, !, qed, by, move, keep, drop, split, join, fsplit, fsplit3}
use types.Kit.{fjoin, fjoin3, pick, fpick, fpack, suffices, use1, use2, await, rewrite, feq_l, feq_i}
use types.Run.{enter, of_opd, load, look, store, stop, fld, no_more, and_then, assigns, returns}
use types.ByLocal.{alloc_all, pass_all, free_all, look_at, get, get_in, through, sets, lands_as}
use types.Part.{whole, sub}
use denote.Builtin.{i32, u32, RawPtr}
use denote.Laws.{Is, shows}
use denote.Memory.{cell_at}
use denote.Param.{layout}
use denote.Plain.{uint_Tells, uint_Makes}
use denote.RattleType.{owns}
use denote.RawPtr.{rawptr_vals, rawptr_Lawful}
use denote.Ref.{mut_Tells}
use denote.Signature.{plain, types_at}
use denote.Signed.{sint_Tells}
use denote.Steps.{nothing, only, owned, opens, closes, peeks, heard}
use denote.Triple.Call.{calls_at}
use denote.Triple.Clauses.{Lasts, lasts}
use denote.Triple.Spec.{triple_of}
use denote.Triple.Table.{framed}
use denote.Triple.Walked.{Stays, stay_dropped, stay_ref, Goes-dropped, Goes-ref, walk_of}
use Rattle.std.specs.Prelude.{Option}
use Rattle.std.specs.contracts.alloc.Global.{the_row as Z}
use Rattle.std.proofs.alloc.Global.TheLaws.{the_row_laws as LZ}
use Rattle.std.specs.contracts.impls.GlobalAllocator.TheImpl.{ghosts, dict}
use Rattle.libkqsim.specs.Kept.{IsNew, kept_if}
use Rattle.libkqsim.specs.declared.handle.Kqsim.{Kqsim}
use Rattle.libkqsim.specs.contracts.published.Published.{the_row as P}
use Rattle.libkqsim.proofs.published.Published.TheLaws.{lowers, the_row_laws as LP}
use Rattle.libkqsim.specs.contracts.life.publish as g
use Rattle.libkqsim.proofs.life.publish.Met.{met}
use Rattle.libkqsim.specs.contracts.life.kqsim_new as f
use Rattle.libkqsim.proofs.life.kqsim_new.Statement.{statement}
use Rattle.libkqsim.proofs.life.kqsim_new.Code as code

abbrev stayed : Stays f.ended.signature.params f.ended.kept
stayed = (
  stay_dropped (plain (λ _. Z)) f.ended.kept.0,
  (
    stay_dropped (plain (λ _. u32)) f.ended.kept.1.0,
    (stay_ref (0 ∷ []) tt (plain (λ _. RawPtr)), tt),
  ),
)

pub kqsim_new_spec : {M : Type 1} → statement M
kqsim_new_spec {M = M} 𝓤 𝓛 𝓜 𝓡 wired =
    let c = f.clauses 𝓛 𝓜.mem 𝓡.returns in
    let 𝓣 = tables 𝓤 𝓛.H 𝓜 𝓡 𝓡.env in
    let al : Al = record { row = Z; laws = LZ; g = ghosts; d = dict; drops = impl [] tnil dnil } in
    proved_at 𝓛 f.ended stayed c 𝓜 𝓡 (
      Goes-dropped 𝓛 1 (plain (λ _. Z)) f.ended.kept.0 (λ κs x w. refl),
      (
        Goes-dropped 𝓛 1 (plain (λ _. u32)) f.ended.kept.1.0 (λ κs x w. refl),
        (Goes-ref 𝓛 1 0 tt (plain (λ _. RawPtr)), tt),
      ),
    )
    f.Key.name code.function (code.unfolded 𝓤 𝓛.H 𝓜 𝓡 wired) (λ z are.
    let κs = z.0.0 in
    let qs = z.0.1 in
    let a = z.0.3.0 in
    let n = z.0.3.1.0 in
    let out = z.0.3.1.1.0 in
    let p = out.now in
    let b = out.ref_ptr.0 in
    let o = out.ref_ptr.1 in
    let hs = z.0.4.0 in
    let ns = z.0.4.1.0 in
    let os = z.0.4.1.1.0 in
    let Post : Val → SProp 𝓤 = (walk_of 𝓛 f.ended stayed c).post z in
    let Run : List Val → SProp 𝓤 = λ ws. WpFn 𝓤 𝓛.H 𝓣.C 𝓣.Λ code.function ws Post in
    let ea = uint_Tells w32 n ns are.1.0 in
    let eo = mut_Tells (named 0) κs.0 RawPtr out os are.1.1.0 in
    let pointed = ((rawptr_Lawful 𝓛).typed p (rawptr_vals p) refl).0 in
    qed 𝓛 (((‵ (flft κs.0 qs.0) ⊛ ‵ ftrue) ⊛ ‵ (owns (types_at f.ended.signature.params κs) z.0.3 z.0.4)) ∷ ‵ ftrue
    ∷ []) ∵
    split ! $ split ! $ move ! (2 ∷ []) $ fsplit ! $ move ! (1 ∷ []) $ fsplit ! $ drop ! $ fsplit ! $
    keep ! (2 ∷ 0 ∷ 3 ∷ []) $ handle_tells al ! a hs (λ h eh fits.
    -- [the allocator; out; its token]
    suffices ! (Run (h ∷ vint w32 n ∷ vptr b o ∷ [])) (subst (λ (xs : List Val). ent 𝓤 (Run (h ∷ vint w32 n ∷ vptr
    b o ∷ [])) (Run xs))
    (sym (λ i. eh i ++ (ea i ++ (eo i ++ [])))) (id⊢ 𝓤 (Run (h ∷ vint w32 n ∷ vptr b o ∷ [])))) $
    enter ! 𝓣.C 𝓣.Λ code.function (h ∷ vint w32 n ∷ vptr b o ∷ []) Post $
    alloc_all ! (λ l. pass_all ! refl (fits, ((tt, record { fits = are.1.0.1 }), ((tt, tt), tt))) $
    move ! (1 ∷ []) $ fsplit3 ! $ move ! (1 ∷ 2 ∷ 4 ∷ []) $ opens ! tt RawPtr b o (λ us.
    let Cell = λ (ws : List Val). ‵ (cell_at full_share RawPtr.mir ws b o) in
    move ! (1 ∷ []) $ feq_l ! (λ eq. rewrite ! 0 Cell eq refl $
    -- [the pointer's cell; the open borrow, three; out's first part; the allocator]
    sets ! (of_opd ! (load ! (through ! refl (stop !)) (look ! 0 refl))) refl pointed $
    let G = triple_of 𝓛 g.signature (g.spec 𝓛 𝓜.mem 𝓡.returns) in
    let y : G.Ghost = ((tt, tt, tt, (a, (n, (p, tt))), (h ∷ [], (vint w32 n ∷ [], (rawptr_vals p, tt)))), tt) in
    nothing ! $ feq_i ! (List Val) (rawptr_vals p) (rawptr_vals p) refl $ join ! $
    owned ! u32 _ (uint_Makes 𝓛 w32) n (vint w32 n ∷ []) (refl, are.1.0.1) $ join ! $ move ! (6 ∷ 0 ∷ []) $ join ! $
    nothing ! $ join ! $ nothing ! $ move ! (1 ∷ 0 ∷ []) $ use2 𝓛 (raw (G.pre y)) (id⊢ 𝓤 _) $
    calls_at ! (framed 𝓤 𝓛.H 𝓜 𝓣) G (met 𝓤 𝓛 𝓜 𝓡 (code.calls-libkqsim::life::publish 𝓡.env wired)) y
    (and_then ! (get ! refl) (and_then ! (get ! refl) (and_then ! (get ! refl) (no_more !)))) (λ v.
    use1 𝓛 (later (some (λ (r : P.Denot). (‵ ftrue ⊛ ‵ (P.own_val r (v ∷ []))) ⊛ some (λ (ls : Lasts g.ended tt y.0.3).
    ‵ (lasts g.ended tt y.0.3 ls) ⊛ raw (fact 𝓤 (IsNew n p r.at r.number r.made)))))) (id⊢ 𝓤 (G.post y v)) $
    await ! tt $ pick ! (λ r. split ! $ split ! $ drop ! $ move ! (1 ∷ []) $ pick ! (λ _. split ! $ drop ! $
    heard ! _ (λ new.
    let Holds = λ (made : Option Kqsim). IsNew n p r.at r.number made in
    let at = ((rawptr_Lawful 𝓛).typed r.at (rawptr_vals r.at) refl).0 in
    peeks ! P (Is P) (shows 𝓛 P) r (v ∷ []) (λ is. fsplit ! $
    let word = lowers.val_is r (v ∷ []) is in
    let good : Good (layout P) (lowers.lowered r) = subst (Good (layout P)) (ap only word) ((LP.lawful 𝓛).typed r
    (v ∷ []) is).0 in
    fpick ! (λ vss. fsplit ! $ drop ! $ fsplit ! $ peeks ! i32 (Is i32) (shows 𝓛 i32) r.number vss.0 (λ isn.
    rewrite ! 0 (λ (xs : List Val). ‵ (i32.own_val r.number xs)) (sint_Tells w32 r.number vss.0 isn) refl $
    move ! (1 ∷ []) $ drop ! $ move ! (1 ∷ []) $
    -- [what was made; the number; the pointer's cell; the open borrow, three; out's first part]
    lands_as ! (ap only word) refl good $
    sets ! (of_opd ! (get_in ! (fld ! refl (stop !)) (sub ! 0 refl (whole !)))) refl (tt, good.1.0) $
    sets ! (of_opd ! (get_in ! (fld ! refl (stop !)) (sub ! 1 refl (whole !)))) refl at $
    assigns ! (of_opd ! (get ! refl)) (through ! refl (stop !)) (store ! 2 refl at) $
    sets ! (of_opd ! (get ! refl)) refl (tt, good.1.0) $
    feq_i ! (List Val) (rawptr_vals r.at) (rawptr_vals r.at) refl $
    move ! (3 ∷ 0 ∷ 4 ∷ 5 ∷ 6 ∷ []) $ closes ! tt RawPtr r.at (rawptr_vals r.at) b o $
    -- [two parts of out; its token; what was made; the number; out's first part]
    nothing ! $ fpack ! (Holds r.made) (λ _. ftrue) new $ move ! (4 ∷ 0 ∷ []) $ fjoin ! $
    fpack ! (Option Kqsim) (λ made. fsep (kept_if made r.at) (fex (Holds made) (λ _. ftrue))) r.made $
    move ! (5 ∷ 1 ∷ 2 ∷ []) $ fjoin3 ! $ nothing ! $ move ! (1 ∷ 0 ∷ []) $ fjoin ! $ nothing ! $ fjoin ! $
    nothing ! $ fjoin ! $
    nothing ! $ move ! (3 ∷ 0 ∷ []) $ join ! $
    returns ! (look_at ! 0 refl) $ free_all ! refl $ keep ! (0 ∷ 1 ∷ 3 ∷ 2 ∷ []) $
    by ! (leaves 𝓛 f.ended stayed c z _ r.number (tt, (tt, (r.at, tt))) (tt, (tt, (tt, tt))))))))))))))))
