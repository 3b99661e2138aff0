-- What the last seat finds when the lock is taken apart.
use Rattle.std.proofs.Common.{◌≡◌, ◌≢◌, ℕ, ◌+◌, ◌<◌, ◌≤◌, List, [], ◌∷◌, length, Some, refl, ap}
use Rattle.std.proofs.Common.{sym, ◌∙◌, subst, arith}
use Rattle.std.proofs.Common as std
use mathlib.Core.List.{IsPrefix}
use mathlib.Core.Option.{some, some-injective}
use mathlib.Core.Logic.{dite}
use native.Mathlib.Decide.{ℕ_discrete}
use lib.ListN.{get_elem?}
use Rattle.atomic_table.specs.Table.{Final, Seen}
use Rattle.kq_lock.specs.declared.view.Call.{Call}
use Rattle.kq_lock.specs.declared.kept.Kept.{Kept}
use Rattle.kq_lock.specs.declared.view.View.{View}
use Rattle.kq_lock.specs.declared.view.Stage.TheVariants.{Idle}
use Rattle.kq_lock.specs.Calls.{plain, calls_by, Leads}
use Rattle.kq_lock.specs.Turns.{LockState, words_of, Homes, Turned, Fair}
use Rattle.kq_lock.proofs.Numbers.{owns_own}
use Rattle.kq_lock.proofs.Keeping.{idle_fits}

module _ {M S A : Type 0} (leads : M → S → A → M → Type 0) (opening : M) (last : ℕ) where
  -- the whole history, with the value that it leads to
  pub record Whole (v : View M S A) (k : Kept M S A) : Type 0 where
    pub log : List (Call S A)
    pub items : k.history.items ≡ plain log
    pub legal : Leads leads opening log k.value
    pub seen : IsPrefix v.seen log
    pub short : length log ≤ last
    pub own : calls_by v.number v.seen ≡ calls_by v.number log

  whole : (x : LockState M S A) (homes : Homes M S A) (views : List (View M S A)) (id : ℕ)
      (v : View M S A) (k : Kept M S A) → Fair leads opening last x homes views
      → get_elem? views id ≡ some v → v.stage ≡ Idle
      → x.phase ≡ 0 → get_elem? homes 0 ≡ some (some (Some k)) → Whole v k
  whole x homes views id v k f at idle phase there =
      let h = f.home_while_free phase in
      let fits = idle_fits leads opening last x id v idle (f.seats id v at) in
      let somes = some-injective (some (Some h.0)) (some (Some k))
      (sym (ap (λ (z : Homes M S A). get_elem? z 0) h.1) ∙ there) in
      let kepts = some-injective (Some h.0) (Some k) somes in let same : h.0 ≡ k = cc in record {
        log = x.log;
        items = ap (λ (z : Kept M S A). z.history.items) (sym same) ∙ h.3;
        legal = subst (Leads leads opening x.log) (sym h.2
            ∙ ap (λ (z : Kept M S A). z.value) same) f.legal;
        seen = fits.seen;
        short = let d = f.at_most_last in let c = f.count in
            let e = f.length_served (omega arith) in omega arith;
        own = sym (fits.own v.number (owns_own v.stride v.number fits.small));
      }

  pub ends : (id : ℕ) (v : View M S A) (ws : List ℕ) (xs : List (std.Option (Kept M S A)))
      (k : Kept M S A) (t u : ℕ) → Final (Seen (Turned leads opening last) id v) ws xs
      → v.stage ≡ Idle
      → get_elem? ws 1 ≡ some t → get_elem? ws 2 ≡ some u → t ≡ u → get_elem? xs 0 ≡ some (Some k)
      → Whole v k
  ends id v ws xs k t u end idle ticket serving same slot =
      let s = end.0 in let h = end.1.0 in let x = h.state in let f = h.fair in
      let words : words_of x ≡ ws = sym h.words ∙ end.2 in
      let t_is : x.ticket ≡ t = some-injective x.ticket t (ap (λ (l : List ℕ). get_elem? l 1) words
      ∙ ticket) in
      let u_is : x.serving ≡ u = some-injective x.serving u
      (ap (λ (l : List ℕ). get_elem? l 2) words ∙ serving) in
      let phase : x.phase ≡ 0 = dite (ℕ_discrete x.phase 0) (λ z. z)
      (λ ne. let l = f.turn_has_ticket (omega arith) in absurd (omega arith)) in
      let home = f.home_while_free phase in
      let there : get_elem? s.homes 0 ≡ some (some (Some home.0)) =
      ap (λ (z : Homes M S A). get_elem? z 0) home.1 in
      let found = end.4 0 (Some home.0) there in
      let kepts = some-injective (Some home.0) (Some k) (sym found ∙ slot) in
      whole x s.homes s.views id v k f end.1.1 idle phase (there
      ∙ ap (λ (z : std.Option (Kept M S A)). some (some z)) kepts)
