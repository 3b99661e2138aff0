-- Each step on the counter's table keeps its rule.
use Rattle.std.proofs.Common.{◌≡◌, ℕ, ◌+◌, ◌%◌, ◌^◌, ◌<◌, ◌≤◌, List, []}
use Rattle.std.proofs.Common.{◌∷◌, ◌++◌, get_or, set, le_refl, sum_by, refl, ap, sym, ◌∙◌, subst, ⊎_elim, arith}
use Rattle.std.proofs.Math.Nat.{mod-eq_of_lt}
use Rattle.std.proofs.lemmas.List.Sums.{sum_by_push}
use mathlib.Core.Option.{none, some, some-injective, some-ne-none}
use mathlib.Core.Logic.{dite}
use native.Mathlib.Decide.{dec_lt}
use lib.ListN.{get_elem?}
use Rattle.atomic_table.specs.Table.{State, Me, Act, keeps, step, Valid, homes_after}
use Rattle.atomic_table.specs.Table.{carried_after, Allows, Splits, Joins}
use Rattle.atomic_table.proofs.Lists.{at_set, at_snoc, set_again}
use Rattle.kq_lock.proofs.Beginnings.{sum_set}
use Rattle.kq_jobs.specs.declared.view.View.{View}
use Rattle.kq_jobs.specs.Claims.{times, once_below}
use Rattle.kq_jobs.specs.Handing.{Knows, HandsOut, giving, given, joined, spent, drew}
use Rattle.kq_jobs.specs.Handing.{Draws, Settles, DrewAll}
use Rattle.kq_jobs.proofs.Counting.{times_append, once_at_most, once_inside, once_next}
use Rattle.kq_jobs.proofs.Counting.{sum_has, sum_most, sum_whole}

abbrev parts_of : View → ℕ
parts_of v = v.parts

abbrev past_of : View → ℕ
past_of v = v.past

abbrev drawn_of : ℕ → View → ℕ
drawn_of x v = times x v.drawn

-- what the others know, once the seat id has the view w
knows_set : (count claim n : ℕ) (views : List View) (id : ℕ) (w : View) → claim ≤ n
    → ((j : ℕ) (v : View) → get_elem? views j ≡ some v → Knows count claim v) → Knows count n w
    → (j : ℕ) (u : View) → get_elem? (set views id w) j ≡ some u → Knows count n u
knows_set count claim n views id w up all mine j u e =
    ⊎_elim (λ t. subst (Knows count n) t.1 mine) (λ t.
    let k = all j u t.1 in record {
      counted = k.counted;
      few_past = k.few_past;
      ended = λ p. let q = k.ended p in omega arith;
      spent = k.spent;
    }) (at_set views id j w u e)

-- what the seat knows once it has drawn the number
drawn_knows : (count claim past : ℕ) (v : View) → Knows count claim v → 0 < v.parts → past ≤ v.parts
    → (0 < past → count ≤ claim + 1)
    → Knows count (claim + 1) (record v { drawn = v.drawn ++ claim ∷ []; past = past })
drawn_knows count claim past v k some_part few ended = record {
  counted = k.counted;
  few_past = few;
  ended = ended;
  spent = λ none. absurd (omega arith);
}

spent_knows : (count claim : ℕ) → Knows count claim spent
spent_knows count claim = record {
  counted = λ p. absurd (omega arith);
  few_past = omega arith;
  ended = λ p. absurd (omega arith);
  spent = λ _. refl;
}

module _ {S : Type 0} (count : ℕ) where
  -- CLAIM never comes near 2^64
  claim_small : (s : State S View) (h : HandsOut {S = S} count s) → count ≤ 2 ^ 62
      → h.claim < 2 ^ 63
  claim_small s h most =
      let b = h.bounded in let p = h.all_parts in
      let few = sum_most past_of parts_of s.views (λ i v e. (h.seats i v e).few_past) in
      omega arith

  -- the rule once the seat id has drawn the number CLAIM
  draws_on : (s : State S View) (id : ℕ) (v : View) (past : ℕ) (h : HandsOut {S = S} count s)
      → get_elem? s.views id ≡ some v → 0 < v.parts → past ≤ v.parts
      → (0 < past → count ≤ h.claim + 1)
      → h.claim + 1 + v.past ≤ count + sum_by past_of s.views + past
      → (homes : List (mathlib.Core.Option.Option S))
      → HandsOut {S = S} count (record {
        words = (h.claim + 1) ∷ [];
        homes = homes;
        views = set s.views id (record v { drawn = v.drawn ++ h.claim ∷ []; past = past });
      })
  draws_on s id v past h at some_part few ended up homes =
      let n = h.claim in
      let w : View = record v { drawn = v.drawn ++ n ∷ []; past = past } in record {
        claim = n + 1;
        word = refl;
        each_once = λ x.
            let t = sum_set (drawn_of x) s.views id v w at in let o = h.each_once x in
            let a = times_append x v.drawn (n ∷ []) in let m = once_next x n in omega arith;
        bounded = let t = sum_set past_of s.views id v w at in omega arith;
        all_parts = let t = sum_set parts_of s.views id v w at in let p = h.all_parts in omega arith;
        seats = knows_set count n (n + 1) s.views id w (omega arith) h.seats
            (drawn_knows count n past v (h.seats id v at) some_part few ended);
      }

  -- a number may be drawn
  pub may_draw : (slots id : ℕ) (me : Me S View) → count ≤ 2 ^ 62 → me.0.count ≡ count
      → 0 < me.0.parts → me.0.past ≡ 0
      → Allows (HandsOut {S = S} count) slots id me 0 (λ n. (n + 1) % 2 ^ 64)
      (Draws (step slots 0 1 0 none) me)
  may_draw slots id me most counted some_part none_past s h len at small =
      let n : ℕ = h.claim in
      let v : View = me.0 in
      let k = h.seats id v at in
      let near = claim_small s h most in
      let next : (n + 1) % 2 ^ 64 ≡ n + 1 = mod-eq_of_lt (omega arith) in
      let below : (x : ℕ) → times x v.drawn ≤ once_below x n = λ x.
      let a = sum_has (drawn_of x) s.views id v at in let b = h.each_once x in omega arith in
      let P : List ℕ → Type 0 = λ ws. (w : View) × (a : Act S) × Valid s.homes me.1 a
      × HandsOut {S = S} count (record {
        words = set ws 0 ((get_or ws 0 0 + 1) % 2 ^ 64);
        homes = homes_after s.homes me.1 a;
        views = set s.views id w;
      })
      × Draws (step slots 0 1 0 none) me (get_or ws 0 0) (w, carried_after me.1 a) in
      let Q : View → ℕ → Type 0 = λ w m. HandsOut {S = S} count (record {
        words = m ∷ [];
        homes = s.homes;
        views = set s.views id w;
      }) in
      subst P (sym h.word) (dite (dec_lt n count)
      (λ lt.
      let w : View = (drew me n v.past).0 in (
        w,
        keeps,
        tt,
        subst (Q w) (sym next)
            (draws_on s id v v.past h at some_part k.few_past
            (λ p. let q = k.ended p in omega arith) (omega arith) s.homes),
        ((λ _. refl), (λ le. absurd (omega arith)), below),
      ))
      (λ not_lt.
      let w : View = (drew me n (v.past + 1)).0 in
      let b = h.bounded in (
        w,
        keeps,
        tt,
        subst (Q w) (sym next)
            (draws_on s id v (v.past + 1) h at some_part (omega arith) (λ _. omega arith)
            (omega arith) s.homes),
        ((λ lt. absurd (not_lt (omega arith))), (λ _. refl), below),
      )))

  -- what a seat with all parts has drawn
  whole_drew : (s : State S View) (h : HandsOut {S = S} count s) (id : ℕ) (v : View)
      → get_elem? s.views id ≡ some v → DrewAll v
  whole_drew s h id v at all past x inside =
      let k = h.seats id v at in
      let counted = k.counted (omega arith) in
      let ended = k.ended past in
      let whole = sum_whole (drawn_of x) parts_of s.views id v at
      (λ i u e none_left. ap (times x) ((h.seats i u e).spent none_left))
      (h.all_parts ∙ sym all) in
      let once = h.each_once x in
      let one = once_inside x h.claim (omega arith) in omega arith

  -- CLAIM may be looked at
  pub may_settle : (slots id : ℕ) (me : Me S View)
      → Allows (HandsOut {S = S} count) slots id me 0 (λ n. n) (Settles (step slots 0 0 0 none) me)
  may_settle slots id me s h len at small =
      let n : ℕ = h.claim in
      let v : View = me.0 in
      let P : List ℕ → Type 0 = λ ws. (w : View) × (a : Act S) × Valid s.homes me.1 a
      × HandsOut {S = S} count (record {
        words = set ws 0 (get_or ws 0 0);
        homes = homes_after s.homes me.1 a;
        views = set s.views id w;
      })
      × Settles (step slots 0 0 0 none) me (get_or ws 0 0) (w, carried_after me.1 a) in
      let Q : List View → Type 0 = λ views. HandsOut {S = S} count (record {
        words = n ∷ [];
        homes = s.homes;
        views = views;
      }) in
      let same : Q s.views = record {
        claim = n;
        word = refl;
        each_once = h.each_once;
        bounded = h.bounded;
        all_parts = h.all_parts;
        seats = h.seats;
      } in
      subst P (sym h.word) (
        v,
        keeps,
        tt,
        subst Q (sym (set_again s.views id v at)) same,
        (
          refl,
          (λ x.
              let a = sum_has (drawn_of x) s.views id v at in let b = h.each_once x in
              let c = once_at_most x n in omega arith),
          whole_drew s h id v at,
        ),
      )

  -- a seat may give a part away
  pub may_split : (id : ℕ) (v : View) → 1 < v.parts → v.past ≡ 0
      → Splits (HandsOut {S = S} count) id v (giving v) (given v)
  may_split id v two none_past s h at =
      let k = h.seats id v at in
      let first : View = giving v in
      let second : View = given v in
      let firsts : List View = set s.views id first in
      let pushed : (f : View → ℕ) → sum_by f (firsts ++ second ∷ []) ≡ sum_by f firsts + f second =
      λ f. sum_by_push f firsts second in record {
        claim = h.claim;
        word = h.word;
        each_once = λ x.
            let t = sum_set (drawn_of x) s.views id v first at in let u = pushed (drawn_of x) in
            let o = h.each_once x in omega arith;
        bounded = let t = sum_set past_of s.views id v first at in let u = pushed past_of in
            let b = h.bounded in omega arith;
        all_parts = let t = sum_set parts_of s.views id v first at in let u = pushed parts_of in
            let p = h.all_parts in omega arith;
        seats = λ j u e. ⊎_elim
            (λ there. knows_set count h.claim h.claim s.views id first (le_refl h.claim) h.seats
            (record {
              counted = λ _. k.counted (omega arith);
              few_past = omega arith;
              ended = k.ended;
              spent = λ none_left. absurd (omega arith);
            }) j u there)
            (λ is. subst (Knows count h.claim) is (record {
              counted = λ _. k.counted (omega arith);
              few_past = omega arith;
              ended = λ p. absurd (omega arith);
              spent = λ none_left. refl;
            })) (at_snoc firsts second u j e);
      }

  -- a seat may take another in
  pub may_join : (id : ℕ) (v : View) (other : ℕ) (w : View) → 0 < v.parts
      → Joins (HandsOut {S = S} count) id v other w (joined v w) spent
  may_join id v other w some_part s h at ne at' =
      let both : View = joined v w in
      let ones : List View = set s.views id both in
      let there : get_elem? s.views other ≡ some w = ⊎_elim (λ t. absurd (ne t.0)) (λ t. t.1)
      (at_set s.views id other both w at') in
      let k = h.seats id v at in
      let q = h.seats other w there in
      let sums : (f : View → ℕ) → f spent ≡ 0
      → sum_by f (set ones other spent) + f w + f v ≡ sum_by f s.views + f both = λ f none_left.
      let t = sum_set f s.views id v both at in let u = sum_set f ones other w spent at' in
      omega arith in
      let with_both : (j : ℕ) (u : View) → get_elem? ones j ≡ some u → Knows count h.claim u =
      knows_set count h.claim h.claim s.views id both (le_refl h.claim) h.seats (record {
        counted = λ _. k.counted some_part;
        few_past = let a = k.few_past in let b = q.few_past in omega arith;
        ended = λ p. dite (dec_lt 0 v.past) (λ lt. k.ended lt) (λ nl. q.ended (omega arith));
        spent = λ none_left. absurd (omega arith);
      }) in record {
        claim = h.claim;
        word = h.word;
        each_once = λ x.
            let t = sums (drawn_of x) refl in let a = times_append x v.drawn w.drawn in
            let o = h.each_once x in omega arith;
        bounded = let t = sums past_of refl in let b = h.bounded in omega arith;
        all_parts = let t = sums parts_of refl in let p = h.all_parts in omega arith;
        seats = knows_set count h.claim h.claim ones other spent (le_refl h.claim) with_both
            (spent_knows count h.claim);
      }
