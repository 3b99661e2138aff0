-- A share of the system makes the step of the whole, as far as its own kqueues go; and all shares together give the
-- rows of the whole.
use Rattle.std.proofs.Common.{◌≡◌, ℕ, zero, suc, ◌+◌, ◌<◌, ◌≤◌, ◌==◌, Bool, true, false, cond, not, List, [], ◌∷◌, ◌++◌, map, filter, get_or, Option, Some, None, refl, sym, ap, ap₂, subst, ◌∙◌, arith}
use Rattle.std.proofs.lemmas.Bool.{eqb-true, false≢true}
use Rattle.std.proofs.lemmas.Bool.Decides.{nat_tests}
use Rattle.std.proofs.lemmas.List.{map-append}
use Rattle.std.proofs.lemmas.List.Elements.{All-filter, All-map, All-head, filter-append, filter_passes}
use Rattle.std.proofs.lemmas.List.Sorted.{IsPermutation-refl, IsPermutation-sym, IsPermutation-trans, IsPermutation-map, IsPermutation-append_right, IsPermutation-filter_both}
use Rattle.std.specs.List.{All, flat_map, range_with_len}
use Rattle.std.specs.List.Sorted.{IsPermutation}
use Rattle.kq_model.specs.declared.event.Event.{Event}
use Rattle.kq_model.specs.declared.reply.Reply.{Reply}
use Rattle.kq_model.specs.declared.reply.Reply.TheVariants as reply
use Rattle.kq_model.specs.declared.row.Row.{Row}
use Rattle.kq_model.specs.Close.{has_pair}
use Rattle.kq_model.specs.Hearing.{Hearing}
use Rattle.kq_model.specs.Moment.{Moment, moment_of, called_at}
use Rattle.kq_model.specs.Moments.{plans_from, world_by}
use Rattle.kq_model.specs.Objects.{Keeping}
use Rattle.kq_model.specs.OwnedRows.{OwnedRow, owned_by, owned_in, owned_rows, all_rows, Rise}
use Rattle.kq_model.specs.Plans.{plan}
use Rattle.kq_model.specs.Shares.{share, own_step, share_step, share_after, share_rows, own_rows, dealt, AreDealt, rows_of_shares, AreShared}
use Rattle.kq_model.specs.System.{Live, System, Stepped, stepped, lived, born, answer, reply_to, kqueue_of, step_by, step, empty_system, system_after, row_of, rows_after}
use Rattle.kq_model.specs.World.{Call, Planned, Impossible, Possible, seen_world}
use Rattle.kq_model.proofs.FoldRows.{fold-rises, fold-rows, step-world}
use Rattle.kq_model.proofs.KnoteLaws.{by_test}
use Rattle.kq_model.proofs.ListFilters.{filter-all, filter-weaker, all-where, All-both, All-unmap}

-- ---- filters

pub filter-map : {X Y : Type 0} (p : Y → Bool) (f : X → Y) (xs : List X) → filter p (map f xs) ≡ map f (filter (λ x. p (f x)) xs)
filter-map p f [] = refl
filter-map p f (x ∷ xs) =
    by_test (λ b. cond b (f x ∷ filter p (map f xs)) (filter p (map f xs)) ≡ map f (cond b (x ∷ filter (λ y. p (f y)) xs) (filter (λ y. p (f y)) xs)))
    (p (f x)) (λ _. ap (λ rest. f x ∷ rest) (filter-map p f xs)) (λ _. filter-map p f xs)

filter-swap : {X : Type 0} (p q : X → Bool) (xs : List X) → filter p (filter q xs) ≡ filter q (filter p xs)
filter-swap p q [] = refl
filter-swap p q (x ∷ xs) = by_both (filter-swap p q xs) (p x) (q x) refl refl
  where
    by_both : filter p (filter q xs) ≡ filter q (filter p xs) → (a b : Bool) → p x ≡ a → q x ≡ b
        → filter p (cond b (x ∷ filter q xs) (filter q xs)) ≡ filter q (cond a (x ∷ filter p xs) (filter p xs))
    by_both rest true true at_p at_q =
        ap₂ (λ b ys. cond b (x ∷ ys) ys) at_p rest ∙ sym (ap (λ b. cond b (x ∷ filter q (filter p xs)) (filter q (filter p xs))) at_q)
    by_both rest true false at_p at_q = rest ∙ sym (ap (λ b. cond b (x ∷ filter q (filter p xs)) (filter q (filter p xs))) at_q)
    by_both rest false true at_p at_q = ap (λ b. cond b (x ∷ filter p (filter q xs)) (filter p (filter q xs))) at_p ∙ rest
    by_both rest false false at_p at_q = rest

filter-again : {X : Type 0} (p : X → Bool) (xs : List X) → filter p (filter p xs) ≡ filter p xs
filter-again p xs = filter-weaker p p (λ x is. is) xs

-- ---- the kqueues of a share

module _ {S : Type 0} {h : Hearing S} (own : Option ℕ → Bool) where
  abbrev is_own : Live h → Bool
  is_own l = own (Some l.place)

  pub own-lived : (m : Moment) (live : List (Live h)) → filter is_own (lived m live) ≡ lived m (filter is_own live)
  unfolding lived stepped
  own-lived m live =
      let stays : Live h → Bool = λ l. not (has_pair l.owner l.number m.closed) in
      filter-map is_own (stepped m) (filter stays live) ∙ ap (map (stepped m)) (filter-swap is_own stays live)

  -- a call of its own is answered as by the whole
  own-answer : (m : Moment) (c : Call) → own (Some c.kqueue) ≡ true → (live : List (Live h)) → answer m c (filter is_own live) ≡ answer m c live
  unfolding answer
  own-answer m c own_call [] = refl
  own-answer m c own_call (l ∷ ls) =
      by_test (λ b. answer m c (cond b (l ∷ filter is_own ls) (filter is_own ls)) ≡ answer m c (l ∷ ls)) (is_own l)
      (λ _. ap (λ rest. cond (c.kqueue == l.place) (called_at l.owner m c l.kq).reply rest) (own-answer m c own_call ls))
      (λ other.
      by_test (λ b. (c.kqueue == l.place) ≡ b → answer m c (filter is_own ls) ≡ cond b (called_at l.owner m c l.kq).reply (answer m c ls))
      (c.kqueue == l.place)
      (λ _ same. absurd (false≢true (sym other ∙ ap (λ place. own (Some place)) (sym (eqb-true c.kqueue l.place same)) ∙ own_call)))
      (λ _ _. own-answer m c own_call ls) refl)

  own-reply : (m : Moment) (c : Option Call) (live : List (Live h))
      → cond (own (kqueue_of c)) (reply_to m c (filter is_own live)) reply.Done ≡ cond (own (kqueue_of c)) (reply_to m c live) reply.Done
  unfolding reply_to kqueue_of
  own-reply m None live = refl
  own-reply m (Some c) live =
      by_test (λ b. own (Some c.kqueue) ≡ b → cond b (answer m c (filter is_own live)) reply.Done ≡ cond b (answer m c live) reply.Done)
      (own (Some c.kqueue)) (λ _ is. own-answer m c is live) (λ _ _. refl) refl

-- ---- rows

module _ (own : Option ℕ → Bool) where
  own-tagged : (tag : Option ℕ) (rows : List Row) → own_rows own (owned_by tag rows) ≡ cond (own tag) rows []
  own-tagged tag [] = by_test (λ b. let none : List Row = [] in none ≡ cond b none none) (own tag) (λ _. refl) (λ _. refl)
  own-tagged tag (r ∷ rows) =
      by_test (λ b. own tag ≡ b → map (λ (x : OwnedRow). x.row) (cond b (record { kqueue = tag; row = r } ∷ filter (λ (x : OwnedRow). own x.kqueue) (owned_by tag rows)) (filter (λ (x : OwnedRow). own x.kqueue) (owned_by tag rows))) ≡ cond b (r ∷ rows) [])
      (own tag)
      (λ _ is. ap (λ rest. r ∷ rest) (own-tagged tag rows ∙ ap (λ b. cond b rows []) is))
      (λ _ is. own-tagged tag rows ∙ ap (λ b. cond b rows []) is) refl

  row-own : (place : ℕ) (b : Bool) (r : Reply) → row_of place (cond b r reply.Done) ≡ cond b (row_of place r) []
  unfolding row_of
  row-own place true r = refl
  row-own place false r = refl

  own-append : (xs ys : List OwnedRow) → own_rows own (xs ++ ys) ≡ own_rows own xs ++ own_rows own ys
  own-append xs ys =
      ap (λ (rs : List OwnedRow). map (λ (r : OwnedRow). r.row) rs) (filter-append (λ (r : OwnedRow). own r.kqueue) xs ys)
      ∙ map-append (λ (r : OwnedRow). r.row) (filter (λ (r : OwnedRow). own r.kqueue) xs) (filter (λ (r : OwnedRow). own r.kqueue) ys)

-- some of rising rows rise
part-rises : (own : OwnedRow → Bool) (rows : List OwnedRow) → Rise (all_rows rows) → Rise (all_rows (filter own rows))
part-rises own [] rise = tt
part-rises own (r ∷ rows) rise =
    by_test (λ b. Rise (all_rows (cond b (r ∷ filter own rows) (filter own rows)))) (own r)
    (λ _. (
      All-map (λ (x : Row). r.row.at < x.at) (λ (x : OwnedRow). x.row) (filter own rows)
          (All-filter own (λ (x : OwnedRow). r.row.at < x.row.at) rows (All-unmap (λ (x : Row). r.row.at < x.at) (λ (x : OwnedRow). x.row) rows rise.0)),
      part-rises own rows rise.1,
    ))
    (λ _. part-rises own rows rise.1)

-- ---- one step

module _ {S A B C D : Type 0} {h : Hearing S} {k : Keeping A B C D} (own : Option ℕ → Bool) where
  by-plan : (place : ℕ) (q : Planned) (s : System h k) → own_step own (step_by place q (share own s)) ≡ own_step own (step_by place q s)
  unfolding own_step share step_by
  by-plan place (Impossible why) s =
      ap (λ (live : List (Live h)). record {
        system = record s { live = live };
        reply = cond (own None) (reply.Impossible why) reply.Done;
        kqueue = None;
      }) (filter-again (is_own {h = h} own) s.live)
  by-plan place (Possible p) s =
      let m = moment_of s.version place p s.world in
      let left = filter (is_own {h = h} own) s.live in
      ap₂ (λ (live : List (Live h)) (r : Reply). record {
        system = record (step_by place (Possible p) s).system { live = live };
        reply = r;
        kqueue = kqueue_of p.call;
      })
      (filter-append (is_own own) (lived m left) (born place p.born)
      ∙ ap (λ rest. rest ++ filter (is_own own) (born place p.born))
      (own-lived own m left ∙ ap (lived m) (filter-again (is_own own) s.live) ∙ sym (own-lived own m s.live))
      ∙ sym (filter-append (is_own own) (lived m s.live) (born place p.born)))
      (own-reply own m p.call s.live)

  -- the step of a share is its own part of the step of the whole
  pub share-steps : (place : ℕ) (e : Event) (s : System h k) → share_step own place e (share own s) ≡ own_step own (step place e s)
  unfolding share_step step share
  share-steps place e s = by-plan place (plan place e (seen_world s.world)) s

  pub share-goes : (place : ℕ) (s : System h k) (es : List Event) → share_after own place (share own s) es ≡ share own (system_after place s es)
  unfolding share_after system_after own_step
  share-goes place s [] = refl
  share-goes place s (e ∷ es) =
      ap (λ (t : Stepped h k). share_after own (place + 1) t.system es) (share-steps place e s)
      ∙ share-goes (place + 1) (step place e s).system es

  -- ---- its rows

  -- a share gives the rows of the fold that are its own
  pub share-gives : (place : ℕ) (s : System h k) (es : List Event)
      → share_rows own place (share own s) es ≡ own_rows own (owned_rows place s (plans_from place s.world es))
  unfolding share_rows owned_rows plans_from own_step step
  share-gives place s [] = refl
  share-gives place s (e ∷ es) =
      let t = step place e s in
      let q = plan place e (seen_world s.world) in
      ap (λ (u : Stepped h k). row_of place u.reply ++ share_rows own (place + 1) u.system es) (share-steps place e s)
      ∙ ap₂ (λ xs ys. xs ++ ys)
      (row-own own place (own t.kqueue) t.reply ∙ sym (own-tagged own t.kqueue (row_of place t.reply)))
      (share-gives (place + 1) t.system es
      ∙ ap (λ w. own_rows own (owned_rows (place + 1) t.system (plans_from (place + 1) w es))) (step-world place q s))
      ∙ sym (own-append own (owned_in place t) (owned_rows (place + 1) t.system (plans_from (place + 1) (world_by place q s.world) es)))

  -- and they stand by rising place
  pub share-rises : (place : ℕ) (s : System h k) (es : List Event) → Rise (share_rows own place (share own s) es)
  share-rises place s es =
      let rows = owned_rows place s (plans_from place s.world es) in
      subst Rise (sym (share-gives place s es)) (part-rises (λ r. own r.kqueue) rows (fold-rises place s (plans_from place s.world es)).1)

  -- ---- what is a share of what

  pub share-again : (s : System h k) → share own (share own s) ≡ share own s
  unfolding share
  share-again s = ap (λ (live : List (Live h)). record s { live = live }) (filter-again (is_own {h = h} own) s.live)

  pub share-empty : (version : ℕ) → share own (empty_system {h = h} {k = k} version) ≡ empty_system version
  unfolding share
  share-empty version = refl

module _ {S A B C D : Type 0} {h : Hearing S} {k : Keeping A B C D} where
  -- the whole is its one share
  pub whole : (s : System h k) → share (λ _. true) s ≡ s
  unfolding share
  whole s = ap (λ (live : List (Live h)). record s { live = live }) (filter-all (λ (l : Live h). true) s.live (all-where (λ (l : Live h). true) (λ l. refl) s.live))

  pub whole-step : (place : ℕ) (e : Event) (s : System h k) → share_step (λ _. true) place e s ≡ step place e s
  unfolding share_step own_step
  whole-step place e s = ap (λ (next : System h k). record (step place e s) { system = next }) (whole (step place e s).system)

-- ---- all shares

-- those of these numbers, from `a` on
abbrev each_of : {X : Type 0} → (X → ℕ) → ℕ → ℕ → List X → List X
each_of f a n xs = flat_map (λ i. filter (λ x. f x == i) xs) (range_with_len a n)

module _ {X : Type 0} (f : X → ℕ) where
  apart : (a i : ℕ) → a < i → (x : X) → (f x == i) ≡ true → not (f x == a) ≡ true
  apart a i lt x is = grind (arith, nat_tests)

  -- those of later numbers are none of an earlier one
  without : (a b n : ℕ) → a < b → (xs : List X) → each_of f b n (filter (λ x. not (f x == a)) xs) ≡ each_of f b n xs
  without a b zero lt xs = refl
  without a b (suc n) lt xs =
      ap₂ (λ ys zs. ys ++ zs)
      (filter-weaker (λ x. f x == b) (λ x. not (f x == a)) (apart a b lt) xs) (without a (b + 1) n (omega arith) xs)

  abbrev IsAmong : ℕ → ℕ → X → Type 0
  IsAmong a n x = (a ≤ f x) × (f x < a + n)

  later : (a n : ℕ) (x : X) → IsAmong a (suc n) x → not (f x == a) ≡ true → IsAmong (a + 1) n x
  later a n x is other =
      let differ : f x ≡ a → ⊥ = λ same. absurd (grind (arith, nat_tests)) in
      (omega (arith, is.0, differ), omega (arith, is.1))

  nothing : (xs : List X) (a : ℕ) → All (IsAmong a 0) xs → xs ≡ []
  nothing [] a all = refl
  nothing (x ∷ xs) a all =
      let is = All-head (IsAmong a 0) x xs all in
      absurd (omega (arith, is.0, is.1))

  -- a list is what it has of each number
  pub by_number : (a n : ℕ) (xs : List X) → All (IsAmong a n) xs → IsPermutation xs (each_of f a n xs)
  by_number a zero xs all = subst (λ ys. IsPermutation ys []) (sym (nothing xs a all)) (IsPermutation-refl [])
  by_number a (suc n) xs all =
      let here = filter (λ x. f x == a) xs in
      let rest = filter (λ x. not (f x == a)) xs in
      let kept = All-filter (λ x. not (f x == a)) (IsAmong a (suc n)) xs all in
      let passed = filter_passes (λ x. not (f x == a)) xs in
      IsPermutation-trans xs (here ++ rest) (here ++ each_of f (a + 1) n xs)
      (IsPermutation-filter_both (λ x. f x == a) (λ x. not (f x == a)) (λ x. refl) xs)
      (IsPermutation-append_right here rest (each_of f (a + 1) n xs)
      (subst (IsPermutation rest) (without a (a + 1) n (omega arith) xs)
      (by_number (a + 1) n rest (All-both (IsAmong a (suc n)) (λ x. not (f x == a) ≡ true) (IsAmong (a + 1) n) (later a n) rest kept passed))))

flat-same : {X : Type 0} (f g : ℕ → List X) → ((i : ℕ) → f i ≡ g i) → (is : List ℕ) → flat_map f is ≡ flat_map g is
flat-same f g same [] = refl
flat-same f g same (i ∷ is) = ap₂ (λ xs ys. xs ++ ys) (same i) (flat-same f g same is)

map-flat : {X Y : Type 0} (f : X → Y) (g : ℕ → List X) (is : List ℕ) → map f (flat_map g is) ≡ flat_map (λ i. map f (g i)) is
map-flat f g [] = refl
map-flat f g (i ∷ is) = map-append f (g i) (flat_map g is) ∙ ap (λ rest. map f (g i) ++ rest) (map-flat f g is)

module _ {S A B C D : Type 0} {h : Hearing S} {k : Keeping A B C D} (deal : Option ℕ → ℕ) (shares : ℕ) where
  pub shared : AreDealt deal shares → (place : ℕ) (s : System h k) (es : List Event) → AreShared deal shares place s es
  shared all place s es =
      let rows = owned_rows place s (plans_from place s.world es) in
      let number : OwnedRow → ℕ = λ r. deal r.kqueue in
      let numbers = range_with_len 0 shares in
      let same = flat-same
      (λ i. share_rows (dealt deal i) place (share (dealt deal i) s) es) (λ i. own_rows (dealt deal i) rows)
      (λ i. share-gives (dealt deal i) place s es) numbers in (
        IsPermutation-sym (rows_after place s es) (rows_of_shares deal shares place s es)
            (subst (λ xs. IsPermutation xs (rows_of_shares deal shares place s es)) (sym (fold-rows place s es))
            (subst (IsPermutation (all_rows rows)) (map-flat (λ (r : OwnedRow). r.row) (λ i. filter (λ r. number r == i) rows) numbers ∙ sym same)
            (IsPermutation-map (λ (r : OwnedRow). r.row) rows (each_of number 0 shares rows)
            (by_number number 0 shares rows (λ i d lt. let below = all (get_or rows i d).kqueue in (omega arith, omega (arith, below))))))),
        subst Rise (sym (fold-rows place s es)) (fold-rises place s (plans_from place s.world es)).1,
      )
