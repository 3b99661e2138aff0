-- The rows of the fold: that they rise, whose they are, and which have no kqueue.
use Rattle.std.proofs.Common.{◌≡◌, ℕ, ◌+◌, ◌<◌, ◌≤◌, true, cond, not, eqb, ◌||◌, List, [], ◌∷◌, ◌++◌, map, filter, Option, Some, None, refl, sym, ap, ap₂, subst, ◌∙◌, arith}
use Rattle.std.proofs.lemmas.Bool.{eqb-true, false≢true}
use Rattle.std.proofs.lemmas.List.{map-append}
use Rattle.std.proofs.lemmas.List.Elements.{All-nil, All-cons, All-head, All-tail, All-append, All-filter, All-map, All-weaker}
use Rattle.std.specs.List.{All}
use Rattle.kq_model.specs.declared.event.Event.{Event}
use Rattle.kq_model.specs.declared.reply.Reply.{Reply}
use Rattle.kq_model.specs.declared.reply.Reply.TheVariants as reply
use Rattle.kq_model.specs.declared.row.Row.{Row}
use Rattle.kq_model.specs.Births.{Birth, birth_at, birth_by, births_from}
use Rattle.kq_model.specs.Close.{Pair, has_pair}
use Rattle.kq_model.specs.Hearing.{Hearing}
use Rattle.kq_model.specs.LiveCalls.{call_of, is_live, OnLive, CallLive}
use Rattle.kq_model.specs.Moment.{Moment, moment_of}
use Rattle.kq_model.specs.Moments.{world_by, plans_from}
use Rattle.kq_model.specs.Objects.{Keeping}
use Rattle.kq_model.specs.OwnedRows.{OwnedRow, same_kqueue, owned_by, owned_in, owned_rows, rows_of, all_rows, plain_by, plain_from, Rise}
use Rattle.kq_model.specs.Plans.{plan}
use Rattle.kq_model.specs.System.{Live, System, stepped, lived, born, reply_to, kqueue_of, step_by, step, row_of, rows_after}
use Rattle.kq_model.specs.World.{Call, Planned, Impossible, Possible, seen_world}
use Rattle.kq_model.proofs.Distinct.{IsOf}
use Rattle.kq_model.proofs.FoldAlone.{rows_of-append, rows_of-none}
use Rattle.kq_model.proofs.KnoteLaws.{by_test}
use Rattle.kq_model.proofs.ListFilters.{All-left, All-right, All-unmap}

all-owned : (tag : Option ℕ) (rows : List Row) → all_rows (owned_by tag rows) ≡ rows
all-owned tag [] = refl
all-owned tag (r ∷ rows) = ap (λ rest. r ∷ rest) (all-owned tag rows)

abbrev IsFrom : ℕ → Row → Type 0
IsFrom place r = place ≤ r.at

abbrev Rising : ℕ → List Row → Type 0
Rising place rows = All (IsFrom place) rows × Rise rows

row-rises : (place : ℕ) (answer : Reply) (rest : List Row) → Rising (place + 1) rest → Rising place (row_of place answer ++ rest)
unfolding row_of
row-rises place answer rest rising = by_answer answer
  where
    from : All (IsFrom place) rest
    from = All-weaker (IsFrom (place + 1)) (IsFrom place) (λ r is. omega (arith, is)) rest rising.0

    one : (r : Row) → r.at ≡ place → Rising place (r ∷ rest)
    one r same = (
      All-cons (IsFrom place) r rest (omega (arith, same)) from,
      (All-weaker (IsFrom (place + 1)) (λ later. r.at < later.at) (λ later is. omega (arith, is, same)) rest rising.0, rising.1),
    )

    by_answer : (answer : Reply) → Rising place (row_of place answer ++ rest)
    by_answer reply.Done = (from, rising.1)
    by_answer (reply.Events events) = one (record { at = place; reply = reply.Events events }) refl
    by_answer (reply.Failed e) = one (record { at = place; reply = reply.Failed e }) refl
    by_answer (reply.Impossible why) = one (record { at = place; reply = reply.Impossible why }) refl

-- some of rising rows rise
pub part-rises : (who : Option ℕ) (rows : List OwnedRow) → Rise (all_rows rows) → Rise (rows_of who rows)
part-rises who [] rise = tt
part-rises who (r ∷ rows) rise =
    let later = All-unmap (λ (x : Row). r.row.at < x.at) (λ (x : OwnedRow). x.row) rows rise.0 in
    by_test (λ b. Rise (map (λ (x : OwnedRow). x.row) (cond b (r ∷ filter (λ (x : OwnedRow). same_kqueue who x.kqueue) rows) (filter (λ (x : OwnedRow). same_kqueue who x.kqueue) rows)))) (same_kqueue who r.kqueue)
    (λ _. (
      All-map (λ (x : Row). r.row.at < x.at) (λ (x : OwnedRow). x.row) (filter (λ (x : OwnedRow). same_kqueue who x.kqueue) rows)
          (All-filter (λ (x : OwnedRow). same_kqueue who x.kqueue) (λ (x : OwnedRow). r.row.at < x.row.at) rows later),
      part-rises who rows rise.1,
    ))
    (λ _. part-rises who rows rise.1)

module _ {S : Type 0} {h : Hearing S} where
  quiet-row : (place : ℕ) (m : Moment) (c : Option Call) (live : List (Live h)) → rows_of None (owned_by (kqueue_of c) (row_of place (reply_to m c live))) ≡ []
  unfolding kqueue_of reply_to same_kqueue row_of
  quiet-row place m None live = refl
  quiet-row place m (Some c) live = rows_of-none None (Some c.kqueue) (row_of place (reply_to m (Some c) live)) refl

-- ---- whose rows they are

module _ (places : List ℕ) where
  abbrev IsRowOf : OwnedRow → Type 0
  IsRowOf r = IsOf places r.kqueue

  abbrev IsBirthOf : Birth → Type 0
  IsBirthOf b = IsOf places (Some b.place)

  tagged : (tag : Option ℕ) (rows : List Row) → IsOf places tag → All IsRowOf (owned_by tag rows)
  tagged tag [] is = All-nil IsRowOf
  tagged tag (r ∷ rows) is = All-cons IsRowOf (record { kqueue = tag; row = r }) (owned_by tag rows) is (tagged tag rows is)

  module _ {S : Type 0} {h : Hearing S} where
    abbrev IsLiveOf : Live h → Type 0
    IsLiveOf l = IsOf places (Some l.place)

    live-of : (place : ℕ) (live : List (Live h)) → All IsLiveOf live → is_live place live ≡ true → IsOf places (Some place)
    live-of place [] all there = absurd (false≢true there)
    live-of place (l ∷ ls) all there =
        by_test (λ b. b || is_live place ls ≡ true → IsOf places (Some place)) (eqb place l.place)
        (λ same _. subst (λ p. IsOf places (Some p)) (sym (eqb-true place l.place same)) (All-head IsLiveOf l ls all))
        (λ _ later. live-of place ls (All-tail IsLiveOf l ls all) later) there

    call-of : (c : Option Call) (live : List (Live h)) → All IsLiveOf live → OnLive live c → IsOf places (kqueue_of c)
    unfolding kqueue_of OnLive
    call-of None live all there = tt
    call-of (Some c) live all there = live-of c.kqueue live all there

    lived-of : (m : Moment) (live : List (Live h)) → All IsLiveOf live → All IsLiveOf (lived m live)
    unfolding lived stepped
    lived-of m live all =
        let left = filter (λ (l : Live h). not (has_pair l.owner l.number m.closed)) live in
        All-map IsLiveOf (stepped m) left (All-filter (λ (l : Live h). not (has_pair l.owner l.number m.closed)) IsLiveOf live all)

    born-of : (place : ℕ) (p : Option Pair) → All IsBirthOf (birth_at place p) → All IsLiveOf (born place p)
    unfolding born birth_at
    born-of place None all = All-nil IsLiveOf
    born-of place (Some p) all =
        All-cons IsLiveOf _ [] (All-head IsBirthOf (record { place = place; owner = p.pid; number = p.number }) [] all) (All-nil IsLiveOf)

module _ {S A B C D : Type 0} {h : Hearing S} {k : Keeping A B C D} where
  all-step : (place : ℕ) (s : System h k) (q : Planned) (qs : List Planned)
      → all_rows (owned_rows place s (q ∷ qs)) ≡ row_of place (step_by place q s).reply ++ all_rows (owned_rows (place + 1) (step_by place q s).system qs)
  unfolding owned_rows
  all-step place s q qs =
      let next = owned_rows (place + 1) (step_by place q s).system qs in
      map-append (λ (r : OwnedRow). r.row) (owned_in place (step_by place q s)) next
      ∙ ap (λ rows. rows ++ all_rows next) (all-owned (step_by place q s).kqueue (row_of place (step_by place q s).reply))

  pub fold-rises : (place : ℕ) (s : System h k) (qs : List Planned) → Rising place (all_rows (owned_rows place s qs))
  unfolding owned_rows
  fold-rises place s [] = (All-nil (IsFrom place), tt)
  fold-rises place s (q ∷ qs) =
      subst (Rising place) (sym (all-step place s q qs))
      (row-rises place (step_by place q s).reply (all_rows (owned_rows (place + 1) (step_by place q s).system qs)) (fold-rises (place + 1) (step_by place q s).system qs))

  -- ---- the fold over events is the fold over their plans

  pub step-world : (place : ℕ) (q : Planned) (s : System h k) → (step_by place q s).system.world ≡ world_by place q s.world
  unfolding step_by world_by
  step-world place (Impossible why) s = refl
  step-world place (Possible p) s = refl

  pub fold-rows : (place : ℕ) (s : System h k) (es : List Event) → rows_after place s es ≡ all_rows (owned_rows place s (plans_from place s.world es))
  unfolding rows_after plans_from step owned_rows
  fold-rows place s [] = refl
  fold-rows place s (e ∷ es) =
      let q = plan place e (seen_world s.world) in
      let next = (step_by place q s).system in
      ap (λ rows. row_of place (step_by place q s).reply ++ rows)
      (fold-rows (place + 1) next es ∙ ap (λ w. all_rows (owned_rows (place + 1) next (plans_from (place + 1) w es))) (step-world place q s))
      ∙ sym (all-step place s q (plans_from (place + 1) (world_by place q s.world) es))

  -- ---- the rows of no kqueue

  pub fold-plain : (place : ℕ) (s : System h k) (qs : List Planned) → rows_of None (owned_rows place s qs) ≡ plain_from place qs
  unfolding owned_rows plain_from plain_by step_by row_of same_kqueue
  fold-plain place s [] = refl
  fold-plain place s (Impossible why ∷ qs) =
      ap (λ rest. record { at = place; reply = reply.Impossible why } ∷ rest) (fold-plain (place + 1) s qs)
  fold-plain place s (Possible p ∷ qs) =
      let next = (step_by place (Possible p) s).system in
      let m = moment_of s.version place p s.world in
      rows_of-append None (owned_by (kqueue_of p.call) (row_of place (reply_to m p.call s.live))) (owned_rows (place + 1) next qs)
      ∙ ap₂ (λ xs ys. xs ++ ys) (quiet-row place m p.call s.live) (fold-plain (place + 1) next qs)

  pub fold-of : (places : List ℕ) (place : ℕ) (s : System h k) (qs : List Planned) → CallLive place s qs → All (IsLiveOf places) s.live → All (IsBirthOf places) (births_from place qs)
      → All (IsRowOf places) (owned_rows place s qs)
  unfolding CallLive owned_rows births_from birth_by step_by call_of
  fold-of places place s [] calls live births = All-nil (IsRowOf places)
  fold-of places place s (Impossible why ∷ qs) calls live births =
      All-append (IsRowOf places) (owned_by None (row_of place (reply.Impossible why))) (owned_rows (place + 1) s qs)
      (tagged places None (row_of place (reply.Impossible why)) tt) (fold-of places (place + 1) s qs calls.1 live births)
  fold-of places place s (Possible p ∷ qs) calls live births =
      let m = moment_of s.version place p s.world in
      let next = (step_by place (Possible p) s).system in
      All-append (IsRowOf places) (owned_by (kqueue_of p.call) (row_of place (reply_to m p.call s.live))) (owned_rows (place + 1) next qs)
      (tagged places (kqueue_of p.call) _ (call-of places p.call s.live live calls.0))
      (fold-of places (place + 1) next qs calls.1
      (All-append (IsLiveOf places) (lived m s.live) (born place p.born) (lived-of places m s.live live) (born-of places place p.born (All-left (IsBirthOf places) (birth_at place p.born) (births_from (place + 1) qs) births)))
      (All-right (IsBirthOf places) (birth_at place p.born) (births_from (place + 1) qs) births))
