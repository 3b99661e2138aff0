-- The rows of one kqueue in the fold of the whole system are those that it gives alone over all moments: it
-- starts empty at the first record, is empty still where it is made, and no call is on it before or after.
use Rattle.std.proofs.Common.{◌≡◌, ℕ, ◌+◌, ◌<◌, ◌≤◌, Bool, true, false, cond, not, eqb, ◌||◌, List, [], ◌∷◌, ◌++◌, map, filter, Option, Some, None, refl, sym, ap, ap₂, subst, ◌∙◌, arith}
use Rattle.std.proofs.lemmas.Bool.{eqb-true, false≢true}
use Rattle.std.proofs.lemmas.List.{map-append}
use Rattle.std.proofs.lemmas.List.Elements.{All-nil, All-cons, All-head, All-tail, All-append, All-filter, All-map, All-weaker, filter-append}
use Rattle.std.specs.List.{All}
use Rattle.kq_model.specs.declared.reply.Reply.TheVariants as reply
use Rattle.kq_model.specs.declared.row.Row.{Row}
use Rattle.kq_model.specs.Births.{Birth, birth_at, birth_by, births_from}
use Rattle.kq_model.specs.Clock.{clocked}
use Rattle.kq_model.specs.Close.{Pair, has_pair, closed}
use Rattle.kq_model.specs.Following.{Fork, forks_in, heir, with_heir, followed_each}
use Rattle.kq_model.specs.Hearing.{Hearing}
use Rattle.kq_model.specs.Hints.{knotes_alerted, queue_after_all, notified}
use Rattle.kq_model.specs.Knote.{find_knote}
use Rattle.kq_model.specs.Kqueue.{Kqueue, empty_kqueue}
use Rattle.kq_model.specs.LiveCalls.{call_of, is_live, OnLive, CallLive}
use Rattle.kq_model.specs.Moment.{Moment, moment_of, happened, called_at, after_call, kqueue_step}
use Rattle.kq_model.specs.Moments.{world_by, moments_from, moment_by}
use Rattle.kq_model.specs.Objects.{Keeping}
use Rattle.kq_model.specs.OwnedRows.{OwnedRow, same_kqueue, owned_by, owned_rows, rows_of}
use Rattle.kq_model.specs.References.{Names}
use Rattle.kq_model.specs.Replayed.{own_reply, rows_over}
use Rattle.kq_model.specs.System.{Live, System, stepped, lived, born, answer, reply_to, kqueue_of, step_by, row_of}
use Rattle.kq_model.specs.World.{Call, Planned, Impossible, Possible}
use Rattle.kq_model.proofs.KnoteLaws.{by_test}
use Rattle.kq_model.proofs.ListFilters.{All-left, All-right}
use Rattle.kq_model.proofs.PrivateParts.{clock_stays}

-- ---- rows with their kqueue

abbrev is_of : Option ℕ → OwnedRow → Bool
is_of who r = same_kqueue who r.kqueue

pub rows_of-append : (who : Option ℕ) (xs ys : List OwnedRow) → rows_of who (xs ++ ys) ≡ rows_of who xs ++ rows_of who ys
rows_of-append who xs ys =
    ap (λ (rs : List OwnedRow). map (λ (r : OwnedRow). r.row) rs) (filter-append (is_of who) xs ys)
    ∙ map-append (λ (r : OwnedRow). r.row) (filter (is_of who) xs) (filter (is_of who) ys)

rows_of-all : (who tag : Option ℕ) (rows : List Row) → same_kqueue who tag ≡ true → rows_of who (owned_by tag rows) ≡ rows
rows_of-all who tag [] same = refl
rows_of-all who tag (r ∷ rows) same =
    ap (λ (b : Bool). map (λ (x : OwnedRow). x.row) (cond b (record { kqueue = tag; row = r } ∷ filter (is_of who) (owned_by tag rows)) (filter (is_of who) (owned_by tag rows)))) same
    ∙ ap (λ rest. r ∷ rest) (rows_of-all who tag rows same)

pub rows_of-none : (who tag : Option ℕ) (rows : List Row) → same_kqueue who tag ≡ false → rows_of who (owned_by tag rows) ≡ []
rows_of-none who tag [] other = refl
rows_of-none who tag (r ∷ rows) other =
    ap (λ (b : Bool). map (λ (x : OwnedRow). x.row) (cond b (record { kqueue = tag; row = r } ∷ filter (is_of who) (owned_by tag rows)) (filter (is_of who) (owned_by tag rows)))) other
    ∙ rows_of-none who tag rows other

module _ {S : Type 0} (h : Hearing S) (kqueue owner : ℕ) where
  -- ---- an empty kqueue stays empty where it is not called

  abbrev nothing : Kqueue h
  nothing = empty_kqueue {h = h}

  abbrev no_names : Names
  no_names = record { number = λ n. false; target = λ t. false; timer = false }

  -- it has no knote that follows
  follows-nobody : (fs : List Fork) → followed_each fs nothing ≡ nothing
  unfolding followed_each heir with_heir find_knote
  follows-nobody [] = refl
  follows-nobody (f ∷ fs) = follows-nobody fs

  happened-empty : (m : Moment) → happened owner m nothing ≡ nothing
  unfolding happened closed notified knotes_alerted queue_after_all
  happened-empty m =
      ap (clocked m.clock) (follows-nobody (forks_in m.version m.hints)) ∙ clock_stays h no_names m.clock nothing (All-nil _)

  abbrev IsBefore : ℕ → Live h → Type 0
  IsBefore place l = l.place < place

  live-before : (place p : ℕ) (live : List (Live h)) → All (IsBefore place) live → is_live p live ≡ true → p < place
  live-before place p [] before there = absurd (false≢true there)
  live-before place p (l ∷ ls) before there =
      by_test (λ b. b || is_live p ls ≡ true → p < place) (eqb p l.place)
      (λ same _. subst (λ x. x < place) (sym (eqb-true p l.place same)) (All-head (IsBefore place) l ls before))
      (λ _ later. live-before place p ls (All-tail (IsBefore place) l ls before) later) there

  -- before it is made, and at that moment, no call is on it
  empty-step : (place : ℕ) (m : Moment) (live : List (Live h)) (c : Option Call) → All (IsBefore place) live → OnLive live c → place ≤ kqueue
      → after_call kqueue owner m c nothing ≡ nothing
  unfolding after_call OnLive
  empty-step place m live None before there unmade = happened-empty m
  empty-step place m live (Some c) before there unmade =
      by_test (λ b. cond b (called_at owner m c nothing).kq (happened owner m nothing) ≡ nothing) (eqb c.kqueue kqueue)
      (λ own. absurd (omega (arith, eqb-true c.kqueue kqueue own, live-before place c.kqueue live before there, unmade)))
      (λ _. happened-empty m)

  -- ---- the live list has this kqueue at most as it stands alone

  abbrev Same : Kqueue h → Live h → Type 0
  Same kq l = l.place ≡ kqueue → (l.kq ≡ kq) × (l.owner ≡ owner)

  stepped-same : (m : Moment) (kq : Kqueue h) (l : Live h) → Same kq l → Same (kqueue_step kqueue owner m kq) (stepped m l)
  unfolding stepped
  stepped-same m kq l same is =
      (ap (λ p. kqueue_step p l.owner m l.kq) is ∙ ap (λ o. kqueue_step kqueue o m l.kq) (same is).1 ∙ ap (kqueue_step kqueue owner m) (same is).0, (same is).1)

  lived-same : (m : Moment) (kq : Kqueue h) (live : List (Live h)) → All (Same kq) live → All (Same (kqueue_step kqueue owner m kq)) (lived m live)
  unfolding lived
  lived-same m kq live same =
      let left = filter (λ (l : Live h). not (has_pair l.owner l.number m.closed)) live in
      All-map (Same (kqueue_step kqueue owner m kq)) (stepped m) left
      (All-weaker (Same kq) (λ l. Same (kqueue_step kqueue owner m kq) (stepped m l)) (stepped-same m kq) left
      (All-filter (λ (l : Live h). not (has_pair l.owner l.number m.closed)) (Same kq) live same))

  lived-before : (m : Moment) (place : ℕ) (live : List (Live h)) → All (IsBefore place) live → All (IsBefore (place + 1)) (lived m live)
  unfolding lived stepped
  lived-before m place live before =
      let left = filter (λ (l : Live h). not (has_pair l.owner l.number m.closed)) live in
      All-map (IsBefore (place + 1)) (stepped m) left
      (All-weaker (IsBefore place) (λ l. l.place < place + 1) (λ l is. omega (arith, is)) left
      (All-filter (λ (l : Live h). not (has_pair l.owner l.number m.closed)) (IsBefore place) live before))

  abbrev IsOwned : Birth → Type 0
  IsOwned b = b.place ≡ kqueue → b.owner ≡ owner

  born-same : (place : ℕ) (p : Option Pair) (kq : Kqueue h) → All IsOwned (birth_at place p) → (place ≤ kqueue → kq ≡ nothing) → All (Same kq) (born place p)
  unfolding born birth_at
  born-same place None kq owned unmade = All-nil (Same kq)
  born-same place (Some p) kq owned unmade =
      All-cons (Same kq) (record { place = place; owner = p.pid; number = p.number; kq = nothing }) []
      (λ is. (sym (unmade (omega (arith, is))), All-head IsOwned (record { place = place; owner = p.pid; number = p.number }) [] owned is))
      (All-nil (Same kq))

  born-before : (place : ℕ) (p : Option Pair) → All (IsBefore (place + 1)) (born place p)
  unfolding born
  born-before place None = All-nil (IsBefore (place + 1))
  born-before place (Some p) =
      All-cons (IsBefore (place + 1)) (record { place = place; owner = p.pid; number = p.number; kq = nothing }) [] (omega arith) (All-nil (IsBefore (place + 1)))

  -- ---- its answer

  answer-own : (m : Moment) (c : Call) (kq : Kqueue h) (live : List (Live h)) → c.kqueue ≡ kqueue → All (Same kq) live → is_live c.kqueue live ≡ true
      → answer m c live ≡ (called_at owner m c kq).reply
  unfolding answer
  answer-own m c kq [] own same there = absurd (false≢true there)
  answer-own m c kq (l ∷ ls) own same there =
      by_test (λ b. b || is_live c.kqueue ls ≡ true → cond b (called_at l.owner m c l.kq).reply (answer m c ls) ≡ (called_at owner m c kq).reply) (eqb c.kqueue l.place)
      (λ is _. let here = All-head (Same kq) l ls same (sym (eqb-true c.kqueue l.place is) ∙ own) in
      ap₂ (λ o q. (called_at o m c q).reply) here.1 here.0)
      (λ _ later. answer-own m c kq ls own (All-tail (Same kq) l ls same) later) there

  row-own : (place : ℕ) (m : Moment) (c : Option Call) (kq : Kqueue h) (live : List (Live h)) → All (Same kq) live → OnLive live c
      → rows_of (Some kqueue) (owned_by (kqueue_of c) (row_of place (reply_to m c live))) ≡ row_of place (own_reply kqueue owner m c kq)
  unfolding kqueue_of reply_to own_reply OnLive same_kqueue row_of
  row-own place m None kq live same there = refl
  row-own place m (Some c) kq live same there =
      by_test (λ b. eqb c.kqueue kqueue ≡ b → rows_of (Some kqueue) (owned_by (Some c.kqueue) (row_of place (answer m c live))) ≡ row_of place (cond b (called_at owner m c kq).reply reply.Done)) (eqb c.kqueue kqueue)
      (λ _ own. rows_of-all (Some kqueue) (Some c.kqueue) (row_of place (answer m c live)) own
      ∙ ap (row_of place) (answer-own m c kq live (eqb-true c.kqueue kqueue own) same there))
      (λ _ other. rows_of-none (Some kqueue) (Some c.kqueue) (row_of place (answer m c live)) other)
      refl

  -- ---- the fold

  module _ {A B C D : Type 0} {k : Keeping A B C D} where
    pub fold-alone : (place : ℕ) (s : System h k) (qs : List Planned) (kq : Kqueue h) → CallLive place s qs → All (Same kq) s.live → All (IsBefore place) s.live
        → (place ≤ kqueue → kq ≡ nothing) → All IsOwned (births_from place qs)
        → rows_of (Some kqueue) (owned_rows place s qs) ≡ rows_over kqueue owner kq (moments_from s.version place s.world qs)
    unfolding CallLive owned_rows births_from birth_by moments_from moment_by moment_of rows_over step_by world_by call_of kqueue_step same_kqueue
    fold-alone place s [] kq calls same before unmade owned = refl
    fold-alone place s (Impossible why ∷ qs) kq calls same before unmade owned =
        rows_of-append (Some kqueue) (owned_by None (row_of place (reply.Impossible why))) (owned_rows (place + 1) s qs)
        ∙ ap (λ rows. rows ++ rows_of (Some kqueue) (owned_rows (place + 1) s qs)) (rows_of-none (Some kqueue) None (row_of place (reply.Impossible why)) refl)
        ∙ fold-alone (place + 1) s qs kq calls.1 same
        (All-weaker (IsBefore place) (IsBefore (place + 1)) (λ l is. omega (arith, is)) s.live before)
        (λ later. unmade (omega (arith, later))) owned
    fold-alone place s (Possible p ∷ qs) kq calls same before unmade owned =
        let m = moment_of s.version place p s.world in
        let next = (step_by place (Possible p) s).system in
        let left = All-left IsOwned (birth_at place p.born) (births_from (place + 1) qs) owned in
        let kq_next = kqueue_step kqueue owner m kq in
        let still : place ≤ kqueue → kq_next ≡ nothing = λ soon. ap (kqueue_step kqueue owner m) (unmade soon) ∙ empty-step place m s.live p.call before calls.0 soon in
        rows_of-append (Some kqueue) (owned_by (kqueue_of p.call) (row_of place (reply_to m p.call s.live))) (owned_rows (place + 1) next qs)
        ∙ ap₂ (λ xs ys. xs ++ ys) (row-own place m p.call kq s.live same calls.0)
        (fold-alone (place + 1) next qs kq_next calls.1
        (All-append (Same kq_next) (lived m s.live) (born place p.born) (lived-same m kq s.live same) (born-same place p.born kq_next left still))
        (All-append (IsBefore (place + 1)) (lived m s.live) (born place p.born) (lived-before m place s.live before) (born-before place p.born))
        (λ later. still (omega (arith, later)))
        (All-right IsOwned (birth_at place p.born) (births_from (place + 1) qs) owned))
