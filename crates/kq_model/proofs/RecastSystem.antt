-- The fold of a trace gives the same rows, however what was heard and the objects are kept.
use Rattle.std.proofs.Common.{◌≡◌, ℕ, ◌+◌, cond, not, eqb, List, [], ◌∷◌, ◌++◌, map, filter, Option, Some, None, refl, sym, ap, ◌∙◌}
use Rattle.std.proofs.lemmas.List.{map-append}
use Rattle.kq_model.specs.declared.event.Event.{Event}
use Rattle.kq_model.specs.declared.filter.Filter.{Filter}
use Rattle.kq_model.specs.declared.reply.Reply.{Reply}
use Rattle.kq_model.specs.Call.{Called, call}
use Rattle.kq_model.specs.Clock.{clocked}
use Rattle.kq_model.specs.Close.{Pair, has_pair, closed}
use Rattle.kq_model.specs.Following.{followed}
use Rattle.kq_model.specs.Hearing.{Hearing, listed}
use Rattle.kq_model.specs.Tallying.{tallying}
use Rattle.kq_model.specs.Hints.{notified}
use Rattle.kq_model.specs.Kqueue.{Kqueue}
use Rattle.kq_model.specs.Moment.{Moment, moment_of, caller_at, happened, called_at, after_call, kqueue_step}
use Rattle.kq_model.specs.Recast.{IsHearingMap, recast_kqueue, recast_live, recast_system, tallied_system, IsTalliedStep}
use Rattle.kq_model.specs.System.{Live, System, Stepped, empty_system, stepped, lived, born, answer, reply_to, kqueue_of, step_by, step, row_of, rows_after, rows_by, rows, system_after}
use Rattle.kq_model.specs.Objects as objects
use Rattle.kq_model.specs.Objects.{Keeping, counted}
use Rattle.kq_model.specs.Plans.{plan}
use Rattle.kq_model.specs.World.{Call, Planned, Impossible, Possible, World, carried_out, seen_world}
use Rattle.kq_model.proofs.RecastCall.{recast_called, call-recast}
use Rattle.kq_model.proofs.RecastKnote.{cond-map}
use Rattle.kq_model.proofs.RecastMoment.{closed-recast, notified-recast, followed-recast, clocked-recast}
use Rattle.kq_model.proofs.RecastTally.{tally_of-map}
use Rattle.kq_model.proofs.CountedObjects.{CountsAll, listed-counts}
use Rattle.kq_model.proofs.SeenWorld.{seen-again, seen-carried_out, moment-seen}

module _ {S T : Type 0} {h : Hearing S} {g : Hearing T} {f : Filter → S → T} (is : IsHearingMap h g f) where
  abbrev re_kq : Kqueue h → Kqueue g
  re_kq kq = recast_kqueue g f kq

  abbrev re_live : Live h → Live g
  re_live l = recast_live g f l

  -- ---- one kqueue at a moment

  happened-recast : (owner : ℕ) (m : Moment) (kq : Kqueue h) → happened owner m (re_kq kq) ≡ re_kq (happened owner m kq)
  unfolding happened
  happened-recast owner m kq =
      let left = closed owner m.closed kq in
      let heard = notified m.views m.hints left in
      ap (λ q. clocked m.clock (followed m.version m.hints (notified m.views m.hints q))) (closed-recast is owner m.closed kq)
      ∙ ap (λ q. clocked m.clock (followed m.version m.hints q)) (notified-recast is m.views m.hints left)
      ∙ ap (clocked m.clock) (followed-recast is m.version m.hints heard)
      ∙ clocked-recast is m.clock (followed m.version m.hints heard)

  called_at-recast : (owner : ℕ) (m : Moment) (c : Call) (kq : Kqueue h) → called_at owner m c (re_kq kq) ≡ recast_called is (called_at owner m c kq)
  unfolding called_at
  called_at-recast owner m c kq =
      ap (call (caller_at owner m) c.room c.changes) (happened-recast owner m kq)
      ∙ call-recast is (caller_at owner m) c.room c.changes (happened owner m kq)

  after_call-recast : (kqueue owner : ℕ) (m : Moment) (c : Option Call) (kq : Kqueue h) → after_call kqueue owner m c (re_kq kq) ≡ re_kq (after_call kqueue owner m c kq)
  unfolding after_call
  after_call-recast kqueue owner m None kq = happened-recast owner m kq
  after_call-recast kqueue owner m (Some c) kq =
      ap (λ (r : Called g). cond (eqb c.kqueue kqueue) r.kq (happened owner m (re_kq kq))) (called_at-recast owner m c kq)
      ∙ ap (λ q. cond (eqb c.kqueue kqueue) (re_kq (called_at owner m c kq).kq) q) (happened-recast owner m kq)
      ∙ sym (cond-map re_kq (eqb c.kqueue kqueue) (called_at owner m c kq).kq (happened owner m kq))

  pub kqueue_step-recast : (kqueue owner : ℕ) (m : Moment) (kq : Kqueue h) → kqueue_step kqueue owner m (re_kq kq) ≡ re_kq (kqueue_step kqueue owner m kq)
  unfolding kqueue_step
  kqueue_step-recast kqueue owner m kq = after_call-recast kqueue owner m m.call kq

  -- ---- all of them

  abbrev with_kq : Live h → Kqueue g → Live g
  with_kq l kq = record { place = l.place; owner = l.owner; number = l.number; kq = kq }

  stepped-recast : (m : Moment) (ls : List (Live h)) → map (stepped m) (map re_live ls) ≡ map re_live (map (stepped m) ls)
  unfolding stepped
  stepped-recast m [] = refl
  stepped-recast m (l ∷ ls) =
      ap (λ kq. with_kq l kq ∷ map (stepped m) (map re_live ls)) (kqueue_step-recast l.place l.owner m l.kq)
      ∙ ap (λ rest. re_live (stepped m l) ∷ rest) (stepped-recast m ls)

  open-recast : (pairs : List Pair) (ls : List (Live h)) → filter (λ (l : Live g). not (has_pair l.owner l.number pairs)) (map re_live ls) ≡ map re_live (filter (λ (l : Live h). not (has_pair l.owner l.number pairs)) ls)
  open-recast pairs [] = refl
  open-recast pairs (l ∷ ls) =
      ap (λ rest. cond (not (has_pair l.owner l.number pairs)) (re_live l ∷ rest) rest) (open-recast pairs ls)
      ∙ sym (cond-map (map re_live) (not (has_pair l.owner l.number pairs)) (l ∷ _) _)

  pub lived-recast : (m : Moment) (ls : List (Live h)) → lived m (map re_live ls) ≡ map re_live (lived m ls)
  unfolding lived
  lived-recast m ls = ap (map (stepped m)) (open-recast m.closed ls) ∙ stepped-recast m (filter (λ (l : Live h). not (has_pair l.owner l.number m.closed)) ls)

  born-recast : (place : ℕ) (p : Option Pair) → born {h = g} place p ≡ map re_live (born place p)
  unfolding born
  born-recast place None = refl
  born-recast place (Some p) = refl

  answer-recast : (m : Moment) (c : Call) (ls : List (Live h)) → answer m c (map re_live ls) ≡ answer m c ls
  unfolding answer
  answer-recast m c [] = refl
  answer-recast m c (l ∷ ls) =
      ap (λ (r : Called g). cond (eqb c.kqueue l.place) r.reply (answer m c (map re_live ls))) (called_at-recast l.owner m c l.kq)
      ∙ ap (λ reply. cond (eqb c.kqueue l.place) (called_at l.owner m c l.kq).reply reply) (answer-recast m c ls)

  pub reply_to-recast : (m : Moment) (c : Option Call) (ls : List (Live h)) → reply_to m c (map re_live ls) ≡ reply_to m c ls
  unfolding reply_to
  reply_to-recast m None ls = refl
  reply_to-recast m (Some c) ls = answer-recast m c ls

-- ---- steps

module _ {S T A B C D : Type 0} {h : Hearing S} {g : Hearing T} {f : Filter → S → T} {k : Keeping A B C D} (is : IsHearingMap h g f) (counts : CountsAll k) where
  abbrev re_system : System h k → System g counted
  re_system s = recast_system g f s

  abbrev pub recast_stepped : Stepped h k → Stepped g counted
  recast_stepped t = record { system = re_system t.system; reply = t.reply; kqueue = t.kqueue }

  abbrev stands : ℕ → Option ℕ → World counted → List (Live g) → Reply → Stepped g counted
  stands version kqueue world live reply =
      record { system = record { version = version; world = world; live = live }; reply = reply; kqueue = kqueue }

  step_by-recast : (place : ℕ) (planned : Planned) (s : System h k) → step_by place planned (re_system s) ≡ recast_stepped (step_by place planned s)
  unfolding step_by
  step_by-recast place (Impossible why) s = refl
  step_by-recast place (Possible p) s =
      let m = moment_of s.version place p s.world in
      let live = map (recast_live g f) s.live in
      let world = seen_world (carried_out place p s.world) in
      let out = stands s.version (kqueue_of p.call) world in
      ap (λ w. stands s.version (kqueue_of p.call) w (lived (moment_of s.version place p (seen_world s.world)) live ++ born place p.born) (reply_to (moment_of s.version place p (seen_world s.world)) p.call live)) (sym (seen-carried_out counts place p s.world))
      ∙ ap (λ n. out (lived n live ++ born place p.born) (reply_to n p.call live)) (moment-seen counts s.version place p s.world)
      ∙ ap (λ left. out (left ++ born place p.born) (reply_to m p.call live)) (lived-recast is m s.live)
      ∙ ap (λ new. out (map (recast_live g f) (lived m s.live) ++ new) (reply_to m p.call live)) (born-recast is place p.born)
      ∙ ap (λ left. out left (reply_to m p.call live)) (sym (map-append (recast_live g f) (lived m s.live) (born place p.born)))
      ∙ ap (out (map (recast_live g f) (lived m s.live ++ born place p.born))) (reply_to-recast is m p.call s.live)

  pub step-recast : (place : ℕ) (e : Event) (s : System h k) → step place e (re_system s) ≡ recast_stepped (step place e s)
  unfolding step
  step-recast place e s =
      ap (λ w. step_by place (plan place e w) (re_system s)) (seen-again counts s.world)
      ∙ step_by-recast place (plan place e (seen_world s.world)) s

  pub system_after-recast : (place : ℕ) (s : System h k) (es : List Event) → system_after place (re_system s) es ≡ re_system (system_after place s es)
  unfolding system_after
  system_after-recast place s [] = refl
  system_after-recast place s (e ∷ es) =
      ap (λ (t : Stepped g counted). system_after (place + 1) t.system es) (step-recast place e s)
      ∙ system_after-recast (place + 1) (step place e s).system es

  rows_after-recast : (place : ℕ) (s : System h k) (es : List Event) → rows_after place (re_system s) es ≡ rows_after place s es
  unfolding rows_after
  rows_after-recast place s [] = refl
  rows_after-recast place s (e ∷ es) =
      ap (λ (t : Stepped g counted). row_of place t.reply ++ rows_after (place + 1) t.system es) (step-recast place e s)
      ∙ ap (λ rest. row_of place (step place e s).reply ++ rest) (rows_after-recast (place + 1) (step place e s).system es)

  pub rows_by-recast : (version : ℕ) (es : List Event) → rows_by h k version es ≡ rows_by g counted version es
  unfolding rows_by
  rows_by-recast version es = sym (rows_after-recast 1 (empty_system version) es)

-- the code's rows are those of the definition
pub rows-tallied : (version : ℕ) (es : List Event) → rows version es ≡ rows_by tallying counted version es
unfolding rows
rows-tallied version es = rows_by-recast tally_of-map listed-counts version es

-- a step of the code's system is that of the system of lists for which it stands
pub step-tallied : (place : ℕ) (e : Event) (s after : System tallying counted) (reply : Reply) (m : System listed objects.listed) → s ≡ tallied_system m
    → after ≡ (step place e s).system → reply ≡ (step place e s).reply → IsTalliedStep after reply (step place e m)
step-tallied place e s after reply m same became answered =
    let stepped = ap (step place e) same ∙ step-recast tally_of-map listed-counts place e m in
    (became ∙ ap (λ (t : Stepped tallying counted). t.system) stepped, answered ∙ ap (λ (t : Stepped tallying counted). t.reply) stepped)
