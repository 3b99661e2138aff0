-- All items of one place of a private list make of a kqueue what the moment of that place makes of it.
use Rattle.std.proofs.Common.{◌≡◌, ℕ, true, false, eqb, List, [], ◌∷◌, ◌++◌, map, Option, Some, None, refl, sym, ap, subst, ◌∙◌}
use Rattle.std.proofs.lemmas.Bool.{cond-true, true≢false}
use Rattle.std.proofs.lemmas.List.{append-nil}
use Rattle.kq_model.specs.declared.reply.Reply.TheVariants.{Done}
use Rattle.kq_model.specs.declared.row.Row.{Row}
use Rattle.kq_model.specs.Clock.{Span}
use Rattle.kq_model.specs.Close.{Pair, closed}
use Rattle.kq_model.specs.Items as model
use Rattle.kq_model.specs.Items.{clock_whats, call_whats, items_of, whats}
use Rattle.kq_model.specs.Moment.{Moment, after_call, called_at, happened, kqueue_step}
use Rattle.kq_model.specs.PrivateList.{Concern, concerns, has_item}
use Rattle.kq_model.specs.Replayed.{moment_with, own_reply}
use Rattle.kq_model.specs.System.{row_of}
use Rattle.kq_model.specs.Tallied.{Kqueue}
use Rattle.kq_model.specs.Targets.{Posted}
use Rattle.kq_model.specs.World.{Call}
use Rattle.kq_projection.specs.Items.{bare_items}
use Rattle.kq_projection.specs.Traced.{Traced, event_at, seen_at}
use Rattle.kq_projection.specs.LoneKqueue.{LoneKqueue, after_items, heard_in}
use Rattle.kq_projection.specs.Recorded.{IsCallOf, IsClockOf}
use Rattle.kq_projection.proofs.AtOnePlace.{Reaches, after-append, answer_of, call-one, clock-one, close-all, first-moves, hear-none, said, said-append, state, tell-all}

first-what : (pairs : List Pair) (hints : List Posted) (clock : Option Span) (call : Option Call) → has_item pairs hints clock call ≡ true
    → (w : model.What) × (ws : List model.What) × (whats pairs hints clock call ≡ w ∷ ws)
unfolding has_item clock_whats call_whats
first-what (p ∷ ps) hints clock call some = (model.Closed p, _, refl)
first-what [] (p ∷ hints) clock call some = (model.Told p, _, refl)
first-what [] [] (Some span) call some = (model.Clocked span, _, refl)
first-what [] [] None (Some c) some = (model.Called c, _, refl)
first-what [] [] None None some = absurd (true≢false (sym some))

module _ (t : Traced) (kqueue owner : ℕ) where
  -- it has an item; its call is on this kqueue, and its record has the rest
  pub record IsOwn (c : Concern) : Type 0 where
    pub some : concerns c ≡ true
    pub calls : (x : Call) → c.call ≡ Some x → (eqb x.kqueue kqueue ≡ true) × IsCallOf (event_at t c.place) x.changes x.room
    pub clocks : (s : Span) → c.clock ≡ Some s → IsClockOf (event_at t c.place) s.from s.to

  abbrev pub moment_at : Concern → Moment
  moment_at c = moment_with t.version (seen_at t c.place) c

  after-parts : (place : ℕ) (xs ys : List model.What) (a : LoneKqueue)
      → after_items (said t owner place (xs ++ ys)) a ≡ after_items (said t owner place ys) (after_items (said t owner place xs) a)
  after-parts place xs ys a =
      ap (λ is. after_items is a) (said-append t owner place xs ys)
      ∙ after-append (said t owner place xs) (said t owner place ys) a

  -- the call, once all else is heard
  then-call : (c : Concern) (call : Option Call) (kq : Kqueue) (a : LoneKqueue) (rows : List Row)
      → ((x : Call) → call ≡ Some x → (eqb x.kqueue kqueue ≡ true) × IsCallOf (event_at t c.place) x.changes x.room)
      → Reaches t owner c.place a (happened owner (moment_at c) kq) rows
      → Reaches t owner c.place (after_items (said t owner c.place (call_whats call)) a) (after_call kqueue owner (moment_at c) call kq)
      (rows ++ row_of c.place (own_reply kqueue owner (moment_at c) call kq))
  unfolding call_whats after_items after_call own_reply row_of called_at
  then-call c None kq a rows own reached = (
    reached.0,
    reached.1,
    reached.2 ∙ ap (state t owner c.place reached.0 reached.1) (sym (append-nil rows)),
    reached.3,
  )
  then-call c (Some x) kq a rows own reached =
      let before = happened owner (moment_at c) kq in
      let r = answer_of t owner c.place x before in
      let own_call = (own x refl).0 in (
        [],
        r.kq,
        ap (after_items (said t owner c.place (model.Called x ∷ []))) reached.2
            ∙ call-one t owner c.place x reached.0 reached.1 rows (own x refl).1
            ∙ ap (λ k. state t owner c.place [] (answer_of t owner c.place x k).kq (rows ++ row_of c.place (answer_of t owner c.place x k).reply)) reached.3
            ∙ ap (λ reply. state t owner c.place [] r.kq (rows ++ row_of c.place reply)) (sym (cond-true (eqb x.kqueue kqueue) r.reply Done own_call)),
        hear-none t c.place r.kq ∙ sym (cond-true (eqb x.kqueue kqueue) r.kq before own_call),
      )

  -- all that its record says, at its place
  at-place : (c : Concern) → IsOwn c → (kq : Kqueue) (rows : List Row)
      → Reaches t owner c.place (after_items (bare_items (items_of c)) (state t owner c.place [] kq rows)) (kqueue_step kqueue owner (moment_at c) kq)
      (rows ++ row_of c.place (own_reply kqueue owner (moment_at c) c.call kq))
  unfolding kqueue_step happened
  at-place c own kq rows =
      let closes = map model.Closed c.closed in
      let hints = map model.Told c.hints in
      let clock = clock_whats c.clock in
      let left = closed owner c.closed kq in
      let start = state t owner c.place [] kq rows in
      let told = state t owner c.place c.hints left rows in
      let heard : after_items (said t owner c.place hints) (after_items (said t owner c.place closes) start) ≡ told =
      ap (after_items (said t owner c.place hints)) (close-all t owner c.place c.closed [] kq rows)
      ∙ tell-all t owner c.place c.hints [] left rows in
      let all : after_items (bare_items (items_of c)) start
      ≡ after_items (said t owner c.place (call_whats c.call)) (after_items (said t owner c.place clock) told) =
      after-parts c.place closes (hints ++ (clock ++ call_whats c.call)) start
      ∙ after-parts c.place hints (clock ++ call_whats c.call) (after_items (said t owner c.place closes) start)
      ∙ ap (after_items (said t owner c.place (clock ++ call_whats c.call))) heard
      ∙ after-parts c.place clock (call_whats c.call) told in
      let reached = then-call c c.call kq (after_items (said t owner c.place clock) told) rows own.calls
      (clock-one t owner c.place c.clock c.hints left rows) in
      (reached.0, reached.1, all ∙ reached.2, reached.3)

  -- the same from an earlier place, whose hints are heard first
  pub one-concern : (c : Concern) → IsOwn c → (low : ℕ) (told : List Posted) (kq : Kqueue) (rows : List Row) → eqb c.place low ≡ false
      → Reaches t owner c.place (after_items (bare_items (items_of c)) (state t owner low told kq rows))
      (kqueue_step kqueue owner (moment_at c) (heard_in t low told kq))
      (rows ++ row_of c.place (own_reply kqueue owner (moment_at c) c.call (heard_in t low told kq)))
  one-concern c own low told kq rows other =
      let before = heard_in t low told kq in
      let first = first-what c.closed c.hints c.clock c.call own.some in
      let moved : after_items (bare_items (items_of c)) (state t owner low told kq rows) ≡ after_items (bare_items (items_of c)) (state t owner c.place [] before rows) =
      subst (λ ws. after_items (said t owner c.place ws) (state t owner low told kq rows) ≡ after_items (said t owner c.place ws) (state t owner c.place [] before rows)) (sym first.2)
      (first-moves t owner low c.place told kq rows first.0 first.1 other) in
      let reached = at-place c own before rows in
      (reached.0, reached.1, moved ∙ reached.2, reached.3)
