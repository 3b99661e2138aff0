-- The items of one place, kind by kind, make of a kqueue what the moment of that place makes of it.
use Rattle.std.proofs.Common.{◌≡◌, ℕ, false, eqb, List, [], ◌∷◌, ◌++◌, map, Option, Some, None, refl, sym, ap, ◌∙◌}
use Rattle.std.proofs.lemmas.Bool.{cond-true, cond-false, eq-eqb}
use Rattle.std.proofs.lemmas.List.{map-append, append_assoc, append-nil}
use Rattle.kq_model.specs.declared.event.Event.{Event}
use Rattle.kq_model.specs.declared.row.Row.{Row}
use Rattle.kq_model.specs.Call.{call}
use Rattle.kq_model.specs.Clock.{Span, clocked}
use Rattle.kq_model.specs.Close.{Pair, closed}
use Rattle.kq_model.specs.Tallying.{tallying}
use Rattle.kq_model.specs.Hints.{notified}
use Rattle.kq_model.specs.Items as model
use Rattle.kq_model.specs.Items.{items_at, clock_whats, call_whats}
use Rattle.kq_model.specs.References.{Names}
use Rattle.kq_model.specs.System.{row_of}
use Rattle.kq_model.specs.Tallied.{Called, Kqueue}
use Rattle.kq_model.specs.Targets.{Posted}
use Rattle.kq_model.specs.World.{Call}
use Rattle.kq_model.proofs.PrivateParts as parts
use Rattle.kq_projection.specs.declared.history.item.Item.{Item}
use Rattle.kq_projection.specs.Items.{bare, bare_items, bare_what}
use Rattle.kq_projection.specs.Traced.{Traced, event_at, seen_at}
use Rattle.kq_projection.specs.LoneKqueue.{LoneKqueue, after_item, after_items, arrived, called, gone_on, heard_in}
use Rattle.kq_projection.specs.Recorded.{IsCallOf}
use Rattle.kq_projection.proofs.Closes.{close-first}

no_names : Names
no_names = record { number = λ n. false; target = λ t. false; timer = false }

close-none : (owner : ℕ) (kq : Kqueue) → closed owner [] kq ≡ kq
close-none owner kq = parts.closed-none tallying no_names owner kq

pub hear-none : (t : Traced) (place : ℕ) (kq : Kqueue) → heard_in t place [] kq ≡ kq
hear-none t place kq =
    parts.followed-none tallying no_names t.version (notified (seen_at t place) [] kq) ∙ parts.notified-none tallying no_names (seen_at t place) kq

pub after-append : (is js : List Item) (a : LoneKqueue) → after_items (is ++ js) a ≡ after_items js (after_items is a)
unfolding after_items
after-append [] js a = refl
after-append (i ∷ is) js a = after-append is js (after_item i a)

module _ (t : Traced) (owner : ℕ) where
  abbrev pub state : ℕ → List Posted → Kqueue → List Row → LoneKqueue
  state place told kq rows = record { trace = t; owner = owner; place = place; told = told; kq = kq; rows = rows }

  abbrev at : ℕ → model.What → model.Item
  at place w = record { place = place; what = w }

  abbrev pub said : ℕ → List model.What → List Item
  said place ws = bare_items (items_at place ws)

  pub said-append : (place : ℕ) (xs ys : List model.What) → said place (xs ++ ys) ≡ said place xs ++ said place ys
  said-append place xs ys = ap bare_items (map-append (at place) xs ys) ∙ map-append bare (items_at place xs) (items_at place ys)

  pub stays : (place : ℕ) (told : List Posted) (kq : Kqueue) (rows : List Row)
      → arrived place (state place told kq rows) ≡ state place told kq rows
  unfolding arrived
  stays place told kq rows = cond-true (eqb place place) _ _ (eq-eqb place place refl)

  moves : (low place : ℕ) (told : List Posted) (kq : Kqueue) (rows : List Row) → eqb place low ≡ false
      → arrived place (state low told kq rows) ≡ state place [] (heard_in t low told kq) rows
  unfolding arrived
  moves low place told kq rows other = cond-false (eqb place low) _ _ other

  -- the first item of a place: what was told before is heard
  pub first-moves : (low place : ℕ) (told : List Posted) (kq : Kqueue) (rows : List Row) (w : model.What) (ws : List model.What)
      → eqb place low ≡ false
      → after_items (said place (w ∷ ws)) (state low told kq rows)
      ≡ after_items (said place (w ∷ ws)) (state place [] (heard_in t low told kq) rows)
  unfolding after_items after_item
  first-moves low place told kq rows w ws other =
      ap (λ a. after_items (said place ws) (gone_on (bare_what w) a))
      (moves low place told kq rows other ∙ sym (stays place [] (heard_in t low told kq) rows))

  -- ---- kind by kind

  pub close-all : (place : ℕ) (ps : List Pair) (told : List Posted) (kq : Kqueue) (rows : List Row)
      → after_items (said place (map model.Closed ps)) (state place told kq rows) ≡ state place told (closed owner ps kq) rows
  unfolding after_items after_item gone_on
  close-all place [] told kq rows = ap (λ k. state place told k rows) (sym (close-none owner kq))
  close-all place (p ∷ ps) told kq rows =
      ap (λ a. after_items (said place (map model.Closed ps)) (gone_on (bare_what (model.Closed p)) a)) (stays place told kq rows)
      ∙ close-all place ps told (closed owner (p ∷ []) kq) rows
      ∙ ap (λ k. state place told k rows) (sym (close-first owner p ps kq))

  pub tell-all : (place : ℕ) (hints told : List Posted) (kq : Kqueue) (rows : List Row)
      → after_items (said place (map model.Told hints)) (state place told kq rows) ≡ state place (told ++ hints) kq rows
  unfolding after_items after_item gone_on
  tell-all place [] told kq rows = ap (λ l. state place l kq rows) (sym (append-nil told))
  tell-all place (p ∷ hints) told kq rows =
      ap (λ a. after_items (said place (map model.Told hints)) (gone_on (bare_what (model.Told p)) a)) (stays place told kq rows)
      ∙ tell-all place hints (told ++ p ∷ []) kq rows
      ∙ ap (λ l. state place l kq rows) (append_assoc told (p ∷ []) hints)

  -- a kqueue that is this one once the hints were heard
  abbrev pub Reaches : ℕ → LoneKqueue → Kqueue → List Row → Type 0
  Reaches place a kq rows =
      (told : List Posted) × (before : Kqueue) × (a ≡ state place told before rows) × (heard_in t place told before ≡ kq)

  pub clock-one : (place : ℕ) (clock : Option Span) (told : List Posted) (kq : Kqueue) (rows : List Row)
      → Reaches place (after_items (said place (clock_whats clock)) (state place told kq rows))
      (clocked clock (heard_in t place told kq)) rows
  unfolding clock_whats after_items after_item gone_on
  clock-one place None told kq rows = (told, kq, refl, sym (parts.clocked-none tallying no_names (heard_in t place told kq)))
  clock-one place (Some span) told kq rows = (
    [],
    clocked (Some span) (heard_in t place told kq),
    ap (gone_on (bare_what (model.Clocked span))) (stays place told kq rows),
    hear-none t place (clocked (Some span) (heard_in t place told kq)),
  )

  abbrev pub answer_of : ℕ → Call → Kqueue → Called
  answer_of place c kq = call (record { views = seen_at t place; owner = owner; version = t.version }) c.room c.changes kq

  called-there : (place : ℕ) (c : Call) (kq : Kqueue) (rows : List Row) (e : Option Event) → IsCallOf e c.changes c.room
      → called e (state place [] kq rows)
      ≡ state place [] (answer_of place c kq).kq (rows ++ row_of place (answer_of place c kq).reply)
  unfolding called
  called-there place c kq rows e is = ap (λ x. called x (state place [] kq rows)) is.2

  pub call-one : (place : ℕ) (c : Call) (told : List Posted) (kq : Kqueue) (rows : List Row)
      → IsCallOf (event_at t place) c.changes c.room
      → after_items (said place (call_whats (Some c))) (state place told kq rows)
      ≡ (let r = answer_of place c (heard_in t place told kq) in state place [] r.kq (rows ++ row_of place r.reply))
  unfolding call_whats after_items after_item gone_on
  call-one place c told kq rows is =
      ap (gone_on (bare_what (model.Called c))) (stays place told kq rows)
      ∙ called-there place c (heard_in t place told kq) rows (event_at t place) is
