-- The items that are pushed for a record are those of its moment.
use Rattle.std.proofs.Common.{◌≡◌, ◌∙◌, ℕ, List, [], ◌∷◌, ◌++◌, map, Option, None, Some, refl, ap}
use Rattle.std.proofs.lemmas.List.{append-nil, map-append}
use Rattle.std.proofs.lemmas.Grind.{flat_map-append}
use Rattle.kq_model.specs.Clock.{Span}
use Rattle.kq_model.specs.Items.{What, Closed, Told, all_items, call_whats, clock_whats, items_at, items_in, whats}
use Rattle.kq_model.specs.Moment.{Moment}
use Rattle.kq_model.specs.Targets.{Posted}
use Rattle.kq_model.specs.World.{Call}
use Rattle.kq_process.specs.Effects.{pairs_in}
use Rattle.kq_projection.specs.Items.{bare, bare_items}
use Rattle.kq_projection.specs.Messages.{called_items, said_items, said_whats}

-- which kqueue a call is on
abbrev pub kqueue_in : Option Call → Option ℕ
kqueue_in None = None
kqueue_in (Some c) = Some c.kqueue

said-both : (place : ℕ) (ws vs : List What) → said_whats place (ws ++ vs) ≡ said_whats place ws ++ said_whats place vs
said-both place [] vs = refl
said-both place (w ∷ ws) vs = ap (λ rest. bare (record { place = place; what = w }) ∷ rest) (said-both place ws vs)

said-call : (place : ℕ) (call : Option Call) → said_whats place (call_whats call) ≡ called_items place (kqueue_in call)
unfolding call_whats
said-call place None = refl
said-call place (Some c) = refl

pub said-parts : (place : ℕ) (closed : List (ℕ × ℕ)) (hints : List Posted) (clock : Option Span) (call : Option Call)
    → bare_items (items_at place (whats (pairs_in closed) hints clock call)) ≡ said_items place closed hints clock (kqueue_in call)
said-parts place closed hints clock call =
    said-both place (map Closed (pairs_in closed)) (map Told hints ++ (clock_whats clock ++ call_whats call))
    ∙ ap (λ rest. said_whats place (map Closed (pairs_in closed)) ++ rest)
    (said-both place (map Told hints) (clock_whats clock ++ call_whats call)
    ∙ ap (λ rest. said_whats place (map Told hints) ++ rest)
    (said-both place (clock_whats clock) (call_whats call) ∙ ap (λ rest. said_whats place (clock_whats clock) ++ rest) (said-call place call)))

-- those of one moment more
pub items-longer : (ms : List Moment) (m : Moment) → bare_items (all_items (ms ++ m ∷ [])) ≡ bare_items (all_items ms) ++ bare_items (items_in m)
items-longer ms m =
    ap bare_items (flat_map-append items_in ms (m ∷ []) ∙ ap (λ xs. all_items ms ++ xs) (append-nil (items_in m)))
    ∙ map-append bare (all_items ms) (items_in m)
