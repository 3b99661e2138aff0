-- Going on item by item over a private list gives the rows of its replay.
use Rattle.std.proofs.Common.{◌≡◌, ◌<◌, ℕ, false, eqb, List, [], ◌∷◌, ◌++◌, sym, ap, ◌∙◌, arith}
use Rattle.std.proofs.lemmas.Bool.{ne_eqb}
use Rattle.std.proofs.lemmas.List.{map-append, append_assoc, append-nil}
use Rattle.std.specs.List.{flat_map}
use Rattle.kq_model.specs.declared.row.Row.{Row}
use Rattle.kq_model.specs.Items.{items_of}
use Rattle.kq_model.specs.Moment.{kqueue_step}
use Rattle.kq_model.specs.PrivateList.{Concern}
use Rattle.kq_model.specs.Replayed.{rows_alone, rows_over, own_reply}
use Rattle.kq_model.specs.System.{row_of}
use Rattle.kq_model.specs.Tallied.{Kqueue}
use Rattle.kq_model.specs.Targets.{Posted}
use Rattle.kq_projection.specs.Items.{bare, bare_items}
use Rattle.kq_projection.specs.Traced.{Traced, seen_at}
use Rattle.kq_projection.specs.LoneKqueue.{after_items, heard_in}
use Rattle.kq_projection.proofs.AtOnePlace.{after-append, state}
use Rattle.kq_projection.proofs.OneConcern.{IsOwn, moment_at, one-concern}

module _ (t : Traced) (kqueue owner : ℕ) where
  -- by rising place from behind this one on, and each of this kqueue
  abbrev pub AreOwn : ℕ → List Concern → Type 0
  AreOwn low [] = Unit {0}
  AreOwn low (c ∷ cs) = (low < c.place) × IsOwn t kqueue owner c × AreOwn c.place cs

  later : (low place : ℕ) → low < place → eqb place low ≡ false
  later low place lt = ne_eqb place low (λ same. omega (arith, lt, same))

  pub item-by-item : (cs : List Concern) (low : ℕ) (told : List Posted) (kq : Kqueue) (rows : List Row) → AreOwn low cs
      → (after_items (bare_items (flat_map items_of cs)) (state t owner low told kq rows)).rows
      ≡ rows ++ rows_alone t.version kqueue owner (seen_at t) (heard_in t low told kq) cs
  unfolding rows_over after_items
  item-by-item [] low told kq rows own = sym (append-nil rows)
  item-by-item (c ∷ cs) low told kq rows own =
      let m = moment_at t kqueue owner c in
      let before = heard_in t low told kq in
      let row = row_of c.place (own_reply kqueue owner m c.call before) in
      let first = bare_items (items_of c) in
      let rest = bare_items (flat_map items_of cs) in
      let start = state t owner low told kq rows in
      let reached = one-concern t kqueue owner c own.1 low told kq rows (later low c.place own.0) in
      ap (λ is. (after_items is start).rows) (map-append bare (items_of c) (flat_map items_of cs))
      ∙ ap (λ a. a.rows) (after-append first rest start)
      ∙ ap (λ a. (after_items rest a).rows) reached.2
      ∙ item-by-item cs c.place reached.0 reached.1 (rows ++ row) own.2
      ∙ ap (λ k. (rows ++ row) ++ rows_alone t.version kqueue owner (seen_at t) k cs) reached.3
      ∙ append_assoc rows row (rows_alone t.version kqueue owner (seen_at t) (kqueue_step kqueue owner m before) cs)
