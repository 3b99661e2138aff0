-- What is printed of a trace, by its definitions.
use Rattle.std.specs.Prelude.{◌≡◌, ℕ, List, [], ◌∷◌, ◌++◌, Some}
use Rattle.std.specs.List.{Contains}
use Rattle.kq_model.specs.Births.{Birth}
use Rattle.kq_model.specs.Hearing.{listed}
use Rattle.kq_model.specs.Objects as objects
use Rattle.kq_model.specs.OwnedRows.{rows_of}
use Rattle.kq_model.specs.Projection.{folded}
use Rattle.kq_model.specs.Report.{row_lines}
use Rattle.kq_projection.specs.declared.history.item.Item.{Item}
use Rattle.kq_projection.specs.Concerned.{private_items}
use Rattle.kq_projection.specs.Private.{IsPrivate}
use Rattle.kq_projection.specs.Traced.{Traced, births_of, moments_of, places_of, IsBorn}
use Rattle.kq_text.specs.Adds.{Adds}
use Rattle.kq_split.specs.Lines.{item_lines, kqueue_line}
use Rattle.kq_split.specs.declared.wanted.Wanted.{Wanted}
use Rattle.kq_split.specs.declared.wanted.Wanted.TheVariants as wanted

-- ---- the private list of a kqueue

-- the line of each item, of the private list that the definitions give the kqueue of this place
pub record IsItemsText (t : Traced) (place : ℕ) (text : List ℕ) : Type 0 where
  pub owner : ℕ
  pub items : List Item
  pub own : IsPrivate t place owner items
  pub is : text ≡ item_lines items

-- ---- the rows of a kqueue

-- those that it has in the fold of the whole system
abbrev pub rows_text : Traced → ℕ → List ℕ
rows_text t place = row_lines (rows_of (Some place) (folded objects.listed t.version listed t.events))

-- ---- all kqueues

-- with the owner and the number of the birth at the place
pub record IsKqueueLine (t : Traced) (place : ℕ) (line : List ℕ) : Type 0 where
  pub owner : ℕ
  pub number : ℕ
  pub items : List Item
  pub born : Contains (births_of t) (record { place = place; owner = owner; number = number })
  pub own : IsPrivate t place owner items
  pub is : line ≡ kqueue_line place owner number items

-- the line was added
abbrev pub AddsKqueueLine : Traced → ℕ → List ℕ → List ℕ → Type 0
AddsKqueueLine t place before after = (line : List ℕ) × IsKqueueLine t place line × Adds before line after

-- a line for each of these kqueues, in their order
abbrev pub AreKqueueLines : Traced → List ℕ → List ℕ → Type 0
AreKqueueLines t [] text = text ≡ []
AreKqueueLines t (place ∷ places) text =
    (line : List ℕ) × (rest : List ℕ) × IsKqueueLine t place line × AreKqueueLines t places rest × (text ≡ line ++ rest)

-- ---- what is wanted

abbrev pub IsText : Traced → Wanted → List ℕ → Type 0
IsText t wanted.Kqueues text = AreKqueueLines t (places_of t) text
IsText t (wanted.Items kqueue) text = IsBorn kqueue t × IsItemsText t kqueue text
IsText t (wanted.Rows kqueue) text = IsBorn kqueue t × (text ≡ rows_text t kqueue)
