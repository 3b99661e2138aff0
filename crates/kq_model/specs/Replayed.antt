-- One kqueue replayed alone: it starts empty, and what it answers are its rows.
use Rattle.std.specs.Prelude.{ℕ, ◌==◌, List, [], ◌∷◌, ◌++◌, map, Option, Some, None}
use Rattle.std.specs.Prelude.{if◌then◌else◌}
use Rattle.kq_model.specs.declared.reply.Reply.{Reply}
use Rattle.kq_model.specs.declared.reply.Reply.TheVariants.{Done}
use Rattle.kq_model.specs.declared.row.Row.{Row}
use Rattle.kq_model.specs.Hearing.{Hearing}
use Rattle.kq_model.specs.Kqueue.{Kqueue}
use Rattle.kq_model.specs.Moment.{Moment, called_at, kqueue_step}
use Rattle.kq_model.specs.PrivateList.{Concern}
use Rattle.kq_model.specs.System.{row_of}
use Rattle.kq_model.specs.Views.{Views}
use Rattle.kq_model.specs.World.{Call}

-- the record of a concern, with what is seen of the world after it
abbrev pub moment_with : ℕ → Views → Concern → Moment
moment_with version views c = record {
  place = c.place;
  version = version;
  closed = c.closed;
  hints = c.hints;
  clock = c.clock;
  call = c.call;
  views = views;
}

module _ {S : Type 0} {h : Hearing S} where
  -- the answer of this kqueue's call, and to no other
  unfoldable pub own_reply : ℕ → ℕ → Moment → Option Call → Kqueue h → Reply
  own_reply kqueue owner m None kq = Done
  own_reply kqueue owner m (Some c) kq = if c.kqueue == kqueue then (called_at owner m c kq).reply else Done

  -- the rows of the kqueue `kqueue` of this process, from moment to moment
  unfoldable pub rows_over : ℕ → ℕ → Kqueue h → List Moment → List Row
  rows_over kqueue owner kq [] = []
  rows_over kqueue owner kq (m ∷ ms) =
      row_of m.place (own_reply kqueue owner m m.call kq) ++ rows_over kqueue owner (kqueue_step kqueue owner m kq) ms

  -- the same from its private list, with the views at its places
  abbrev pub rows_alone : ℕ → ℕ → ℕ → (ℕ → Views) → Kqueue h → List Concern → List Row
  rows_alone version kqueue owner views kq cs =
      rows_over kqueue owner kq (map (λ (c : Concern). moment_with version (views c.place) c) cs)
