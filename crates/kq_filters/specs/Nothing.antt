-- A world in which nothing is there and the clock stands at 0.
use Rattle.std.specs.Prelude.{None}
use Rattle.kq_model.specs.Views.{Views}

abbrev pub nothing_there : Views
nothing_there = record { view = λ _. None; descriptor = λ _ _. None; now = 0 }
