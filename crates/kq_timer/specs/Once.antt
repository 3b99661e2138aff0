-- A timer that expires at one moment alone.
use Rattle.std.specs.Prelude.{ℕ, suc, ◌&&◌, nat_lt, nat_le, if◌then◌else◌}
use Rattle.kq_model.specs.Ticks.{last_moment}

-- this moment, where it is after `from` and not past the last one of the clock; or else the one after that
abbrev pub once_after : ℕ → ℕ → ℕ
once_after moment from = if nat_lt from moment && nat_le moment last_moment then moment else suc last_moment
