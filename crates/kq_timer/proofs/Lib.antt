pub mod NextTick
mod Counts
pub mod Single
pub mod TimerLaws
pub mod Sorted
