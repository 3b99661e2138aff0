pub mod Same
pub mod Allowed
pub mod Pending
pub mod Judged
pub mod Verdicts
