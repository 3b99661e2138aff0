pub mod Pace
pub mod Watched
