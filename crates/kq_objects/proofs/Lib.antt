pub mod Making
pub mod Ready
pub mod Notes
pub mod Releasing
pub mod Counted
pub mod Unfolded
