pub mod Fault
pub mod Folding
pub mod Living
pub mod Replay
pub mod Sharing
pub mod Workers
pub mod Written
