pub mod Rows
pub mod Links
pub mod Threads
pub mod Kept
pub mod Births
pub mod OneKey
