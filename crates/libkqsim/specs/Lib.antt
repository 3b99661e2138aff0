pub mod Logs
pub mod Handles
pub mod Kept
pub mod Steps
pub mod Asked
pub mod Whole
