pub mod Children
pub mod Clears
pub mod Life
pub mod Notices
pub mod Runs
pub mod Timers
pub mod Wakes
