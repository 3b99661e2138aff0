pub mod Calls
pub mod Turns
pub mod Seats
pub mod Merging
