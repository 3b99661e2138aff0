pub mod Counting
pub mod Drawing
pub mod Claiming
pub mod Collecting
