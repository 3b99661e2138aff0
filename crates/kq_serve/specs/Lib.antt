pub mod Shares
pub mod Faults
