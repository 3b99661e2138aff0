pub mod Reserved
pub mod Index
pub mod Quiet
pub mod Expiring
