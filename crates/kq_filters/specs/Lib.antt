pub mod Alone
pub mod Nothing
