pub mod Fault
pub mod Texts
