pub mod Fault
pub mod Lines
pub mod Texts
pub mod Written
