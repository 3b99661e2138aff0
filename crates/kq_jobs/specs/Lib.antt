pub mod Claims
pub mod Handing
pub mod Outcomes
