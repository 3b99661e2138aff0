pub mod Adds
pub mod FlagText
pub mod Room
pub mod Output
pub mod Writes
