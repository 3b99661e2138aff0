pub mod Ending
pub mod Owned
pub mod Decided
pub mod Telling
pub mod Ringing
pub mod Beginning
pub mod Arranged
pub mod Foretold
