pub mod Bounds
pub mod ByPlace
pub mod Chunks
pub mod EventsText
pub mod Rooms
pub mod Written
