pub mod Replaying
pub mod Telling
pub mod Copying
pub mod Sending
pub mod Capturing
