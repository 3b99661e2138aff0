pub mod Replies
pub mod Owners
pub mod LiveSteps
pub mod Lives
pub mod Recorded
