pub mod Sharing
pub mod Serving
pub mod Merges
