pub mod SystemState
pub mod Places
pub mod Showing
pub mod Forking
pub mod Beginning
pub mod Dealing
pub mod Sharing
pub mod Asked
