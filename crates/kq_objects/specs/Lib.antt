pub mod Fits
pub mod Keys
pub mod ByPlace
pub mod Kept
pub mod Files
pub mod Objects
pub mod Plans
pub mod Holding
