pub mod Births
pub mod Going
pub mod Whole
