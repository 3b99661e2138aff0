pub mod Fault
pub mod Stepping
pub mod Laws
pub mod Stood
pub mod Given
pub mod Answering
pub mod SoFar
