pub mod Born
pub mod Left
pub mod Spelled
