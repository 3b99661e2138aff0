pub mod Again
pub mod Subjects
pub mod Texts
