pub mod Answers
pub mod Kevents
pub mod Numbers
