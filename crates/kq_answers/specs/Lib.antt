pub mod AnswerText
pub mod Again
pub mod Answers
pub mod Read
