pub mod AnswerLaws
pub mod AnswerTexts
pub mod LinesRead
pub mod Replies
pub mod SoFar
pub mod WorkedAnswers
