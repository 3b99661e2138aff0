pub mod Lines
pub mod RowAgain
