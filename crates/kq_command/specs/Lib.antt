pub mod CommandLine
pub mod Run
