pub mod Appends
pub mod FlagTextLemmas
pub mod WritesLemmas
