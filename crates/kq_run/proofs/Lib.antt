mod FoldLemmas
pub mod LiveFaults
pub mod ReplayedTraces
pub mod SharedLemmas
