pub mod BirthLemmas
pub mod GoneLemmas
pub mod WholeLemmas
