pub mod NumberLemmas
pub mod NumberLaws
pub mod RoundingLemmas
pub mod MemoryLaws
