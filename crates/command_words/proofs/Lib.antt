pub mod EditGroups
pub mod ForCallers
pub mod PairLemmas
pub mod RowLemmas
pub mod WordLemmas
