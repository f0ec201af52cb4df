pub mod PartModels
pub mod DynamicTag
pub mod DynamicList
pub mod Segments
pub mod LendingFlags
pub mod Spare
pub mod SpareFrom
