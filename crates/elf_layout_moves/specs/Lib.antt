pub mod BlockSteps
pub mod ImageBlocks
pub mod Inner
pub mod Seen
pub mod Growth
pub mod Limits
