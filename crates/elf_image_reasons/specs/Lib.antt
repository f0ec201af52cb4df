pub mod Details
pub mod ReadTests
pub mod Told
