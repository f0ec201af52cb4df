pub mod Causes
pub mod Line
pub mod NameMaps
pub mod Refusals
pub mod Values
