pub mod Differences
pub mod Words
