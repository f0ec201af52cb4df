pub mod Meanings
pub mod Quiet
pub mod FaultLines
