pub mod Answered
pub mod Causes
pub mod Endings
pub mod NameRuns
pub mod Peers
pub mod Runs
pub mod Texts
