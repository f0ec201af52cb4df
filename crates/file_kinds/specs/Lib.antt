pub mod Kinds
pub mod Reasons
