pub mod Questions
pub mod Removals
pub mod ShrinkModel
pub mod Laws
pub mod Rows
