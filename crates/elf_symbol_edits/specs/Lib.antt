pub mod Named
pub mod Deletion
pub mod SymbolEdit
pub mod Cause
pub mod EditModel
pub mod Steps
pub mod Laws
pub mod Rows
