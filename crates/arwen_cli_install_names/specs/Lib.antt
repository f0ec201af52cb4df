pub mod Editing
pub mod Line
pub mod NameEdits
pub mod Naming
