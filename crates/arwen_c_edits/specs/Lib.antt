pub mod ElfEdits
pub mod Faults
pub mod Lent
pub mod Lists
pub mod MachoEdits
