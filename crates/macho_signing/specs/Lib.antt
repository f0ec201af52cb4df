pub mod Check
pub mod Fault
pub mod File
pub mod Front
pub mod Laws
pub mod Place
pub mod Shown
pub mod Thin
