pub mod Words
pub mod Named
pub mod Values
pub mod Table
pub mod Parsing
