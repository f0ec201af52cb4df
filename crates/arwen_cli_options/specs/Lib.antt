pub mod Asked
pub mod Flags
pub mod Lines
pub mod Options
pub mod Tables
