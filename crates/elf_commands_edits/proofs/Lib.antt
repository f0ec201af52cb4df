mod Answered
pub mod ListLaws
mod Marks
mod Turns
