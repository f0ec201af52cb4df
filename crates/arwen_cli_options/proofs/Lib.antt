pub mod FlagLaws
pub mod LineLaws
pub mod Turns
