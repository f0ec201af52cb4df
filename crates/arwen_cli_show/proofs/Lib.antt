pub mod Joined
pub mod ShownSteps
