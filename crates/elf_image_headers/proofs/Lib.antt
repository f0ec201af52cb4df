pub mod EditSteps
pub mod SpareSteps
pub mod ForCallers
