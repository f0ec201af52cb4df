pub mod ForCallers
pub mod ListSteps
pub mod TextSteps
