pub mod PrintSteps
