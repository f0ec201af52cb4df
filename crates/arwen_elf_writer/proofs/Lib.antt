pub mod ReadSteps
pub mod WrittenLaws
