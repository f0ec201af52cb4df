pub mod Computing
pub mod AnswerSteps
pub mod ShrinkSteps
pub mod TellLaws
