pub mod WalkSteps
pub mod VersionSteps
pub mod KeptSteps
mod CopySteps
pub mod ForCallers
