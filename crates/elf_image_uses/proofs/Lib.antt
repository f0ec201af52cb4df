pub mod ListSteps
pub mod KeptSteps
pub mod HashSteps
pub mod NameSteps
pub mod RecordSteps
pub mod AlongSteps
pub mod ForCallers
