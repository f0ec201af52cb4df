pub mod FirstSteps
pub mod NulSteps
pub mod SignatureLaws
pub mod SliceLaws
