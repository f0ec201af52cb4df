pub mod LinkSteps
pub mod KindSteps
pub mod DynamicSteps
