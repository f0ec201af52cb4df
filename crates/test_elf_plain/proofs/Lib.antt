pub mod Computing
pub mod SourceSteps
pub mod JoinSteps
pub mod SymbolSteps
pub mod LoadedSteps
pub mod ViewSteps
