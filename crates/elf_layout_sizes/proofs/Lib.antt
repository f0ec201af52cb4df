pub mod HashSteps
pub mod SizeSteps
pub mod SymbolSteps
pub mod TextSteps
pub mod OtherSteps
pub mod WholeTexts
pub mod ForCallers
