mod NameSteps
mod SymbolSteps
