pub mod Kept
pub mod Loading
pub mod Pieces
pub mod Renewing
pub mod Signed
pub mod Slices
pub mod Verdicts
