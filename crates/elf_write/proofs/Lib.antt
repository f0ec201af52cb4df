pub mod OwnedPieces
pub mod LayingPlaces
pub mod Composing
pub mod LayingWhole
pub mod Writes
