pub mod PlacementApart
pub mod PlacementSteps
pub mod PlacementHeld
pub mod PlacementClear
