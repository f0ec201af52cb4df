pub mod PlacementSteps
