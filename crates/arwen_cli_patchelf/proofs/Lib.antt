pub mod EditLaws
pub mod FirstSteps
pub mod OutputLaws
pub mod PatchLaws
pub mod PrintLaws
pub mod StepLaws
