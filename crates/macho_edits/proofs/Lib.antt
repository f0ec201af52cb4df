pub mod BuiltLaws
pub mod BuilderLemmas
pub mod DraftLaws
pub mod EditLaws
pub mod EditedLaws
pub mod PatchLemmas
pub mod ForCallers
