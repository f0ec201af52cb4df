pub mod FarSteps
pub mod FirstSteps
pub mod FlagSteps
pub mod GreatestSteps
pub mod LoadSteps
pub mod PlacesFit
pub mod PlanSteps
pub mod Planned
pub mod ReachLaws
pub mod SizedSections
pub mod SpanSteps
pub mod SlotSteps
pub mod StandingSteps
pub mod TableSteps
pub mod TreeSteps
mod WrittenSteps
