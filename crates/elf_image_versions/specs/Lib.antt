pub mod VersionsModel
pub mod WalkSteps
pub use Rattle.elf_image_rules.specs.LinkSteps
pub use Rattle.elf_image_rules.specs.Read
