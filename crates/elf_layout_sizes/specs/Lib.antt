pub mod Inner
pub mod OtherTexts
pub mod Seen
pub mod UsersModel
pub mod SizingModel
pub mod MadeTables
pub mod KnownTables
pub use Rattle.elf_layout_plan.specs.Staying
