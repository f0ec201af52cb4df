pub mod LayingSteps
pub mod Refused
pub mod Counted
pub use Rattle.elf_write_contents.specs.Numbers
pub mod PieceSteps
pub use Rattle.elf_write_contents.specs.Output
pub use Rattle.elf_write_contents.specs.WrittenFile
pub use Rattle.elf_write_contents.specs.Final
