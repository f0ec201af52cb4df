pub use Rattle.elf_image.specs.Staying
pub use Rattle.elf_image.specs.Renumbering
pub use Rattle.elf_image.specs.Relocated
pub use Rattle.elf_image.specs.Needed
pub use Rattle.elf_image.specs.Along
pub mod Steps
pub mod Rows
