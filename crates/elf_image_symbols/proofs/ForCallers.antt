-- For callers: what the crates above may cite.
pub use Rattle.elf_format.proofs.ForCallers.Lengths
pub use Rattle.elf_image_symbols.proofs.FrontLaws
