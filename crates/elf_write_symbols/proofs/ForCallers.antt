-- For callers: what the crates above may cite. These are laws of the words of specs/; no other module of
-- this crate's proofs is meant for them.

-- what is known of an image that is ready to be written: the file that was read, and its sections with their headers
pub use Rattle.elf_write_symbols.proofs.ReadyFacts
-- the new numbers of sections
pub use Rattle.elf_write_symbols.proofs.SectionFacts
pub use Rattle.elf_write_spec.proofs.ForCallers.FinalEntries
pub use Rattle.elf_write_spec.proofs.ForCallers.FinalSymbols
pub use Rattle.elf_write_spec.proofs.ForCallers.HeaderTables
pub use Rattle.elf_write_spec.proofs.ForCallers.LinkedLists
pub use Rattle.elf_write_spec.proofs.ForCallers.NumberedSections
pub use Rattle.elf_write_spec.proofs.ForCallers.OrderFacts
pub use Rattle.elf_write_spec.proofs.ForCallers.SingleTypes
pub use Rattle.elf_write_spec.proofs.ForCallers.StaticSymbols
pub use Rattle.elf_write_spec.proofs.ForCallers.WholeEdits
pub use Rattle.elf_write_spec.proofs.ForCallers.WholeLists
