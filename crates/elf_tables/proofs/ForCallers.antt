-- Facts about numbers end to end, for the crates above.
pub use Rattle.elf_tables.proofs.FieldLaws.{fields-append, length-fields}
-- a dynamic entry is read back from its bytes
pub use Rattle.elf_tables.proofs.EntryBack
-- a file header is read back from its bytes
pub use Rattle.elf_tables.proofs.FileHeaderBack
-- a file that begins with a header's bytes is opened with that header
pub use Rattle.elf_tables.proofs.FilesOpened
-- numbers that stand end to end, and chains of records, are read back from their own bytes
pub use Rattle.elf_tables.proofs.RecordLaws
-- a section header is read back from its bytes
pub use Rattle.elf_tables.proofs.SectionHeaderBack
-- a program header is read back from its bytes
pub use Rattle.elf_tables.proofs.SegmentHeaderBack
-- texts that stand in a table, as the table grows
pub use Rattle.elf_tables.proofs.StandingTexts
-- a symbol is read back from its bytes
pub use Rattle.elf_tables.proofs.SymbolBack
-- records end to end are read back
pub use Rattle.elf_tables.proofs.TableBack
-- version tables are read back from their own bytes
pub use Rattle.elf_tables.proofs.VersionLaws
pub use Rattle.elf_image.proofs.ForCallers.ReadImageLaws
pub use Rattle.elf_image.proofs.ForCallers.Unclaimed
pub use Rattle.elf_image.proofs.ForCallers.EditedLaws
pub use Rattle.elf_image.proofs.ForCallers.KeptSections
