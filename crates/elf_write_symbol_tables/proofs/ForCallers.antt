-- For callers: what the crates above may cite. These are laws of the words of specs/; no other module of
-- this crate's proofs is meant for them.

-- what is known of strings, and of the tables that a file was read with
pub use Rattle.elf_write_strings.proofs.ForCallers.LinksAt
pub use Rattle.elf_write_strings.proofs.ForCallers.MadeShort
pub use Rattle.elf_write_strings.proofs.ForCallers.ReadTables
pub use Rattle.elf_write_strings.proofs.ForCallers.Results
pub use Rattle.elf_write_strings.proofs.ForCallers.SymbolSteps
pub use Rattle.elf_write_strings.proofs.ForCallers.TablesThere
pub use Rattle.elf_write_strings.proofs.ForCallers.TextsShared
pub use Rattle.elf_write_strings.proofs.ForCallers.TextsTold
pub use Rattle.elf_write_strings.proofs.ForCallers.UsersStay
pub use Rattle.elf_write_strings.proofs.ForCallers.VersionsShown
-- what is known of an edited image and of its sections
pub use Rattle.elf_write_symbols.proofs.ForCallers.ReadyFacts
pub use Rattle.elf_write_symbols.proofs.ForCallers.SectionFacts
