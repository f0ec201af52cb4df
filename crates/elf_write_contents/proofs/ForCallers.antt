-- For callers: what the crates above may cite. These are laws of the words of specs/; no other module of
-- this crate's proofs is meant for them.

-- what a plan that is one for an image says of its counts
pub use Rattle.elf_write_contents.proofs.PlanCounts.{plan_counts}
-- contents that are those of an image are as long as the plan says
pub use Rattle.elf_write_contents.proofs.ContentsAll.{long_held}
-- which sections show texts
pub use Rattle.elf_write_contents.proofs.NamesTable.{shows_none}
unfoldable pub use Rattle.elf_write_contents.proofs.NamesTable.{shows_texts}
-- dynamic strings that are copied, past what 32 bits reach, are numbers that don't fit
pub use Rattle.elf_write_contents.proofs.PreparedFaults.{names_far}
-- what is known of an edited image, and of the string tables that it was read with
pub use Rattle.elf_write_symbol_tables.proofs.ForCallers.ReadTables
pub use Rattle.elf_write_symbol_tables.proofs.ForCallers.TablesThere
-- laws of written files
pub use Rattle.elf_write_spec.proofs.ForCallers.BaseBytes
pub use Rattle.elf_write_spec.proofs.ForCallers.FilesWritten
pub use Rattle.elf_write_spec.proofs.ForCallers.Laying
pub use Rattle.elf_write_spec.proofs.ForCallers.NumberedSections
pub use Rattle.elf_write_spec.proofs.ForCallers.Patches
pub use Rattle.elf_write_spec.proofs.ForCallers.WholeEdits
pub use Rattle.elf_write_spec.proofs.ForCallers.WholeFacts
