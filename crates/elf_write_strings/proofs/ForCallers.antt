-- For callers: what the crates above may cite. These are laws of the words of specs/; no other module of
-- this crate's proofs is meant for them.

-- the first section of a type, by its position and by its number
pub use Rattle.elf_write_strings.proofs.LinksAt
-- string tables that are there are so long that their new size fits
pub use Rattle.elf_write_strings.proofs.MadeShort
-- where the texts of a file that was read stand in its string tables
pub use Rattle.elf_write_strings.proofs.ReadTables
-- results of which a value shows more
pub use Rattle.elf_write_strings.proofs.Results
-- the string tables that sections name are there
pub use Rattle.elf_write_strings.proofs.TablesThere
-- where there is a dynamic list, all that is dynamic has its texts in the list's string table
pub use Rattle.elf_write_strings.proofs.TextsShared
-- which texts a string table tells
pub use Rattle.elf_write_strings.proofs.TextsTold
-- a string table in which no text moves: each of its users has the texts that it had at read
pub use Rattle.elf_write_strings.proofs.UsersStay
-- which table has a number, and its bytes
pub use Rattle.elf_write_strings.proofs.VersionsShown
-- texts that are read stand in their table
pub use Rattle.elf_write_strings.proofs.VersionsTexts
-- walks over symbols, one by one
pub use Rattle.elf_layout_sizes.proofs.ForCallers.SymbolSteps
-- plans, and texts that stay
pub use Rattle.elf_layout_plan.proofs.ForCallers.PlacedRead
pub use Rattle.elf_layout_plan.proofs.ForCallers.SameTexts
