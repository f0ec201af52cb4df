-- For callers: what the crates above may cite. These are laws of the words of specs/; no other module of
-- this crate's proofs is meant for them.

-- in each plan of an edited image headers, tables and sections share no byte of the file; what isn't loaded and has bytes stands behind all segments
pub use Rattle.elf_write_spec.proofs.ApartInFile
-- the bytes of data stand in a written file as they stood in the file that was read
pub use Rattle.elf_write_spec.proofs.BaseBytes
-- data, hash tables and all other bytes that stay are seen at their addresses in a written file
pub use Rattle.elf_write_spec.proofs.DataSeen
-- a written file has the parts that were written
pub use Rattle.elf_write_spec.proofs.FileParts
-- a file that is written whole is one to which its image is written
pub use Rattle.elf_write_spec.proofs.FilesWritten
-- the section header table of a file: where each header's bytes stand, and that all of them lie in the file
pub use Rattle.elf_write_spec.proofs.HeaderTables
-- the sections that are there, each at its position, with the number that it was read at
pub use Rattle.elf_write_spec.proofs.NumberedSections
-- patches that share no byte, laid over bytes: each stands in them whole, and all other bytes stay
pub use Rattle.elf_write_spec.proofs.Laying
-- what the bytes of a written section are, where it isn't the interpreter's
pub use Rattle.elf_write_spec.proofs.LinkedContents
-- the dynamic list that is written: its entries, its tables, and whether there is one
pub use Rattle.elf_write_spec.proofs.FinalEntries
-- the dynamic symbols in their final form: each is one of the image, and there are as many
pub use Rattle.elf_write_spec.proofs.FinalSymbols
-- lists of which each element matches the one at its position in another list, and how many elements pass a test
pub use Rattle.elf_write_spec.proofs.LinkedLists
-- the relocations of a written file name symbols of their table, which has as many as it had
pub use Rattle.elf_write_spec.proofs.LinkedRelocations
-- the order in which the dynamic symbols are written, and the new number of each
pub use Rattle.elf_write_spec.proofs.OrderFacts
-- orders: lists in which each number below another stands once, and the first that passes a test, by its position
pub use Rattle.elf_write_spec.proofs.OrderLists
-- of the types that may come once no two sections and no two program headers were read
pub use Rattle.elf_write_spec.proofs.SingleTypes
-- the patches of a written file: they share no byte, lie in the file, and each stands in it
pub use Rattle.elf_write_spec.proofs.Patches
-- the dynamic entries of a written file are those that were written
pub use Rattle.elf_write_spec.proofs.RawEntries
-- a written file is accepted, and reading it gives the image in its final form, which is shown both ways
pub use Rattle.elf_write_spec.proofs.FilesReadBack
-- texts in tables, memories of whole lists, and lists of values that are there one by one
pub use Rattle.elf_write_spec.proofs.TextsRead
-- tables of versions of symbols: those that hold the same versions are one
pub use Rattle.elf_write_spec.proofs.VersionBytes
-- what is known of an edited image: the parts that were read, and how they match the sections that are there
pub use Rattle.elf_write_spec.proofs.WholeEdits
-- what is known of what is written: the parts that were read, and how they match, section by section, what is written
pub use Rattle.elf_write_spec.proofs.WholeFacts
-- lists: elements at positions, and the first one that passes a test
pub use Rattle.elf_write_spec.proofs.WholeLists
-- the static symbols in their final form: each is one of the image, and the new number of each
pub use Rattle.elf_write_spec.proofs.StaticSymbols
-- what a section's bytes are, by its type
pub use Rattle.elf_write_spec.proofs.SectionKinds
pub use Rattle.elf_layout_plan.proofs.ForCallers.ApartLists
pub use Rattle.elf_layout_plan.proofs.ForCallers.SameTexts
-- relocations whose symbols keep their numbers are as they were
pub use Rattle.elf_write_spec.proofs.SameNumbers.{renumbered_same}
