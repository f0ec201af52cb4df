-- For callers: what the crates above may cite. These are laws of the words of specs/; no other module of
-- this crate's proofs is meant for them.

-- an image that was read is one that was edited in no way
pub use Rattle.elf_image.proofs.EditedLaws
-- the sections of an image, with the numbers that they had at read
pub use Rattle.elf_image.proofs.KeptSections
-- the first that passes a test, in a list that is seen element by element; and how many program headers were read
pub use Rattle.elf_image.proofs.LookupSteps
-- the image of an accepted file holds its parts
pub use Rattle.elf_image.proofs.ReadImageLaws
-- an image that was read is complete, with the names that were read; and what is found in a list
pub use Rattle.elf_image.proofs.ReadComplete
-- lists of a file's symbols, and whether they are as they were read
pub use Rattle.elf_image.proofs.SymbolLists
-- each change of symbols leaves an image that was read and edited: also edited symbols that are put in place of those that are there
pub use Rattle.elf_image.proofs.SymbolsKept
-- symbols that are deleted, and whether relocations name them
pub use Rattle.elf_image.proofs.SymbolsDeleted
-- a section that gets another name, and sections that go, leave an image that was read and edited
pub use Rattle.elf_image.proofs.SectionNamed
pub use Rattle.elf_image.proofs.SectionsDeleted
-- what comes once in a file that was read
pub use Rattle.elf_image.proofs.ReadSingles
-- what a list contains, and what a filter leaves of it
pub use Rattle.elf_image.proofs.ListsLeft
-- records of needed versions of which the libraries' names may be others
pub use Rattle.elf_image.proofs.NeedsKept
-- loaded segments that were laid out anew: what is left of the program headers that were read, and where the loaded ones end
pub use Rattle.elf_image.proofs.Unclaimed
pub use Rattle.elf_image_symbols.proofs.ForCallers.FrontLaws
