-- For callers: what the crates above may cite. These are laws of the words of specs/; no other module of
-- this crate's proofs is meant for them.
-- blocks that stay: no two of them share an address
pub use Rattle.elf_layout_plan.proofs.ApartBlocks
-- what is known of an edited image and the one that was read: its loaded segments and its sections stand where those stood
pub use Rattle.elf_layout_plan.proofs.ApartFacts
-- sections that can't move stay where they are
pub use Rattle.elf_layout_plan.proofs.ApartFixed
-- the loaded segments that are left of those that were read: what holds of all that were read, and which tests find the same
pub use Rattle.elf_layout_plan.proofs.ApartLeft
-- facts of each element of a list, and of each two of its elements
pub use Rattle.elf_layout_plan.proofs.ApartLists
-- where a section stands in a plan, by whether it has a slot
pub use Rattle.elf_layout_plan.proofs.ApartPlaces
-- what is known of an edited image follows from the rules that its source was accepted by
pub use Rattle.elf_layout_plan.proofs.ApartRead
-- the sections of an image by their positions, and the slots of those that move
pub use Rattle.elf_layout_plan.proofs.ApartSections
-- sections that stay end where memory ended
pub use Rattle.elf_layout_plan.proofs.ApartStays
-- the program headers of a plan: which of them are loaded, and how many there are
pub use Rattle.elf_layout_plan.proofs.ApartWritten
-- how many program headers sections that move can need
pub use Rattle.elf_layout_plan.proofs.HeaderLaws
-- where added segments stand, and the sections in them
pub use Rattle.elf_layout_plan.proofs.PlacedAdded
-- how many program headers are written
pub use Rattle.elf_layout_plan.proofs.PlacedCount
-- a plan is placed in the file as the rules of placement ask
pub use Rattle.elf_layout_plan.proofs.PlacedFile
-- lists: what is in them, and what holds of any two of their elements
pub use Rattle.elf_layout_plan.proofs.PlacedLists
-- where each section stands in a plan: in an added segment, behind the segments, or where it was
pub use Rattle.elf_layout_plan.proofs.PlacedPlaces
-- a plan of an edited image is placed in the file as the rules of placement ask
pub use Rattle.elf_layout_plan.proofs.PlacedPlans
-- ranges that share no place, and tests on numbers
pub use Rattle.elf_layout_plan.proofs.PlacedRanges
-- what the image that was read meets: where its loaded segments and its sections stand
pub use Rattle.elf_layout_plan.proofs.PlacedRead
-- sections with their sizes: each has a position of its own
pub use Rattle.elf_layout_plan.proofs.PlacedSections
-- the loaded segments of a plan are apart, and lie before all else in the file
pub use Rattle.elf_layout_plan.proofs.PlacedSegments
-- sections that stay, and the program header table where it is loaded: each is still in the file part of its loaded segment
pub use Rattle.elf_layout_plan.proofs.PlacedStays
-- rounds: what each leads to is asked for, and they come to an end
pub use Rattle.elf_layout_plan.proofs.RoundLaws
-- texts that stay: a list of texts has its own texts, and is itself with none left out
pub use Rattle.elf_layout_plan.proofs.SameTexts
-- an order by two numbers and something more
pub use Rattle.elf_layout_plan.proofs.ThreeNumbers
-- what a section is that is placed behind the segments, and which one is placed there
pub use Rattle.elf_layout_plan.proofs.UnloadedParts
-- the program headers that are written: which of them are loaded
pub use Rattle.elf_layout_plan.proofs.PlacedWritten
-- needed versions that stay, and the entries of the dynamic list with them
pub use Rattle.elf_layout_plan.proofs.NeedSteps
pub use Rattle.elf_tables.proofs.ForCallers.EntryBack
pub use Rattle.elf_tables.proofs.ForCallers.FileHeaderBack
pub use Rattle.elf_tables.proofs.ForCallers.FilesOpened
pub use Rattle.elf_tables.proofs.ForCallers.SectionHeaderBack
pub use Rattle.elf_tables.proofs.ForCallers.SegmentHeaderBack
pub use Rattle.elf_tables.proofs.ForCallers.TableBack
-- what is known of images that were read and edited
pub use Rattle.elf_tables.proofs.ForCallers.EditedLaws
pub use Rattle.elf_tables.proofs.ForCallers.KeptSections
pub use Rattle.elf_tables.proofs.ForCallers.ReadImageLaws
