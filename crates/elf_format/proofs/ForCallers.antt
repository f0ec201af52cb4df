-- For callers: what the crates above may cite to show that segments and places pass the tests of placement, and what that
-- gives. These are laws of the words of specs/.

-- two ranges, and the ranges of a list
pub use Rattle.elf_format.proofs.PlacementTests.{all_apart-means, apart-means, lies_in-means}
-- when two ranges are apart
pub use Rattle.elf_format.proofs.PlacementTests.{apart-before, apart-behind, apart-empty, apart-from_empty, apart-tells}
-- a segment that shows a range at an address
pub use Rattle.elf_format.proofs.PlacementTests.{shows_at-means}
-- the five rules on places, and that on the header table
pub use Rattle.elf_format.proofs.PlacementTests.{file_parts_fit-means, header_table_loaded-means, ranges_in_file-means, sections_loaded-means, segments_apart-means, uninitialized_clear-means}
-- parts of the rules, alone
pub use Rattle.elf_format.proofs.PlacementTests.{addresses_apart-means, sections_held-means}
-- what a segment shows is seen at its address: by what the tests mean, and by the tests
pub use Rattle.elf_format.proofs.PlacementTests.{shown_range-Keeps}
pub use Rattle.elf_format.proofs.Placed.{held_ranges_are_seen, held_sections_are_seen}
-- what is known of a file that every rule accepts
pub use Rattle.elf_format.proofs.Accepted
-- what is decoded from one memory is decoded from each that keeps its bytes
pub use Rattle.elf_format.proofs.Agreement
-- the steps of reading a chain of version records
pub use Rattle.elf_format.proofs.ChainSteps
-- the steps of reading the dynamic list from a list of bytes
pub use Rattle.elf_format.proofs.EntrySteps
-- every accepted file has an image, which shows what its section headers show and what a loader sees
pub use Rattle.elf_format.proofs.ImageShows
-- what the image of a file's parts is made of
pub use Rattle.elf_format.proofs.ImageTexts
-- the steps of reading a number byte by byte
pub use Rattle.elf_format.proofs.NumberSteps
-- what a loaded segment shows is seen at its address
pub use Rattle.elf_format.proofs.Placed
-- what readers do step by step: what was made so far, and what is still to be made of the rest
pub use Rattle.elf_format.proofs.ReadingSteps
-- the steps of reading records that stand end to end, and ranges of bytes
pub use Rattle.elf_format.proofs.TableSteps
-- for every accepted file both views are there, and are equal
pub use Rattle.elf_format.proofs.ViewsAgree
-- how many records, headers and versions there are, and the numbers below a number
pub use Rattle.elf_format.proofs.Lengths
pub use Rattle.patch_bytes.proofs.MemoryLaws
