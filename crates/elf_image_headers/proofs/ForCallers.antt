-- For callers: what the crates above may cite. These are laws of the words of specs/; no other module of
-- this crate's proofs is meant for them.

-- changes of a list that is seen element by element, and the program header for the stack
pub use Rattle.elf_image_headers.proofs.EditSteps
-- spare segments that are taken away
pub use Rattle.elf_image_headers.proofs.SpareSteps
