-- For callers: what the crates above may cite. These are laws of the words of specs/; no other module of
-- this crate's proofs is meant for them.

-- the versions of a file by the one section of a type
pub use Rattle.elf_image_versions.proofs.KeptSteps
