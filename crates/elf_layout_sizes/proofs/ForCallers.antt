-- For callers: what the crates above may cite. These are laws of the words of specs/; no other module of
-- this crate's proofs is meant for them.

-- walks over symbols, one by one
pub use Rattle.elf_layout_sizes.proofs.SymbolSteps
