-- For callers: what the crates above may cite. These are laws of the words of specs/; no other module of
-- this crate's proofs is meant for them.

-- a built run path holds its text, is as long as its size says, and is built wherever the text has no NUL and fits
pub use Rattle.macho_edits.proofs.BuiltLaws.{HoldsText-rpath_built, built_size-above, length-built_rpath, rpath_built-at_ok}
-- an edit of a list of commands leaves commands
pub use Rattle.macho_edits.proofs.EditLaws.{edited_keeps}
-- a header that the bytes hold tells their counts
pub use Rattle.macho_edits.proofs.PatchLemmas.{held_ncmds, held_sizeofcmds}
