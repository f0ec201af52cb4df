-- For callers: what the crate above may cite. These are laws of the words of specs/.

-- an edit keeps where signatures lie, and all bytes behind the load commands
pub use Rattle.macho_commands_stores.proofs.StepSignature.{IsKept, edit_keeps, edit_long}
-- what is told of signatures behind an edit, and behind slots that were made anew
pub use Rattle.macho_commands_stores.proofs.KeptParts.{behind_ends, each_after, each_weaker, edited_keeps, edited_tells, layouts_after, read_ends, signed_tells, signing_ends}
-- that these slots fit
pub use Rattle.macho_commands_stores.proofs.KeptParts.{touched_fit, whole_fit}
-- that the signatures are read again behind an edit, and behind slots that were made anew
pub use Rattle.macho_commands_stores.proofs.ReadParts.{edit_reads, named_apart, slots_read, tells_after}
