-- For callers: what the crates above may cite. These are laws of the words of specs/; no other module of
-- this crate's proofs is meant for them.

-- a file as it was parsed has the bytes that were read
pub use Rattle.arwen_macho.proofs.LeadLaws.{first_bytes}
-- every state of a file has bytes that are accepted and show it, and batches lead from state to state
pub use Rattle.arwen_macho.proofs.StatesLaws.{file_bytes_show, fresh_is_state, shows_step, step_is_state}
-- a header that the bytes hold tells their counts
pub use Rattle.macho_edits.proofs.ForCallers.{held_ncmds, held_sizeofcmds}
-- slices laid over the bytes of a fat file: what stays, and what a parse then finds
pub use Rattle.arwen_macho.proofs.FatLaws.{accepted_slice, accepted_whole, behind_slices}
pub use Rattle.arwen_macho.proofs.FatStepLaws.{fat_step_ok}
pub use Rattle.arwen_macho.proofs.PutLaws.{length-put_at, slice-put_at_apart}
pub use Rattle.arwen_macho.proofs.ShapeLaws.{fat_shows}
pub use Rattle.arwen_macho.proofs.SliceLaws.{ApartFrom, AreBehind, AreLaid, AreShown, OutsideAll, get_or-laid_over, length-laid_over, shown-laid_over, take-laid_over}
pub use Rattle.arwen_macho.proofs.TableLaws.{SameTable, archs_same, table_same}
