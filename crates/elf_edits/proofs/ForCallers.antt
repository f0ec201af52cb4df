-- For callers: what the crates above may cite. These are laws of the words of specs/; no other module of this
-- crate's proofs is meant for them.

-- where no cause stands, the step is the edited image; what is known then
pub use Rattle.elf_edits.proofs.DecidedLaws.{IsFree, is_free, stands_not, step_is, step_refused}
-- a batch is decided by the facts at its start
pub use Rattle.elf_edits.proofs.DecidedLaws.{all_edited-push, batch_decided}
-- an edit leaves the names of dynamic symbols that have to stay
pub use Rattle.elf_edits.proofs.DecidedLaws.{fixed_names_stay}
-- an edit that writes no name and no version leaves the symbols as they were
pub use Rattle.elf_edits.proofs.SymbolLaws.{symbols_untouched}
-- where no library of needed versions has another name, they are as they were
pub use Rattle.elf_edits.proofs.NeedLaws.{none_replaced}
-- an edited list is a list again
pub use Rattle.elf_edits.proofs.EditLaws.{lists_again}
pub use Rattle.elf_edits.proofs.ListedLaws.{ListsAgain}
-- an edit that touches nothing leaves the list as it was
pub use Rattle.elf_edits.proofs.EditLaws.{untouched}
-- which edits drop entries by their tags
pub use Rattle.elf_edits.proofs.EditLaws.{DropsTags, drops_tags}
-- a stored interpreter has a NUL last or nowhere
pub use Rattle.elf_edits.proofs.StoredLaws.{stored_whole}
-- cases on a test; the first of some options; one more element, and one more library of a set
pub use Rattle.elf_edits.proofs.ListLaws.{by_test, there_or_none}
pub use Rattle.elf_edits.proofs.LookupSteps.{one_more, other_way}
-- a name that a map gives has no NUL; what a map has for a name
pub use Rattle.elf_edits.proofs.SymbolSteps.{value_whole}
pub use Rattle.elf_edits.proofs.LookupSteps.{is_some-map}
-- a run path of which no directory goes is as it was
pub use Rattle.elf_edits.proofs.ShrunkLaws.{none_gone}
-- which segments are spare isn't changed by alignments and the stack's flags, and once they have gone no further one is
pub use Rattle.elf_edits.proofs.SpareLaws.{others_found, reclaimed_again, reclaimed_aligned, reclaimed_flagged}
pub use Rattle.elf_image_uses.proofs.ForCallers.{keeps_all, keeps_none, keeps_one, kept_firsts_rise}
