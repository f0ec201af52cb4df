-- For callers: what the crates above may cite. These are laws of the words of specs/; no other module of
-- this crate's proofs is meant for them.

-- a name finds the same command in each form of a table, and means the same with its values
pub use Rattle.command_words.proofs.RowLemmas.{meant_with-named, named-map}
-- the edit of a group by the row that its first word finds, and what is wrong where there is none, or with its values
pub use Rattle.command_words.proofs.RowLemmas.{by_row, fault_told, no_row, told_by_values, values_told}
-- groups that are read one after another: the state of the loop, where it begins, goes on and ends
pub use Rattle.command_words.proofs.EditGroups.{IsReadTo, all_read, fault_read, groups_of, is_plus_word, none_read, one_read, pushed, texts}
