-- For callers: what the crates above may cite. These are laws of the words of specs/; no other module of
-- this crate's proofs is meant for them.

-- what several batches answer and leave, and that an edit that was taken is one of its meaning
pub use Rattle.elf_apply.proofs.BatchSteps.{answers_more, left_more, taken_is}
