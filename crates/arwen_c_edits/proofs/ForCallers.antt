-- For callers: what the crates above may cite. These are laws of the words of specs/; no other module of this crate's proofs is meant
-- for them.

-- bytes that are no UTF-8 don't pass the test
pub use Rattle.arwen_c_edits.proofs.TextSteps.{no_utf8}
