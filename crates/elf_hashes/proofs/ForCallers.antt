-- For callers: what the crates above may cite. These are laws of the words of specs/; of the other modules GabiLaws,
-- GnuLaws, OrderLaws and SizeLaws are each for one crate above.

-- symbols as they stand, and an order of symbols each of which is changed
pub use Rattle.elf_hashes.proofs.InOrder.{counted-once, in_order-counted, map-in_order}
-- symbols of which only the number of a section differs have the same tables and the same order
pub use Rattle.elf_hashes.proofs.SameHashes.{AreSeenAlike, IsSeenAlike, hashed_names-alike, hashed_names-map, places_by_bucket-alike, places_by_bucket-map}
