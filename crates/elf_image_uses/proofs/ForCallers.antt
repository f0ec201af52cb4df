-- For callers: what the crates above may cite. These are laws of the words of specs/; no other module of this crate's proofs
-- is meant for them.

-- a list that is made of what a filter keeps, element by element
pub use Rattle.elf_image_uses.proofs.AlongSteps.{keeps_all, keeps_none, keeps_one}
-- numbers that rise, of which a filter keeps some
pub use Rattle.elf_image_uses.proofs.AlongSteps.{kept_firsts_rise}
