-- The number that `byteorder` reads is that of the field.
use Rattle.std.proofs.Common.{◌∙◌}
use Rattle.patch_bytes.proofs.NumberLemmas.{big_number-field, little_number-field}
use Rattle.patch_bytes.proofs.number.read_u32_at.Goals as goal

pub returns-in-Little : goal.returns-in-Little
returns-in-Little c = rw c.in-Little.is (c.in_ok-field.ensures.0, c.read_u32.ensures ∙ rw c.in_ok-field.ensures.1 (little_number-field 4 _ _ c.in_ok-field.ensures.0))

pub returns-in-Big : goal.returns-in-Big
returns-in-Big c = rw c.in-Big.is (c.in_ok-field.ensures.0, c.read_u32-in-Big.ensures ∙ rw c.in_ok-field.ensures.1 (big_number-field 4 _ _ c.in_ok-field.ensures.0))
