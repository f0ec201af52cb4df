-- What a parse finds in bytes whose slots were made anew: the same as before.
use Rattle.std.specs.Prelude.{ℕ, ◌≡◌, true, List, length, take, All, None}
use Rattle.macho_image.specs.Checks.{file_fault}
use Rattle.macho_image.specs.Commands.{commands_of, first_content_of}
use Rattle.macho_image.specs.Fat.{archs_of, table_fault}
use Rattle.macho_image.specs.Form.{commands_end, ctx_of}
use Rattle.macho_signing.specs.File.{begins_fat, part_bytes, parts_of}

-- a thin file: no check of the new bytes fails, header and load commands are byte for byte the old ones, and so are the form, the
-- list of load commands and the place where content begins
pub record ShowsSame (old new : List ℕ) : Type 0 where
  pub accepted : file_fault new ≡ None
  pub front : take (commands_end (ctx_of old) old) new ≡ take (commands_end (ctx_of old) old) old
  pub form : ctx_of new ≡ ctx_of old
  pub commands : commands_of new ≡ commands_of old
  pub first : first_content_of new ≡ first_content_of old

-- a file of either shape: the same shape, in a fat one the same table, and each slice shows the same
pub record FileShowsSame (old new : List ℕ) : Type 0 where
  pub long : length new ≡ length old
  pub shape : begins_fat new ≡ begins_fat old
  pub table : begins_fat old ≡ true → (table_fault new ≡ None) × (archs_of new ≡ archs_of old)
  pub parts : All (λ p. ShowsSame (part_bytes old p) (part_bytes new p)) (parts_of old)
