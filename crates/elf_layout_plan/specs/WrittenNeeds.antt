-- What stays is what is written.
use Rattle.std.specs.Prelude.{◌≡◌}
use Rattle.std.specs.Option.{option_map}
use Rattle.elf_format.specs.Image.{Image}
use Rattle.elf_layout_plan.specs.Needs.{are_needs_gone, written_entries, written_needs}
use Rattle.elf_layout_plan.specs.Staying.{Staying, staying_entries, unmarked_needs}

-- The needed versions of an edited image that stay, with the entries of its dynamic list that do, are those that are written.
pub record AreWritten (read image : Image) (s : Staying) : Type 0 where
  pub needs : unmarked_needs s.marks image.needs ≡ written_needs read image
  pub entries : option_map (staying_entries s.are_gone) image.entries ≡ written_entries read image
  pub gone : s.are_gone ≡ are_needs_gone read image
