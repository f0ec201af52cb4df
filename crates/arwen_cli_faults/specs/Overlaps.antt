-- What is said of two blocks that stand against edits of an ELF file.
use Rattle.std.specs.Prelude.{ℕ, ◌≡◌, ◌≢◌, List, []}
use Rattle.elf_commands.specs.ElfEngine.{Makes}
use Rattle.elf_commands.specs.Groups.{GroupEdit}
use Rattle.elf_image.specs.Image.{Image}
use Rattle.elf_layout_plan.specs.Plan.{resized}
use Rattle.elf_layout_reasons.specs.Advice.{pair_text}
use Rattle.elf_layout_reasons.specs.Pair.{IsStuckPair}
use Rattle.elf_layout_reasons.specs.declared.stuck.StuckPair.{StuckPair}

-- a text names two blocks of an image that never move and overlap
pub record TellsPair (image : Image) (text : List ℕ) : Type 0 where
  pub pair : StuckPair
  pub stuck : IsStuckPair (resized image) pair
  pub told : text ≡ pair_text image pair

-- it does so of an image that is made
abbrev pub TellsMade : (Image → Type 0) → List ℕ → Type 0
TellsMade makes text = (made : Image) × makes made × TellsPair made text

-- it does so of the image that edits make of a file
pub record TellsOverlap (edits : List GroupEdit) (file text : List ℕ) : Type 0 where
  pub image : Image
  pub are_some : edits ≢ []
  pub makes : Makes edits file image
  pub tells : TellsPair image text
