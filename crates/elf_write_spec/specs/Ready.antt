-- What the steps towards the bytes of a file start from.
use Rattle.std.specs.Prelude.{ℕ, ◌≡◌, Some, IsTrue}
use Rattle.std.specs.List.{slice_get}
use Rattle.elf_format.specs.Image.{Image, ImageSection}
use Rattle.elf_image.specs.Edited.{IsEdited}
use Rattle.elf_image.specs.Kept.{image_at_read}
use Rattle.elf_layout_plan.specs.Refusals.{do_sizes_of_image_fit}

-- An edited image, with the image that was read from its source.
pub record IsEditedReady (read image : Image) : Type 0 where
  pub at_read : read ≡ image_at_read image
  pub edited : IsEdited image
  pub sized : IsTrue (do_sizes_of_image_fit image)

-- the section is one of an image, and has that type
pub record IsSectionOfType (type : ℕ) (image : Image) (section : ImageSection) : Type 0 where
  pub position : ℕ
  pub there : slice_get image.sections position ≡ Some section
  pub typed : section.sh_type ≡ type
