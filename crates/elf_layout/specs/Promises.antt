-- What a plan of an edited image promises.
use Rattle.std.specs.Prelude.{ℕ, ◌≡◌, IsTrue}
use Rattle.std.specs.List.{slice_get}
use Rattle.std.specs.Prelude.{Some}
use Rattle.elf_format.specs.Image.{Image}
use Rattle.elf_layout_plan.specs.Apart.{are_notes_shown, is_memory_apart}
use Rattle.elf_layout_plan.specs.ApartLaws.{HasPlaceAt}
use Rattle.elf_layout_plan.specs.FilePlaced.{IsPlacedInFile}
use Rattle.elf_image.specs.Kept.{KeptSection, kept_sections}
use Rattle.elf_layout_plan.specs.Memory.{priority_of}
use Rattle.elf_layout_plan.specs.Plan.{IsPlan, Plan, resized}

-- Everything stands in the file as the read rules ask; headers and sections share no address; notes are shown as they were; what
-- can't move stands at the address at which it was read.
pub record IsPromised (image : Image) (plan : Plan) : Type 0 where
  pub placed : IsPlacedInFile (resized image) plan
  pub apart : IsTrue (is_memory_apart (resized image) plan)
  pub notes : IsTrue (are_notes_shown (resized image) plan)
  -- the image has no other plan
  pub one : (other : Plan) → IsPlan (resized image) other → other ≡ plan
  pub fixed : (i : ℕ) (s : KeptSection) → slice_get (kept_sections image) i ≡ Some s → priority_of (resized image) s ≡ 0
      → HasPlaceAt plan.places s.position s.section.sh_addr
