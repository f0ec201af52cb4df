-- What is proved of the memory of plans.
use Rattle.std.specs.Prelude.{ℕ, ◌≡◌, List, Some, IsTrue}
use Rattle.std.specs.List.{slice_get}
use Rattle.elf_format.specs.Image.{Image}
use Rattle.elf_format.specs.Places.{Place}
use Rattle.elf_tables.specs.Edited.{IsEdited}
use Rattle.elf_layout_plan.specs.Apart.{are_notes_shown, is_memory_apart}
use Rattle.elf_tables.specs.Kept.{KeptSection, kept_sections}
use Rattle.elf_layout_plan.specs.Memory.{priority_of}
use Rattle.elf_layout_plan.specs.Plan.{IsPlan, Plan, resized}

-- There is a place at that position, and it stands at that address.
pub record HasPlaceAt (places : List Place) (position address : ℕ) : Type 0 where
  pub place : Place
  pub is_there : slice_get places position ≡ Some place
  pub same_address : place.sh_addr ≡ address

-- A section that can't move, loaded or not, stands in each plan at the address at which it was read. This holds of every image.
abbrev pub FixedSectionsStay : Type 0
FixedSectionsStay =
    (image : Image) (plan : Plan) → IsPlan (resized image) plan
    → (i : ℕ) (s : KeptSection) → slice_get (kept_sections image) i ≡ Some s → priority_of (resized image) s ≡ 0
    → HasPlaceAt plan.places s.position s.section.sh_addr

-- In each plan of an edited image the headers and all sections that take memory share no address.
abbrev pub PlansAreApart : Type 0
PlansAreApart =
    (image : Image) (plan : Plan) → IsEdited image → IsPlan (resized image) plan
    → IsTrue (is_memory_apart (resized image) plan)

-- In each plan of an edited image every loaded note section is shown as it was by the program headers that are still there.
abbrev pub PlansShowNotes : Type 0
PlansShowNotes =
    (image : Image) (plan : Plan) → IsEdited image → IsPlan (resized image) plan
    → IsTrue (are_notes_shown (resized image) plan)
