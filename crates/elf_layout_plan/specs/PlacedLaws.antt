-- What is proved of plans: where everything stands in the file.
use Rattle.elf_format.specs.Image.{Image}
use Rattle.elf_tables.specs.Edited.{IsEdited}
use Rattle.elf_layout_plan.specs.FilePlaced.{IsPlacedInFile}
use Rattle.elf_layout_plan.specs.Plan.{IsPlan, Plan, resized}

-- A plan of an edited image is placed in the file as the rules of placement ask of a file that is read.
abbrev pub PlansArePlaced : Type 0
PlansArePlaced = (image : Image) (plan : Plan) → IsEdited image → IsPlan (resized image) plan → IsPlacedInFile (resized image) plan
