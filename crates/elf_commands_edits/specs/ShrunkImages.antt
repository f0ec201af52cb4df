-- What comes of images whose run paths shrink: what is answered and told, and why there is nothing.
use Rattle.std.specs.Prelude.{ℕ, ◌≡◌, ◌⊎◌, List, map, Option, Ok}
use Rattle.std.specs.Io.KnownBytes.{Appends}
use Rattle.std.specs.declared.alloc.Global.{Global}
use Rattle.std.specs.declared.vec.Vec.{Vec}
use Rattle.byte_store.specs.Composed.{IsDifference, made_of}
use Rattle.byte_store.specs.declared.composed.Difference.{Difference}
use Rattle.command_words.specs.Rows.{Text}
use Rattle.arwen_elf.specs.Prints.{IsCutShort}
use Rattle.arwen_elf.specs.Told.{Refuses}
use Rattle.arwen_elf.specs.ElfError.{ElfError}
use Rattle.elf_edits.specs.Edit.{Edit}
use Rattle.elf_edits.specs.Edited.{step}
use Rattle.elf_edits.specs.Shrunk.{Removal}
use Rattle.elf_edits_shrink.specs.Removals.{removed_by}
use Rattle.elf_edits_shrink.specs.ShrinkModel.{removal_model}
use Rattle.elf_edits_shrink.specs.declared.removal.Removed.{Removed}
use Rattle.elf_image.specs.Image.{Image}
use Rattle.elf_commands_edits.specs.ElfErrors.{answer_to_elf}
use Rattle.elf_commands_edits.specs.Images.{AreChanged, TellsNoImage}
use Rattle.elf_commands_edits.specs.Shrinking.{removal_lines}
use Rattle.elf_commands_edits.specs.Written.{IsImageWritten, IsNoImage}
use Rattle.elf_commands_edits.specs.declared.error.ElfCommandError.{ElfCommandError}
use Rattle.elf_commands_edits.specs.declared.error.ElfCommandError.TheVariants.{Io}

-- an image with run paths that shrink, and the directories that went
pub record Steps (edit : Edit) (old new : Image) (removed : Vec Removed Global) : Type 0 where
  pub makes : step edit old ≡ Ok new
  pub are : map removal_model removed.items ≡ removed_by edit old

-- an image is answered, and a writer gets the lines of directories
abbrev pub IsRemovalTold : Image → List Removal → Option (Vec ℕ Global) → Option (List ℕ) → Option (List ℕ) → Type 0
IsRemovalTold made removed answer old new = AreChanged made answer × Appends old new (removal_lines removed)

-- an error of that: the writer failed once the answer was there, and got the first bytes of the lines; or there is no answer, and
-- the writer got nothing
abbrev pub TellsUntold : {W : Type 0} → (W → Option (List ℕ)) → Image → List Removal → W → W → ElfCommandError → Type 0
TellsUntold contents made removed old new (Io e) = ((answer : Option (Vec ℕ Global)) × AreChanged made answer)
    × IsCutShort (removal_lines removed) (contents old) (contents new)
TellsUntold contents made removed old new e = (new ≡ old) × TellsNoImage made e

-- what differs from the bytes of a file once an edit of its image took directories out of run paths, and their lines
pub record IsShrunkImage (edit : Edit) (read : Image) (d : Difference) (text : Text) : Type 0 where
  pub made : Image
  pub makes : step edit read ≡ Ok made
  pub makeable : IsDifference made.source d
  pub written : IsImageWritten made (made_of made.source d)
  pub told : text ≡ removal_lines (removed_by edit read)

-- an error of that: the edit is refused, or the edited image has no bytes
abbrev pub TellsUnshrunk : Edit → Image → ElfCommandError → Type 0
TellsUnshrunk edit read e = (cause : ElfError)
    × (Refuses cause (step edit read) ⊎ ((made : Image) × (step edit read ≡ Ok made) × IsNoImage made cause))
    × (e ≡ answer_to_elf cause)
