-- What is answered of an edited image: its bytes, or why there are none.
use Rattle.std.specs.Prelude.{ℕ, ◌≡◌, Option, Some, None, false, true}
use Rattle.std.specs.declared.alloc.Global.{Global}
use Rattle.std.specs.declared.vec.Vec.{Vec}
use Rattle.arwen_elf.specs.ElfError.{ElfError}
use Rattle.elf_image.specs.Image.{Image}
use Rattle.arwen_elf.specs.WrittenFile.{IsWrittenOf}
use Rattle.elf_commands_edits.specs.ElfErrors.{answer_to_elf}
use Rattle.elf_commands_edits.specs.Written.{IsNoImage}
use Rattle.elf_commands_edits.specs.declared.error.ElfCommandError.{ElfCommandError}

-- new bytes of an image that was changed, and none of one that wasn't
pub record AreChanged (made : Image) (answer : Option (Vec ℕ Global)) : Type 0 where
  pub same : made.changed ≡ false → answer ≡ None
  pub other : made.changed ≡ true → (new : Vec ℕ Global) × (answer ≡ Some new) × IsWrittenOf made new.items

-- the error is that of an image that has no bytes
abbrev pub TellsNoImage : Image → ElfCommandError → Type 0
TellsNoImage made e = (cause : ElfError) × IsNoImage made cause × (e ≡ answer_to_elf cause)
