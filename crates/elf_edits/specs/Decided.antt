-- A batch that is decided before any of its edits is made: no edit of a batch changes what causes look at.
use Rattle.std.specs.Prelude.{ℕ, ◌+◌, List, [], ◌∷◌, Option, Some, None, Result, Ok, Err}
use Rattle.elf_image.specs.Image.{Image}
use Rattle.elf_edits.specs.Batch.{Refusal}
use Rattle.elf_edits.specs.Cause.{Cause, Facts, first_cause}
use Rattle.elf_edits.specs.Edit.{Edit}
use Rattle.elf_edits.specs.Edited.{edited_image}

-- the refusal of the edit with this number, or else a later one
abbrev pub refusal_or : Option Cause → ℕ → Option Refusal → Option Refusal
refusal_or None index later = later
refusal_or (Some cause) index later = Some (record { index = index; cause = cause })

-- the first edit that these facts refuse; `done` edits came before
unfoldable pub first_refusal : Facts → ℕ → List Edit → Option Refusal
first_refusal facts done [] = None
first_refusal facts done (edit ∷ edits) = refusal_or (first_cause edit facts) done (first_refusal facts (done + 1) edits)

-- an image after edits, where none of them is refused
unfoldable pub all_edited : List Edit → Image → Image
all_edited [] image = image
all_edited (edit ∷ edits) image = all_edited edits (edited_image edit image)

-- the image, or the refusal
abbrev pub unless_refused : Option Refusal → Image → Result Image Refusal
unless_refused None image = Ok image
unless_refused (Some refusal) image = Err refusal
