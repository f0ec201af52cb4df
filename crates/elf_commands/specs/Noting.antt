-- What a command tells that a user should know of its edits.
use Rattle.std.specs.Prelude.{ℕ, ◌≡◌, ◌⊎◌, Bool, List, [], Option, Some, None, Ok, false, true, option_and_then}
use Rattle.command_words.specs.Rows.{Text}
use Rattle.command_words.specs.declared.noting.Notes.{Notes}
use Rattle.command_words.specs.declared.noting.Notes.TheVariants.{LeftOut, Wanted}
use Rattle.elf_commands_edits.specs.ElfBatchError.{ElfBatchError}
use Rattle.elf_commands_edits.specs.ElfErrors.{answer_to_elf_batch}
use Rattle.elf_commands_edits.specs.Groups.{GroupEdit, TellsInTurn, has_symbols, plain_of}
use Rattle.elf_edits.specs.Edit.{Edit}
use Rattle.elf_image.specs.Image.{Image, image_of}
use Rattle.elf_notes.specs.Lines.{lines_of}
use Rattle.elf_notes.specs.Notes.{AreNotes}
use Rattle.elf_notes.specs.declared.notes.ElfNotes.{ElfNotes}
use Rattle.elf_commands_lines.specs.ElfAsked.{ElfAsked, edits_asked}
use Rattle.elf_commands_edits.specs.declared.error.ElfCommandError.{ElfCommandError}
use Rattle.elf_commands_edits.specs.declared.error.ElfCommandError.TheVariants.{Memory}

-- the edits of a list that there are notes of: none where one is of symbols or sections
abbrev pub noted_if : Bool → List Edit → Option (List Edit)
noted_if true edits = None
noted_if false edits = Some edits

abbrev pub noted : List GroupEdit → Option (List Edit)
noted edits = noted_if (has_symbols edits) (plain_of edits)

-- ---- an image that was read

-- the lines of the notes of edits of an image, of what they find in it and leave of it
abbrev pub TellsNoted : Option (List Edit) → Text → Image → Text → Type 0
TellsNoted (Some edits) path read told = (notes : ElfNotes) × AreNotes edits read notes × (told ≡ lines_of path notes)
TellsNoted None path read told = told ≡ []

-- an error of edits of an image, and of the lines of their notes
abbrev pub TellsUnmade : List GroupEdit → Image → ElfCommandError → Type 0
TellsUnmade edits read e =
    (e ≡ Memory) ⊎ ((refused : ElfBatchError) × TellsInTurn edits read refused × (e ≡ answer_to_elf_batch refused))

-- ---- bytes

-- the lines of the notes of edits of a file
abbrev pub TellsNotes : Option (List Edit) → Text → List ℕ → Text → Type 0
TellsNotes edits path file told = (read : Image) × (image_of file ≡ Ok read) × TellsNoted edits path read told

-- those of known bytes at a path; none where no edits are asked for
abbrev pub TellsNotesAt : Option (List Edit) → Text → Option (List ℕ) → Text → Type 0
TellsNotesAt (Some edits) path known told = (file : List ℕ) → known ≡ Some file → TellsNotes (Some edits) path file told
TellsNotesAt None path known told = told ≡ []

-- ---- where they are wanted; else there are none

abbrev pub TellsImage : Notes → List GroupEdit → Text → Image → Text → Type 0
TellsImage Wanted edits path read told = TellsNoted (noted edits) path read told
TellsImage LeftOut edits path read told = told ≡ []

abbrev pub TellsWantedAt : Notes → ElfAsked → Text → Option (List ℕ) → Text → Type 0
TellsWantedAt Wanted a path known told = TellsNotesAt (option_and_then noted (edits_asked a)) path known told
TellsWantedAt LeftOut a path known told = told ≡ []
