-- What edits make of the bytes of an ELF file, and why they make none.
use Rattle.std.specs.Prelude.{ℕ, ◌≡◌, ◌⊎◌, List, [], ◌∷◌, Option, Some, None, Ok, Err, false, true, map, ⊤}
use Rattle.std.specs.declared.alloc.Global.{Global}
use Rattle.std.specs.declared.vec.Vec.{Vec}
use Rattle.elf_commands_edits.specs.Written.{IsImageWritten, IsNoImage}
use Rattle.elf_commands_edits.specs.ElfBatchError.{ElfBatchError}
use Rattle.elf_commands_edits.specs.ElfError.{ElfError}
use Rattle.elf_commands_edits.specs.ElfError.TheVariants as elf
use Rattle.elf_edits.specs.Edit.{Answer}
use Rattle.elf_edits.specs.Laws.{viewed}
use Rattle.elf_image.specs.Image.{Image, image_of, shown}
use Rattle.elf_image.specs.Views.{dynamic_symbol_count, loader_view, section_view}
use Rattle.elf_commands_edits.specs.Final.{final_view}
use Rattle.elf_commands_edits.specs.WrittenFile.{IsWrittenOf}
use Rattle.elf_commands_edits.specs.Groups.{GroupEdit, MakeInTurn, RefuseInTurn, group_model, has_symbols, plain_of}
use Rattle.elf_commands_lines.specs.declared.groups.GroupEdit.{GroupEdit as GroupHeld}
use Rattle.elf_commands_lines.specs.ElfAsked.{ElfAsked, answered, asks_edits, edits_asked, elf_asked, one, printing, several, shrinking}
use Rattle.elf_commands_edits.specs.ElfErrors.{answer_to_elf}
use Rattle.elf_commands_lines.specs.Meaning.{ElfMeaning}
use Rattle.elf_commands.specs.Prints.{PrintMayFail, Prints, TellsElf}
use Rattle.elf_commands_edits.specs.declared.error.ElfCommandError.{ElfCommandError}
use Rattle.elf_commands_edits.specs.declared.error.ElfCommandError.TheVariants.{Edits, Elf, ElfBatch, Io, Memory}

-- ---- what is written

-- The image that edits make of a file.
pub record Makes (edits : List GroupEdit) (file : List ℕ) (made : Image) : Type 0 where
  pub read : Image
  pub is_read : image_of file ≡ Ok read
  pub make : MakeInTurn edits read made

-- New bytes of a file show its edits, by their section headers and to a loader that knows their program headers alone: what
-- the section headers of the old bytes show, after one edit and the next, in the final form of the image that the edits make.
pub record ShowsEdits (edits : List GroupEdit) (file new : List ℕ) (made : Image) : Type 0 where
  pub read : Image
  pub is_read : image_of file ≡ Ok read
  pub was_shown : section_view file ≡ Some (shown read)
  pub make : MakeInTurn edits read made
  -- without edits of symbols or sections the view alone tells it
  pub is_viewed : has_symbols edits ≡ false → shown made ≡ viewed made.header.e_machine (plain_of edits) (shown read)
  -- what was read of the bytes that the image comes from
  pub at_read : Image
  pub was_read : image_of made.source ≡ Ok at_read
  pub by_sections : section_view new ≡ Some (final_view at_read made)
  pub by_loader : loader_view new (dynamic_symbol_count new) ≡ Some (final_view at_read made)

-- An answer to edits of a file: no bytes where its image is as it was, else those of the edited image, which show the edits.
pub record IsEditedBy (edits : List GroupEdit) (file : List ℕ) (answer : Option (Vec ℕ Global)) : Type 0 where
  pub made : Image
  pub makes : Makes edits file made
  pub unchanged : made.changed ≡ false → answer ≡ None
  pub changed : made.changed ≡ true → (new : Vec ℕ Global) × (answer ≡ Some new)
      × IsWrittenOf made new.items × ShowsEdits edits file new.items made

-- The bytes that edits leave of a file: those of the image that they make of it. Where it was changed, they show the edits.
pub record IsEditedTo (edits : List GroupEdit) (file new : List ℕ) : Type 0 where
  pub made : Image
  pub makes : Makes edits file made
  pub written : IsImageWritten made new
  pub shows : made.changed ≡ true → ShowsEdits edits file new made

-- ---- which answer tells why there are no bytes; want of memory may be answered in any case

-- the edit with this number is refused
pub record IsRefusedAt (edits : List GroupEdit) (file : List ℕ) (index : ℕ) (e : ElfError) : Type 0 where
  pub read : Image
  pub is_read : image_of file ≡ Ok read
  pub refused : RefuseInTurn edits read index e

-- the edited image has no bytes
pub record IsNotWritten (edits : List GroupEdit) (file : List ℕ) (e : ElfError) : Type 0 where
  pub made : Image
  pub makes : Makes edits file made
  pub none : IsNoImage made e

-- the first rule that the file breaks
abbrev pub IsUnread : List ℕ → ElfError → Type 0
IsUnread file (elf.Parse fault) = image_of file ≡ Err fault
IsUnread file e = ⊥

-- an error of a file
abbrev pub TellsElfOf : ElfAsked → List ℕ → ElfError → Type 0
TellsElfOf a file elf.Memory = ⊥
TellsElfOf (one edit) file e =
    IsUnread file e ⊎ (((index : ℕ) × IsRefusedAt (edit ∷ []) file index e) ⊎ IsNotWritten (edit ∷ []) file e)
TellsElfOf (several (Ok edits)) file e = IsUnread file e ⊎ IsNotWritten edits file e
TellsElfOf a file e = ⊥

-- an error of the edit with this number; want of memory is none of an edit
abbrev pub TellsRefusedAt : List GroupEdit → List ℕ → ℕ → ElfError → Type 0
TellsRefusedAt edits file index elf.Memory = ⊥
TellsRefusedAt edits file index e = IsRefusedAt edits file index e

-- an error of one of several edits
abbrev pub TellsBatchOf : ElfAsked → List ℕ → ElfBatchError → Type 0
TellsBatchOf (several (Ok edits)) file e = TellsRefusedAt edits file e.index e.fault
TellsBatchOf a file e = ⊥

abbrev pub TellsEdit : ElfAsked → List ℕ → ElfCommandError → Type 0
TellsEdit a file Memory = ⊤
TellsEdit a file (Edits wrong) = a ≡ several (Err wrong)
TellsEdit a file (Elf e) = TellsElfOf a file e
TellsEdit a file (ElfBatch e) = TellsBatchOf a file e
TellsEdit a file e = ⊥

-- ---- a run over bytes

-- New bytes, or none, are what the edits make that are asked for.
pub record IsElfEdited (a : ElfAsked) (file : List ℕ) (answer : Option (Vec ℕ Global)) : Type 0 where
  pub edits : List GroupEdit
  pub are : edits_asked a ≡ Some edits
  pub edited : IsEditedBy edits file answer

-- The bytes that these edits leave.
pub record LeavesElf (a : ElfAsked) (file new : List ℕ) : Type 0 where
  pub edits : List GroupEdit
  pub are : edits_asked a ≡ Some edits
  pub left : IsEditedTo edits file new

-- the bytes that there are after an answer
abbrev pub bytes_left : List ℕ → Option (Vec ℕ Global) → List ℕ
bytes_left file None = file
bytes_left file (Some new) = new.items

-- what a run answers, and what a writer gets
abbrev pub RunsElf : ElfMeaning → ElfAsked → List ℕ → Option (Vec ℕ Global) → Option (List ℕ) → Option (List ℕ) → Type 0
RunsElf meaning printing file answer old new = (answer ≡ None) × Prints meaning (image_of file) old new
RunsElf meaning (shrinking prefixes) file answer old new = (answer ≡ None) × Prints meaning (image_of file) old new
RunsElf meaning a file answer old new = IsElfEdited a file answer × (new ≡ old)

-- the edits that a command asks for, or none: it prints, or asks first what is found
abbrev pub AreAsked : ElfAsked → Option (Vec GroupHeld Global) → Type 0
AreAsked a (Some edits) = edits_asked a ≡ Some (map group_model edits.items)
AreAsked a None = asks_edits a ≡ false

-- an error tells the outcome of each file, since no file was looked at
abbrev pub TellsEachFile : ElfAsked → ElfCommandError → Type 0
TellsEachFile a e = (file : List ℕ) → TellsEdit a file e

-- an error of a run; only a writer that fails may have got something
abbrev pub TellsRun : {W : Type 0} → (W → Option (List ℕ)) → ElfMeaning → ElfAsked → List ℕ → W → W → ElfCommandError → Type 0
TellsRun contents meaning printing file old new e = TellsElf contents meaning (image_of file) old new e
TellsRun contents meaning (shrinking prefixes) file old new e = TellsElf contents meaning (image_of file) old new e
TellsRun contents meaning a file old new e = (new ≡ old) × TellsEdit a file e

-- an error of an edit, whatever its number
abbrev pub with_no_number : ElfCommandError → ElfCommandError
with_no_number (ElfBatch e) = answer_to_elf e.fault
with_no_number e = e

-- an error of several edits as it is told of what is asked for: of one edit no number is told
abbrev pub as_asked : ElfAsked → ElfCommandError → ElfCommandError
as_asked (several read) e = e
as_asked a e = with_no_number e

-- ---- why a command may fail. No clause can say that a file can be read or written

abbrev pub MayFailAs : ElfAsked → ElfCommandError → Type 0
MayFailAs printing e = PrintMayFail e
MayFailAs a Memory = ⊤
MayFailAs a (Io e) = ⊤
MayFailAs a e = (file : List ℕ) × ((found : List Answer) × TellsEdit (answered found a) file e)

abbrev pub ElfMayFail : ElfMeaning → ElfCommandError → Type 0
ElfMayFail meaning e = MayFailAs (elf_asked meaning) e
