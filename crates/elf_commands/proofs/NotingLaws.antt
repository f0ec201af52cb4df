-- What is told of edits: of an image, of bytes, of a store.
use Rattle.std.proofs.Common.{◌≡◌, ◌∙◌, Bool, ℕ, List, Option, map, Some, None, Result, Ok, sym, ap, subst, inl, inr}
use Rattle.std.specs.Prelude.{option_and_then}
use Rattle.std.proofs.lemmas.Option.{same_Some}
use Rattle.byte_store.specs.Known.{IsAll}
use Rattle.command_words.specs.Rows.{Text}
use Rattle.command_words.specs.declared.noting.Notes.{Notes}
use Rattle.command_words.specs.declared.noting.Notes.TheVariants.{LeftOut, Wanted}
use Rattle.elf_edits.specs.Batch.{Refusal, left_by, run}
use Rattle.elf_edits.specs.Edit.{Edit}
use Rattle.elf_image.specs.Image.{Image, image_of}
use Rattle.elf_notes.specs.Lines.{lines_of}
use Rattle.elf_notes.specs.Notes.{AreFindings, AreLeft, AreNotes}
use Rattle.elf_notes.specs.declared.findings.Findings.{Findings}
use Rattle.elf_notes.specs.declared.notes.ElfNotes.{ElfNotes}
use Rattle.elf_commands_edits.specs.Groups.{GroupEdit, plain, plain_of}
use Rattle.elf_commands_edits.proofs.ListLaws.{no_symbols, plain_back}
use Rattle.elf_commands_lines.specs.ElfAsked.{ElfAsked, edits_asked, several}
use Rattle.elf_commands.specs.ElfEngine.{TellsEdit}
use Rattle.elf_commands.specs.Noting.{TellsImage, TellsNoted, TellsNotesAt, TellsUnmade, TellsWantedAt, noted, noted_if}
use Rattle.elf_commands_edits.specs.declared.error.ElfCommandError.{ElfCommandError}
use Rattle.elf_commands.proofs.ElfOutcomes.{tells_refused}

-- all edits of a batch are noted
pub all_noted : (edits : List Edit) → Some edits ≡ noted (map plain edits)
all_noted edits = sym (ap (λ (b : Bool). noted_if b (plain_of (map plain edits))) (no_symbols edits) ∙ ap (λ (l : List Edit). Some l) (plain_back edits))

-- what is told of the image is told of the file that was read
noted_of_file : (edits : Option (List Edit)) (path : Text) (file : List ℕ) (read : Image) (told : Text) → image_of file ≡ Ok read → TellsNoted edits path read told → TellsNotesAt edits path (Some file) told
noted_of_file None path file read told is tells = tells
noted_of_file (Some edits) path file read told is tells = λ other known.
    let same : file ≡ other = same_Some file other known in
    (read, subst (λ (l : List ℕ). image_of l ≡ Ok read) same is, tells)

pub told_of_file : (n : Notes) (edits : List GroupEdit) (path : Text) (file : List ℕ) (read : Image) (told : Text) → image_of file ≡ Ok read → TellsImage n edits path read told → TellsWantedAt n (several (Ok edits)) path (Some file) told
told_of_file Wanted edits path file read told is tells = noted_of_file (noted edits) path file read told is tells
told_of_file LeftOut edits path file read told is tells = tells

-- what is told of edits is told of the command that asks for them
pub notes_as_asked : (n : Notes) (a : ElfAsked) (edits : List GroupEdit) (path : Text) (known : Option (List ℕ)) (told : Text) → edits_asked a ≡ Some edits → TellsWantedAt n (several (Ok edits)) path known told → TellsWantedAt n a path known told
notes_as_asked Wanted a edits path known told are tells = subst (λ (o : Option (List GroupEdit)). TellsNotesAt (option_and_then noted o) path known told) (sym are) tells
notes_as_asked LeftOut a edits path known told are tells = tells

-- what is told of all the bytes of a store
noted_of_store : (edits : Option (List Edit)) (path : Text) (known : Option (List ℕ)) (loaded : List ℕ) (told : Text) → IsAll known loaded → TellsNotesAt edits path (Some loaded) told → TellsNotesAt edits path known told
noted_of_store None path known loaded told all tells = tells
noted_of_store (Some edits) path known loaded told all tells = λ file is. tells file (ap (λ (l : List ℕ). Some l) (all file is))

pub told_of_store : (n : Notes) (a : ElfAsked) (path : Text) (known : Option (List ℕ)) (loaded : List ℕ) (told : Text) → IsAll known loaded → TellsWantedAt n a path (Some loaded) told → TellsWantedAt n a path known told
told_of_store Wanted a path known loaded told all tells = noted_of_store (option_and_then noted (edits_asked a)) path known loaded told all tells
told_of_store LeftOut a path known loaded told all tells = tells

-- what edits found in an image, and what holds of the image that they leave, are their notes
pub notes_made : (edits : List Edit) (image edited : Image) (found : Findings) (path told : Text) → AreFindings edits image found → run edits image ≡ Ok edited
    → (notes : ElfNotes) × (notes.found ≡ found) × AreLeft edited notes × (told ≡ lines_of path notes)
    → (notes : ElfNotes) × AreNotes edits image notes × (told ≡ lines_of path notes)
notes_made edits image edited found path told are runs made = (
  made.0,
  record {
    found = subst (λ (f : Findings). AreFindings edits image f) (sym made.1) are;
    left = subst (λ (i : Image). AreLeft i made.0) (sym (ap (λ (r : Result Image Refusal). left_by r image) runs)) made.2;
  },
  made.3,
)

-- edits that are not made of the image are not made of the file
pub unmade_of_file : (edits : List GroupEdit) (file : List ℕ) (read : Image) (e : ElfCommandError) → image_of file ≡ Ok read → TellsUnmade edits read e → TellsEdit (several (Ok edits)) file e
unmade_of_file edits file read e is (inl memory) =
    let P : ElfCommandError → Type 0 = λ x. TellsEdit (several (Ok edits)) file x in subst P (sym memory) tt
unmade_of_file edits file read e is (inr refused) =
    let P : ElfCommandError → Type 0 = λ x. TellsEdit (several (Ok edits)) file x in
    subst P (sym refused.2) (tells_refused edits file read refused.0 is refused.1)
