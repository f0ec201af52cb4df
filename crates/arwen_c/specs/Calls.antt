-- What calls do with lists of edits.
use Rattle.std.specs.Prelude.{ℕ, ◌≡◌, Bool, true, false, IsOkAnd, List, map, MatchResult, Ok, Err, Result}
use Rattle.std.specs.Str.Lossy.{utf8_lossy}
use Rattle.command_words.specs.Rows.{Text}
use Rattle.elf_commands.specs.ElfWords.{elf_edits_of}
use Rattle.elf_commands.specs.Groups.{GroupEdit}
use Rattle.elf_image.specs.Rules.{has_magic}
use Rattle.macho_commands.specs.Edits.{edits_of}
use Rattle.macho_commands.specs.Meaning.{batch, sign}
use Rattle.macho_commands.specs.declared.signing.Signing.TheVariants.{Left}
use Rattle.macho_edits.specs.Call.{Call}
use Rattle.arwen_c_edits.specs.ElfEdits.{ElfEdit, elf_edits_read}
use Rattle.arwen_c_edits.specs.declared.fault.ListFault.{ListFault}
use Rattle.arwen_c_edits.specs.Lent.{GivenEdit}
use Rattle.arwen_c_edits.specs.MachoEdits.{macho_edits_read}
use Rattle.arwen_c.specs.Made.{group_of, IsElfMade, IsMachoMade, OrMemory, TellsElf, TellsMacho, edits_with, signing_by}
use Rattle.arwen_c.specs.Words.{words_from}
use Rattle.arwen_c.specs.declared.error.CallError.{CallError}
use Rattle.arwen_c.specs.declared.error.CallError.TheVariants.{Array, NoText, Words}

module _ {F : Type 0} where
  -- ## Edits that were read, or what is wrong with their list

  -- of an ELF file: new bytes and notes, or why there are none
  abbrev pub IsElfOf : Result (List GroupEdit) F → List ℕ → ℕ → List ℕ → List ℕ → List ℕ → Type 0
  IsElfOf read name flags file new told = IsOkAnd read (λ edits. IsElfMade (edits_with flags edits) name file new told)

  abbrev pub TellsElfOf : (F → CallError) → Result (List GroupEdit) F → ℕ → List ℕ → CallError → Type 0
  TellsElfOf wrong read flags file e = MatchResult read (λ edits. TellsElf (edits_with flags edits) file e) (λ fault. e ≡ wrong fault)

  -- of a Mach-O file
  abbrev pub IsMachoOf : Result (List Call) F → List ℕ → ℕ → List ℕ → List ℕ → List ℕ → Type 0
  IsMachoOf read name flags file new told = IsOkAnd read (λ calls. IsMachoMade (signing_by flags) (batch name calls) file new told)

  abbrev pub TellsMachoOf : (F → CallError) → Result (List Call) F → List ℕ → ℕ → List ℕ → CallError → Type 0
  TellsMachoOf wrong read name flags file e =
      MatchResult read (λ calls. TellsMacho (signing_by flags) (batch name calls) file e) (λ fault. e ≡ wrong fault)

-- ## An array

-- an array's edits of an ELF file, as the edits of a command
abbrev pub groups_if : Result (List ElfEdit) ListFault → Result (List GroupEdit) ListFault
groups_if (Ok edits) = Ok (map group_of edits)
groups_if (Err fault) = Err fault

abbrev pub elf_groups_read : List GivenEdit → Result (List GroupEdit) ListFault
elf_groups_read edits = groups_if (elf_edits_read edits)

-- by the magic of the file
abbrev pub IsMadeBy : Bool → List GivenEdit → List ℕ → ℕ → List ℕ → List ℕ → List ℕ → Type 0
IsMadeBy true edits name flags file new told = IsElfOf (elf_groups_read edits) name flags file new told
IsMadeBy false edits name flags file new told = IsMachoOf (macho_edits_read edits) name flags file new told

abbrev pub TellsBy : Bool → List GivenEdit → List ℕ → ℕ → List ℕ → CallError → Type 0
TellsBy true edits name flags file e = TellsElfOf Array (elf_groups_read edits) flags file e
TellsBy false edits name flags file e = TellsMachoOf Array (macho_edits_read edits) name flags file e

-- what the edits of an array make of a file, which notes call by this name
abbrev pub IsApplied : List GivenEdit → List ℕ → ℕ → List ℕ → List ℕ → List ℕ → Type 0
IsApplied edits name flags file new told = IsMadeBy (has_magic file) edits (utf8_lossy name) flags file new told

-- why the edits of an array make nothing of a file
abbrev pub TellsApplied : List GivenEdit → List ℕ → ℕ → List ℕ → CallError → Type 0
TellsApplied edits name flags file e = OrMemory (TellsBy (has_magic file) edits (utf8_lossy name) flags file) e

-- ## Words

abbrev pub IsMadeByWords : Bool → List Text → List ℕ → ℕ → List ℕ → List ℕ → List ℕ → Type 0
IsMadeByWords true words name flags file new told = IsElfOf (elf_edits_of words) name flags file new told
IsMadeByWords false words name flags file new told = IsMachoOf (edits_of words) name flags file new told

abbrev pub TellsByWords : Bool → List Text → List ℕ → ℕ → List ℕ → CallError → Type 0
TellsByWords true words name flags file e = TellsElfOf Words (elf_edits_of words) flags file e
TellsByWords false words name flags file e = TellsMachoOf Words (edits_of words) name flags file e

-- what the edits make that words name, and why they make nothing; a word that is no UTF-8 counts first
abbrev pub IsAppliedByWords : List Text → List ℕ → ℕ → List ℕ → List ℕ → List ℕ → Type 0
IsAppliedByWords texts name flags file new told =
    IsOkAnd (words_from 0 texts) (λ words. IsMadeByWords (has_magic file) words (utf8_lossy name) flags file new told)

abbrev pub TellsOfWords : List Text → List ℕ → ℕ → List ℕ → CallError → Type 0
TellsOfWords texts name flags file e =
    MatchResult (words_from 0 texts) (λ words. TellsByWords (has_magic file) words (utf8_lossy name) flags file e) (λ group. e ≡ NoText group)

abbrev pub TellsAppliedByWords : List Text → List ℕ → ℕ → List ℕ → CallError → Type 0
TellsAppliedByWords texts name flags file e = OrMemory (TellsOfWords texts name flags file) e

-- ## Signing

abbrev pub IsSigned : List ℕ → List ℕ → List ℕ → List ℕ → Type 0
IsSigned name file new told = IsMachoMade Left (sign (utf8_lossy name)) file new told

abbrev pub TellsUnsigned : List ℕ → List ℕ → CallError → Type 0
TellsUnsigned name file e = OrMemory (TellsMacho Left (sign (utf8_lossy name)) file) e
