-- What a command tells that a user should know of an edit of a Mach-O file: that it is signed, or that a signature is left.
use Rattle.std.specs.Prelude.{ℕ, ◌≡◌, ◌++◌, List, [], Bool, None, Option, Some, codes, if◌then◌else◌}
use Rattle.std.specs.List.{list_any}
use Rattle.arwen_macho.specs.Container.{first_container}
use Rattle.arwen_macho.specs.Found.{container_found}
use Rattle.arwen_macho.specs.declared.macho.MachoType.{MachoType}
use Rattle.command_words.specs.Rows.{Text}
use Rattle.macho_commands.specs.Engine.{Asked, asked, outcome_of, signs_of}
use Rattle.macho_commands.specs.Engine.Outcome.{bytes as made}
use Rattle.macho_commands.specs.Meaning.{MachoMeaning, file_of}
use Rattle.macho_commands.specs.declared.signing.Signing.{Signing}
use Rattle.macho_commands.specs.declared.signing.Signs.{Signs}
use Rattle.macho_commands.specs.declared.signing.Signs.TheVariants.{Nothing, Touched, Whole}
use Rattle.macho_commands_stores.specs.Signed.{is_signed_file}
use Rattle.macho_signing.specs.File.{has_identity_in, parts_of}
use Rattle.command_words.specs.declared.noting.Notes.{Notes}
use Rattle.command_words.specs.declared.noting.Notes.TheVariants.{LeftOut, Wanted}

-- the line of a signed file
abbrev pub note_line : Bool → Text → Text
note_line signed path =
    if signed then codes "note: " ++ path ++ codes ": its code signature no longer fits: sign it again after the last edit\n" else []

-- a file is read, and the line told of it
abbrev pub TellsNotes : Text → List ℕ → Text → Type 0
TellsNotes path file told = (container_found file ≡ None) × (told ≡ note_line (is_signed_file (first_container file)) path)

-- ---- where notes are wanted; else no line is told

-- of a file that was read
abbrev pub TellsOf : Notes → Text → MachoType → Text → Type 0
TellsOf Wanted path read told = told ≡ note_line (is_signed_file read) path
TellsOf LeftOut path read told = told ≡ []

abbrev pub TellsWanted : Notes → Text → List ℕ → Text → Type 0
TellsWanted Wanted path file told = TellsNotes path file told
TellsWanted LeftOut path file told = told ≡ []

-- ---- where slots were made anew: of a signature that an identity made, which is left

abbrev pub is_some_left : List ℕ → Bool
is_some_left edited = list_any (has_identity_in edited) (parts_of edited)

abbrev pub left_line : Signs → Bool → Text → Text
left_line Whole is path = if is then codes "note: " ++ path ++ codes ": its code signature is an identity's, and is left as it was\n" else []
left_line signs is path = note_line is path

abbrev pub TellsLeft : Signs → Notes → Bool → Text → Text → Type 0
TellsLeft signs Wanted is path told = told ≡ left_line signs is path
TellsLeft signs LeftOut is path told = told ≡ []

abbrev pub TellsSigned : Signs → Notes → Asked → Text → List ℕ → Text → Type 0
TellsSigned signs Wanted a path file told = (edited : List ℕ) × (outcome_of a file ≡ made edited) × (told ≡ left_line signs (is_some_left edited) path)
TellsSigned signs LeftOut a path file told = told ≡ []

-- ---- of a command

abbrev pub TellsBy : Signs → Notes → Asked → Text → List ℕ → Text → Type 0
TellsBy Nothing notes a path file told = TellsWanted notes path file told
TellsBy Touched notes a path file told = TellsSigned Touched notes a path file told
TellsBy Whole notes a path file told = TellsSigned Whole notes a path file told

abbrev pub TellsCommand : Signing → MachoMeaning → Notes → List ℕ → Text → Type 0
TellsCommand choice meaning notes file told = TellsBy (signs_of choice meaning) notes (asked meaning) (file_of meaning) file told

-- of known bytes at a path
abbrev pub TellsWantedAt : Signing → MachoMeaning → Notes → Option (List ℕ) → Text → Type 0
TellsWantedAt choice meaning Wanted known told = (file : List ℕ) → known ≡ Some file → TellsCommand choice meaning Wanted file told
TellsWantedAt choice meaning LeftOut known told = told ≡ []
