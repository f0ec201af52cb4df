-- What lines ask by these options.
use Rattle.std.specs.Prelude.{Bool, false, ◌&&◌, List, [], ◌∷◌, codes, if◌then◌else◌}
use Rattle.std.specs.Str.{bytes_eq}
use Rattle.command_words.specs.Rows.{Text}
use Rattle.command_words.specs.declared.noting.Notes.{Notes}
use Rattle.command_words.specs.declared.noting.Notes.TheVariants.{LeftOut, Wanted}
use Rattle.arwen_cli_options.specs.Flags.{has_flag, is_move_word, is_quiet_word, is_sign_word, without_flag}

-- a line leaves notes out
abbrev pub is_quiet : List Text → Bool
is_quiet words = has_flag is_quiet_word words

abbrev pub notes_asked : List Text → Notes
notes_asked words = if is_quiet words then LeftOut else Wanted

abbrev pub without_quiet : List Text → List Text
without_quiet words = without_flag is_quiet_word words

-- the line is one of an ELF file
abbrev pub is_elf_line : List Text → Bool
is_elf_line [] = false
is_elf_line (word ∷ words) = bytes_eq word (codes "elf")

-- it gives the dynamic section leave to move
abbrev pub is_moving_line : List Text → Bool
is_moving_line words = is_elf_line words && has_flag is_move_word words

abbrev pub without_move : List Text → List Text
without_move words = without_flag is_move_word words

-- a line has the option by which signatures are made to fit
abbrev pub is_signed_line : List Text → Bool
is_signed_line words = has_flag is_sign_word words

-- the line is one of a Mach-O file
abbrev pub is_macho_line : List Text → Bool
is_macho_line [] = false
is_macho_line (word ∷ words) = bytes_eq word (codes "macho")

abbrev pub without_sign : List Text → List Text
without_sign words = without_flag is_sign_word words

-- a line without it, where it may have it
abbrev pub unsigned : List Text → List Text
unsigned words = if is_macho_line words then without_sign words else words
