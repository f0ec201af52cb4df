-- The options that may stand anywhere on a line before `--` and take no value.
use Rattle.std.specs.Prelude.{Bool, true, false, ◌||◌, List, [], ◌∷◌, codes, if◌then◌else◌}
use Rattle.std.specs.Str.{bytes_eq}
use Rattle.command_words.specs.Rows.{Text}
use Rattle.arwen_cli_options.specs.declared.flags.Flag.{Flag}
use Rattle.arwen_cli_options.specs.declared.flags.Flag.TheVariants.{MoveDynamic, Quiet, Sign}

-- the word behind which all are values
abbrev pub is_mark : Text → Bool
is_mark word = bytes_eq word (codes "--")

-- words have an option before that
abbrev pub has_flag : (Text → Bool) → List Text → Bool
has_flag is_flag [] = false
has_flag is_flag (word ∷ words) = if is_mark word then false else (if is_flag word then true else has_flag is_flag words)

-- words without it
abbrev pub without_flag : (Text → Bool) → List Text → List Text
without_flag is_flag [] = []
without_flag is_flag (word ∷ words) =
    if is_flag word then without_flag is_flag words
    else if is_mark word then word ∷ words
    else word ∷ without_flag is_flag words

-- notes are left out
abbrev pub is_quiet_word : Text → Bool
is_quiet_word word = bytes_eq word (codes "-q") || bytes_eq word (codes "--quiet")

-- the dynamic section of an edited ELF file may move
abbrev pub is_move_word : Text → Bool
is_move_word word = bytes_eq word (codes "--move-dynamic")

-- the code signatures of edited Mach-O files are made to fit again
abbrev pub is_sign_word : Text → Bool
is_sign_word word = bytes_eq word (codes "--sign")

-- the words of each
abbrev pub is_flag_word : Flag → Text → Bool
is_flag_word Quiet word = is_quiet_word word
is_flag_word MoveDynamic word = is_move_word word
is_flag_word Sign word = is_sign_word word
