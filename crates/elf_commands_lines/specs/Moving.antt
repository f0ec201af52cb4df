-- What a command for ELF files asks for where leave is given that the dynamic section moves.
use Rattle.std.specs.Prelude.{List, [], ◌∷◌, Option, Some, None, codes, if◌then◌else◌}
use Rattle.std.specs.Option.{option_map}
use Rattle.std.specs.Str.{bytes_eq}
use Rattle.command_words.specs.Rows.{Given, Text, options, path, text, texts, words}
use Rattle.elf_commands_lines.specs.Meaning.{ElfMeaning, apply_moving_elf}

-- the file of an edit, and the words of that edit in `apply`
abbrev pub group_of : Text → Given → Option (Text × List Text)
group_of name (path file) = Some (file, name ∷ [])
group_of name (text value file) = Some (file, name ∷ value ∷ [])
group_of name (texts first second file) = None
group_of name (words file list) = Some (file, name ∷ list)
group_of name (options file list) = None

-- the file and the words of `apply` itself
abbrev pub groups_of : Text → Given → Option (Text × List Text)
groups_of name (words file list) = if bytes_eq name (codes "apply") then Some (file, list) else group_of name (words file list)
groups_of name given = group_of name given

-- what a command asks for with its values and the leave: what `apply` does with it; none of one that `apply` has no words for
abbrev pub meant_moving : Text → Given → Option ElfMeaning
meant_moving name given = option_map (λ asked. apply_moving_elf asked.0 asked.1) (groups_of name given)
