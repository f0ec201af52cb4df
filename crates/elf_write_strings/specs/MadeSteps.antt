-- The steps of telling string tables anew.
use Rattle.std.specs.Prelude.{ℕ, ◌≡◌, List, Option, Some, None}
use Rattle.elf_format.specs.declared.constants.TheConstants.{SHT_SYMTAB}
use Rattle.elf_format.specs.Image.{Image}
use Rattle.elf_image.specs.Kept.{dynamic_strings_number, link_of_type}
use Rattle.elf_write_strings.specs.declared.made.Made.{Made}
use Rattle.elf_write_strings.specs.WrittenStrings.{AreAsRead, IsTold, made_of}

-- the table that had a number, told anew, or none where it is as it was read
abbrev pub IsAsTold : Image → Image → ℕ → Option Made → Type 0
IsAsTold read image number None = AreAsRead read image number
IsAsTold read image number (Some m) = (m.number ≡ number) × IsTold read image m

-- each of the tables that are made is told
abbrev pub AreTold : Image → Image → List Made → Type 0
AreTold read image made = (number : ℕ) (m : Made) → made_of made number ≡ Some m → IsTold read image m

-- each table that was there is
abbrev pub AreMore : List Made → List Made → Type 0
AreMore old new = (number : ℕ) → made_of new number ≡ None → made_of old number ≡ None

-- the dynamic strings are told, or as they were read
abbrev pub AreDynamicTold : Image → Image → List Made → Type 0
AreDynamicTold read image made =
    (number : ℕ) → dynamic_strings_number image ≡ Some number → made_of made number ≡ None → AreAsRead read image number

-- the names of static symbols are told, or as they were read
abbrev pub AreStaticTold : Image → Image → List Made → Type 0
AreStaticTold read image made =
    (number : ℕ) → link_of_type SHT_SYMTAB image ≡ Some number → made_of made number ≡ None → AreAsRead read image number
