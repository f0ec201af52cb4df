-- The sections of an image that go and those that stay, where those that go are told by their numbers at read.
use Rattle.std.specs.Prelude.{ℕ, List, filter, Bool, not, Option}
use Rattle.std.specs.Option.{option_map}
use Rattle.elf_format.specs.Image.{Image}
use Rattle.elf_format.specs.Options.{is_one_of}
use Rattle.elf_image.specs.Kept.{KeptSection, kept_of_type, kept_sections}

-- the section has one of the numbers
abbrev pub goes : List ℕ → KeptSection → Bool
goes gone s = is_one_of gone s.number

-- the section has none of the numbers
abbrev pub stays : List ℕ → KeptSection → Bool
stays gone s = not (is_one_of gone s.number)

abbrev pub going : List ℕ → Image → List KeptSection
going gone image = filter (goes gone) (kept_sections image)

abbrev pub staying : List ℕ → Image → List KeptSection
staying gone image = filter (stays gone) (kept_sections image)

-- the number at read of the first section of a type
abbrev pub table_number : ℕ → Image → Option ℕ
table_number type image = option_map (λ s. s.number) (kept_of_type type image)
