-- An image without some of its sections, which are told by their numbers at read, and what goes along with them.
use Rattle.std.specs.Prelude.{ℕ, ◌≡◌, List, [], ◌∷◌, All, Contains, Bool, true, false, filter, map, not, None, if◌then◌else◌}
use Rattle.std.specs.List.{items_where_true}
use Rattle.elf_format.specs.declared.constants.TheConstants.{SHT_SYMTAB}
use Rattle.elf_format.specs.declared.records.SegmentHeader.{SegmentHeader}
use Rattle.elf_format.specs.Image.{Image}
use Rattle.elf_format.specs.Options.{is_one_of, is_some_and}
use Rattle.elf_image.specs.Along.{is_deserted, symbols_along}
use Rattle.elf_image.specs.Kept.{interpreter_number}
use Rattle.elf_image.specs.Needed.{is_section_used}
use Rattle.elf_image.specs.Relocated.{is_symbol_used}
use Rattle.elf_image.specs.Staying.{staying, table_number}

-- ## What is left of lists

-- the number is none of those that go
abbrev pub is_left : List ℕ → ℕ → Bool
is_left gone number = not (is_one_of gone number)

-- the numbers that don't go
abbrev pub numbers_left : List ℕ → List ℕ → List ℕ
numbers_left gone numbers = filter (is_left gone) numbers

-- those of some parts of a file, each with its number at read, of which the number doesn't go
abbrev pub parts_left : {A : Type 0} → List ℕ → List ℕ → List A → List A
parts_left gone numbers parts = items_where_true (map (is_left gone) numbers) parts

-- the program headers that aren't deserted (gABI, Program Header)
abbrev pub segments_left : List ℕ → Image → List SegmentHeader
segments_left gone image = filter (λ p. not (is_deserted image gone p)) image.segments

-- the interpreter's section is one of those that go (gABI, Program Header, PT_INTERP)
abbrev pub does_interpreter_go : List ℕ → Image → Bool
does_interpreter_go gone image = is_some_and (is_one_of gone) (interpreter_number image)

-- ## The image

-- with these sections go the static symbols and program headers that go along, and the interpreter with its section
abbrev pub with_deleted : List ℕ → Image → Image
with_deleted gone image = record image {
  changed = true;
  segments = segments_left gone image;
  sections = parts_left gone image.section_numbers image.sections;
  section_numbers = numbers_left gone image.section_numbers;
  symbols = parts_left (symbols_along image gone) image.symbol_numbers image.symbols;
  symbol_numbers = numbers_left (symbols_along image gone) image.symbol_numbers;
  interpreter = if does_interpreter_go gone image then None else image.interpreter;
}

-- an image without sections is as it was where no section goes
abbrev pub without_sections : List ℕ → Image → Image
without_sections [] image = image
without_sections (n ∷ ns) image = with_deleted (n ∷ ns) image

-- Sections that can go: each is there, none of them is in use, and no relocation of a section that stays names a static symbol that
-- goes along (gABI, Relocation).
pub record CanDelete (image : Image) (gone : List ℕ) : Type 0 where
  pub there : All (Contains image.section_numbers) gone
  pub unused : is_section_used image gone ≡ false
  pub unnamed : is_symbol_used image.form (table_number SHT_SYMTAB image) (symbols_along image gone) (staying gone image) ≡ false
