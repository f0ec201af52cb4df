-- Symbols and sections by their names, and the numbers that they had at read. Number 0 is that of the first symbol, which stands for
-- none, and of the null section (gABI, Symbol Table, STN_UNDEF; Sections, SHN_UNDEF): no edit is about it.
use Rattle.std.specs.Prelude.{ℕ, List, map, filter, drop, Bool, ◌&&◌, not, ◌==◌}
use Rattle.std.specs.List.{list_any, zip}
use Rattle.elf_format.specs.Image.{Image, ImageSection}
use Rattle.elf_format.specs.Views.{NamedSymbol}
use Rattle.elf_edits.specs.Symbols.{has_new_name, new_name}
use Rattle.elf_edits.specs.Texts.{is_among}
use Rattle.elf_image.specs.SectionEdits.{with_section_name}

abbrev pub symbol_name : NamedSymbol → List ℕ
symbol_name y = y.name

abbrev pub section_name : ImageSection → List ℕ
section_name s = s.name

-- the numbers of those that pass a test, but 0
abbrev pub numbers_passing : {A : Type 0} → (A → Bool) → List ℕ → List A → List ℕ
numbers_passing test numbers own = map (λ x. x.0) (filter (λ x. not (x.0 == 0) && test x.1) (zip numbers own))

-- ## With some names

-- the static symbols, the dynamic symbols and the sections that have one of some names
abbrev pub named_symbols : List (List ℕ) → Image → List ℕ
named_symbols names image = numbers_passing (λ y. is_among names (symbol_name y)) image.symbol_numbers image.symbols

abbrev pub named_dynamic_symbols : List (List ℕ) → Image → List ℕ
named_dynamic_symbols names image = numbers_passing (λ y. is_among names (symbol_name y)) image.dynamic_symbol_numbers image.dynamic_symbols

abbrev pub named_sections : List (List ℕ) → Image → List ℕ
named_sections names image = numbers_passing (λ s. is_among names (section_name s)) image.section_numbers image.sections

-- ## Sections with other names

-- the section with the name that some pairs of an old and a new name have for its own, if they have one
abbrev pub renamed_section : List (List ℕ × List ℕ) → ImageSection → ImageSection
renamed_section pairs s = with_section_name (new_name pairs s.name) s

-- some pairs of an old and a new name have another name for a section behind the first
abbrev pub is_section_renamed : List (List ℕ × List ℕ) → List ImageSection → Bool
is_section_renamed pairs sections = list_any (λ s. has_new_name pairs s.name) (drop 1 sections)
