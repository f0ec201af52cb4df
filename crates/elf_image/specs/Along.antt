-- What goes along with sections.
use Rattle.std.specs.Prelude.{ℕ, ◌+◌, List, [], ◌∷◌, filter, map, Bool, ◌&&◌, ◌||◌, not, ◌==◌, if◌then◌else◌, nat_le, nat_lt}
use Rattle.std.specs.List.{list_any, zip}
use Rattle.elf_format.specs.declared.constants.TheConstants.{PT_DYNAMIC, PT_GNU_STACK, PT_INTERP, PT_LOAD, SHT_NULL, SHT_SYMTAB}
use Rattle.elf_format.specs.declared.records.SegmentHeader.{SegmentHeader}
use Rattle.elf_format.specs.Image.{Image, ImageSection}
use Rattle.elf_format.specs.Options.{is_one_of, is_some_and}
use Rattle.elf_format.specs.Places.{occupies_memory}
use Rattle.elf_format.specs.Views.{NamedSymbol}
use Rattle.elf_image.specs.Kept.{interpreter_number, place_at_read}
use Rattle.elf_image.specs.Staying.{going, staying, table_number}

-- ## Symbols

-- a static symbol that was read at a number goes along: with its table, or, if it isn't the first, with the section that it is defined
-- in (gABI, Symbol Table, st_shndx)
abbrev pub goes_along : Image → List ℕ → ℕ → NamedSymbol → Bool
goes_along image gone number y = is_some_and (is_one_of gone) (table_number SHT_SYMTAB image) || not (number == 0) && is_one_of gone y.st_shndx

-- the numbers at read of the static symbols that go along
abbrev pub symbols_along : Image → List ℕ → List ℕ
symbols_along image gone = map (λ x. x.0) (filter (λ x. goes_along image gone x.0 x.1) (zip image.symbol_numbers image.symbols))

-- ## Program headers

-- an address lies in a program header's memory (gABI, Program Header, p_vaddr and p_memsz)
abbrev pub is_within : SegmentHeader → ℕ → Bool
is_within p address = nat_le p.p_vaddr address && nat_lt address (p.p_vaddr + p.p_memsz)

-- a section takes memory
abbrev pub is_in_memory : ImageSection → Bool
is_in_memory s = occupies_memory (place_at_read s) && not (s.sh_type == SHT_NULL)

-- a section that takes memory begins there
abbrev pub begins_in : SegmentHeader → ImageSection → Bool
begins_in p s = is_in_memory s && is_within p s.sh_addr

-- a program header is deserted: of the sections that begin in its memory one goes and none stays, and it is none of those that stay
-- whatever goes; that of the interpreter is deserted by the interpreter's section (gABI, Program Header)
abbrev pub is_deserted : Image → List ℕ → SegmentHeader → Bool
is_deserted image gone p =
    if p.p_type == PT_INTERP then is_some_and (is_one_of gone) (interpreter_number image)
    else not (is_one_of (PT_LOAD ∷ PT_DYNAMIC ∷ PT_GNU_STACK ∷ []) p.p_type)
    && list_any (λ s. begins_in p s.section) (going gone image) && not (list_any (λ s. begins_in p s.section) (staying gone image))
