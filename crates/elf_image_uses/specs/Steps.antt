-- What the steps answer.
use Rattle.std.specs.Prelude.{ℕ, List, [], ◌∷◌, filter, map, Bool, ◌&&◌, ◌||◌, not, Option, ◌==◌, if◌then◌else◌}
use Rattle.std.specs.List.{list_any, zip}
use Rattle.elf_format.specs.declared.constants.TheConstants.{PT_DYNAMIC, PT_GNU_STACK, PT_INTERP, PT_LOAD, SHT_NULL}
use Rattle.elf_format.specs.declared.form.Form.{Form}
use Rattle.elf_format.specs.declared.records.SegmentHeader.{SegmentHeader}
use Rattle.elf_format.specs.Image.{Image, ImageSection}
use Rattle.elf_format.specs.Options.{is_one_of, is_some_and}
use Rattle.elf_format.specs.Records.{Relocation, relocations_in}
use Rattle.elf_format.specs.Views.{NamedSymbol}
use Rattle.elf_image.specs.Kept.{KeptSection, kept_sections}
use Rattle.elf_image_uses.specs.Along.{is_in_memory, is_within}
use Rattle.elf_image_uses.specs.Needed.{is_info_number, lasting_types}
use Rattle.elf_image_uses.specs.Relocated.{is_against}
use Rattle.elf_image_uses.specs.Staying.{goes, stays}

-- the section at a position
abbrev pub kept_as : ℕ → ℕ → ImageSection → KeptSection
kept_as position number s = record { position = position; number = number; section = s }

-- ## Relocations

-- a relocation names one of some symbols, which isn't symbol 0
abbrev pub names_one_of : List ℕ → Relocation → Bool
names_one_of numbers x = not (x.r_symbol == 0) && is_one_of numbers x.r_symbol

-- a section has such a relocation
abbrev pub has_name_of : Form → Option ℕ → List ℕ → ImageSection → Bool
has_name_of form table numbers s = is_against table s && list_any (names_one_of numbers) (relocations_in form s.sh_type s.content)

-- ## Sections

-- a section of that number and type lasts, where the section of names and that of the dynamic strings have these numbers
abbrev pub lasts : ℕ → Option ℕ → ℕ → ℕ → Bool
lasts names strings number type = number == 0 || number == names || is_some_and (λ n. n == number) strings || is_one_of lasting_types type

-- a section names one of those that go
abbrev pub names_gone : List ℕ → ImageSection → Bool
names_gone gone s = not (s.sh_type == SHT_NULL) && (is_one_of gone s.sh_link || is_info_number s && is_one_of gone s.sh_info)

-- ## What goes along

-- a static symbol goes along, where its table does or doesn't
abbrev pub goes_with : Bool → List ℕ → ℕ → NamedSymbol → Bool
goes_with table gone number y = table || not (number == 0) && is_one_of gone y.st_shndx

-- the numbers of the static symbols that go along
abbrev pub numbers_with : Bool → List ℕ → Image → List ℕ
numbers_with table gone image = map (λ x. x.0) (filter (λ x. goes_with table gone x.0 x.1) (zip image.symbol_numbers image.symbols))

-- a section takes memory, and goes or stays
abbrev pub is_begin : Bool → List ℕ → KeptSection → Bool
is_begin go gone s = (if go then goes gone s else stays gone s) && is_in_memory s.section

-- where these begin
abbrev pub begins_of : Bool → List ℕ → Image → List ℕ
begins_of go gone image = map (λ s. s.section.sh_addr) (filter (is_begin go gone) (kept_sections image))

-- a program header is deserted, by where sections begin that go and that stay, and whether the interpreter's goes
abbrev pub deserted_by : List ℕ → List ℕ → Bool → SegmentHeader → Bool
deserted_by going staying interpreter p =
    if p.p_type == PT_INTERP then interpreter
    else not (is_one_of (PT_LOAD ∷ PT_DYNAMIC ∷ PT_GNU_STACK ∷ []) p.p_type) && list_any (is_within p) going && not (list_any (is_within p) staying)
