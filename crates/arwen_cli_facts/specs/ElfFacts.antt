-- What is told of an ELF file: each fact is a part of its image, or of what that shows.
use Rattle.std.specs.Prelude.{ℕ, ◌≡◌, ◌+◌, ◌-◌, ◌/◌, ◌==◌, List, [], ◌∷◌, length, map, Bool, true, false, not, Option, Some, None, is_some, bit_and, option_map, string_bytes, if◌then◌else◌, Ok}
use Rattle.std.specs.List.{flat_map}
use Rattle.std.specs.Str.{bytes_eq}
use Rattle.elf_format.specs.declared.form.Form.{Form}
use Rattle.elf_format.specs.Records.{entry_size}
use Rattle.elf_format.specs.Versions.{VersionNeeds}
use Rattle.elf_format.specs.declared.constants.TheConstants.{DT_FLAGS_1, DT_RPATH, DT_RUNPATH, ET_EXEC, SHT_DYNAMIC}
use Rattle.elf_image.specs.Dynamic.{Auto, Entry, Integer, Text}
use Rattle.elf_image.specs.Options.{first_there}
use Rattle.elf_image.specs.Image.{Image, ImageSection, image_of, shown}
use Rattle.arwen_elf.specs.Prints.{before_nul, lossily}
use Rattle.arwen_elf.specs.Reads.{entries_shown, needed_shown, soname_shown, text_if}
use Rattle.arwen_elf.specs.WriterModel.{ShowsBothViews}
use Rattle.arwen_cli_facts.specs.Texts.{text_model, texts_model}
use Rattle.arwen_cli_facts.specs.declared.elf.ElfKind.{ElfKind}
use Rattle.arwen_cli_facts.specs.declared.elf.ElfNames.{ElfNames}
use Rattle.arwen_cli_facts.specs.declared.elf.ElfKind.TheVariants.{Library, PieProgram, Program, StaticPie}
use Rattle.arwen_cli_facts.specs.declared.elf.ElfSummary.{ElfSummary}
use Rattle.arwen_cli_facts.specs.declared.elf.NeededLibrary.{NeededLibrary}
use Rattle.arwen_cli_facts.specs.declared.elf.TheConstants.{DF_1_PIE}

-- A needed library, with the versions that are needed of it.
pub record LibraryFacts : Type 0 where
  pub name : List ℕ
  pub versions : List (List ℕ)

pub record ElfFacts : Type 0 where
  pub kind : ElfKind
  pub machine : ℕ
  pub form : Form
  pub os_abi : ℕ
  pub interpreter : Option (List ℕ)
  pub soname : Option (List ℕ)
  pub needed : List LibraryFacts
  pub rpath : Option (List ℕ)
  pub runpath : Option (List ℕ)
  pub stack_flags : Option ℕ
  pub flags_1 : Option ℕ
  pub spare_entries : Option ℕ

-- ## What a summary holds

abbrev pub library_model : NeededLibrary → LibraryFacts
library_model l = record { name = string_bytes l.name; versions = texts_model l.versions.items }

abbrev pub elf_model : ElfSummary → ElfFacts
elf_model s = record {
  kind = s.kind;
  machine = s.machine;
  form = s.form;
  os_abi = s.os_abi;
  interpreter = text_model s.interpreter;
  soname = text_model s.soname;
  needed = map library_model s.needed.items;
  rpath = text_model s.rpath;
  runpath = text_model s.runpath;
  stack_flags = s.stack_flags;
  flags_1 = s.flags_1;
  spare_entries = s.spare_entries;
}

-- ## What an image says

-- the number of an entry with a tag
abbrev pub number_if_tagged : ℕ → Entry → Option ℕ
number_if_tagged tag (Auto own) = None
number_if_tagged tag (Integer own value) = if own == tag then Some value else None
number_if_tagged tag (Text own text) = None

-- what the first entry tells that tells something
unfoldable pub first_told : {A : Type 0} → (Entry → Option A) → List Entry → Option A
first_told tells [] = None
first_told tells (e ∷ rest) = first_there (tells e) (first_told tells rest)

-- the number and the text of the first entry with a tag
abbrev pub number_tagged : ℕ → List Entry → Option ℕ
number_tagged tag entries = first_told (number_if_tagged tag) entries

abbrev pub text_tagged : ℕ → List Entry → Option (List ℕ)
text_tagged tag entries = first_told (text_if (tag ∷ [])) entries

-- the text of the first entry with a tag, as it is told
abbrev pub path_tagged : ℕ → Image → Option (List ℕ)
path_tagged tag image = option_map lossily (text_tagged tag (entries_shown (shown image)))

-- the flags mark a program that may be loaded anywhere
abbrev pub has_pie_flag : Option ℕ → Bool
has_pie_flag None = false
has_pie_flag (Some flags) = not (bit_and flags DF_1_PIE == 0)

-- what a file is that may be loaded anywhere: a program where the flags say so, or where it has an interpreter and
-- no name of its own
abbrev pub movable_kind : Bool → Bool → Bool → ElfKind
movable_kind true true has_soname = PieProgram
movable_kind true false has_soname = StaticPie
movable_kind false true false = PieProgram
movable_kind false true true = Library
movable_kind false false has_soname = Library

abbrev pub kind_of : ℕ → Bool → Bool → Bool → ElfKind
kind_of e_type is_pie has_interpreter has_soname = if e_type == ET_EXEC then Program else movable_kind is_pie has_interpreter has_soname

-- the versions that are needed of a library by one record (GNU symbol versioning, .gnu.version_r), and by all
abbrev pub versions_if : List ℕ → VersionNeeds → List (List ℕ)
versions_if name n = if bytes_eq n.file name then map (λ v. lossily v.name) n.versions else []

abbrev pub versions_needed : List ℕ → List VersionNeeds → List (List ℕ)
versions_needed name needs = flat_map (versions_if name) needs

abbrev pub library_facts : List VersionNeeds → List ℕ → LibraryFacts
library_facts needs name = record { name = lossily name; versions = versions_needed name needs }

-- how many bytes the first section of a type has, 0 without one
abbrev pub size_of_type : ℕ → List ImageSection → ℕ
size_of_type kind [] = 0
size_of_type kind (s ∷ rest) = if s.sh_type == kind then length s.content else size_of_type kind rest

-- how many entries can be put into the dynamic section before it has to grow: one of its places is for the DT_NULL
abbrev pub spare_entries : Image → Option ℕ
spare_entries image = option_map (λ list. size_of_type SHT_DYNAMIC image.sections / entry_size image.form - (length list + 1)) image.entries

abbrev pub flags_1_of : Image → Option ℕ
flags_1_of image = number_tagged DT_FLAGS_1 (entries_shown (shown image))

abbrev pub interpreter_of : Image → Option (List ℕ)
interpreter_of image = option_map (λ bytes. lossily (before_nul bytes)) (shown image).interpreter

abbrev pub elf_facts : Image → ElfFacts
elf_facts image = record {
  kind = kind_of image.header.e_type (has_pie_flag (flags_1_of image)) (is_some (shown image).interpreter) (is_some (soname_shown (shown image)));
  machine = image.header.e_machine;
  form = image.form;
  os_abi = (shown image).os_abi;
  interpreter = interpreter_of image;
  soname = option_map lossily (soname_shown (shown image));
  needed = map (library_facts image.needs) (needed_shown (shown image));
  rpath = path_tagged DT_RPATH image;
  runpath = path_tagged DT_RUNPATH image;
  stack_flags = (shown image).stack_flags;
  flags_1 = flags_1_of image;
  spare_entries = spare_entries image;
}

-- the facts of an accepted file, of which section headers show what a loader sees
abbrev pub AreElfFacts : List ℕ → ElfFacts → Type 0
AreElfFacts bytes facts = (image : Image) × (image_of bytes ≡ Ok image) × ShowsBothViews bytes image × (facts ≡ elf_facts image)

-- the texts that stand once in an image
pub record NamesOf (image : Image) (names : ElfNames) : Type 0 where
  pub interpreter : text_model names.interpreter ≡ interpreter_of image
  pub soname : text_model names.soname ≡ option_map lossily (soname_shown (shown image))
  pub rpath : text_model names.rpath ≡ path_tagged DT_RPATH image
  pub runpath : text_model names.runpath ≡ path_tagged DT_RUNPATH image
