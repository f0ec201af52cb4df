-- What an image is: one that was read from its source, with those changes that the calls of `Builder` can make.
use Rattle.std.specs.Prelude.{ℕ, ◌≡◌, ◌≢◌, ◌<◌, ◌≤◌, ◌⊎◌, List, [], ◌∷◌, ◌++◌, length, slice_index, All, false, true, not, ◌==◌, if◌then◌else◌, IsTrue, IsSome, Option, Some, None, unwrap_or, Ok}
use Rattle.std.specs.List.{list_any, slice_get}
use Rattle.std.specs.Option.{option_map, option_to_list}
use Rattle.elf_format.specs.declared.constants.TheConstants.{PT_DYNAMIC, PT_GNU_STACK, PT_LOAD}
use Rattle.elf_format.specs.declared.records.SegmentHeader.{SegmentHeader}
use Rattle.elf_format.specs.declared.version_id.VersionId.{VersionId}
use Rattle.elf_format.specs.Dynamic.{Entry}
use Rattle.elf_format.specs.File.{is_loaded, segment_of_type}
use Rattle.elf_format.specs.Image.{Image, ImageSection, image_of}
use Rattle.elf_format.specs.Versions.{VersionNeeds}
use Rattle.elf_format.specs.Views.{NamedSymbol}
use Rattle.elf_image_symbols.specs.EditedList.{as_global}
use Rattle.elf_image.specs.Complete.{IsComplete}
use Rattle.elf_image_headers.specs.DynamicList.{IsListed, all_but_last, holds_nul, tables_of}
use Rattle.elf_image_headers.specs.Segments.{added_stack, loads_end}
use Rattle.elf_image_headers.specs.Spare.{has_place}

-- ## Sections and symbols

-- Parts of a file that are still there: each is what was read at its number, but for what may change, and the
-- numbers rise.
pub record ArePicked {A : Type 0} (IsSame : A → A → Type 0) (read : List A) (numbers : List ℕ) (now : List A) : Type 0 where
  pub numbered : length numbers ≡ length now
  pub rising : (i j : ℕ) → i < j → j < length numbers → slice_index numbers i < slice_index numbers j
  pub same : (i : ℕ) (x : A) → slice_get now i ≡ Some x → (old : A) × (slice_get read (slice_index numbers i) ≡ Some old) × IsSame old x

-- the name has no NUL
abbrev pub IsName : List ℕ → Type 0
IsName name = IsTrue (not (holds_nul name))

-- the section with another name
abbrev pub IsSameSection : ImageSection → ImageSection → Type 0
IsSameSection old s = IsName s.name × (s ≡ record old { name = s.name })

-- the symbol with another name
abbrev pub IsSameSymbol : NamedSymbol → NamedSymbol → Type 0
IsSameSymbol old y = IsName y.name × (y ≡ record old { name = y.name })

-- the version that was read, or in its place that of a global symbol without one of its own (GNU symbol versioning)
abbrev pub IsVersionOf : Option VersionId → Option VersionId → Type 0
IsVersionOf old now = (now ≡ old) ⊎ (now ≡ as_global old)

-- the symbol with another name, its version perhaps cleared
abbrev pub IsSameDynamicSymbol : NamedSymbol → NamedSymbol → Type 0
IsSameDynamicSymbol old y = IsName y.name × IsVersionOf old.version y.version × (y ≡ record old { name = y.name; version = y.version })

-- ## Needed versions

-- the versions that are needed of a library, which may have another name, without a NUL (GNU symbol versioning, `Elfxx_Verneed`)
abbrev pub IsSameNeed : VersionNeeds → VersionNeeds → Type 0
IsSameNeed old n = ((n.file ≡ old.file) ⊎ IsName n.file) × (n ≡ record old { file = n.file })

-- library by library, in their order
abbrev pub AreSameNeeds : List VersionNeeds → List VersionNeeds → Type 0
AreSameNeeds [] [] = Unit {0}
AreSameNeeds [] (n ∷ ns) = ⊥
AreSameNeeds (old ∷ olds) [] = ⊥
AreSameNeeds (old ∷ olds) (n ∷ ns) = IsSameNeed old n × AreSameNeeds olds ns

-- the versions that were needed at read; without a dynamic list all of them are as they were read
pub record AreNeedsOf (read : Image) (now : List VersionNeeds) : Type 0 where
  pub same : AreSameNeeds read.needs now
  pub unlisted : read.entries ≡ None → now ≡ read.needs

-- ## Loaded segments that are laid out anew

-- A loaded segment that an edit took away: it starts behind those that are there, and was the one neither of the file header nor of the
-- program header table.
pub record IsReclaimed (table end : ℕ) (old : SegmentHeader) : Type 0 where
  pub loaded : old.p_type ≡ PT_LOAD
  pub behind : end ≤ old.p_vaddr
  pub no_header : old.p_offset ≢ 0
  pub no_table : has_place table old ≡ false

-- the loaded segments that were read, in their order, without some that an edit took away
abbrev pub AreUnclaimed : ℕ → ℕ → List SegmentHeader → List SegmentHeader → Type 0
AreUnclaimed table end [] [] = Unit {0}
AreUnclaimed table end [] (p ∷ ps) = ⊥
AreUnclaimed table end (old ∷ olds) [] = IsReclaimed table end old × AreUnclaimed table end olds []
AreUnclaimed table end (old ∷ olds) (p ∷ ps) =
    ((p ≡ old) × AreUnclaimed table end olds ps) ⊎ (IsReclaimed table end old × AreUnclaimed table end olds (p ∷ ps))

-- ## Program headers

-- a program header as it was read; where it is loaded with the page size that was set as its alignment, and where
-- it is for the stack with any flags
abbrev pub kept_segment : Option ℕ → ℕ → SegmentHeader → SegmentHeader
kept_segment page_size flags old = record old {
  p_flags = if old.p_type == PT_GNU_STACK then flags else old.p_flags;
  p_align = if old.p_type == PT_LOAD then unwrap_or page_size old.p_align else old.p_align;
}

-- a program header may go with sections: it is for nothing that is loaded, nor for the dynamic list or the stack
abbrev pub CanGo : SegmentHeader → Type 0
CanGo old = (old.p_type ≢ PT_LOAD) × (old.p_type ≢ PT_DYNAMIC) × (old.p_type ≢ PT_GNU_STACK)

-- the program headers that were read, in their order: some have gone, the others are as they are kept
abbrev pub AreKept : Option ℕ → List SegmentHeader → List SegmentHeader → Type 0
AreKept page_size [] [] = Unit {0}
AreKept page_size [] (p ∷ ps) = ⊥
AreKept page_size (old ∷ olds) [] = CanGo old × AreKept page_size olds []
AreKept page_size (old ∷ olds) (p ∷ ps) =
    ((p ≡ kept_segment page_size p.p_flags old) × AreKept page_size olds ps) ⊎ (CanGo old × AreKept page_size olds (p ∷ ps))

-- program headers of an edited image: behind those that were read stands at most one for the stack, where none was read; some loaded
-- segment is there where one was
pub record AreSegments (table : ℕ) (page_size : Option ℕ) (read now : List SegmentHeader) : Type 0 where
  pub unclaimed : List SegmentHeader
  pub are_unclaimed : AreUnclaimed table (loads_end now) read unclaimed
  pub loaded : list_any is_loaded read ≡ true → list_any is_loaded unclaimed ≡ true
  pub kept : List SegmentHeader
  pub added : Option ℕ
  pub are_kept : AreKept page_size unclaimed kept
  pub are_all : now ≡ kept ++ option_to_list (option_map added_stack added)
  pub only_one : IsSome added → segment_of_type PT_GNU_STACK read ≡ None

-- ## The dynamic list and the interpreter

-- a list names the tables that were read, in their order, and each of its entries may stand before the DT_NULL
pub record AreEntries (read now : List Entry) : Type 0 where
  pub tables : tables_of now ≡ tables_of read
  pub listed : All IsListed now

-- there is a list where one was read
abbrev pub AreEntriesOf : Option (List Entry) → Option (List Entry) → Type 0
AreEntriesOf None None = Unit {0}
AreEntriesOf None (Some now) = ⊥
AreEntriesOf (Some read) None = ⊥
AreEntriesOf (Some read) (Some now) = AreEntries read now

-- an interpreter is there only where one was read; it is that one, or a NUL stands in it last or nowhere
abbrev pub IsInterpreterOf : Option (List ℕ) → Option (List ℕ) → Type 0
IsInterpreterOf None None = Unit {0}
IsInterpreterOf None (Some now) = ⊥
IsInterpreterOf (Some read) None = Unit {0}
IsInterpreterOf (Some read) (Some now) = (now ≡ read) ⊎ IsTrue (not (holds_nul (all_but_last now)))

-- ## All of it

-- an image, and the one that was read from the same source
pub record IsEditOf (read image : Image) : Type 0 where
  pub form : image.form ≡ read.form
  pub header : image.header ≡ record read.header { os_abi = image.header.os_abi }
  pub segments : AreSegments read.header.e_phoff image.page_size read.segments image.segments
  pub sections : ArePicked IsSameSection read.sections image.section_numbers image.sections
  pub symbols : ArePicked IsSameSymbol read.symbols image.symbol_numbers image.symbols
  pub dynamic_symbols : ArePicked IsSameDynamicSymbol read.dynamic_symbols image.dynamic_symbol_numbers image.dynamic_symbols
  pub definitions : image.definitions ≡ read.definitions
  pub needs : AreNeedsOf read image.needs
  pub entries : AreEntriesOf read.entries image.entries
  pub interpreter : IsInterpreterOf read.interpreter image.interpreter
  -- what is there leans on nothing that went
  pub complete : IsComplete read image
  pub unchanged : image.changed ≡ false → image ≡ read

-- An image that was read from its source, and edited.
pub record IsEdited (image : Image) : Type 0 where
  pub read : Image
  pub is_read : image_of image.source ≡ Ok read
  pub is_edit : IsEditOf read image
