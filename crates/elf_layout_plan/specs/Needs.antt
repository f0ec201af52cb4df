-- The needed versions that are written, and the dynamic list with them (GNU symbol versioning, .gnu.version_r). A version goes
-- where a dynamic symbol had it at read and none has it now: link editors also write versions that no symbol has.
use Rattle.std.specs.Prelude.{ℕ, List, [], ◌∷◌, map, filter, length, Bool, ◌&&◌, ◌||◌, not, Option, ◌==◌, if◌then◌else◌}
use Rattle.std.specs.List.{list_all, list_any}
use Rattle.std.specs.Option.{option_map}
use Rattle.elf_format.specs.declared.constants.TheConstants.{DT_SYMTAB, DT_VERNEED, DT_VERNEEDNUM, DT_VERSYM}
use Rattle.elf_format.specs.Dynamic.{Entry}
use Rattle.elf_format.specs.Image.{Image, entry_tag, lists_tag}
use Rattle.elf_format.specs.Options.{is_one_of, is_some_and}
use Rattle.elf_format.specs.Versions.{VersionName, VersionNeeds}
use Rattle.elf_format.specs.Views.{NamedSymbol}

-- a symbol has the version with that index
abbrev pub is_version_used : List NamedSymbol → ℕ → Bool
is_version_used symbols index = list_any (λ y. is_some_and (λ v. v.index == index) y.version) symbols

-- a symbol had the version at read, and none has it now
abbrev pub is_version_dropped : Image → Image → ℕ → Bool
is_version_dropped read image index = is_version_used read.dynamic_symbols index && not (is_version_used image.dynamic_symbols index)

-- the dynamic list names the symbols, their versions, the needed versions and how many there are
abbrev pub lists_needs : List Entry → Bool
lists_needs entries = list_all (λ tag. lists_tag tag entries) (DT_SYMTAB ∷ DT_VERSYM ∷ DT_VERNEED ∷ DT_VERNEEDNUM ∷ [])

-- the versions needed of a library that stay
abbrev pub staying_names : Image → Image → List VersionName → List VersionName
staying_names read image names = filter (λ v. not (is_version_dropped read image v.index)) names

abbrev pub is_empty : {A : Type 0} → List A → Bool
is_empty xs = length xs == 0

-- a library's record goes with the last of its versions
abbrev pub do_needs_stay : Image → Image → VersionNeeds → Bool
do_needs_stay read image n = is_empty n.versions || not (is_empty (staying_names read image n.versions))

abbrev pub with_staying_names : Image → Image → VersionNeeds → VersionNeeds
with_staying_names read image n = record n { versions = staying_names read image n.versions }

-- the records that stay, each with its versions that stay
abbrev pub staying_needs : Image → Image → List VersionNeeds
staying_needs read image = map (with_staying_names read image) (filter (do_needs_stay read image) image.needs)

-- The needed versions that are written: none goes where the dynamic list doesn't lead a loader to them.
unfoldable pub written_needs : Image → Image → List VersionNeeds
written_needs read image = if is_some_and lists_needs image.entries then staying_needs read image else image.needs

-- records were there, and none is left
abbrev pub are_needs_gone : Image → Image → Bool
are_needs_gone read image = not (is_empty image.needs) && is_empty (written_needs read image)

-- The dynamic list that is written, before its DT_NULL: without the tags of needed versions where none of these is left.
unfoldable pub written_entries : Image → Image → Option (List Entry)
written_entries read image =
    if are_needs_gone read image
    then option_map (λ entries. filter (λ e. not (is_one_of (DT_VERNEED ∷ DT_VERNEEDNUM ∷ []) (entry_tag e))) entries) image.entries
    else image.entries
