-- What stays of needed versions where some go, and of the dynamic list with them (GNU symbol versioning, .gnu.version_r).
use Rattle.std.specs.Prelude.{ℕ, List, [], ◌∷◌, map, filter, Bool, false, ◌&&◌, ◌||◌, not, slice_index_or}
use Rattle.elf_format.specs.declared.constants.TheConstants.{DT_VERNEED, DT_VERNEEDNUM}
use Rattle.elf_format.specs.Dynamic.{Entry}
use Rattle.elf_format.specs.Image.{entry_tag}
use Rattle.elf_format.specs.Options.{is_one_of}
use Rattle.elf_format.specs.Versions.{VersionName, VersionNeeds}
use Rattle.elf_layout_plan.specs.Needs.{is_empty}

-- Marks of the versions that go, by the numbers by which symbols name them; and whether the tags of needed versions go.
pub record Staying : Type 0 where
  pub marks : List Bool
  pub are_gone : Bool

-- ## Needed versions

-- the mark of a version's index; none past the marks
abbrev pub mark_of : List Bool → ℕ → Bool
mark_of marks index = slice_index_or marks index false

abbrev pub does_version_stay : Staying → ℕ → Bool
does_version_stay s index = not (mark_of s.marks index)

-- the versions that stay where the marked ones go
abbrev pub unmarked_names : List Bool → List VersionName → List VersionName
unmarked_names marks names = filter (λ v. not (mark_of marks v.index)) names

-- a library's record goes with the last of its versions
abbrev pub is_unmarked : List Bool → VersionNeeds → Bool
is_unmarked marks n = is_empty n.versions || not (is_empty (unmarked_names marks n.versions))

abbrev pub with_unmarked_names : List Bool → VersionNeeds → VersionNeeds
with_unmarked_names marks n = record n { versions = unmarked_names marks n.versions }

-- the records that stay, each with its versions that stay
abbrev pub unmarked_needs : List Bool → List VersionNeeds → List VersionNeeds
unmarked_needs marks needs = map (with_unmarked_names marks) (filter (is_unmarked marks) needs)

-- ## The dynamic list

-- the entry is of needed versions
abbrev pub is_of_needs : Entry → Bool
is_of_needs e = is_one_of (DT_VERNEED ∷ DT_VERNEEDNUM ∷ []) (entry_tag e)

-- the entry stays, where those of needed versions may go
abbrev pub does_entry_stay : Bool → Entry → Bool
does_entry_stay without e = not (without && is_of_needs e)

abbrev pub staying_entries : Bool → List Entry → List Entry
staying_entries without entries = filter (does_entry_stay without) entries
