-- What the walks of version records answer, and the marks of known versions.
use Rattle.std.specs.Prelude.{ℕ, ◌≡◌, ◌<◌, ◌^◌, ◌||◌, ◌==◌, List, [], ◌∷◌, map, length, Bool, true, false, not, nat_lt, Option, Some, None, Result, Ok, Err, alloc_error, slice_index_or, slice_set}
use Rattle.std.specs.List.{flat_map}
use Rattle.std.specs.declared.alloc.AllocError.{AllocError}
use Rattle.elf_format.specs.declared.constants.TheConstants.{SHT_DYNAMIC, SHT_DYNSYM, SHT_GNU_VERDEF, SHT_GNU_VERNEED, SHT_NULL, VER_NDX_FIRST}
use Rattle.elf_format.specs.declared.view_fault.ViewFault.{ViewFault}
use Rattle.elf_format.specs.declared.view_fault.ViewFault.TheVariants as faults
use Rattle.elf_image_versions.specs.declared.chain.Linked.{Linked}
use Rattle.elf_image_versions.specs.declared.walks.Walk.{Walk}
use Rattle.elf_format.specs.declared.records.SectionHeader.{SectionHeader}
use Rattle.elf_format.specs.declared.version_id.VersionId.{VersionId}
use Rattle.elf_format.specs.File.{Parts, section_of_type}
use Rattle.elf_format.specs.Options.{is_none_or, is_one_of, list_at}
use Rattle.elf_format.specs.Rules.{definition_steps, need_steps}
use Rattle.elf_format.specs.Versions.{DefinitionNumbers, NeedNumbers, Step, is_whole_walk, values_of, chain_steps}

-- what was read, or none where it isn't there, unless memory ran out
abbrev pub IsFound : {X : Type 0} → Result X ViewFault → Result (Option X) AllocError → Type 0
IsFound (Ok x) found = found ≡ Ok (Some x)
IsFound (Err fault) found = found ≡ elim fault [ faults.Absent ↦ Ok None | faults.Memory ↦ Err alloc_error ]

-- the values of a chain as far as it can be walked, and whether that is all of it
pub record IsWalk {A : Type 0} (read : ℕ → Option (Step A)) (count a : ℕ) (values : List A) (is_whole : Bool) : Type 0 where
  pub all : values ≡ values_of (chain_steps read count a)
  pub whole : is_whole ≡ is_whole_walk count (chain_steps read count a)

-- the defined versions of a file, and the needed ones, as far as their records can be walked
abbrev pub defined_in : Parts → List DefinitionNumbers
defined_in p = list_at (λ s. values_of (definition_steps p s)) (section_of_type SHT_GNU_VERDEF p.sections)

abbrev pub needed_in : Parts → List NeedNumbers
needed_in p = list_at (λ s. values_of (need_steps p s)) (section_of_type SHT_GNU_VERNEED p.sections)

-- the walk of the one section of defined versions, and of the one of needed versions
abbrev pub AreDefinitions : Parts → Walk DefinitionNumbers → Type 0
AreDefinitions p w =
    (w.values.items ≡ defined_in p)
    × (w.is_whole ≡ is_none_or (λ s. is_whole_walk s.sh_info (definition_steps p s)) (section_of_type SHT_GNU_VERDEF p.sections))

abbrev pub AreNeeds : Parts → Walk NeedNumbers → Type 0
AreNeeds p w =
    (w.values.items ≡ needed_in p)
    × (w.is_whole ≡ is_none_or (λ s. is_whole_walk s.sh_info (need_steps p s)) (section_of_type SHT_GNU_VERNEED p.sections))

-- the indices of defined versions, and of needed ones
abbrev pub indices_defined : List DefinitionNumbers → List ℕ
indices_defined definitions = map (λ d. d.index) definitions

abbrev pub indices_needed : List NeedNumbers → List ℕ
indices_needed needs = flat_map (λ n. map (λ v. v.index) n.versions) needs

-- the index of a version is one of those below the first for versions, or has a mark
abbrev pub is_low_or_marked : List Bool → VersionId → Bool
is_low_or_marked marks v = nat_lt v.index VER_NDX_FIRST || slice_index_or marks v.index false

-- the types of section whose texts may stand in the dynamic strings
abbrev pub users_of_texts : List ℕ
users_of_texts = SHT_NULL ∷ SHT_DYNAMIC ∷ SHT_DYNSYM ∷ SHT_GNU_VERDEF ∷ SHT_GNU_VERNEED ∷ []

-- a section has its texts elsewhere than another, or may have them there
abbrev pub leaves_texts_of : SectionHeader → SectionHeader → Bool
leaves_texts_of user s = not (s.sh_link == user.sh_link) || is_one_of users_of_texts s.sh_type

-- a mark at each of some places
unfoldable pub marked : List ℕ → List Bool → List Bool
marked [] marks = marks
marked (n ∷ ns) marks = marked ns (slice_set marks n true)

-- a record of a chain, as a step of a walk
abbrev pub step_of : {A : Type 0} → Linked A → Step A
step_of r = record { value = r.value; is_whole = r.is_whole; next = r.next }

-- the marks at the indices of versions are those of the known ones
pub record AreMarked (known : List ℕ) (places : List Bool) : Type 0 where
  pub long : length places ≡ 2 ^ 16
  pub marks : (n : ℕ) → n < 2 ^ 16 → slice_index_or places n false ≡ is_one_of known n

-- so many places, none of them marked
pub record AreUnmarked (room : ℕ) (places : List Bool) : Type 0 where
  pub long : length places ≡ room
  pub unmarked : (n : ℕ) → slice_index_or places n false ≡ false
