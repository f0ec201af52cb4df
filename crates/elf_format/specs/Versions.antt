-- The versions of symbols (GNU symbol versioning: .gnu.version, .gnu.version_d, .gnu.version_r).
use Rattle.std.specs.Prelude.{ℕ, zero, suc, ◌+◌, ◌%◌, List, [], ◌∷◌, map, length, Bool, true, ◌&&◌, not, Option, Some, None, nat_le, ◌==◌}
use Rattle.std.specs.List.{list_all}
use Rattle.patch_bytes.specs.Memory.{◌>>=◌, Memory, bytes_at, text_at}
use Rattle.elf_format.specs.declared.constants.TheConstants.{VERSYM_HIDDEN}
use Rattle.elf_format.specs.declared.version_id.VersionId.{VersionId}
pub use Rattle.elf_format.specs.declared.records.NeedNameNumbers.{NeedNameNumbers}
use Rattle.elf_format.specs.Form.{Form, fixed_field}
use Rattle.elf_format.specs.Options.{each}

-- the version that a number of .gnu.version names: the highest bit hides the symbol
unfoldable pub version_id : Form → List ℕ → VersionId
version_id form bytes =
    let number = fixed_field form (0, 2) bytes in
    record { index = number % VERSYM_HIDDEN; hidden = nat_le VERSYM_HIDDEN number }

-- A record of a chain: what it says, whether all that belongs to it is there, and how far behind its own
-- place the next record stands.
pub record Step (A : Type 0) : Type 0 where
  pub value : A
  pub is_whole : Bool
  pub next : ℕ

-- the records of a chain, as far as it can be walked: `count` at most, up to one that isn't there, isn't
-- whole or has no next
unfoldable pub chain_steps : {A : Type 0} → (ℕ → Option (Step A)) → ℕ → ℕ → List (Step A)
chain_steps read zero a = []
chain_steps read (suc count) a =
    elim (read a) [ None ↦ [] | Some step ↦ step ∷ (elim (step.is_whole && not (step.next == 0)) [ true ↦ chain_steps read count (a + step.next) | _ ↦ [] ]) ]

-- the walk met as many records as it should, all of them whole
abbrev pub is_whole_walk : {A : Type 0} → ℕ → List (Step A) → Bool
is_whole_walk count steps = length steps == count && list_all (λ s. s.is_whole) steps

abbrev pub values_of : {A : Type 0} → List (Step A) → List A
values_of steps = map (λ s. s.value) steps

-- A defined version, its names by where they stand in a string table (Elfxx_Verdef).
pub record DefinitionNumbers : Type 0 where
  pub index : ℕ
  pub flags : ℕ
  pub names : List ℕ

-- a name of a defined version (Elfxx_Verdaux)
unfoldable pub definition_name_at : Form → Memory → ℕ → Option (Step ℕ)
definition_name_at form memory a = do
  bytes ← bytes_at 8 memory a
  Some (record { value = fixed_field form (0, 4) bytes; is_whole = true; next = fixed_field form (4, 4) bytes })

unfoldable pub definition_at : Form → Memory → ℕ → Option (Step DefinitionNumbers)
definition_at form memory a = do
  bytes ← bytes_at 20 memory a
  let count = fixed_field form (6, 2) bytes in
      let names = chain_steps (definition_name_at form memory) count (a + fixed_field form (12, 4) bytes) in
      Some (record {
        value = record { index = fixed_field form (4, 2) bytes; flags = fixed_field form (2, 2) bytes; names = values_of names };
        is_whole = is_whole_walk count names;
        next = fixed_field form (16, 4) bytes;
      })

-- a needed version, its name by where it stands (Elfxx_Vernaux)
unfoldable pub need_name_at : Form → Memory → ℕ → Option (Step NeedNameNumbers)
need_name_at form memory a = do
  bytes ← bytes_at 16 memory a
  Some (record {
    value = record { index = fixed_field form (6, 2) bytes; name = fixed_field form (8, 4) bytes; flags = fixed_field form (4, 2) bytes };
    is_whole = true;
    next = fixed_field form (12, 4) bytes;
  })

-- The versions needed of one library, its name by where it stands (Elfxx_Verneed).
pub record NeedNumbers : Type 0 where
  pub file : ℕ
  pub versions : List NeedNameNumbers

unfoldable pub need_at : Form → Memory → ℕ → Option (Step NeedNumbers)
need_at form memory a = do
  bytes ← bytes_at 16 memory a
  let count = fixed_field form (2, 2) bytes in
      let versions = chain_steps (need_name_at form memory) count (a + fixed_field form (8, 4) bytes) in
      Some (record {
        value = record { file = fixed_field form (4, 4) bytes; versions = values_of versions };
        is_whole = is_whole_walk count versions;
        next = fixed_field form (12, 4) bytes;
      })

-- A defined version as it is shown: its own name, then those of the versions that it comes after.
pub record VersionDefinition : Type 0 where
  pub index : ℕ
  pub flags : ℕ
  pub names : List (List ℕ)

unfoldable pub shown_definition : ℕ → Memory → DefinitionNumbers → Option VersionDefinition
shown_definition room texts d = do
  names ← each (text_at room texts) d.names
  Some (record { index = d.index; flags = d.flags; names = names })

-- A needed version as it is shown.
pub record VersionName : Type 0 where
  pub index : ℕ
  pub name : List ℕ
  pub flags : ℕ

unfoldable pub shown_need_name : ℕ → Memory → NeedNameNumbers → Option VersionName
shown_need_name room texts v = do
  name ← text_at room texts v.name
  Some (record { index = v.index; name = name; flags = v.flags })

-- The versions needed of one library as they are shown.
pub record VersionNeeds : Type 0 where
  pub file : List ℕ
  pub versions : List VersionName

unfoldable pub shown_need : ℕ → Memory → NeedNumbers → Option VersionNeeds
shown_need room texts n = do
  file ← text_at room texts n.file
  versions ← each (shown_need_name room texts) n.versions
  Some (record { file = file; versions = versions })
