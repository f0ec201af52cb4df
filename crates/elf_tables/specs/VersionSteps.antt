-- What the parts of version tables have in common while these are made.
use Rattle.std.specs.Prelude.{ℕ, ◌^◌, ◌<◌, length}
use Rattle.std.specs.List.{AllByRecursion}
use Rattle.elf_tables.specs.VersionRecords.{PlacedDefinition, PlacedName, PlacedNeeds}

-- the numbers of a defined version fit their fields
pub record DefinitionFits (d : PlacedDefinition) : Type 0 where
  pub index : d.index < 2 ^ 16
  pub flags : d.flags < 2 ^ 16
  pub count : length d.names < 2 ^ 16
  pub hash : d.hash < 2 ^ 32
  pub names : AllByRecursion (λ (name : ℕ). name < 2 ^ 32) d.names

-- the numbers of a needed version fit their fields
pub record NameFits (v : PlacedName) : Type 0 where
  pub hash : v.hash < 2 ^ 32
  pub flags : v.flags < 2 ^ 16
  pub index : v.index < 2 ^ 16
  pub name : v.name < 2 ^ 32

-- the numbers of a library's needed versions fit their fields
pub record NeedsFit (n : PlacedNeeds) : Type 0 where
  pub count : length n.versions < 2 ^ 16
  pub file : n.file < 2 ^ 32
  pub versions : AllByRecursion NameFits n.versions
