-- The versions of dynamic symbols as a table (GNU symbol versioning, .gnu.version).
use Rattle.std.specs.Prelude.{ℕ, ◌*◌, ◌≡◌, List, length, map, Some}
use Rattle.std.specs.List.{filter_map}
use Rattle.elf_format.specs.declared.version_id.VersionId.{VersionId}
use Rattle.elf_format.specs.declared.form.Form.{Form}
use Rattle.elf_format.specs.Form.{records}
use Rattle.elf_format.specs.Versions.{version_id}
use Rattle.elf_format.specs.Views.{NamedSymbol}

-- the versions of symbols that have one
abbrev pub versions_of : List NamedSymbol → List VersionId
versions_of ys = filter_map (λ y. y.version) ys

-- The bytes hold the version of each symbol, and nothing else.
pub record AreVersionsOf (form : Form) (ys : List NamedSymbol) (bytes : List ℕ) : Type 0 where
  pub sized : length bytes ≡ 2 * length ys
  pub versions : records (λ b. Some (version_id form b)) 2 (length ys) bytes ≡ map (λ y. y.version) ys
