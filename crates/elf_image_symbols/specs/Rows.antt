-- Symbols under edits: examples that were worked out by hand.
use Rattle.std.specs.Prelude.{ℕ, ◌≡◌, List, [], ◌∷◌, map, true, false, Option, Some, None, remove}
use Rattle.elf_format.specs.ByteString.{borrowed_string, owned_string}
use Rattle.elf_format.specs.declared.version_id.VersionId.{VersionId}
use Rattle.elf_format.specs.Views.{NamedSymbol}
use Rattle.elf_image_symbols.specs.declared.change.Change.{Change}
use Rattle.elf_image_symbols.specs.Changes.{change_at, symbol_now}
use Rattle.elf_image_symbols.specs.EditedList.{EditedList, as_read, changed_at, with_global_version, with_name, without_numbers}

-- a function of section 5, with a name and a version
abbrev pub function : List ℕ → Option VersionId → NamedSymbol
function name version = record { name = name; st_info = 0x12; st_other = 0; st_shndx = 5; st_value = 64; st_size = 8; version = version }

abbrev pub version : ℕ → Option VersionId
version index = Some (record { index = index; hidden = false })

-- symbols a, b, c and d; the version of b is hidden, and that of c the global one
abbrev pub read : List NamedSymbol
read =
    function (97 ∷ []) (version 2)
    ∷ function (98 ∷ []) (Some (record { index = 3; hidden = true }))
    ∷ function (99 ∷ []) (version 1)
    ∷ function (100 ∷ []) (version 2)
    ∷ []

-- b is x, with its version cleared, and d is y
abbrev pub now : List NamedSymbol
now =
    function (97 ∷ []) (version 2)
    ∷ function (120 ∷ []) (version 1)
    ∷ function (99 ∷ []) (version 1)
    ∷ function (121 ∷ []) (version 2)
    ∷ []

abbrev pub edited : EditedList
edited = record {
  read = read;
  numbers = 0 ∷ 1 ∷ 2 ∷ 3 ∷ [];
  symbols = changed_at 1 with_global_version (changed_at 3 (with_name (121 ∷ [])) (changed_at 1 (with_name (120 ∷ [])) read));
}

-- the changes that clear the version of b, renamed to x, and rename d to y
abbrev pub changes : List Change
changes =
    record { number = 1; name = owned_string (120 ∷ []); is_cleared = true }
    ∷ record { number = 3; name = borrowed_string (121 ∷ []); is_cleared = false }
    ∷ []

-- a change of each, those of a and c leaving them as they were read
abbrev pub spread : List Change
spread =
    record { number = 0; name = borrowed_string (97 ∷ []); is_cleared = false }
    ∷ record { number = 1; name = owned_string (120 ∷ []); is_cleared = true }
    ∷ record { number = 2; name = borrowed_string (99 ∷ []); is_cleared = false }
    ∷ record { number = 3; name = borrowed_string (121 ∷ []); is_cleared = false }
    ∷ []

-- a and c, as they were read
abbrev pub left : List NamedSymbol
left = function (97 ∷ []) (version 2) ∷ function (99 ∷ []) (version 1) ∷ []

pub record EditRows : Type 0 where
  pub none : as_read read ≡ record { read = read; numbers = 0 ∷ 1 ∷ 2 ∷ 3 ∷ []; symbols = read }
  pub two_renamed : edited.symbols ≡ now
  -- the second is gone, and then the third of those that are left: numbers 1 and 3
  pub two_gone : remove (remove edited.numbers 1) 2 ≡ 0 ∷ 2 ∷ []
  pub gone_by_number : without_numbers (1 ∷ 3 ∷ 7 ∷ []) edited ≡ record { read = read; numbers = 0 ∷ 2 ∷ []; symbols = left }
  -- a number that is gone isn't that of the symbol that stands now at its position
  pub gone_twice : without_numbers (1 ∷ []) (without_numbers (1 ∷ []) edited) ≡ without_numbers (1 ∷ []) edited
  pub without_versions : changed_at 0 with_global_version (function (97 ∷ []) None ∷ []) ≡ function (97 ∷ []) None ∷ []
  -- the change of a symbol that is gone is not another one's
  pub shown : map (symbol_now read changes) (0 ∷ 1 ∷ 2 ∷ 3 ∷ []) ≡ now
  pub shown_without : map (symbol_now read changes) (0 ∷ 2 ∷ []) ≡ left
  pub told_of_each : map (change_at read changes) (0 ∷ 1 ∷ 2 ∷ 3 ∷ []) ≡ spread
  pub shown_spread : map (symbol_now read spread) (0 ∷ 1 ∷ 2 ∷ 3 ∷ []) ≡ now
