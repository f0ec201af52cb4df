-- The options of a line with their values, of which some stand in files.
use Rattle.std.specs.Prelude.{ℕ, ◌≡◌, ◌==◌, ◌&&◌, ◌||◌, ◌⊎◌, Bool, true, false, List, [], ◌∷◌, ◌++◌, map, Option, Ok, Err, codes, if◌then◌else◌, length, nat_lt, ⊤}
use Rattle.std.specs.List.{after_first, position_or_len}
use Rattle.std.specs.Str.{IsUtf8, bytes_eq, trim}
use Rattle.std.specs.Char.{to_ascii_lowercase}
use Rattle.byte_store.specs.Known.{IsAll}
use Rattle.byte_store.specs.declared.reading.ReadError.{ReadError}
use Rattle.byte_store.specs.declared.reading.ReadError.TheVariants as read
use Rattle.arwen_cli_options.specs.Options.{Asked, Text}
use Rattle.arwen_cli_patchelf_lines.specs.NameMaps.{pairs_of, spaced_all}
use Rattle.arwen_cli_patchelf_lines.specs.declared.name_maps.MapWrong.{MapWrong}
use Rattle.arwen_cli_patchelf_lines.specs.declared.values.Source.{Source}
use Rattle.arwen_cli_patchelf_lines.specs.declared.values.Source.TheVariants.{File, Line, NameMap, Nowhere}
use Rattle.arwen_cli_patchelf_lines.specs.declared.values.ValueCause.{ValueCause}
use Rattle.arwen_cli_patchelf_lines.specs.declared.values.ValueCause.TheVariants as cause
use Rattle.arwen_cli_patchelf_lines.specs.declared.values.ValueRefused.{ValueRefused}

-- ## Where values stand

-- an option sets, removes or adds to the run path
abbrev pub is_run_path : Text → Bool
is_run_path name = bytes_eq name (codes "--remove-rpath") || bytes_eq name (codes "--set-rpath") || bytes_eq name (codes "--add-rpath")

-- no byte is there
abbrev pub is_empty : Text → Bool
is_empty [] = true
is_empty (byte ∷ bytes) = false

-- a run path that shrinks is neither set nor added to nor removed; an interpreter without a name is none; what is added is aligned by
-- the file's machine
abbrev pub is_passed_over : Bool → Asked → Bool
is_passed_over shrinks one =
    if bytes_eq one.name (codes "--set-interpreter") then is_empty one.first
    else (bytes_eq one.name (codes "--page-size") || (shrinks && is_run_path one.name))

-- the value of an option may stand in a file
unfoldable pub takes_file : Text → Bool
takes_file name = bytes_eq name (codes "--set-interpreter") || bytes_eq name (codes "--set-os-abi") || bytes_eq name (codes "--set-soname")
    || bytes_eq name (codes "--set-rpath") || bytes_eq name (codes "--add-rpath") || bytes_eq name (codes "--add-needed")
    || bytes_eq name (codes "--remove-needed") || bytes_eq name (codes "--clear-symbol-version") || bytes_eq name (codes "--output")

-- a `@` names a file
abbrev pub names_file : Text → Bool
names_file [] = false
names_file (byte ∷ bytes) = byte == 64

-- the path behind the first `@`; all of a value without one
abbrev pub is_at : ℕ → Bool
is_at byte = byte == 64

abbrev pub path_named : Text → Text
path_named value = if nat_lt (position_or_len is_at value) (length value) then after_first is_at value else value

abbrev pub source_of : Bool → Asked → Source
source_of shrinks one =
    if is_passed_over shrinks one then Nowhere
    else (if bytes_eq one.name (codes "--rename-dynamic-symbols") then NameMap
    else (if takes_file one.name && names_file one.first then File else Line))

-- ## What is asked for

-- the name that an ABI has here, by one that patchelf knows
unfoldable pub abi_by : Text → Text
abi_by small =
    if bytes_eq small (codes "system v") || bytes_eq small (codes "system-v") then codes "sysv"
    else (if bytes_eq small (codes "hp-ux") then codes "hpux"
    else (if bytes_eq small (codes "gnu") then codes "linux"
    else (if bytes_eq small (codes "gnu hurd") || bytes_eq small (codes "gnu-hurd") then codes "hurd" else small)))

abbrev pub abi_asked : Text → Text
abi_asked name = abi_by (map to_ascii_lowercase (trim name))

abbrev pub first_asked : Text → Text → Text
first_asked name first = if bytes_eq name (codes "--set-os-abi") then abi_asked first else first

-- an option with this as its first value
abbrev pub first_replaced : Asked → Text → Asked
first_replaced one first = record { name = one.name; first = first_asked one.name first; second = one.second }

-- a pair of names that an option of this name asks for
abbrev pub rename_asked : Text → Text × Text → Asked
rename_asked name pair = record { name = name; first = pair.0; second = pair.1 }

-- what an option asks for whose value stands there; of the bytes at paths this is known
abbrev pub IsResolvedFrom : Source → (Text → Option (List ℕ)) → Asked → List Asked → Type 0
IsResolvedFrom Nowhere known one asked = asked ≡ []
IsResolvedFrom Line known one asked = asked ≡ first_replaced one one.first ∷ []
IsResolvedFrom File known one asked =
    (text : Text) × IsAll (known (path_named one.first)) text × (asked ≡ first_replaced one text ∷ [])
IsResolvedFrom NameMap known one asked =
    (text : Text) × (pairs : List (Text × Text)) × IsAll (known one.first) text × (pairs_of (spaced_all text) ≡ Ok pairs)
    × (asked ≡ map (rename_asked one.name) pairs)

abbrev pub IsResolved : (Text → Option (List ℕ)) → Bool → Asked → List Asked → Type 0
IsResolved known shrinks one asked = IsResolvedFrom (source_of shrinks one) known one asked

-- the text of a map of names, where the bytes of its file are known
abbrev pub IsMapText : Option (List ℕ) → Text → Type 0
IsMapText known text = (bytes : List ℕ) × IsAll known bytes × (text ≡ spaced_all bytes)

-- options get those of a name behind them that the pairs of a map with this text ask for
abbrev pub ArePut : Text → Text → List Asked → List Asked → Type 0
ArePut name text old new = (pairs : List (Text × Text)) × (pairs_of text ≡ Ok pairs) × (new ≡ old ++ map (rename_asked name) pairs)

-- options get those behind them that one asks for
abbrev pub IsPut : (Text → Option (List ℕ)) → Bool → Asked → List Asked → List Asked → Type 0
IsPut known shrinks one old new = (first : List Asked) × IsResolved known shrinks one first × (new ≡ old ++ first)

abbrev pub IsPutFrom : Source → (Text → Option (List ℕ)) → Asked → List Asked → List Asked → Type 0
IsPutFrom source known one old new = (first : List Asked) × IsResolvedFrom source known one first × (new ≡ old ++ first)

-- what is asked for by options in order, behind what was asked for before
abbrev pub AreResolvedFrom : (Text → Option (List ℕ)) → Bool → List Asked → List Asked → List Asked → Type 0
AreResolvedFrom known shrinks before [] asked = asked ≡ before
AreResolvedFrom known shrinks before (one ∷ rest) asked =
    (between : List Asked) × IsPut known shrinks one before between × AreResolvedFrom known shrinks between rest asked

abbrev pub AreResolved : (Text → Option (List ℕ)) → Bool → List Asked → List Asked → Type 0
AreResolved known shrinks given asked = AreResolvedFrom known shrinks [] given asked

-- ## Why a value isn't read

-- the path of the file in which the value stands that a line has
abbrev pub path_from : Source → Text → Text
path_from NameMap first = first
path_from source first = path_named first

-- this of the bytes at a path, where these are known, is no text
abbrev pub IsNoText : (List ℕ → List ℕ) → Option (List ℕ) → Type 0
IsNoText f known = (bytes : List ℕ) × IsAll known bytes × (IsUtf8 (f bytes) → ⊥)

-- a line of the map of names at a path, where its bytes are known, is the first that is wrong
abbrev pub IsWrongMap : MapWrong → ℕ → Option (List ℕ) → Type 0
IsWrongMap wrong line known = (bytes : List ℕ) × IsAll known bytes × (pairs_of (spaced_all bytes) ≡ Err (wrong, line))

-- a cause tells the first line that is wrong of a map with this text, or want of memory
abbrev pub TellsWrongMap : Text → ValueCause → Type 0
TellsWrongMap text cause.Memory = ⊤
TellsWrongMap text (cause.Map wrong line) = pairs_of text ≡ Err (wrong, line)
TellsWrongMap text cause = ⊥

-- why a value that stands there isn't read: reading its file fails so, or it is no text, or no map of names. There may be no memory
-- anywhere
abbrev pub IsUnreadFrom : Source → (Text → Option (List ℕ)) → (Text → ReadError → Type 0) → Asked → ValueCause → Type 0
IsUnreadFrom source known fails one cause.Memory = ⊤
IsUnreadFrom File known fails one (cause.Io e) = fails (path_named one.first) (read.Io e)
IsUnreadFrom File known fails one cause.NotText = IsNoText (λ bytes. bytes) (known (path_named one.first))
IsUnreadFrom NameMap known fails one (cause.Io e) = fails one.first (read.Io e)
IsUnreadFrom NameMap known fails one cause.NotText = IsNoText spaced_all (known one.first)
IsUnreadFrom NameMap known fails one (cause.Map wrong line) = IsWrongMap wrong line (known one.first)
IsUnreadFrom source known fails one cause = ⊥

-- A refusal tells of an option that it is the one whose value isn't read, from which file, and why.
pub record IsRefusedOf (known : Text → Option (List ℕ)) (fails : Text → ReadError → Type 0) (shrinks : Bool) (one : Asked) (refused : ValueRefused) : Type 0 where
  pub option : refused.option.now ≡ one.name
  pub path : refused.path.now ≡ path_from (source_of shrinks one) one.first
  pub cause : IsUnreadFrom (source_of shrinks one) known fails one refused.cause

-- it tells so of the first of these whose value isn't read
abbrev pub IsRefusedAmong : (Text → Option (List ℕ)) → (Text → ReadError → Type 0) → Bool → List Asked → ValueRefused → Type 0
IsRefusedAmong known fails shrinks [] refused = ⊥
IsRefusedAmong known fails shrinks (one ∷ rest) refused = IsRefusedOf known fails shrinks one refused
    ⊎ ((asked : List Asked) × IsResolved known shrinks one asked × IsRefusedAmong known fails shrinks rest refused)
