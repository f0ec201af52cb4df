-- How much is read of a fat file that is edited.
use Rattle.std.specs.Prelude.{ℕ, ◌≡◌, ◌+◌, ◌<◌, ◌≤◌, ◌^◌, ◌⊎◌, List, [], ◌∷◌, None, Option, Some, drop, length, take, true}
use Rattle.std.specs.List.{AllZip}
use Rattle.arwen_macho.specs.Found.{begins_fat}
use Rattle.byte_store.specs.Known.{HasLength}
use Rattle.macho_image.specs.Fat.{archs_of, table_end, table_fault}
use Rattle.macho_image.specs.declared.fat.FatArch.{FatArch}
use Rattle.macho_commands_stores.specs.Loading.{IsThinFront}
use Rattle.macho_commands_stores.specs.declared.slices.SliceFront.{SliceFront}
use Rattle.macho_commands_stores.specs.declared.slices.SliceFronts.{SliceFronts}

-- slices that have bytes, each behind the one before it, from a position on and within so many bytes
abbrev pub AreRising : ℕ → ℕ → List FatArch → Type 0
AreRising start size [] = start ≤ size
AreRising start size (arch ∷ archs) = (start ≤ arch.offset) × (0 < arch.size) × AreRising (arch.offset + arch.size) size archs

-- a fat file whose table passes all checks and has these slices
pub record HasSlices (file : List ℕ) (archs : List FatArch) : Type 0 where
  pub begins : begins_fat file ≡ true
  pub passes : table_fault file ≡ None
  pub archs_are : archs_of file ≡ archs

-- the slices of every file of so many bytes that has these first
pub record IsTableOf (first : List ℕ) (size : ℕ) (archs : List FatArch) : Type 0 where
  pub some : 0 < length archs
  pub short : size < 2 ^ 32
  pub rising : AreRising (table_end (length archs)) size archs
  pub of : (file : List ℕ) → first ≡ take (length first) file → length file ≡ size → HasSlices file archs

-- bytes that stand at an offset of known ones
abbrev pub IsAt : Option (List ℕ) → ℕ → List ℕ → Type 0
IsAt known offset bytes = (file : List ℕ) → known ≡ Some file → bytes ≡ take (length bytes) (drop offset file)

-- the first bytes of a slice, which are a thin file by themselves
pub record IsFrontAt (known : Option (List ℕ)) (arch : FatArch) (front : SliceFront) : Type 0 where
  pub offset : front.offset ≡ arch.offset
  pub size : front.size ≡ arch.size
  pub within : length front.bytes.items ≤ arch.size
  pub thin : IsThinFront front.bytes.items
  pub read : IsAt known arch.offset front.bytes.items

-- the fronts of all slices
abbrev pub AreFrontsOf : Option (List ℕ) → List FatArch → List SliceFront → Type 0
AreFrontsOf known archs fronts = AllZip (IsFrontAt known) archs fronts

-- what was read of a fat file: its slices and their fronts
pub record AreSlicesRead (known : Option (List ℕ)) (read : SliceFronts) : Type 0 where
  pub archs : List FatArch
  pub some : 0 < length archs
  pub short : read.length < 2 ^ 32
  pub rising : AreRising (table_end (length archs)) read.length archs
  pub fronts : AreFrontsOf known archs read.fronts.items
  pub has : (file : List ℕ) → known ≡ Some file → HasSlices file archs × (length file ≡ read.length)

-- a slice that is the whole of a file of so many bytes
abbrev pub whole_arch : ℕ → FatArch
whole_arch size = record { cputype = 0; cpusubtype = 0; offset = 0; size = size; align = 0 }

-- what was read of a thin file: its front, as that of its one slice
pub record IsThinRead (known : Option (List ℕ)) (read : SliceFronts) : Type 0 where
  pub some : 0 < read.length
  pub short : read.length < 2 ^ 32
  pub fronts : AreFrontsOf known (whole_arch read.length ∷ []) read.fronts.items
  pub long : HasLength known read.length

-- what was read of a file of either shape
abbrev pub AreFrontsRead : Option (List ℕ) → SliceFronts → Type 0
AreFrontsRead known read = AreSlicesRead known read ⊎ IsThinRead known read
