-- How much is read of a file that is edited.
use Rattle.std.specs.Prelude.{ℕ, ◌≡◌, ◌<◌, ◌^◌, ◌++◌, ◌⊎◌, Bool, IsTrue, List, None, Option, Some, false, length, take}
use Rattle.patch_bytes.specs.Bytes.{AreBytes}
use Rattle.arwen_macho.specs.Found.{begins_fat}
use Rattle.macho_image.specs.Checks.{file_fault}
use Rattle.macho_image.specs.Commands.{first_content_of}
use Rattle.macho_commands_stores.specs.declared.loading.Loaded.{Loaded}

-- bytes that are a thin file by themselves, and in which content begins
pub record IsThinFront (front : List ℕ) : Type 0 where
  pub bytes : AreBytes front
  pub thin : begins_fat front ≡ false
  pub accepted : file_fault front ≡ None
  pub content : first_content_of front < length front

-- the front of a thin file is the first bytes of a file below 4 GiB
pub record IsFrontOf (front file : List ℕ) : Type 0 where
  pub rest : List ℕ
  pub joined : front ++ rest ≡ file
  pub thin : IsThinFront front
  pub short : length file < 2 ^ 32

-- what was read of a file is its first 4 GiB, or all where it has no more
pub record IsFirstOf (loaded : Loaded) (file : List ℕ) : Type 0 where
  pub first : loaded.bytes.items ≡ take (2 ^ 32) file
  pub long : loaded.length ≡ length loaded.bytes.items

-- what was read of a file is its front
pub record IsFrontRead (loaded : Loaded) (file : List ℕ) : Type 0 where
  pub front : IsFrontOf loaded.bytes.items file
  pub long : loaded.length ≡ length file

-- what was read of a file whose bytes are known; it may be the front only where that is enough
abbrev pub IsLoaded : Bool → Option (List ℕ) → Loaded → Type 0
IsLoaded is_front_enough known loaded = (file : List ℕ) → known ≡ Some file
    → IsFirstOf loaded file ⊎ (IsTrue is_front_enough × IsFrontRead loaded file)
