-- What the bytes of a fat file's state show to whoever parses them again.
use Rattle.std.specs.Prelude.{ℕ, ◌≡◌, ◌+◌, ◌≤◌, ◌<◌, ◌⊎◌, List, length, slice_index, None, All}
use Rattle.macho_image.specs.declared.fat.FatArch.{FatArch}
use Rattle.macho_image.specs.Fat.{archs_of, slice_of}
use Rattle.arwen_macho.specs.FatState.{FatState}
use Rattle.arwen_macho.specs.Found.{fat_found}
use Rattle.arwen_macho.specs.Shown.{Shows}
use Rattle.macho_edits.specs.State.{laid_bytes}

-- a position at which no byte of a slice lies
abbrev pub IsOutside : ℕ → FatArch → Type 0
IsOutside p arch = (p < arch.offset) ⊎ (arch.offset + arch.size ≤ p)

-- nothing is found wrong with them; there are as many bytes and the same slices as were read; each slice
-- has the bytes of its state, and so its list of load commands; and outside the slices the bytes are old
pub record FatShows (s : FatState) (bytes : List ℕ) : Type 0 where
  pub accepted : fat_found bytes ≡ None
  pub long : length bytes ≡ length s.old
  pub archs : archs_of bytes ≡ archs_of s.old
  pub slices : All (λ slice. slice_of bytes slice.arch ≡ laid_bytes slice.state) s.slices
  pub shown : All (λ slice. Shows slice.state (slice_of bytes slice.arch)) s.slices
  pub outside : (p : ℕ) → All (λ slice. IsOutside p slice.arch) s.slices → slice_index bytes p ≡ slice_index s.old p
