-- A fat file under edits: the bytes as read, and a state for each slice.
use Rattle.std.specs.Prelude.{ℕ, ◌+◌, List, [], ◌∷◌, ◌++◌, length, take, drop, map, Result, Ok, Err}
use Rattle.macho_image.specs.declared.fat.FatArch.{FatArch}
use Rattle.macho_image.specs.Fat.{archs_of, slice_of}
use Rattle.macho_edits.specs.Call.{Call}
use Rattle.macho_edits.specs.State.{Refusal, State, first_state, laid_bytes, step}

-- a slice: its record in the table, and its state
pub record Slice : Type 0 where
  pub arch : FatArch
  pub state : State

pub record FatState : Type 0 where
  pub old : List ℕ
  pub slices : List Slice

-- a slice and a fat file as they are read
abbrev pub first_slice : List ℕ → FatArch → Slice
first_slice old arch = record { arch = arch; state = first_state (slice_of old arch) }

unfoldable pub first_fat_state : List ℕ → FatState
first_fat_state old = record { old = old; slices = map (first_slice old) (archs_of old) }

-- what a batch makes of slices: the step of each, or the refusal of the first that refuses it
abbrev pub joined_step : Slice → Result State Refusal → Result (List Slice) Refusal → Result (List Slice) Refusal
joined_step s (Err refusal) rest = Err refusal
joined_step s (Ok state) (Err refusal) = Err refusal
joined_step s (Ok state) (Ok slices) = Ok (record { arch = s.arch; state = state } ∷ slices)

abbrev pub step_slices : List Call → List Slice → Result (List Slice) Refusal
step_slices calls [] = Ok []
step_slices calls (s ∷ slices) = joined_step s (step calls s.state) (step_slices calls slices)

abbrev pub with_slices : List ℕ → Result (List Slice) Refusal → Result FatState Refusal
with_slices old (Ok slices) = Ok (record { old = old; slices = slices })
with_slices old (Err refusal) = Err refusal

-- what a batch makes of a fat file: all slices, or none
unfoldable pub fat_step : List Call → FatState → Result FatState Refusal
fat_step calls s = with_slices s.old (step_slices calls s.slices)

-- bytes with others in their place from a position on
abbrev pub put_at : ℕ → List ℕ → List ℕ → List ℕ
put_at at part bytes = take at bytes ++ (part ++ drop (at + length part) bytes)

-- bytes with the bytes of each slice at its offset
abbrev pub bytes_laid_over : List Slice → List ℕ → List ℕ
bytes_laid_over [] bytes = bytes
bytes_laid_over (s ∷ slices) bytes = bytes_laid_over slices (put_at s.arch.offset (laid_bytes s.state) bytes)

-- the bytes of a fat file: those that were read, with the bytes of each slice in its place
unfoldable pub fat_laid_bytes : FatState → List ℕ
fat_laid_bytes s = bytes_laid_over s.slices s.old
