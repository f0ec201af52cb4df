-- The slices that a container of a fat file holds, and what changes of them make.
use Rattle.std.specs.Prelude.{ℕ, ◌+◌, ◌≤◌, List, [], ◌∷◌, length, take, map, Result}
use Rattle.std.specs.List.{AllZip}
use Rattle.std.specs.declared.alloc.Global.{Global}
use Rattle.std.specs.declared.vec.Vec.{Vec}
use Rattle.macho_image.specs.declared.fat.FatArch.{FatArch}
use Rattle.macho_image.specs.Fat.{slice_of}
use Rattle.macho_edits.specs.declared.batch.MachoBatchError.{MachoBatchError}
use Rattle.arwen_macho.specs.declared.change.Change.{Change}
use Rattle.macho_edits.specs.Batch.{RefusedAt}
use Rattle.macho_edits.specs.Call.{Call}
use Rattle.arwen_macho.specs.Change.{IsChangeOf, IsStepOf, changed_file}
use Rattle.arwen_macho.specs.FatState.{Slice, put_at, step_slices}
use Rattle.macho_edits.specs.Held.{Held, held_at_read}
use Rattle.macho_edits.specs.State.{Refusal, laid_bytes}
use Rattle.macho_edits.specs.Whole.{IsState}

-- a slice under edits: its record in the table, and its file
pub record HeldSlice : Type 0 where
  pub arch : FatArch
  pub inner : Held

-- a slice and its state, apart from whether its bytes are a copy
abbrev pub slice_model : HeldSlice → Slice
slice_model m = record { arch = m.arch; state = m.inner.state }

-- what a batch makes of such slices
abbrev pub step_model : List Call → List HeldSlice → Result (List Slice) Refusal
step_model calls slices = step_slices calls (map slice_model slices)

-- a slice as it was parsed
abbrev pub first_macho : List ℕ → FatArch → HeldSlice
first_macho old arch = record { inner = held_at_read (slice_of old arch); arch = arch }

-- a change of a slice that does what these calls do
abbrev pub IsStepIn : List Call → HeldSlice → Change → Type 0
IsStepIn calls m change = IsStepOf calls m.inner change

-- changes of the slices of a fat file, in a `Vec`, that do what these calls do
abbrev pub AreStepsIn : List Call → List HeldSlice → Vec Change Global → Type 0
AreStepsIn calls slices changes = AllZip (IsStepIn calls) slices changes.items

-- an error tells the refusal that a batch meets in the slices
abbrev pub SlicesRefuse : List Call → List HeldSlice → MachoBatchError → Type 0
SlicesRefuse calls slices e = RefusedAt e (step_model calls slices)

-- a change that can be carried out on a slice, and on a copy of the file with so many bytes
pub record IsReadyIn (len : ℕ) (m : HeldSlice) (change : Change) : Type 0 where
  pub of : IsChangeOf m.inner change
  pub is_state : IsState m.inner.state
  pub inside : m.arch.offset + length m.inner.state.old ≤ len

-- a slice with a change carried out, and the front of its bytes, behind which they are the old ones
abbrev pub changed_macho : HeldSlice → Change → HeldSlice
changed_macho m change = record { inner = changed_file m.inner change; arch = m.arch }

abbrev pub front_of : HeldSlice → Change → List ℕ
front_of m change = take change.high (laid_bytes (changed_file m.inner change).state)

-- slices with their changes carried out, and bytes with the front of each in its place
abbrev pub changed_machos : List HeldSlice → List Change → List HeldSlice
changed_machos [] changes = []
changed_machos (m ∷ slices) [] = m ∷ slices
changed_machos (m ∷ slices) (change ∷ changes) = changed_macho m change ∷ changed_machos slices changes

abbrev pub fronts_over : List HeldSlice → List Change → List ℕ → List ℕ
fronts_over [] changes bytes = bytes
fronts_over (m ∷ slices) [] bytes = bytes
fronts_over (m ∷ slices) (change ∷ changes) bytes = put_at m.arch.offset (front_of m change) (fronts_over slices changes bytes)
