-- Laws of the edits of a fat file: those of a thin one, in all its slices.
use Rattle.std.specs.Prelude.{ℕ, ◌≡◌, ◌≤◌, ◌↔◌, All, List, [], ◌∷◌, length, replicate, get_or, IsOkAnd, Ok, ⊤}
use Rattle.std.specs.List.{AllZip}
use Rattle.patch_bytes.specs.Bytes.{AreBytes}
use Rattle.macho_edits.specs.Call.{Call}
use Rattle.macho_edits.specs.Call.Call.{add_rpath, remove_rpath}
use Rattle.arwen_macho.specs.FatHeld.{IsFatState}
use Rattle.arwen_macho.specs.FatState.{FatState, Slice, fat_laid_bytes, fat_step}
use Rattle.arwen_macho.specs.Laws.{ChangesAt, GivesBack, LacksRpath, pad_taken, taken_size}
use Rattle.macho_image.specs.Form.{ctx_of}
use Rattle.macho_edits.specs.State.{State, step}

-- no rpath command of any slice has this text
abbrev pub LackRpath : FatState → List ℕ → Type 0
LackRpath s text = All (λ slice. LacksRpath slice.state text) s.slices

-- slice by slice: what is left where something was added and removed again
abbrev pub GiveBack : List Slice → List Slice → List Slice → Type 0
GiveBack [] [] [] = ⊤
GiveBack (s ∷ slices) (a ∷ added) (r ∷ removed) =
    (r.arch ≡ s.arch) × (GivesBack s.state a.state r.state × GiveBack slices added removed)
GiveBack _ _ _ = ⊥

-- in each slice the bytes that the new list took were zeros
abbrev pub PadsAreZeros : List Slice → List Slice → Type 0
PadsAreZeros slices added =
    AllZip (λ s a. pad_taken s.state a.state.list ≡ replicate (taken_size s.state a.state.list) 0) slices added

-- each slice's list is as it was; and so are the bytes of the file, exactly if the bytes that were taken
-- meanwhile were zeros in each slice
pub record FatGivesBack (s added removed : FatState) : Type 0 where
  pub slices : GiveBack s.slices added.slices removed.slices
  pub bytes : (fat_laid_bytes removed ≡ fat_laid_bytes s) ↔ PadsAreZeros s.slices added.slices

-- an rpath that no slice had is added in one call, and removed in another
abbrev pub FatRemoveGivesBack : Type 0
FatRemoveGivesBack =
    (s added : FatState) (text : List ℕ) → IsFatState s → AreBytes text → LackRpath s text → fat_step (add_rpath text ∷ []) s ≡ Ok added
    → IsOkAnd (fat_step (remove_rpath text ∷ []) added) (FatGivesBack s added)

-- a call changes a name in a state, and the command for it is no longer than the one in its place
pub record Shortens (call : Call) (s : State) : Type 0 where
  pub place : ℕ
  pub command : List ℕ
  pub changes : ChangesAt (ctx_of s.old) call s.list place command
  pub short : length command ≤ length (get_or s.list place [])

-- the slice with a name changed, whose commands reach no further than before
pub record IsShortened (call : Call) (s t : Slice) : Type 0 where
  pub arch : t.arch ≡ s.arch
  pub steps : step (call ∷ []) s.state ≡ Ok t.state
  pub high : t.state.high ≡ s.state.high

-- a change whose command is no longer in any slice is never refused for room
abbrev pub FatShorterFits : Type 0
FatShorterFits =
    (s : FatState) (call : Call) → IsFatState s → All (λ slice. Shortens call slice.state) s.slices
    → IsOkAnd (fat_step (call ∷ []) s) (λ t. AllZip (IsShortened call) s.slices t.slices)
