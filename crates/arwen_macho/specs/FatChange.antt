-- Changes of all slices of a fat file, which were decided and wait to be carried out.
use Rattle.std.specs.Prelude.{◌≡◌, Bool, true, List, [], ◌∷◌, Ok}
use Rattle.std.specs.List.{AllZip}
use Rattle.std.specs.declared.alloc.Global.{Global}
use Rattle.std.specs.declared.vec.Vec.{Vec}
use Rattle.arwen_macho.specs.declared.change.Change.{Change}
use Rattle.macho_edits.specs.Call.{Call}
use Rattle.arwen_macho.specs.Change.{IsChangeOf, changed_file}
use Rattle.arwen_macho.specs.FatHeld.{FatHeld}
use Rattle.arwen_macho.specs.FatState.{Slice, fat_step}
use Rattle.macho_edits.specs.Held.{Held}

-- a slice's file, as its container holds it: a copy that was edited, or not
abbrev pub held_slice : Bool → Slice → Held
held_slice is_edited s = record { state = s.state; is_edited = is_edited }

-- a change for each slice
abbrev pub AreChangesOf : FatHeld → List Change → Type 0
AreChangesOf held changes = AllZip (λ s change. IsChangeOf (held_slice held.is_edited s) change) held.state.slices changes

-- slices with their changes carried out
abbrev pub changed_slice : Slice → Change → Slice
changed_slice s change = record { arch = s.arch; state = (changed_file (held_slice true s) change).state }

abbrev pub changed_slices : List Slice → List Change → List Slice
changed_slices [] changes = []
changed_slices (s ∷ slices) [] = s ∷ slices
changed_slices (s ∷ slices) (change ∷ changes) = changed_slice s change ∷ changed_slices slices changes

-- the file with the changes of its slices carried out
abbrev pub fat_changed : FatHeld → List Change → FatHeld
fat_changed held changes = record {
  state = record { old = held.state.old; slices = changed_slices held.state.slices changes };
  is_edited = true;
}

-- changes of all slices that do what these calls do
pub record AreStepOf (calls : List Call) (held : FatHeld) (changes : List Change) : Type 0 where
  pub of : AreChangesOf held changes
  pub steps : fat_step calls held.state ≡ Ok (fat_changed held changes).state

-- changes of all slices, in a `Vec`, that do what these calls do
abbrev pub StepsOf : List Call → FatHeld → Vec Change Global → Type 0
StepsOf calls held changes = AreStepOf calls held changes.items
