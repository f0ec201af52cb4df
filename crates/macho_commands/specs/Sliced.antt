-- What edits make of the slices of a fat file, told by their fronts.
use Rattle.std.specs.Prelude.{ℕ, ◌≡◌, ◌<◌, ◌^◌, List, [], ◌∷◌, ◌++◌, All, Bool, length, map}
use Rattle.std.specs.List.{flat_map, list_any}
use Rattle.arwen_macho.specs.Container.{first_container}
use Rattle.byte_store.specs.Composed.{Stands}
use Rattle.byte_store.specs.Laid.{LiesIn, Patch, laid}
use Rattle.byte_store.specs.Shown.{shifted}
use Rattle.command_words.specs.Rows.{Text}
use Rattle.command_words.specs.declared.noting.Notes.{Notes}
use Rattle.command_words.specs.declared.noting.Notes.TheVariants.{LeftOut, Wanted}
use Rattle.macho_commands.specs.Engine.{Asked, ShowsEdited, Tells, outcome_of}
use Rattle.macho_commands.specs.Engine.Outcome.{bytes}
use Rattle.macho_commands.specs.Notes.{note_line}
use Rattle.macho_commands.specs.declared.error.MachoCommandError.{MachoCommandError}
use Rattle.macho_commands_stores.specs.Loading.{IsThinFront}
use Rattle.macho_commands_stores.specs.Signed.{is_signed_file}
use Rattle.macho_commands_stores.specs.declared.slices.SliceFront.{SliceFront}

-- a front that was read of a slice
pub record IsLoadedFront (front : SliceFront) : Type 0 where
  pub low : front.offset < 2 ^ 32
  pub thin : IsThinFront front.bytes.items

-- patches that lie in a front, and make of it what edits make of it, which shows the edits, and in which each of them stands
pub record MakesFront (a : Asked) (front : List ℕ) (patches : List Patch) : Type 0 where
  pub inside : All (LiesIn (length front)) patches
  pub stand : All (Stands (laid patches front)) patches
  pub is : outcome_of a front ≡ bytes (laid patches front)
  pub shows : ShowsEdited a front (laid patches front)

-- patches of a file: those of the front of each slice, where the slice begins
abbrev pub MakesFronts : Asked → List SliceFront → List Patch → Type 0
MakesFronts a [] patches = patches ≡ []
MakesFronts a (front ∷ fronts) patches = (here : List Patch) × (behind : List Patch)
    × (patches ≡ map (shifted front.offset) here ++ behind) × MakesFront a front.bytes.items here × MakesFronts a fronts behind

-- the patches of one front more, which make these bytes of it, are put behind others
abbrev pub AddsFront : Asked → SliceFront → List ℕ → List Patch → List Patch → Type 0
AddsFront a front edited old new = (here : List Patch) × (new ≡ old ++ map (shifted front.offset) here) × MakesFront a front.bytes.items here
    × (edited ≡ laid here front.bytes.items)

-- a front with the patches that edits make of it
pub record EditedSlice : Type 0 where
  pub front : SliceFront
  pub here : List Patch

abbrev pub edited_bytes : EditedSlice → List ℕ
edited_bytes slice = laid slice.here slice.front.bytes.items

abbrev pub slice_patches : EditedSlice → List Patch
slice_patches slice = map (shifted slice.front.offset) slice.here

abbrev pub IsMade : Asked → EditedSlice → Type 0
IsMade a slice = MakesFront a slice.front.bytes.items slice.here

-- patches of a file that edits make of fronts, and what these become
pub record MakesEdited (a : Asked) (fronts : List SliceFront) (news : List (List ℕ)) (patches : List Patch) : Type 0 where
  pub all : List EditedSlice
  pub fronts_are : map (λ slice. slice.front) all ≡ fronts
  pub news_are : map edited_bytes all ≡ news
  pub patches_are : patches ≡ flat_map slice_patches all
  pub each : All (IsMade a) all

-- an error tells what edits make of a front, behind those of which they make new ones
pub record RefusesFronts (a : Asked) (fronts : List SliceFront) (e : MachoCommandError) : Type 0 where
  pub before : List SliceFront
  pub front : SliceFront
  pub behind : List SliceFront
  pub patches : List Patch
  pub are : fronts ≡ before ++ front ∷ behind
  pub makes : MakesFronts a before patches
  pub tells : Tells (outcome_of a front.bytes.items) e

-- a front tells of a signature
abbrev pub is_signed_front : SliceFront → Bool
is_signed_front front = is_signed_file (first_container front.bytes.items)

-- the line of a file, one of whose slices is signed
abbrev pub TellsFronts : Notes → Text → List SliceFront → Text → Type 0
TellsFronts Wanted path fronts told = told ≡ note_line (list_any is_signed_front fronts) path
TellsFronts LeftOut path fronts told = told ≡ []
