-- What a command makes of a file whose run paths shrink, what it tells, and why it makes nothing.
use Rattle.std.specs.Prelude.{ℕ, ◌≡◌, ◌⊎◌, List, Option, Some, None, Ok, Result, take, ⊤}
use Rattle.std.specs.Io.KnownBytes.{Appends}
use Rattle.std.specs.declared.alloc.Global.{Global}
use Rattle.std.specs.declared.io.Error.{Error}
use Rattle.std.specs.declared.vec.Vec.{Vec}
use Rattle.byte_store.specs.Known.{Stays}
use Rattle.byte_store.specs.Composed.{IsDifference, made_of, owned_patches}
use Rattle.byte_store.specs.Fault.{IsLeft}
use Rattle.byte_store.specs.declared.writing.Left.{Left}
use Rattle.byte_store.specs.declared.composed.Difference.{Difference}
use Rattle.elf_edits.specs.Edit.{Answer, Edit, ShrinkRpath}
use Rattle.elf_commands_edits.specs.Removals.{removed_by}
use Rattle.elf_format.specs.declared.fault.ElfFault.{ElfFault}
use Rattle.elf_image.specs.Image.{Image, image_of, shown}
use Rattle.elf_commands_lines.specs.ElfAsked.{elf_asked, one}
use Rattle.elf_commands_edits.specs.Groups.{plain}
use Rattle.elf_commands.specs.ElfEngine.{IsElfEdited, LeavesElf, RunsElf, TellsEdit, TellsRun}
use Rattle.elf_commands.specs.ElfStores.{WritesEnd}
use Rattle.elf_commands_lines.specs.Meaning.{ElfMeaning, shrink_elf}
use Rattle.command_words.specs.Rows.{Text}
use Rattle.elf_commands_edits.specs.Prints.{IsCutShort}
use Rattle.elf_commands_edits.specs.Shrinking.{AreFound, Finding, removal_lines}
use Rattle.elf_commands_edits.specs.declared.error.ElfCommandError.{ElfCommandError}
use Rattle.elf_commands_edits.specs.declared.error.ElfCommandError.TheVariants.{Io, Memory}

-- the lines of just the directories that an edit takes out of the run paths of the file that was read
abbrev pub TellsRemoved : Edit → Result Image ElfFault → Text → Type 0
TellsRemoved edit read text = (image : Image) × (read ≡ Ok image) × (text ≡ removal_lines (removed_by edit image))

-- a writer gets these lines
abbrev pub GetsRemoved : Edit → Result Image ElfFault → Option (List ℕ) → Option (List ℕ) → Type 0
GetsRemoved edit read old new = (text : Text) × TellsRemoved edit read text × Appends old new text

-- ---- over bytes

-- new bytes, or none, are those with shrunk run paths, and a writer gets the lines
abbrev pub RunsShrink : Edit → List ℕ → Option (Vec ℕ Global) → Option (List ℕ) → Option (List ℕ) → Type 0
RunsShrink edit file answer old new = IsElfEdited (one (plain edit)) file answer × GetsRemoved edit (image_of file) old new

-- a writer gets the first bytes of these lines, but not all
abbrev pub GetsSomeRemoved : Edit → Result Image ElfFault → Option (List ℕ) → Option (List ℕ) → Type 0
GetsSomeRemoved edit read old new = (text : Text) × TellsRemoved edit read text × IsCutShort text old new

-- an error: the writer failed once the new bytes were there, and got the first bytes of the lines; or the edit is refused, and the
-- writer got nothing
abbrev pub TellsShrink : {W : Type 0} → (W → Option (List ℕ)) → Edit → List ℕ → W → W → ElfCommandError → Type 0
TellsShrink contents edit file old new (Io e) = ((answer : Option (Vec ℕ Global)) × IsElfEdited (one (plain edit)) file answer)
    × GetsSomeRemoved edit (image_of file) (contents old) (contents new)
TellsShrink contents edit file old new e = (new ≡ old) × TellsEdit (one (plain edit)) file e

-- ---- over a store

-- the answers are those that may be found for the run paths of a file that is accepted
abbrev pub AreFoundIn : Finding → List ℕ → List Answer → Type 0
AreFoundIn finds file answers = (image : Image) → image_of file ≡ Ok image → AreFound finds (shown image) answers

-- what is made of a file and told of it, by answers that may be found
pub record IsShrunkBy (finds : Finding) (prefixes : List Text) (file : List ℕ) (d : Difference) (text : Text) : Type 0 where
  pub answers : List Answer
  pub found : AreFoundIn finds file answers
  pub leaves : LeavesElf (one (plain (ShrinkRpath prefixes answers))) file (made_of file d)
  pub told : TellsRemoved (ShrinkRpath prefixes answers) (image_of file) text

-- an error by some such answers; want of memory may come before there are any
abbrev pub TellsShrunk : Finding → List Text → List ℕ → ElfCommandError → Type 0
TellsShrunk finds prefixes file Memory = ⊤
TellsShrunk finds prefixes file e = (answers : List Answer) × AreFoundIn finds file answers
    × TellsEdit (one (plain (ShrinkRpath prefixes answers))) file e

-- known bytes are made others by such a difference, and a writer got the lines
pub record IsShrunkIn (finds : Finding) (prefixes : List Text) (file : List ℕ) (new said told : Option (List ℕ)) : Type 0 where
  pub difference : Difference
  pub text : Text
  pub shrunk : IsShrunkBy finds prefixes file difference text
  pub made : new ≡ Some (made_of file difference)
  pub gets : Appends said told text

abbrev pub ShrinksStore : Finding → List Text → Option (List ℕ) → Option (List ℕ) → Option (List ℕ) → Option (List ℕ) → Type 0
ShrinksStore finds prefixes old new said told = (file : List ℕ) → old ≡ Some file → IsShrunkIn finds prefixes file new said told

-- a run of writes that failed: it was to make such a difference, and each byte that it puts is one of what that makes
pub record IsShrinkTorn (finds : Finding) (prefixes : List Text) (file : List ℕ) (old new : Option (List ℕ)) : Type 0 where
  pub difference : Difference
  pub text : Text
  pub makeable : IsDifference file difference
  pub shrunk : IsShrunkBy finds prefixes file difference text
  pub left : Left
  pub part : IsLeft left difference.growth.items (owned_patches difference.pieces.items) old new

-- what an error leaves and tells: only writes that ended by it change bytes, where the edit was accepted
abbrev pub FailsShrink : (Error → Type 0) → Finding → List Text → Option (List ℕ) → Option (List ℕ) → ElfCommandError → Type 0
FailsShrink ended finds prefixes old new (Io e) =
    Stays old new ⊎ (ended e × ((file : List ℕ) → old ≡ Some file → IsShrinkTorn finds prefixes file old new))
FailsShrink ended finds prefixes old new e = Stays old new × ((file : List ℕ) → old ≡ Some file → TellsShrunk finds prefixes file e)

-- a writer got first bytes of the lines of what is made of a file
abbrev pub GetsFirst : Finding → List Text → List ℕ → Option (List ℕ) → Option (List ℕ) → Type 0
GetsFirst finds prefixes file said told = (difference : Difference) × (text : Text)
    × IsShrunkBy finds prefixes file difference text × ((n : ℕ) × Appends said told (take n text))

-- lines are told only once nothing is refused any more; a write that fails, or want of memory, may come before them and behind them
abbrev pub IsQuiet : {W : Type 0} → Finding → List Text → (W → Option (List ℕ)) → Option (List ℕ) → W → W → ElfCommandError → Type 0
IsQuiet finds prefixes contents known old new (Io e) =
    (new ≡ old) ⊎ ((file : List ℕ) → known ≡ Some file → GetsFirst finds prefixes file (contents old) (contents new))
IsQuiet finds prefixes contents known old new Memory =
    (new ≡ old) ⊎ ((file : List ℕ) → known ≡ Some file → GetsFirst finds prefixes file (contents old) (contents new))
IsQuiet finds prefixes contents known old new e = new ≡ old

-- ---- at a path

-- what an error leaves and tells: nothing was opened, or what was opened holds what the error left of the bytes there; it
-- counted no failure before
abbrev pub FailsShrinkAt : {S : Type 0} → (Error → Type 0) → Type 0 → (S → ℕ) → Finding → List Text → (S → Option (List ℕ)) → Option (List ℕ) → ElfCommandError → Option S → Type 0
FailsShrinkAt writes takes_none failed finds prefixes contents known e None = ⊤
FailsShrinkAt writes takes_none failed finds prefixes contents known e (Some store) =
    FailsShrink (WritesEnd writes takes_none 0 (failed store)) finds prefixes known (contents store) e

-- where nothing was opened, no lines are told
abbrev pub IsQuietAt : {W S : Type 0} → Finding → List Text → (W → Option (List ℕ)) → Option (List ℕ) → W → W → ElfCommandError → Option S → Type 0
IsQuietAt finds prefixes contents known old new e None = new ≡ old
IsQuietAt finds prefixes contents known old new e (Some store) = IsQuiet finds prefixes contents known old new e

-- ---- any command

-- what a run makes and prints, where these answers are handed in
abbrev pub RunsCommand : ElfMeaning → List Answer → List ℕ → Option (Vec ℕ Global) → Option (List ℕ) → Option (List ℕ) → Type 0
RunsCommand (shrink_elf path prefixes) found file answer old new = RunsShrink (ShrinkRpath prefixes found) file answer old new
RunsCommand meaning found file answer old new = RunsElf meaning (elf_asked meaning) file answer old new

-- an error of a run
abbrev pub TellsCommand : {W : Type 0} → (W → Option (List ℕ)) → ElfMeaning → List Answer → List ℕ → W → W → ElfCommandError → Type 0
TellsCommand contents (shrink_elf path prefixes) found file old new e =
    TellsShrink contents (ShrinkRpath prefixes found) file old new e
TellsCommand contents meaning found file old new e = TellsRun contents meaning (elf_asked meaning) file old new e
