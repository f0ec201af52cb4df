-- What plans make of the bytes of a file, and why they make nothing.
use Rattle.std.specs.Prelude.{ℕ, ◌≡◌, ◌⊎◌, List, [], ◌∷◌, Bool, true, false, map, Option, Some, None, option_map, string_bytes, Ok, ⊤}
use Rattle.std.specs.declared.alloc.Global.{Global}
use Rattle.std.specs.declared.string.String.{String}
use Rattle.std.specs.declared.vec.Vec.{Vec}
use Rattle.elf_edits.specs.Edit.{Answer, ShrinkRpath}
use Rattle.elf_commands.specs.ElfAsked.{one, several}
use Rattle.elf_commands.specs.ElfEngine.{IsEditedBy, LeavesElf, TellsEdit, bytes_left}
use Rattle.elf_commands.specs.Groups.{GroupEdit, plain}
use Rattle.elf_commands.specs.ElfCommandError.{ElfCommandError}
use Rattle.elf_commands.specs.ElfCommandError.TheVariants.{Io, Memory}
use Rattle.elf_commands.specs.Shrinking.{Finding}
use Rattle.arwen_cli_options.specs.Options.{Text}
use Rattle.arwen_cli_patchelf.specs.Plans.{PlanMeant}
use Rattle.arwen_cli_patchelf.specs.FirstFound.{AreFirstFoundIn, TellsFirstShrunk, has_nothing_to_shrink}

-- the prefixes by which run paths shrink, where they do
abbrev pub prefixes_model : Option (Vec (String Global) Global) → Option (List Text)
prefixes_model shrinks = option_map (λ prefixes. map string_bytes prefixes.items) shrinks

-- ## The two steps

-- bytes with run paths that shrank by answers that keep the first directories alone; they stay where there is nothing to shrink
abbrev pub IsShrunkUnless : Bool → Finding → List Text → List ℕ → List ℕ → Type 0
IsShrunkUnless true finds prefixes file new = new ≡ file
IsShrunkUnless false finds prefixes file new =
    (answers : List Answer) × AreFirstFoundIn finds prefixes file answers × LeavesElf (one (plain (ShrinkRpath prefixes answers))) file new

-- bytes with run paths that shrank, where they are to; without this step, and of a file without a run path, they stay
abbrev pub IsShrunkTo : Finding → Option (List Text) → List ℕ → List ℕ → Type 0
IsShrunkTo finds None file new = new ≡ file
IsShrunkTo finds (Some prefixes) file new = IsShrunkUnless (has_nothing_to_shrink file) finds prefixes file new

-- the bytes that edits leave of a file
abbrev pub LeaveEdits : List GroupEdit → List ℕ → List ℕ → Type 0
LeaveEdits edits file new = (answer : Option (Vec ℕ Global)) × IsEditedBy edits file answer × (new ≡ bytes_left file answer)

-- bytes with edits; without edits they stay
abbrev pub IsEditedWith : List GroupEdit → List ℕ → List ℕ → Type 0
IsEditedWith [] file new = new ≡ file
IsEditedWith (edit ∷ edits) file new = LeaveEdits (edit ∷ edits) file new

-- why they are not made
abbrev pub TellsUnshrunk : Finding → Option (List Text) → List ℕ → ElfCommandError → Type 0
TellsUnshrunk finds None file e = ⊥
TellsUnshrunk finds (Some prefixes) file e = TellsFirstShrunk finds prefixes file e

abbrev pub TellsUnedited : List GroupEdit → List ℕ → ElfCommandError → Type 0
TellsUnedited [] file e = ⊥
TellsUnedited (edit ∷ edits) file e = TellsEdit (several (Ok (edit ∷ edits))) file e

-- ## A plan

-- it asks for nothing
pub record AsksNothing (plan : PlanMeant) : Type 0 where
  pub shrinks : plan.shrinks ≡ None
  pub edits : plan.edits ≡ []

-- What edits make of what shrinking makes of the bytes of a file.
pub record IsMadeOf (finds : Finding) (plan : PlanMeant) (file new : List ℕ) : Type 0 where
  pub between : List ℕ
  pub shrunk : IsShrunkTo finds plan.shrinks file between
  pub edited : IsEditedWith plan.edits between new

-- a step is refused: the first, of the bytes of the file, or the second, of what comes of the first
pub record IsUnedited (finds : Finding) (plan : PlanMeant) (file : List ℕ) (e : ElfCommandError) : Type 0 where
  pub between : List ℕ
  pub shrunk : IsShrunkTo finds plan.shrinks file between
  pub refused : TellsUnedited plan.edits between e

-- want of memory may be answered in any case
abbrev pub TellsUnmade : Finding → PlanMeant → List ℕ → ElfCommandError → Type 0
TellsUnmade finds plan file Memory = ⊤
TellsUnmade finds plan file e = TellsUnshrunk finds plan.shrinks file e ⊎ IsUnedited finds plan file e

-- the error of a plan that is made in memory, where calls fail only for want of it
abbrev pub answer_in_memory : ElfCommandError → ElfCommandError
answer_in_memory (Io e) = Memory
answer_in_memory e = e
