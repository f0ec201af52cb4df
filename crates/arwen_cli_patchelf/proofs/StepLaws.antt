-- What the steps of plans make and tell.
use Rattle.std.proofs.Common.{[], ◌∷◌, ◌≡◌, ℕ, List, Option, false, length, map, refl, inl, inr, subst, sym}
use Rattle.std.specs.Prelude.{◌==◌}
use Rattle.std.specs.declared.alloc.Global.{Global}
use Rattle.std.specs.declared.vec.Vec.{Vec}
use Rattle.elf_commands.specs.ElfEngine.{IsEditedBy, bytes_left}
use Rattle.elf_commands.specs.Groups.{GroupEdit}
use Rattle.elf_commands.specs.ElfCommandError.{ElfCommandError}
use Rattle.elf_commands.specs.ElfCommandError.TheVariants.{Edits, Elf, ElfBatch, Io, Memory}
use Rattle.elf_commands.specs.Shrinking.{Finding}
use Rattle.arwen_cli_options.specs.Options.{Text}
use Rattle.arwen_cli_patchelf.specs.Plans.{PlanMeant}
use Rattle.arwen_cli_patchelf.specs.Made.{AsksNothing, IsEditedWith, IsMadeOf, IsShrunkTo, IsUnedited, TellsUnmade, TellsUnshrunk}

-- a plan that asks for nothing leaves the bytes
pub nothing_made : (finds : Finding) (plan : PlanMeant) (file : List ℕ) → AsksNothing plan → IsMadeOf finds plan file file
nothing_made finds plan file nothing = record {
  between = file;
  shrunk = let Of : Option (List Text) → Type 0 = λ s. IsShrunkTo finds s file file in subst Of (sym nothing.shrinks) refl;
  edited = let Of : List GroupEdit → Type 0 = λ l. IsEditedWith l file file in subst Of (sym nothing.edits) refl;
}

-- there are edits, and this is the answer to them
pub edited_some : {X : Type 0} (model : X → GroupEdit) (edits : List X) (file : List ℕ) (answer : Option (Vec ℕ Global)) → false ≡ (length edits == 0) → IsEditedBy (map model edits) file answer
    → IsEditedWith (map model edits) file (bytes_left file answer)
edited_some model [] file answer some edited = absurd (cc)
edited_some model (edit ∷ edits) file answer some edited = (answer, edited, refl)

-- the first step is refused
pub first_refused : (finds : Finding) (plan : PlanMeant) (file : List ℕ) (e : ElfCommandError) → TellsUnshrunk finds plan.shrinks file e → TellsUnmade finds plan file e
first_refused finds plan file Memory tells = tt
first_refused finds plan file (Io e) tells = inl tells
first_refused finds plan file (Edits wrong) tells = inl tells
first_refused finds plan file (Elf e) tells = inl tells
first_refused finds plan file (ElfBatch e) tells = inl tells

-- the second step is refused
pub second_refused : (finds : Finding) (plan : PlanMeant) (file : List ℕ) (e : ElfCommandError) → IsUnedited finds plan file e → TellsUnmade finds plan file e
second_refused finds plan file Memory refused = tt
second_refused finds plan file (Io e) refused = inr refused
second_refused finds plan file (Edits wrong) refused = inr refused
second_refused finds plan file (Elf e) refused = inr refused
second_refused finds plan file (ElfBatch e) refused = inr refused
