-- What a plan that is made in memory leaves of the bytes of a store.
use Rattle.std.proofs.Common.{◌≤◌, ◌∙◌, ℕ, List, Option, inl, inr, length, subst}
use Rattle.std.specs.declared.io.Error.{Error}
use Rattle.byte_store.proofs.CauseLaws.{ended_later}
use Rattle.byte_store.specs.Fault.{IsLeft}
use Rattle.byte_store.specs.Known.{IsAll, Stays}
use Rattle.byte_store.specs.Replaced.{IsReplacedInPart}
use Rattle.byte_store.specs.declared.writing.Left.{Left}
use Rattle.elf_commands.specs.ElfCommandError.{ElfCommandError}
use Rattle.elf_commands.specs.ElfCommandError.TheVariants.{Edits, Elf, ElfBatch, Io, Memory}
use Rattle.elf_commands.specs.ElfStores.{WritesEnd}
use Rattle.elf_commands.specs.Shrinking.{Finding}
use Rattle.arwen_cli_patchelf.specs.Plans.{PlanMeant}
use Rattle.arwen_cli_patchelf.specs.Made.{IsMadeOf}
use Rattle.arwen_cli_patchelf.specs.Patched.{FailsPatch, IsMadeKnown, IsPatchTorn, IsUnwritten}

-- loaded bytes are those of the file
pub of_file : (finds : Finding) (plan : PlanMeant) (old : Option (List ℕ)) (loaded made : List ℕ) → IsAll old loaded → IsMadeOf finds plan loaded made → IsMadeKnown finds plan old made
of_file finds plan old loaded made all is file known = let P : List ℕ → Type 0 = λ l. IsMadeOf finds plan l made in subst P (all file known) is

-- a write that failed was to turn the file into what the plan makes of it
torn : (finds : Finding) (plan : PlanMeant) (file : List ℕ) (old mid new : Option (List ℕ)) (made : List ℕ) (left : Left) → Stays old mid → IsMadeOf finds plan file made → IsReplacedInPart file made left mid new
    → IsPatchTorn finds plan file old new
torn finds plan file old mid new made left kept is part = record {
  made = made;
  is_made = is;
  growth = part.growth;
  patches = part.patches;
  end = length made;
  makes = part.turns.makes;
  behind = part.turns.behind;
  stand = part.turns.stand;
  left = left;
  part = let P : Option (List ℕ) → Type 0 = λ o. IsLeft left part.growth part.patches o new in subst P kept part.is_left;
}

-- writes that come after reads and failed
pub unwritten_fails : (writes : Error → Type 0) (none : Type 0) (k m n : ℕ) (finds : Finding) (plan : PlanMeant) (old mid new : Option (List ℕ)) (loaded made : List ℕ) (e : ElfCommandError) → k ≤ m → IsAll old loaded → Stays old mid
    → IsMadeOf finds plan loaded made → IsUnwritten (WritesEnd writes none m n) loaded made mid new e → FailsPatch (WritesEnd writes none k n) finds plan old new e
unwritten_fails writes none k m n finds plan old mid new loaded made (Io e) later all kept is left = elim left [
  | inl same ↦ inl (same ∙ kept)
  | inr (ends, replaced) ↦ inr (
    ended_later writes none e k m n later ends,
    λ file known.
        let (how, part) = replaced in
        let P : List ℕ → Type 0 = λ l. IsReplacedInPart l made how mid new in
        torn finds plan file old mid new made how kept (of_file finds plan old loaded made all is file known) (subst P (all file known) part),
  )
]
unwritten_fails writes none k m n finds plan old mid new loaded made Memory later all kept is same = (same ∙ kept, λ file known. tt)
unwritten_fails writes none k m n finds plan old mid new loaded made (Edits e) later all kept is left = absurd left
unwritten_fails writes none k m n finds plan old mid new loaded made (Elf e) later all kept is left = absurd left
unwritten_fails writes none k m n finds plan old mid new loaded made (ElfBatch e) later all kept is left = absurd left
