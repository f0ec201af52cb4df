-- What edits leave of the bytes of a store.
use Rattle.std.proofs.Common.{◌≡◌, ◌≤◌, ℕ, List, Option, Some, length, refl, ap, subst, inl, inr, arith}
use Rattle.std.specs.declared.io.Error.{Error}
use Rattle.std.proofs.lemmas.Option.{none-some}
use Rattle.byte_store.proofs.CauseLaws.{ended_later}
use Rattle.byte_store.specs.Causes.{IsNotWritten}
use Rattle.byte_store.specs.Composed.{IsDifference, IsNotMade, made_of}
use Rattle.byte_store.specs.Known.{Becomes, IsAll, Stays}
use Rattle.byte_store.specs.declared.composed.Difference.{Difference}
use Rattle.byte_store.specs.declared.difference.ReplaceError.{ReplaceError}
use Rattle.byte_store.specs.declared.difference.ReplaceError.TheVariants as replace
use Rattle.byte_store.specs.declared.reading.ReadError.{ReadError}
use Rattle.byte_store.specs.declared.reading.ReadError.TheVariants as read
use Rattle.elf_commands_edits.specs.Written.{IsNoDifference}
use Rattle.elf_commands_lines.specs.ElfAsked.{ElfAsked, edits_asked, printing, shrinking}
use Rattle.elf_commands_edits.specs.Groups.{GroupEdit}
use Rattle.elf_commands.specs.ElfEngine.{LeavesElf, MayFailAs, TellsEachFile, TellsEdit}
use Rattle.elf_commands_edits.specs.Storing.{IsNothing}
use Rattle.elf_commands.specs.ElfStores.{FailsElf, IsElfPatched, WritesEnd}
use Rattle.elf_commands_edits.specs.ElfErrors.{answer_to_read, answer_to_replaced}
use Rattle.elf_commands_edits.specs.declared.error.ElfCommandError.{ElfCommandError}
use Rattle.elf_commands_edits.specs.declared.error.ElfCommandError.TheVariants.{Io}

-- an error that tells of each file
pub words_refused : (ended : Error → Type 0) (a : ElfAsked) (old mid : Option (List ℕ)) (e : ElfCommandError) → Stays old mid → TellsEachFile a e → FailsElf ended a old mid e
words_refused ended a old mid (Io e) kept tells = inl kept
words_refused ended a old mid e kept tells = (kept, λ file known. tells file)

-- edits that leave these bytes of a difference
pub leaves_of : (a : ElfAsked) (old : Option (List ℕ)) (loaded file : List ℕ) (d : Difference) → IsAll old loaded → old ≡ Some file → LeavesElf a loaded (made_of loaded d) → LeavesElf a file (made_of file d)
leaves_of a old loaded file d all known leaves = let P : List ℕ → Type 0 = λ l. LeavesElf a l (made_of l d) in subst P (all file known) leaves

-- the difference was made
pub elf_patched : (a : ElfAsked) (edits : List GroupEdit) (old new : Option (List ℕ)) (loaded : List ℕ) (d : Difference) → edits_asked a ≡ Some edits → IsAll old loaded → LeavesElf a loaded (made_of loaded d)
    → Becomes (λ source. made_of source d) old new → IsElfPatched a old new
elf_patched printing edits old new loaded d are all leaves becomes = absurd (none-some edits are)
elf_patched (shrinking prefixes) edits old new loaded d are all leaves becomes = absurd (none-some edits are)
elf_patched a edits old new loaded d are all leaves becomes = λ file known. (made_of file d, leaves_of a old loaded file d all known leaves, becomes file known)

-- the difference was not made: where there was memory, writes ended
pub elf_failed : {S : Type 0} (writes : Error → Type 0) (none : Type 0) (m n : ℕ) (a : ElfAsked) (contents : S → Option (List ℕ)) (old new : S) (loaded : List ℕ) (d : Difference) (e : ReplaceError) → IsAll (contents old) loaded → IsDifference loaded d
    → LeavesElf a loaded (made_of loaded d) → IsNotMade contents d old new e → IsNotWritten writes none m n e → FailsElf (WritesEnd writes none m n) a (contents old) (contents new) (answer_to_replaced e)
elf_failed writes none m n a contents old new loaded d replace.Memory all makeable leaves same why = (ap contents same, λ file known. tt)
elf_failed writes none m n a contents old new loaded d (replace.Write e) all makeable leaves part why = inr (
  why,
  λ file known. record {
    difference = d;
    makeable = let P : List ℕ → Type 0 = λ l. IsDifference l d in subst P (all file known) makeable;
    leaves = leaves_of a (contents old) loaded file d all known leaves;
    left = e.left;
    part = part;
  },
)

-- writes that come after reads and failed
pub fails_after : (writes : Error → Type 0) (none : Type 0) (k m n : ℕ) (a : ElfAsked) (old new : Option (List ℕ)) (e : ElfCommandError) → k ≤ m → FailsElf (WritesEnd writes none m n) a old new e → FailsElf (WritesEnd writes none k n) a old new e
fails_after writes none k m n a old new (Io e) later fails = elim fails [
  | inl kept ↦ inl kept
  | inr (ends, torn) ↦ inr (ended_later writes none e k m n later ends, torn)
]
fails_after writes none k m n a old new e later fails = fails

-- edits that are refused for bytes that were read
pub file_refused : (ended : Error → Type 0) (a : ElfAsked) (known : Option (List ℕ)) (loaded : List ℕ) (e : ElfCommandError) → IsAll known loaded → TellsEdit a loaded e → FailsElf ended a known known e
file_refused ended a known loaded (Io e) all tells = inl refl
file_refused ended a known loaded e all tells = (refl, λ file is. let P : List ℕ → Type 0 = λ l. TellsEdit a l e in subst P (all file is) tells)

-- a store that is not read
pub read_fails : (ended : Error → Type 0) (a : ElfAsked) (old new : Option (List ℕ)) (e : ReadError) → Stays old new → FailsElf ended a old new (answer_to_read e)
read_fails ended a old new read.Memory kept = (kept, λ file is. tt)
read_fails ended a old new (read.Io e) kept = inl kept

-- what is not read or not written is a failure that a command may have
pub read_as_asked : (a : ElfAsked) (e : ReadError) → MayFailAs a (answer_to_read e)
read_as_asked printing read.Memory = tt
read_as_asked printing (read.Io e) = tt
read_as_asked a read.Memory = tt
read_as_asked a (read.Io e) = tt

pub replaced_as_asked : (a : ElfAsked) (e : ReplaceError) → MayFailAs a (answer_to_replaced e)
replaced_as_asked printing replace.Memory = tt
replaced_as_asked printing (replace.Write e) = tt
replaced_as_asked a replace.Memory = tt
replaced_as_asked a (replace.Write e) = tt

-- bytes that differ nowhere
pub nothing_differs : (bytes : List ℕ) (n : ℕ) (d : Difference) → n ≡ length bytes → IsNoDifference bytes d → IsNothing n d
nothing_differs bytes n d is none = record { growth = ap length none.no_growth; pieces = ap length none.no_pieces; end = omega (arith, none.as_long) }
