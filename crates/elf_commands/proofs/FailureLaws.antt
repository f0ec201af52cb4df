-- Why a file could not be read or written.
use Rattle.std.proofs.Common.{◌≤◌, ℕ, List, Option, inl, inr}
use Rattle.std.specs.declared.io.Error.{Error}
use Rattle.byte_store.proofs.CauseLaws.{ended_later}
use Rattle.byte_store.specs.Causes.{IsNotWritten}
use Rattle.byte_store.specs.declared.difference.ReplaceError.{ReplaceError}
use Rattle.byte_store.specs.declared.difference.ReplaceError.TheVariants as replace
use Rattle.byte_store.specs.declared.reading.ReadError.{ReadError}
use Rattle.byte_store.specs.declared.reading.ReadError.TheVariants as read
use Rattle.command_words.specs.Rows.{Text}
use Rattle.elf_commands_lines.specs.ElfAsked.{ElfAsked}
use Rattle.elf_commands.specs.ElfEngine.{TellsEdit}
use Rattle.elf_commands_edits.specs.ElfErrors.{answer_to_read, answer_to_replaced}
use Rattle.command_words.specs.Loading.{IsNotLoaded}
use Rattle.elf_commands_edits.specs.Failures.{HasCause, HasShrinkCause, HasTellCause, HasWriteCause}
use Rattle.elf_commands.specs.ShrinkRuns.{TellsShrunk}
use Rattle.elf_commands_edits.specs.Shrinking.{Finding}
use Rattle.elf_commands_edits.specs.declared.error.ElfCommandError.{ElfCommandError}
use Rattle.elf_commands_edits.specs.declared.error.ElfCommandError.TheVariants.{Edits, Elf, ElfBatch, Io, Memory}

-- an edit that is refused for what it is and what the file is has nothing to do with reading or writing
pub refused_for_itself : (reads writes : Error → Type 0) (none : Type 0) (known : Option (List ℕ)) (asked : ElfAsked) (file : List ℕ) (a b : ℕ) (e : ElfCommandError) → TellsEdit asked file e
    → HasCause reads writes none known a b e
refused_for_itself reads writes none known asked file a b Memory tells = tt
refused_for_itself reads writes none known asked file a b (Io e) tells = absurd tells
refused_for_itself reads writes none known asked file a b (Elf e) tells = tt
refused_for_itself reads writes none known asked file a b (ElfBatch e) tells = tt
refused_for_itself reads writes none known asked file a b (Edits e) tells = tt

pub refused_unwritten : (writes : Error → Type 0) (none : Type 0) (asked : ElfAsked) (file : List ℕ) (a b : ℕ) (e : ElfCommandError) → TellsEdit asked file e → HasWriteCause writes none a b e
refused_unwritten writes none asked file a b (Io e) tells = absurd tells
refused_unwritten writes none asked file a b e tells = tt

-- a difference that is not made
pub replaced_cause : (writes : Error → Type 0) (none : Type 0) (a b : ℕ) (e : ReplaceError) → IsNotWritten writes none a b e → HasWriteCause writes none a b (answer_to_replaced e)
replaced_cause writes none a b replace.Memory why = tt
replaced_cause writes none a b (replace.Write e) why = why

-- a store that is not read
pub read_cause : (reads writes : Error → Type 0) (none : Type 0) (known : Option (List ℕ)) (a b : ℕ) (e : ReadError) → IsNotLoaded reads known a b e → HasCause reads writes none known a b (answer_to_read e)
read_cause reads writes none known a b read.Memory why = tt
read_cause reads writes none known a b (read.Io e) why = inl why

-- the cause of writes that come after reads
pub cause_after : (reads writes : Error → Type 0) (none : Type 0) (known : Option (List ℕ)) (a b c : ℕ) (e : ElfCommandError) → a ≤ b → HasWriteCause writes none b c e → HasCause reads writes none known a c e
cause_after reads writes none known a b c (Io e) later why = inr (ended_later writes none e a b c later why)
cause_after reads writes none known a b c e later why = tt

-- ## Run paths that shrink

pub unshrunk_unwritten : (writes : Error → Type 0) (none : Type 0) (finds : Finding) (prefixes : List Text) (file : List ℕ) (a b said told : ℕ) (e : ElfCommandError) → TellsShrunk finds prefixes file e
    → HasTellCause writes none a b said told e
unshrunk_unwritten writes none finds prefixes file a b said told (Io e) tells = absurd tells.2
unshrunk_unwritten writes none finds prefixes file a b said told e tells = tt

pub shrink_replaced_cause : (writes : Error → Type 0) (none : Type 0) (a b said told : ℕ) (e : ReplaceError) → IsNotWritten writes none a b e → HasTellCause writes none a b said told (answer_to_replaced e)
shrink_replaced_cause writes none a b said told replace.Memory why = tt
shrink_replaced_cause writes none a b said told (replace.Write e) why = inr why

pub shrink_read_cause : (reads writes : Error → Type 0) (none : Type 0) (known : Option (List ℕ)) (a b said told : ℕ) (e : ReadError) → IsNotLoaded reads known a b e
    → HasShrinkCause reads writes none known a b said told (answer_to_read e)
shrink_read_cause reads writes none known a b said told read.Memory why = tt
shrink_read_cause reads writes none known a b said told (read.Io e) why = inr (inl why)

pub shrink_cause_after : (reads writes : Error → Type 0) (none : Type 0) (known : Option (List ℕ)) (a b c said told : ℕ) (e : ElfCommandError) → a ≤ b → HasTellCause writes none b c said told e
    → HasShrinkCause reads writes none known a c said told e
shrink_cause_after reads writes none known a b c said told (Io e) later why = elim why [
  | inl rises ↦ inl rises
  | inr ends ↦ inr (inr (ended_later writes none e a b c later ends))
]
shrink_cause_after reads writes none known a b c said told e later why = tt
