-- What an error leaves and tells of a store's bytes, and why they could not be read or written.
use Rattle.std.proofs.Common.{◌≡◌, ◌≤◌, ◌^◌, [], ◌∷◌, ℕ, List, Option, inl, inr}
use Rattle.std.specs.declared.io.Error.{Error}
use Rattle.byte_store.specs.Causes.{IsNotWhole}
use Rattle.byte_store.specs.Known.{Stays}
use Rattle.byte_store.specs.declared.reading.ReadError.{ReadError}
use Rattle.byte_store.specs.declared.reading.ReadError.TheVariants as read
use Rattle.macho_commands.proofs.SlicedRuns.{caused_later, left_later}
use Rattle.macho_commands.specs.Errors.{answer_to, answer_to_read}
use Rattle.macho_commands.specs.Failures.{HasCause, WritesEnd}
use Rattle.macho_commands.specs.Meaning.{batch}
use Rattle.macho_commands.specs.declared.error.MachoCommandError.{MachoCommandError}
use Rattle.macho_commands.specs.declared.error.MachoCommandError.TheVariants.{Edits, Io, Macho, MachoBatch, Memory, Signing as signing, Unfit}
use Rattle.macho_commands.specs.declared.signing.Signing.TheVariants.{Left}
use Rattle.macho_edits.specs.Call.{Call}
use Rattle.macho_edits.specs.declared.error.MachoError.{MachoError}
use Rattle.macho_edits.specs.declared.error.MachoError.TheVariants as macho
use Rattle.arwen_cli_options.specs.Options.{Asked, Text}
use Rattle.arwen_cli_install_names.specs.Editing.{AreKnownCalls, FailsNames, FailsPatchBy, HasNamesCause, TellsNoCalls, answer_to_naming}
use Rattle.arwen_cli_install_names.specs.Naming.{TellsUnnamed}
use Rattle.arwen_cli_install_names.specs.declared.editing.NamesError.{NamesError}
use Rattle.arwen_cli_install_names.specs.declared.editing.NamesError.TheVariants.{Command, Unlike}
use Rattle.arwen_cli_install_names.specs.declared.naming.NamingFault.{NamingFault}
use Rattle.arwen_cli_install_names.specs.declared.naming.NamingFault.TheVariants as naming

-- ## What is left and told

-- there are no edits
pub uncalled_fails : (ended : Error → Type 0) (given : List Asked) (path : Text) (old new : Option (List ℕ)) (e : NamesError) → Stays old new → TellsNoCalls given old e → FailsNames ended given path old new e
uncalled_fails ended given path old new (Command (Io e)) kept tells = inl kept
uncalled_fails ended given path old new (Command Memory) kept tells = (kept, λ file known. inl (tells file known))
uncalled_fails ended given path old new (Command (Macho e)) kept tells = (kept, λ file known. inl (tells file known))
uncalled_fails ended given path old new (Command (MachoBatch e)) kept tells = (kept, λ file known. inl (tells file known))
uncalled_fails ended given path old new (Command (Edits e)) kept tells = (kept, λ file known. inl (tells file known))
uncalled_fails ended given path old new (Command (signing e)) kept tells = (kept, λ file known. inl (tells file known))
uncalled_fails ended given path old new (Command Unfit) kept tells = (kept, λ file known. inl (tells file known))
uncalled_fails ended given path old new Unlike kept tells = (kept, tells)

-- the batch isn't made of the edits that options mean
unmade_fails : (ended : Error → Type 0) (given : List Asked) (path : Text) (calls : List Call) (old new : Option (List ℕ)) (e : MachoCommandError) → AreKnownCalls given old calls → FailsPatchBy ended path calls old new e
    → FailsNames ended given path old new (Command e)
unmade_fails ended given path [] old new e are fails = absurd fails
unmade_fails ended given path (call ∷ calls) old new (Io e) are fails = elim fails [
  | inl kept ↦ inl kept
  | inr (by, torn) ↦ inr (by, call ∷ calls, are, torn)
]
unmade_fails ended given path (call ∷ calls) old new Memory are fails = (fails.0, λ file known. inr (call ∷ calls, are file known, fails.1 file known))
unmade_fails ended given path (call ∷ calls) old new (Macho e) are fails = (fails.0, λ file known. inr (call ∷ calls, are file known, fails.1 file known))
unmade_fails ended given path (call ∷ calls) old new (MachoBatch e) are fails = (fails.0, λ file known. inr (call ∷ calls, are file known, fails.1 file known))
unmade_fails ended given path (call ∷ calls) old new (Edits e) are fails = (fails.0, λ file known. inr (call ∷ calls, are file known, fails.1 file known))
unmade_fails ended given path (call ∷ calls) old new (signing e) are fails = (fails.0, λ file known. inr (call ∷ calls, are file known, fails.1 file known))
unmade_fails ended given path (call ∷ calls) old new Unfit are fails = (fails.0, λ file known. inr (call ∷ calls, are file known, fails.1 file known))

-- the calls of a batch come after the bytes were read
patched_later : (writes : Error → Type 0) (none : Type 0) (path : Text) (calls : List Call) (old mid new : Option (List ℕ)) (a b c : ℕ) (e : MachoCommandError) → mid ≡ old → a ≤ b → FailsPatchBy (WritesEnd writes none b c) path calls mid new e
    → FailsPatchBy (WritesEnd writes none a c) path calls old new e
patched_later writes none path [] old mid new a b c e same grows fails = fails
patched_later writes none path (call ∷ calls) old mid new a b c e same grows fails = left_later writes none Left (batch path (call ∷ calls)) old mid new e a b c same grows fails

pub fails_after : (writes : Error → Type 0) (none : Type 0) (given : List Asked) (path : Text) (calls : List Call) (old mid new : Option (List ℕ)) (a b c : ℕ) (e : MachoCommandError) → AreKnownCalls given old calls → mid ≡ old → a ≤ b
    → FailsPatchBy (WritesEnd writes none b c) path calls mid new e → FailsNames (WritesEnd writes none a c) given path old new (Command e)
fails_after writes none given path calls old mid new a b c e are same grows fails =
    unmade_fails (WritesEnd writes none a c) given path calls old new e are (patched_later writes none path calls old mid new a b c e same grows fails)

-- ## Causes

-- a store that isn't read
pub read_cause : (reads writes : Error → Type 0) (none : Type 0) (known : Option (List ℕ)) (a b : ℕ) (e : ReadError) → IsNotWhole reads (2 ^ 32) known a b e
    → HasNamesCause reads writes none known a b (Command (answer_to_read e))
read_cause reads writes none known a b read.Memory why = tt
read_cause reads writes none known a b (read.Io e) why = inl why

-- no error of a file that isn't read is one of reading it
never_io : (fault : MachoError) (e : Error) → Io e ≡ answer_to fault → ⊥
never_io macho.Memory e is = cc
never_io (macho.Parsing check) e is = cc
never_io macho.UnixArchive e is = cc
never_io (macho.CommandBuilderError error) e is = cc
never_io (macho.RpathMissing text) e is = cc
never_io (macho.DylibNameMissing text) e is = cc
never_io macho.DylibIdMissing e is = cc
never_io (macho.NoRoom needed available) e is = cc

pub unnamed_cause : (reads writes : Error → Type 0) (none : Type 0) (known : Option (List ℕ)) (a b : ℕ) (given : List Asked) (file : List ℕ) (fault : NamingFault) → TellsUnnamed given file fault
    → HasNamesCause reads writes none known a b (answer_to_naming fault)
unnamed_cause reads writes none known a b given file (naming.Command (Io e)) tells = absurd (never_io tells.0 e tells.2)
unnamed_cause reads writes none known a b given file (naming.Command Memory) tells = tt
unnamed_cause reads writes none known a b given file (naming.Command (Macho e)) tells = tt
unnamed_cause reads writes none known a b given file (naming.Command (MachoBatch e)) tells = tt
unnamed_cause reads writes none known a b given file (naming.Command (Edits e)) tells = tt
unnamed_cause reads writes none known a b given file (naming.Command (signing e)) tells = tt
unnamed_cause reads writes none known a b given file (naming.Command Unfit) tells = tt
unnamed_cause reads writes none known a b given file naming.Unlike tells = tt

-- calls of a batch
named_cause : (reads writes : Error → Type 0) (none : Type 0) (known : Option (List ℕ)) (a b : ℕ) (e : MachoCommandError) → HasCause reads writes none known a b e
    → HasNamesCause reads writes none known a b (Command e)
named_cause reads writes none known a b (Io e) (inl (inl failed)) = inl (inl failed)
named_cause reads writes none known a b (Io e) (inl (inr endless)) = inl (inr (inl endless))
named_cause reads writes none known a b (Io e) (inr ends) = inr ends
named_cause reads writes none known a b Memory why = tt
named_cause reads writes none known a b (Macho e) why = tt
named_cause reads writes none known a b (MachoBatch e) why = tt
named_cause reads writes none known a b (Edits e) why = tt
named_cause reads writes none known a b (signing e) why = tt
named_cause reads writes none known a b Unfit why = tt

-- they come after the bytes were read
pub cause_after : (reads writes : Error → Type 0) (none : Type 0) (old mid : Option (List ℕ)) (a b c : ℕ) (e : MachoCommandError) → mid ≡ old → a ≤ b → HasCause reads writes none mid b c e
    → HasNamesCause reads writes none old a c (Command e)
cause_after reads writes none old mid a b c e same grows why =
    named_cause reads writes none old a c e (caused_later reads writes none old mid e a b c same grows why)
