-- What lines of install_name_tool make of the bytes of stores, where they are known.
use Rattle.std.specs.Prelude.{ℕ, ◌≡◌, ◌^◌, ◌⊎◌, List, [], ◌∷◌, Option, Some, ⊤}
use Rattle.std.specs.declared.io.Error.{Error}
use Rattle.byte_store.specs.Causes.{EndsBy, IsNotWhole}
use Rattle.byte_store.specs.Known.{Stays}
use Rattle.byte_store.specs.declared.reading.ReadError.TheVariants as read
use Rattle.macho_commands.specs.Engine.{Tells, outcome}
use Rattle.macho_commands.specs.Meaning.{batch}
use Rattle.macho_commands.specs.Stores.{FailsPatch, Patched, Torn}
use Rattle.macho_commands.specs.declared.error.MachoCommandError.{MachoCommandError}
use Rattle.macho_commands.specs.declared.error.MachoCommandError.TheVariants.{Io}
use Rattle.macho_commands.specs.declared.signing.Signing.TheVariants.{Left}
use Rattle.macho_edits.specs.Call.{Call}
use Rattle.arwen_cli_options.specs.Options.{Asked, Text}
use Rattle.arwen_cli_install_names.specs.Naming.{AreCallsOf, IsUnlike, TellsUnread}
use Rattle.arwen_cli_install_names.specs.declared.editing.NamesError.{NamesError}
use Rattle.arwen_cli_install_names.specs.declared.editing.NamesError.TheVariants.{Command, Unlike}
use Rattle.arwen_cli_install_names.specs.declared.naming.NamingFault.{NamingFault}
use Rattle.arwen_cli_install_names.specs.declared.naming.NamingFault.TheVariants as naming

-- ## What is made

-- options mean these edits of known bytes
abbrev pub AreKnownCalls : List Asked → Option (List ℕ) → List Call → Type 0
AreKnownCalls given known calls = (file : List ℕ) → known ≡ Some file → AreCallsOf given file calls

-- known bytes become those that a batch of these edits makes of them; without edits they stay
abbrev pub IsPatchedBy : Text → List Call → Option (List ℕ) → Option (List ℕ) → Type 0
IsPatchedBy path [] old new = Stays old new
IsPatchedBy path (call ∷ calls) old new = Patched Left (batch path (call ∷ calls)) old new

-- Known bytes become those that a batch makes of them of the edits that options mean.
pub record IsNamed (given : List Asked) (path : Text) (old new : Option (List ℕ)) : Type 0 where
  pub calls : List Call
  pub are : AreKnownCalls given old calls
  pub patched : IsPatchedBy path calls old new

-- ## What an error leaves and tells

-- what an error of a batch of these edits leaves and tells; without edits there is none
abbrev pub FailsPatchBy : (Error → Type 0) → Text → List Call → Option (List ℕ) → Option (List ℕ) → MachoCommandError → Type 0
FailsPatchBy ended path [] old new e = ⊥
FailsPatchBy ended path (call ∷ calls) old new e = FailsPatch ended Left (batch path (call ∷ calls)) old new e

-- why a file isn't edited of which it isn't known what options mean
abbrev pub answer_to_naming : NamingFault → NamesError
answer_to_naming (naming.Command e) = Command e
answer_to_naming naming.Unlike = Unlike

-- that error of known bytes; one of reading them tells nothing
abbrev pub TellsNoCalls : List Asked → Option (List ℕ) → NamesError → Type 0
TellsNoCalls given known (Command (Io e)) = ⊤
TellsNoCalls given known (Command e) = (file : List ℕ) → known ≡ Some file → TellsUnread file e
TellsNoCalls given known Unlike = (file : List ℕ) → known ≡ Some file → IsUnlike given file

-- the error of a batch of these edits; without edits there is none
abbrev pub TellsUnpatched : Text → List Call → List ℕ → MachoCommandError → Type 0
TellsUnpatched path [] file e = ⊥
TellsUnpatched path (call ∷ calls) file e = Tells (outcome Left (batch path (call ∷ calls)) file) e

-- the error of a batch on the bytes of a file, of the edits that options mean of them
abbrev pub TellsUnmade : List Asked → Text → List ℕ → MachoCommandError → Type 0
TellsUnmade given path file e =
    (calls : List Call) × AreCallsOf given file calls × TellsUnpatched path calls file e

-- an error of the bytes of a file: they aren't read, or the batch isn't made, or the slices need unlike edits
abbrev pub TellsNaming : List Asked → Text → List ℕ → NamesError → Type 0
TellsNaming given path file (Command e) = TellsUnread file e ⊎ TellsUnmade given path file e
TellsNaming given path file Unlike = IsUnlike given file

-- what an error leaves and tells: only writes that ended by it change bytes, where the batch was accepted
abbrev pub FailsNames : (Error → Type 0) → List Asked → Text → Option (List ℕ) → Option (List ℕ) → NamesError → Type 0
FailsNames ended given path old new (Command (Io e)) =
    Stays old new ⊎ (ended e × (calls : List Call) × AreKnownCalls given old calls × Torn Left (batch path calls) old new)
FailsNames ended given path old new e = Stays old new × ((file : List ℕ) → old ≡ Some file → TellsNaming given path file e)

-- ## Why a file could not be read or written

-- an error of a store of these bytes: they were not read whole, or calls that write ended by it
abbrev pub IsOfStore : (Error → Type 0) → (Error → Type 0) → Type 0 → Option (List ℕ) → ℕ → ℕ → Error → Type 0
IsOfStore reads writes takes_none known old new e =
    IsNotWhole reads (2 ^ 32) known old new (read.Io e) ⊎ EndsBy writes takes_none e old new

-- an error of reading or writing is one of the store
abbrev pub HasNamesCause : (Error → Type 0) → (Error → Type 0) → Type 0 → Option (List ℕ) → ℕ → ℕ → NamesError → Type 0
HasNamesCause reads writes takes_none known old new (Command (Io e)) = IsOfStore reads writes takes_none known old new e
HasNamesCause reads writes takes_none known old new e = ⊤
