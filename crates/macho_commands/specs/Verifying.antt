-- Whether the pages of the code signatures of a file fit.
use Rattle.std.specs.Prelude.{ℕ, ◌≡◌, Bool, List, [], None, Ok, Some, ⊤}
use Rattle.std.specs.List.{list_all}
use Rattle.arwen_macho.specs.Found.{container_found}
use Rattle.macho_signing.specs.Check.{checking_fault, parts_checked}
use Rattle.macho_commands_stores.specs.Verdicts.{has_none}
use Rattle.macho_commands.specs.Engine.{Tells, outcome_of}
use Rattle.macho_commands.specs.Engine.Asked.{several}
use Rattle.macho_commands.specs.declared.error.MachoCommandError.{MachoCommandError}
use Rattle.macho_commands.specs.declared.error.MachoCommandError.TheVariants.{Macho, Memory, Signing}

-- no page of any part of a file fails to fit
unfoldable pub do_pages_fit : List ℕ → Bool
do_pages_fit bytes = list_all has_none (parts_checked bytes)

-- nothing wrong is found in a file, nor in its signatures
abbrev pub IsReadWhole : List ℕ → Type 0
IsReadWhole file = (container_found file ≡ None) × (checking_fault file ≡ None)

-- why nothing is told of a file: what is found in it, or in its signatures
abbrev pub TellsUnread : List ℕ → MachoCommandError → Type 0
TellsUnread file Memory = ⊤
TellsUnread file (Macho e) = Tells (outcome_of (several (Ok [])) file) (Macho e)
TellsUnread file (Signing fault) = (container_found file ≡ None) × (checking_fault file ≡ Some fault)
TellsUnread file _ = ⊥
