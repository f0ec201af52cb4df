-- What lines of install_name_tool do to the bytes of a store, where they are known.
use Rattle.std.specs.Prelude.{ℕ, ◌≡◌, ◌⊎◌, List, Option, map}
use Rattle.std.specs.declared.io.Error.{Error}
use Rattle.byte_store.specs.Known.{Stays}
use Rattle.macho_commands.specs.declared.error.MachoCommandError.TheVariants.{Memory}
use Rattle.arwen_cli_install_names.specs.Editing.{FailsNames, IsNamed}
use Rattle.arwen_cli_install_names.specs.Line.{ReadsNames}
use Rattle.arwen_cli_install_names.specs.declared.editing.NamesError.{NamesError}
use Rattle.arwen_cli_install_names.specs.declared.editing.NamesError.TheVariants.{Command}
use Rattle.arwen_cli_install_names.specs.declared.line.NameLine.{NameLine}
use Rattle.arwen_cli_options.specs.Options.{Text, given_model}

-- known bytes become those that a batch makes of them of the edits that the options of these words mean
abbrev pub IsNamedBy : List Text → Text → Option (List ℕ) → Option (List ℕ) → Type 0
IsNamedBy words path old new =
    (line : NameLine) × ReadsNames words line × IsNamed (map given_model line.given.items) path old new

-- what an error leaves and tells: these words aren't read, or what their options mean isn't made
abbrev pub FailsNamedBy : (Error → Type 0) → List Text → Text → Option (List ℕ) → Option (List ℕ) → NamesError → Type 0
FailsNamedBy ended words path old new e = (Stays old new × (e ≡ Command Memory))
    ⊎ ((line : NameLine) × ReadsNames words line × FailsNames ended (map given_model line.given.items) path old new e)
