use Rattle.std.proofs.Common.{◌≡◌, ◌++◌, drop, map}
use Rattle.macho_edits.specs.Batch.{calls_of}
use Rattle.arwen_cli_options.specs.Options.{given_model}
use Rattle.arwen_cli_install_names.specs.NameEdits.{names_model, options_calls, prepending_options}
use Rattle.arwen_cli_install_names.proofs.name_edits.put_prepending_options.Given as goal

-- the edits so far, with those of the options that put a run path in front and are left
abbrev pub invariant-loop-one : goal.invariant-loop-one
invariant-loop-one l =
    calls_of l.edits.items ++ options_calls (names_model l.names) (prepending_options (map given_model (drop l.one-index l.given)))
    ≡ calls_of l.initial.edits.items ++ options_calls (names_model l.names) (prepending_options (map given_model l.given))
