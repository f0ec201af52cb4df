use Rattle.std.proofs.Common.{◌≡◌, ◌++◌, drop, map, string_bytes}
use Rattle.macho_edits.specs.Batch.{calls_of}
use Rattle.arwen_cli_install_names.specs.NameEdits.{added}
use Rattle.arwen_cli_install_names.proofs.name_edits.put_additions.Given as goal

-- the edits so far, with those of the run paths that are left
abbrev pub invariant-loop-path : goal.invariant-loop-path
invariant-loop-path l =
    calls_of l.edits.items ++ added (map string_bytes (drop l.path-index l.paths))
    ≡ calls_of l.initial.edits.items ++ added (map string_bytes l.paths)
