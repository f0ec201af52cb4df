use Rattle.std.proofs.Common.{◌≡◌, ◌++◌, map, take}
use Rattle.arwen_cli_options.specs.Asked.{asked_model}
use Rattle.arwen_cli_patchelf_lines.specs.NameMaps.{lent_pair}
use Rattle.arwen_cli_patchelf_lines.specs.Values.{rename_asked}
use Rattle.arwen_cli_patchelf_lines.proofs.values.put_renames.Given as goal

-- the renames so far stand behind the options
abbrev pub invariant-loop-pair : goal.invariant-loop-pair
invariant-loop-pair l = map asked_model l.asked.items
    ≡ map asked_model l.initial.asked.items ++ map (rename_asked l.name) (map lent_pair (take l.pair-index l.pairs))
