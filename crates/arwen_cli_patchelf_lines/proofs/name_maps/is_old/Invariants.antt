use Rattle.std.proofs.Common.{◌≡◌, drop, map}
use Rattle.arwen_cli_patchelf_lines.specs.NameMaps.{is_old, lent_pair}
use Rattle.arwen_cli_patchelf_lines.proofs.name_maps.is_old.Given as goal

-- none so far has the name
abbrev pub invariant-loop-pair : goal.invariant-loop-pair
invariant-loop-pair l = is_old l.name (map lent_pair (drop l.pair-index l.pairs)) ≡ is_old l.name (map lent_pair l.pairs)
