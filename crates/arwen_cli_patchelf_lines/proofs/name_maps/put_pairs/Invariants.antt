use Rattle.std.proofs.Common.{◌≡◌, ◌+◌, drop, map}
use Rattle.arwen_cli_patchelf_lines.specs.NameMaps.{lent_pair, pairs_from}
use Rattle.command_words.specs.Parts.{texts_lent}
use Rattle.arwen_cli_patchelf_lines.proofs.name_maps.put_pairs.Given as goal

-- the pairs so far, and those of the lines that are left
abbrev pub invariant-loop-i : goal.invariant-loop-i
invariant-loop-i l = pairs_from (map lent_pair l.pairs.items) (l.i + 1) (texts_lent (drop l.i l.lines)) ≡ pairs_from (map lent_pair l.initial.pairs.items) 1 (texts_lent l.lines)
