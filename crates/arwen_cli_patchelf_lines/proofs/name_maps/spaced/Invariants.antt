use Rattle.std.proofs.Common.{◌≡◌, take}
use Rattle.arwen_cli_patchelf_lines.specs.NameMaps.{spaced_all}
use Rattle.arwen_cli_patchelf_lines.proofs.name_maps.spaced.Given as goal

-- the bytes so far
abbrev pub invariant-loop-byte : goal.invariant-loop-byte
invariant-loop-byte l = l.made.items ≡ spaced_all (take l.byte-index l.bytes)
