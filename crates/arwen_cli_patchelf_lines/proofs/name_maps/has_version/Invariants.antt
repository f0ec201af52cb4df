use Rattle.std.proofs.Common.{◌≡◌, drop}
use Rattle.arwen_cli_patchelf_lines.specs.NameMaps.{has_version}
use Rattle.arwen_cli_patchelf_lines.proofs.name_maps.has_version.Given as goal

-- no byte so far is a `@`
abbrev pub invariant-loop-byte : goal.invariant-loop-byte
invariant-loop-byte l = has_version (drop l.byte-index l.name) ≡ has_version l.name
