use Rattle.std.proofs.Common.{◌≡◌, ◌++◌, map, string_bytes, take}
use Rattle.std.specs.List.{flat_map}
use Rattle.arwen_cli_facts.specs.ElfFacts.{library_model}
use Rattle.arwen_cli_show.specs.Lines.{library_lines}
use Rattle.arwen_cli_show.proofs.elf_lines.put_needed.Given as goal

-- the lines of the libraries so far
abbrev pub invariant-loop-library : goal.invariant-loop-library
invariant-loop-library l = string_bytes l.out ≡ string_bytes l.initial.out ++ flat_map library_lines (map library_model (take l.library-index l.needed))
