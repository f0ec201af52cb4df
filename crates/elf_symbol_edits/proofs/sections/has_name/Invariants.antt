use Rattle.std.proofs.Common.{◌≡◌, drop, is_some}
use Rattle.std.specs.List.{list_any}
use Rattle.elf_symbol_edits.proofs.sections.has_name.Given as goal

-- no name so far is there
abbrev pub invariant-loop-name : goal.invariant-loop-name
invariant-loop-name l = list_any is_some l.names ≡ list_any is_some (drop l.name-index l.names)
