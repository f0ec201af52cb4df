use Rattle.std.proofs.Common.{◌≡◌, ◌++◌, drop, map, string_bytes}
use Rattle.std.specs.List.{flat_map}
use Rattle.elf_notes.specs.Lines.{unmatched_symbol_line}
use Rattle.elf_notes.proofs.lines.put_unmatched_symbols.Given as goal

-- the text so far, with the lines of the names that are left
abbrev pub invariant-loop-name : goal.invariant-loop-name
invariant-loop-name l =
    string_bytes l.text ++ flat_map (unmatched_symbol_line l.file) (map (λ n. n.now) (drop l.name-index l.names))
    ≡ string_bytes l.initial.text ++ flat_map (unmatched_symbol_line l.file) (map (λ n. n.now) l.names)
