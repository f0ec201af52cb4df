-- The lines of the names, and behind them those of what holds.
use Rattle.std.proofs.Common.{◌∙◌, ◌++◌, ap, map, string_bytes, List, Bor}
use Rattle.std.specs.List.{flat_map}
use Rattle.elf_notes.specs.Lines.{unmatched_line, unmatched_symbol_line}
use Rattle.elf_notes.specs.Notes.{Name}
use Rattle.elf_notes.proofs.NameSteps.{seven_more}
use Rattle.elf_notes.proofs.lines.put_findings.Goals as goal

pub returns : goal.returns
returns c =
    let named : List (Bor Name) → List Name = map (λ n. n.now) in
    let file = c.args.file.now in
    let found = c.args.found.now in
    seven_more (string_bytes c.args.text.now) (string_bytes c.put_unmatched.new.text) (string_bytes c.put_unmatched_symbols.new.text) (string_bytes c.put_flags.new.text)
    (flat_map (unmatched_line file) (named found.unmatched.items)) (flat_map (unmatched_symbol_line file) (named found.unmatched_symbols.items)) _ _ _ _ _
    (c.in_ok-put_unmatched.ensures ∙ ap (λ l. string_bytes c.args.text.now ++ flat_map (unmatched_line file) (named l)) c.deref.ensures.value)
    (c.in_ok-put_unmatched_symbols.ensures ∙ ap (λ l. string_bytes c.put_unmatched.new.text ++ flat_map (unmatched_symbol_line file) (named l)) c.deref-2.ensures.value)
    c.in_ok-put_flags.ensures
