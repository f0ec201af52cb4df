-- As many symbols as numbers.
use Rattle.std.proofs.Common.{Bool, length, sym, ap, ◌∙◌}
use Rattle.elf_image_symbols.proofs.ForCallers.Lengths.{length-counted}
use Rattle.elf_image_symbols.specs.EditedList.{EditedList}
use Rattle.elf_image_symbols.specs.Rising.{numbers_there}
use Rattle.elf_image_symbols.proofs.EditedLaws.{length-symbols}
use Rattle.elf_image_symbols.proofs.edited_symbols.EditedSymbols.len.Goals as goal

pub returns-then-self-clause-symbols : goal.returns-then-self-clause-symbols
returns-then-self-clause-symbols c =
    let s = c.self.inside in
    c.len.ensures
    ∙ sym (length-symbols s c.self.invariant c.args.self.now c.self.view_is ∙ ap (λ (b : Bool). length (numbers_there b (length s.table) s.kept.items)) c.if-self.true ∙ length-counted (length s.table))

pub returns-then-self-clause-numbers : goal.returns-then-self-clause-numbers
returns-then-self-clause-numbers c =
    let s = c.self.inside in
    c.len.ensures
    ∙ sym (sym (ap (λ (l : EditedList). length l.numbers) c.self.view_is) ∙ ap (λ (b : Bool). length (numbers_there b (length s.table) s.kept.items)) c.if-self.true ∙ length-counted (length s.table))
