-- All symbols are there where there are as many as were read.
use Rattle.std.proofs.Common.{length, sym, ap, ◌∙◌}
use Rattle.std.proofs.lemmas.Bool.{eq-eqb, eqb-true}
use Rattle.elf_image_symbols.specs.EditedList.{EditedList}
use Rattle.elf_image_symbols.proofs.EditedLaws.{numbers_whole, whole_long}
use Rattle.elf_image_symbols.proofs.edited_symbols.EditedSymbols.are_all_there.Goals as goal

pub returns-clause-numbers : goal.returns-clause-numbers
returns-clause-numbers c = (
  λ h. numbers_whole c.self.inside c.self.invariant c.args.self.now c.self.view_is (sym c.len.ensures.numbers ∙ eqb-true c.len.result c.len-2.result h ∙ c.len-2.ensures),
  λ whole. eq-eqb c.len.result c.len-2.result (c.len.ensures.numbers ∙ whole_long c.self.inside c.self.invariant c.args.self.now c.self.view_is whole ∙ sym c.len-2.ensures),
)

pub returns-clause-symbols : goal.returns-clause-symbols
returns-clause-symbols c =
    let read = ap (λ (l : EditedList). length l.read) c.self.view_is in (
      λ h. sym c.len.ensures.symbols ∙ eqb-true c.len.result c.len-2.result h ∙ c.len-2.ensures ∙ read,
      λ long. eq-eqb c.len.result c.len-2.result (c.len.ensures.symbols ∙ long ∙ sym read ∙ sym c.len-2.ensures),
    )
