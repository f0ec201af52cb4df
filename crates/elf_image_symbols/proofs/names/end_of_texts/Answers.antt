-- A text ends at the last NUL or before it.
use Rattle.std.proofs.Common.{◌+◌, inl, inr, sym, ◌∙◌, arith}
use Rattle.std.proofs.lemmas.Bool.{cases_lt, le-ltb, lt-ltb}
use Rattle.elf_image_symbols.proofs.NameSteps.{text_before, text_behind}
use Rattle.elf_image_symbols.proofs.names.end_of_texts.Goals as goal

pub returns-in-Some : goal.returns-in-Some
returns-in-Some c room place long =
    let found = c.in-Some.ensures in
    elim (cases_lt place (c.in-Some.last + 1)) [
      | inl less ↦ text_before room place c.in-Some.last c.args.texts.now long (omega (arith, less)) found.0.high found.1 ∙ sym (lt-ltb place (c.in-Some.last + 1) less)
      | inr past ↦ text_behind room place (c.in-Some.last + 1) c.args.texts.now long past found.0.after ∙ sym (le-ltb place (c.in-Some.last + 1) past)
    ]

pub returns-in-None : goal.returns-in-None
returns-in-None c room place long = text_behind room place 0 c.args.texts.now long (omega arith) c.in-None.ensures ∙ sym (le-ltb place 0 (omega arith))
