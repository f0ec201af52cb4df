-- The symbols that were written, or those of the image.
use Rattle.std.proofs.Common.{sym}
use Rattle.elf_apply.proofs.DraftLaws.{symbols_of_draft, symbols_of_image}
use Rattle.elf_apply.proofs.draft.Draft.symbols.Goals as goal

pub returns-in-Some : goal.returns-in-Some
returns-in-Some c =
    let found = symbols_of_draft c.args.builder.now c.args.self.now c.in-Some.symbols c.requires (sym c.in-Some.is) in
    record { symbols = found.0; whole = found.1 }

pub returns-in-None : goal.returns-in-None
returns-in-None c =
    let held = c.edited_dynamic_symbols in
    let found = symbols_of_image c.args.builder.now c.args.self.now held.result.now (sym c.in-None.is) held.ensures.read held.ensures.numbers held.ensures.symbols in
    record { symbols = found.0; whole = found.1 }
