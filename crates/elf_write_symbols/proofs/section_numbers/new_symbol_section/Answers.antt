-- The number of a section, which isn't special.
use Rattle.std.proofs.Common.{ℕ, List, ap, ◌∙◌, arith}
use Rattle.std.specs.Prelude.{slice_index}
use Rattle.std.proofs.lemmas.Bool.{lt-leb}
use Rattle.elf_format.specs.declared.constants.TheConstants.{SHN_LORESERVE}
use Rattle.elf_format.specs.Image.{Image}
use Rattle.elf_write_symbols.proofs.ReadyFacts.{facts}
use Rattle.elf_write_symbols.proofs.SectionFacts.{symbol_section, told_at}
use Rattle.elf_write_symbols.proofs.section_numbers.new_symbol_section.Goals as goal

pub returns : goal.returns
returns c =
    let read : Image = c.args.read.now in
    let image : Image = c.args.image.now in
    let n : ℕ = c.args.number in
    let f = facts read image c.requires.ready in
    c.number_at.ensures ∙ ap (λ (l : List ℕ). slice_index l n) c.requires.sections.numbers ∙ told_at read image f n
    ∙ symbol_section read image f n (lt-leb SHN_LORESERVE n (omega arith))
