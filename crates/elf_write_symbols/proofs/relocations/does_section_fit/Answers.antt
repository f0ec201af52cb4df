-- There is a new number for each symbol that is named.
use Rattle.std.proofs.Common.{◌≡◌, Some, ap, sym, ◌∙◌, length, option_map}
use Rattle.elf_format.specs.declared.form.Form.{Form}
use Rattle.elf_format.specs.Image.{Image}
use Rattle.elf_image.specs.ImageModel.{section_model}
use Rattle.elf_write_spec.specs.Renumbered.{are_symbols_below}
use Rattle.elf_write_symbols.specs.Fits.{numbers_for}
use Rattle.elf_write_symbols.proofs.ReadyFacts.{facts, section_here}
use Rattle.elf_write_symbols.proofs.RelocationFacts.{named_below}
use Rattle.elf_write_symbols.proofs.relocations.does_section_fit.Goals as goal

pub do_relocations_fit-requires : goal.do_relocations_fit-requires
do_relocations_fit-requires c =
    let read : Image = c.args.read.now in
    let image : Image = c.args.image.now in
    let f = facts read image c.requires.ready in
    let s = section_model c.args.section.now in
    let told : numbers_for read image s ≡ Some c.in-Some.numbers.now =
    sym c.numbers_for.ensures ∙ ap (option_map (λ n. n.now)) c.in-Some.is in
    ap (λ (form : Form). are_symbols_below form s.sh_type (length c.in-Some.numbers.now) s.content) c.form.ensures
    ∙ named_below read image f s.sh_type s (section_here read image f s.sh_type s c.requires.at) c.in-Some.numbers.now told
