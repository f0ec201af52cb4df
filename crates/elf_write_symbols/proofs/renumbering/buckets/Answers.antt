-- The table can be made anew, so its header is whole, and has a bucket.
use Rattle.std.proofs.Common.{ap, sym, subst, ◌∙◌, ◌<◌, ℕ}
use Rattle.std.specs.Prelude.{Some}
use Rattle.elf_format.specs.declared.form.Form.{Form}
use Rattle.elf_format.specs.Form.{field_of}
use Rattle.elf_format.specs.Image.{Image}
use Rattle.elf_image.specs.ImageModel.{section_model}
use Rattle.elf_write_symbols.proofs.FinalOrder.{buckets_told}
use Rattle.elf_write_symbols.proofs.HashSteps.{at_one_place}
use Rattle.elf_write_symbols.proofs.ReadyFacts.{facts}
use Rattle.elf_write_symbols.proofs.renumbering.buckets.Goals as goal

pub returns-clause-value : goal.returns-clause-value
returns-clause-value c =
    let read : Image = c.args.read.now in
    let image : Image = c.args.image.now in
    let s = section_model c.in_ok-section.section.now in
    let word = c.word_at.ensures ∙ ap (λ (form : Form). field_of form (0, 4) (0, 4) s.content) c.form.ensures ∙ at_one_place image.form 0 s.content in
    ap (λ (n : ℕ). Some n) word ∙ sym (buckets_told read image c.requires.ready (facts read image c.requires.ready) c.requires.changed s c.in_ok-section.ensures).0

pub returns-clause-some : goal.returns-clause-some
returns-clause-some c =
    let read : Image = c.args.read.now in
    let image : Image = c.args.image.now in
    let s = section_model c.in_ok-section.section.now in
    let word = c.word_at.ensures ∙ ap (λ (form : Form). field_of form (0, 4) (0, 4) s.content) c.form.ensures ∙ at_one_place image.form 0 s.content in
    subst (λ (n : ℕ). 0 < n) (sym word) (buckets_told read image c.requires.ready (facts read image c.requires.ready) c.requires.changed s c.in_ok-section.ensures).1
