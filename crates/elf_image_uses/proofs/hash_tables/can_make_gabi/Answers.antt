-- The two numbers are there or not.
use Rattle.std.proofs.Common.{ap, ◌∙◌, length}
use Rattle.elf_format.specs.Image.{ImageSection}
use Rattle.elf_image.specs.ImageModel.{section_model}
use Rattle.patch_bytes.specs.Number.{number_at}
use Rattle.elf_image_uses.specs.Renumbering.{is_gabi_front}
use Rattle.elf_image_uses.proofs.HashSteps.{gabi_long, gabi_past, gabi_there}
use Rattle.elf_image_uses.proofs.hash_tables.can_make_gabi.Goals as goal

pub returns-then-section-eq-LONG_ENTRY : goal.returns-then-section-eq-LONG_ENTRY
returns-then-section-eq-LONG_ENTRY c = gabi_long c.args.form (section_model c.args.section.now) c.if-section-eq-LONG_ENTRY.true

pub returns-then-content-lt8 : goal.returns-then-content-lt8
returns-then-content-lt8 c = gabi_past c.args.form (section_model c.args.section.now) c.if-content-lt8.true

pub returns : goal.returns
returns c =
    let s : ImageSection = section_model c.args.section.now in
    c.is_front_whole.ensures
    ∙ ap (λ n. is_gabi_front (length s.content) n c.word-chains.result) c.word-buckets.ensures
    ∙ ap (λ n. is_gabi_front (length s.content) (number_at c.args.form.order 4 0 s.content) n) c.word-chains.ensures
    ∙ gabi_there c.args.form s c.if-section-eq-LONG_ENTRY.false c.if-content-lt8.false
