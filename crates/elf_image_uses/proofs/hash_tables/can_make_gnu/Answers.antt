-- The four numbers are there or not.
use Rattle.std.proofs.Common.{◌∙◌}
use Rattle.elf_image.specs.ImageModel.{section_model}
use Rattle.elf_image_uses.proofs.HashSteps.{gnu_past, gnu_there}
use Rattle.elf_image_uses.proofs.hash_tables.can_make_gnu.Goals as goal

pub returns-then-content-lt16 : goal.returns-then-content-lt16
returns-then-content-lt16 c = gnu_past c.args.form (section_model c.args.section.now) c.if-content-lt16.true

pub returns : goal.returns
returns c =
    c.is_gnu_front_whole.ensures
    ∙ rw (c.word-buckets.ensures, c.word-filter_words.ensures, c.word-filter_shift.ensures) (gnu_there c.args.form (section_model c.args.section.now) c.if-content-lt16.false)
