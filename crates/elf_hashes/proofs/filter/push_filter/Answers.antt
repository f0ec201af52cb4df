-- Each word fits.
use Rattle.std.proofs.Common.{◌∙◌}
use Rattle.elf_hashes.proofs.FilterLaws.{all-fit}
use Rattle.elf_hashes.proofs.filter.push_filter.Goals as goal

pub push_class_words-requires : goal.push_class_words-requires
push_class_words-requires c =
    all-fit c.args.form c.args.sizes c.args.hashes.now c.as_slice.result.now (c.as_slice.ensures.value ∙ c.in_ok-words.ensures)
