-- What is left are those that don't go.
use Rattle.std.proofs.Common.{rules}
use Rattle.std.proofs.lemmas.Fn.{filter_same}
use Rattle.elf_image.specs.Deleted.{is_left}
use Rattle.elf_image.proofs.section_edits.keep_numbers.Goals as goal

pub returns : goal.returns
returns c = filter_same _ (is_left c.args.gone.now) _ (λ x b f h. (search rules, search rules)) _ _ c.retain.ensures.filtered
