-- What is left are those that stay.
use Rattle.std.proofs.Common.{rules}
use Rattle.std.proofs.lemmas.Fn.{filter_same}
use Rattle.elf_image_symbols.specs.EditedList.{stays}
use Rattle.elf_image_symbols.proofs.numbers.retain_others.Goals as goal

pub returns-clause-items : goal.returns-clause-items
returns-clause-items c = filter_same _ (stays c.args.gone.now) _ (λ x b f h. (search rules, search rules)) _ _ c.retain.ensures.filtered
