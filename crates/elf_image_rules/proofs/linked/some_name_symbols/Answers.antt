use Rattle.std.proofs.Common.{ap, ◌∙◌}
use Rattle.std.specs.Prelude.{not}
use Rattle.elf_image_rules.specs.Read.{parts_model}
use Rattle.elf_format.specs.Rules.{relocations_of}
use Rattle.elf_image_rules.proofs.LinkSteps.{some_name_symbols}
use Rattle.elf_image_rules.proofs.linked.some_name_symbols.Goals as goal

pub returns : goal.returns
returns c = ap not c.all_name_below.ensures ∙ some_name_symbols (relocations_of (parts_model c.args.parts.now) c.args.section)
