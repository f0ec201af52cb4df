use Rattle.std.proofs.Common.{ap, ◌∙◌, map, rules}
use Rattle.std.specs.Prelude.{◌==◌, not}
use borrow.Author.Tests.{tests}
use Rattle.std.proofs.lemmas.Fn.{filter_same}
use Rattle.elf_image_headers.specs.declared.dynamic.Dynamic.{Dynamic}
use Rattle.elf_image_headers.specs.DynamicTag.{tag_of}
use Rattle.elf_image_headers.specs.PartModels.{entry_model}
use Rattle.elf_image_headers.proofs.EditSteps.{without_kept}
use Rattle.elf_image_headers.proofs.entries.remove_tagged.Goals as goal

pub returns : goal.returns
returns c =
    ap (map entry_model) (filter_same _ (λ (e : Dynamic). not (tag_of e == c.args.tag)) _ (λ x b f h. (search (rules, tests), search (rules, tests))) _ _ c.retain.ensures.filtered)
    ∙ without_kept c.args.list.now.items c.args.tag
