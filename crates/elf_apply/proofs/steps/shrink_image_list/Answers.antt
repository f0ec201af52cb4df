-- The list that is there, shrunk for the image's machine.
use Rattle.std.proofs.Common.{map, ap}
use Rattle.elf_format.specs.declared.header.Header.{Header}
use Rattle.elf_edits.specs.EditModel.{texts_model}
use Rattle.elf_edits_shrink.specs.ShrinkModel.{answer_model}
use Rattle.elf_image.specs.ImageModel.{entry_model}
use Rattle.elf_apply.proofs.ShrinkLaws.{shrunk_is}
use Rattle.elf_apply.proofs.steps.shrink_image_list.Goals as goal

pub returns : goal.returns
returns c =
    shrunk_is c.shrink_list.result (texts_model c.args.prefixes.now) (map answer_model c.args.probe.now) c.header.result.now.e_machine (map entry_model c.entries.result.now) c.args.builder.now
    (ap (λ (h : Header). h.e_machine) c.header.ensures) c.entries.ensures c.shrink_list.ensures.list c.shrink_list.ensures.gone
