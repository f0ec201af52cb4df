-- Where no section goes, all of them stay.
use Rattle.std.proofs.Common.{List, [], ap, ◌∙◌, arith}
use Rattle.elf_format.specs.declared.constants.TheConstants.{SHT_DYNSYM}
use Rattle.elf_image.specs.Kept.{KeptSection, kept_sections}
use Rattle.elf_image_uses.specs.Renumbering.{has_opaque_user}
use Rattle.elf_image_uses.specs.Staying.{staying, table_number}
use Rattle.elf_image_uses.proofs.ListSteps.{filter_all}
use Rattle.elf_image_uses.proofs.renumbering.has_dynamic_user.Goals as goal

pub has_opaque_user-requires : goal.has_opaque_user-requires
has_opaque_user-requires c = λ i j d le within. absurd (omega (arith, within))

pub returns : goal.returns
returns c =
    c.has_opaque_user.ensures
    ∙ ap (λ t. has_opaque_user t (staying [] c.args.image.now)) c.table_number.ensures
    ∙ ap (λ (ss : List KeptSection). has_opaque_user (table_number SHT_DYNSYM c.args.image.now) ss) (filter_all (kept_sections c.args.image.now))
