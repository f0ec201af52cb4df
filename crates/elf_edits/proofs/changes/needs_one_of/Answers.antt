-- The set is asked for the entry's text.
use Rattle.std.proofs.Common.{◌∙◌, ap, sym}
use Rattle.std.specs.HashSet.{keys}
use Rattle.elf_image.specs.ImageModel.{entry_model}
use Rattle.elf_image.specs.declared.dynamic.Dynamic.{Dynamic}
use Rattle.elf_edits.specs.Changes.{has_name, needs_one_of}
use Rattle.elf_edits.proofs.LookupSteps.{needed_among}
use Rattle.elf_edits.proofs.changes.needs_one_of.Goals as goal

pub returns-in-Text : goal.returns-in-Text
returns-in-Text c =
    c.contains.ensures
    ∙ ap (has_name (keys c.args.names.now)) c.as_slice.ensures
    ∙ needed_among (keys c.args.names.now) c.in-Text.tag c.in-Text.val.bytes c.if-tag-eq-DT_NEEDED.true
    ∙ sym (ap (λ (e : Dynamic). needs_one_of (keys c.args.names.now) (entry_model e)) c.in-Text.is)
