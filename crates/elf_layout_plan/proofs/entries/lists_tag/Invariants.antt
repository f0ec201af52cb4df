use Rattle.std.proofs.Common.{◌≡◌, drop, map}
use Rattle.elf_format.specs.Image.{lists_tag}
use Rattle.elf_tables.specs.ImageModel.{entry_model}
use Rattle.elf_layout_plan.proofs.entries.lists_tag.Given as goal

-- none of the entries so far has the tag
abbrev pub invariant-loop-entry : goal.invariant-loop-entry
invariant-loop-entry l = lists_tag l.tag (map entry_model (drop l.entry-index l.entries)) ≡ lists_tag l.tag (map entry_model l.entries)
