use Rattle.std.proofs.Common.{◌≡◌, ◌++◌, drop, map}
use Rattle.elf_image.specs.ImageModel.{needs_model}
use Rattle.elf_layout_sizes.specs.Staying.{unmarked_needs}
use Rattle.elf_write_strings.proofs.versions.staying.needs_staying.Given as goal

-- the records so far, with those that stay of the ones that are left, are all of them
abbrev pub invariant-loop-need : goal.invariant-loop-need
invariant-loop-need l =
    map needs_model l.kept.items ++ unmarked_needs l.staying.marks (map needs_model (drop l.need-index l.needs))
    ≡ unmarked_needs l.staying.marks (map needs_model l.needs)
