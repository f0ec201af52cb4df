use Rattle.std.proofs.Common.{◌≡◌, ◌++◌, drop, map}
use Rattle.elf_image.specs.ImageModel.{name_model}
use Rattle.elf_layout_sizes.specs.Staying.{unmarked_names}
use Rattle.elf_write_strings.proofs.versions.staying.names_staying.Given as goal

-- the names so far, with those that stay of the ones that are left, are all of them
abbrev pub invariant-loop-name : goal.invariant-loop-name
invariant-loop-name l =
    map name_model l.kept.items ++ unmarked_names l.staying.marks (map name_model (drop l.name-index l.names))
    ≡ unmarked_names l.staying.marks (map name_model l.names)
