use Rattle.std.proofs.Common.{◌≡◌, map, take}
use Rattle.elf_image.specs.ImageModel.{needs_model}
use Rattle.elf_apply.specs.Needs.{with_file_by}
use Rattle.elf_apply.proofs.needs.replaced_needs.Given as goal

-- the libraries so far
abbrev pub invariant-loop-need : goal.invariant-loop-need
invariant-loop-need l = map needs_model l.made.items ≡ map (with_file_by l.names.entries) (map needs_model (take l.need-index l.needs))
