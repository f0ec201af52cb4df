use Rattle.std.proofs.Common.{◌≡◌, drop, map}
use Rattle.std.specs.List.{list_any}
use Rattle.elf_image.specs.ImageModel.{needs_model}
use Rattle.elf_apply.specs.Needs.{has_file_in}
use Rattle.elf_apply.proofs.needs.has_any_file.Given as goal

-- no library so far has another name
abbrev pub invariant-loop-need : goal.invariant-loop-need
invariant-loop-need l = list_any (has_file_in l.names.entries) (map needs_model l.needs) ≡ list_any (has_file_in l.names.entries) (map needs_model (drop l.need-index l.needs))
