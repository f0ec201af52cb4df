-- The entries so far have their tags.
use Rattle.std.proofs.Common.{◌≡◌, ◌++◌, map, take, drop, length}
use Rattle.elf_image_headers.specs.PartModels.{entry_model}
use Rattle.elf_image_headers.specs.DynamicList.{retagged}
use Rattle.elf_image_headers.proofs.entries.retag_entries.Given as goal

abbrev pub invariant-loop-i : goal.invariant-loop-i
invariant-loop-i l =
    (map entry_model l.list.items ≡ retagged l.fn.old l.fn.new (take l.i (map entry_model l.initial.list.items)) ++ drop l.i (map entry_model l.initial.list.items))
    × (length l.list.items ≡ length l.initial.list.items)
