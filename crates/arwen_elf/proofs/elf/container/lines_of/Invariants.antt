use Rattle.std.proofs.Common.{◌≡◌, ◌++◌, string_bytes}
use Rattle.std.specs.List.{flat_map}
use Rattle.arwen_elf.specs.Prints.{line_of}
use Rattle.arwen_elf_writer.specs.WriterModel.{needed_left}
use Rattle.arwen_elf.proofs.elf.container.lines_of.Given as goal

-- the lines that are made, and those of the texts that are still to come
abbrev pub invariant-loop-text : goal.invariant-loop-text
invariant-loop-text l =
    goal.iterator-loop-text.can_next l.text-iterator
    × goal.iterator-loop-text.is_finite l.text-iterator
    × (string_bytes l.lines ++ flat_map line_of (needed_left l.text-iterator) ≡ flat_map line_of (needed_left l.texts))
