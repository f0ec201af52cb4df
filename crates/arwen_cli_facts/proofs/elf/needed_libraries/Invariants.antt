use Rattle.std.proofs.Common.{◌≡◌, ◌++◌, map}
use Rattle.elf_image.specs.Image.{shown}
use Rattle.arwen_elf.specs.Reads.{needed_shown}
use Rattle.arwen_elf.specs.WriterModel.{needed_left}
use Rattle.arwen_cli_facts.specs.ElfFacts.{library_facts, library_model}
use Rattle.arwen_cli_facts.proofs.elf.needed_libraries.Given as goal

-- the libraries that are made, and those that are still to come
abbrev pub invariant-loop-name : goal.invariant-loop-name
invariant-loop-name l =
    goal.iterator-loop-name.can_next l.name-iterator
    × goal.iterator-loop-name.is_finite l.name-iterator
    × (map library_model l.made.items ++ map (library_facts l.writer.needs) (needed_left l.name-iterator) ≡ map (library_facts l.writer.needs) (needed_shown (shown l.writer)))
