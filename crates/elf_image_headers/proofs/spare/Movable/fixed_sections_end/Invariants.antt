use Rattle.std.proofs.Common.{◌≡◌, ◌<◌, ◌^◌, drop, map}
use Rattle.elf_image_headers.specs.PartModels.{section_model}
use Rattle.elf_image_headers.specs.Spare.{fixed_sections_end}
use Rattle.elf_image_headers.proofs.spare.Movable.fixed_sections_end.Given as goal

abbrev pub invariant-loop-i : goal.invariant-loop-i
invariant-loop-i l = record {
  end : fixed_sections_end l.self.strings l.self.interpreter l.found (drop l.i l.numbers) (map section_model (drop l.i l.sections))
      ≡ fixed_sections_end l.self.strings l.self.interpreter l.end l.numbers (map section_model l.sections);
  near : l.found < 2 ^ 65;
}
