use Rattle.std.proofs.Common.{◌≡◌, ◌+◌, ◌*◌, ◌≤◌, ◌^◌, drop, map}
use Rattle.std.specs.Prelude.{sum_by}
use Rattle.elf_image_headers.specs.PartModels.{section_model}
use Rattle.elf_image_headers.specs.SpareFrom.{filled_if_behind}
use Rattle.elf_image_headers.proofs.spare.filled_in_sections.Given as goal

abbrev pub invariant-loop-section : goal.invariant-loop-section
invariant-loop-section l = record {
  sum : l.sum + sum_by (filled_if_behind l.end) (map section_model (drop l.section-index l.sections)) ≡ sum_by (filled_if_behind l.end) (map section_model l.sections);
  near : l.sum ≤ l.section-index * 2 ^ 64;
}
