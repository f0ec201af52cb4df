use Rattle.std.proofs.Common.{◌≡◌, ◌≤◌, ◌-◌, length, map, vec_len}
use Rattle.elf_image.specs.ImageModel.{text_model}
use Rattle.elf_symbol_edits.specs.Steps.{AreNames, with_section_names}
use Rattle.elf_symbol_edits.proofs.sections.put_names.Given as goal

-- the names that are left make of the image what all make of the first one
abbrev pub invariant-loop-name : goal.invariant-loop-name
invariant-loop-name l = record {
  same : with_section_names (map text_model l.names.items) l.image ≡ with_section_names (map text_model l.initial.names.items) l.initial.image;
  few : length l.names.items ≤ length l.image.sections - 1;
  whole : AreNames (map text_model l.names.items);
}

abbrev pub decreases-loop-name : goal.decreases-loop-name
decreases-loop-name l = vec_len l.names
