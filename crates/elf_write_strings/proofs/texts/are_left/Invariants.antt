use Rattle.std.proofs.Common.{◌≡◌, ◌≤◌, drop, length, map}
use Rattle.elf_format.specs.Answers.{borrowed}
use Rattle.elf_image.specs.ImageModel.{entry_model}
use Rattle.elf_layout_plan.specs.Texts.{is_subsequence, texts_of_entries}
use Rattle.elf_write_strings.proofs.texts.are_left.Given as goal

-- the texts that are left are asked for among the entries that are left
abbrev pub invariant-loop-entry : goal.invariant-loop-entry
invariant-loop-entry l = record {
  so_far : is_subsequence (drop l.next (map borrowed l.texts)) (texts_of_entries (map entry_model (drop l.entry-index l.entries)))
      ≡ is_subsequence (map borrowed l.texts) (texts_of_entries (map entry_model l.entries));
  inside : l.next ≤ length l.texts;
}
