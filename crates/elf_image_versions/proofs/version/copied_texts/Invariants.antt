use Rattle.std.proofs.Common.{◌≡◌, take}
use Rattle.elf_image_versions.proofs.version.copied_texts.Given as goal

abbrev pub invariant-loop-text : goal.invariant-loop-text
invariant-loop-text l = l.made.items ≡ take l.text-index l.texts
