use Rattle.std.proofs.Common.{◌≡◌, ◌++◌, drop}
use Rattle.patch_bytes.specs.ByteString.{bytes_of_each}
use Rattle.elf_layout_sizes.proofs.texts.Texts.push_all.Given as goal

-- what is there so far, with the texts that are left, is all of it
abbrev pub invariant-loop-text : goal.invariant-loop-text
invariant-loop-text l = l.self ++ bytes_of_each (drop l.text-index l.texts) ≡ l.initial.self ++ bytes_of_each l.texts
