use Rattle.std.proofs.Common.{◌≡◌, ◌++◌, drop, map}
use Rattle.elf_edits.specs.EditModel.{texts_model}
use Rattle.elf_notes.proofs.names.push_texts.Given as goal

-- the names so far, with the texts that are left
abbrev pub invariant-loop-text : goal.invariant-loop-text
invariant-loop-text l = map (λ n. n.now) l.names.items ++ texts_model (drop l.text-index l.texts) ≡ map (λ n. n.now) l.initial.names.items ++ texts_model l.texts
