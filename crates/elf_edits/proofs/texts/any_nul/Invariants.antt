use Rattle.std.proofs.Common.{◌≡◌, drop}
use Rattle.std.specs.List.{list_any}
use Rattle.elf_edits.specs.TextModel.{texts_model}
use Rattle.elf_edits.specs.Texts.{holds_nul}
use Rattle.elf_edits.proofs.texts.any_nul.Given as goal

-- no text so far has one
abbrev pub invariant-loop-text : goal.invariant-loop-text
invariant-loop-text l = list_any holds_nul (texts_model l.texts) ≡ list_any holds_nul (texts_model (drop l.text-index l.texts))
