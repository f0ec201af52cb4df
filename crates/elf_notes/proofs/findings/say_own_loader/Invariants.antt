use Rattle.std.proofs.Common.{◌≡◌, ◌||◌, drop, map}
use Rattle.std.specs.List.{list_any}
use Rattle.elf_image.specs.ImageModel.{entry_model}
use Rattle.elf_notes.specs.Notes.{says_loader, says_pie}
use Rattle.elf_notes.proofs.findings.say_own_loader.Given as goal

-- no entry so far says that the file is its own loader
abbrev pub invariant-loop-entry : goal.invariant-loop-entry
invariant-loop-entry l = list_any (λ e. says_pie e || says_loader e) (map entry_model (drop l.entry-index l.entries)) ≡ list_any (λ e. says_pie e || says_loader e) (map entry_model l.entries)
