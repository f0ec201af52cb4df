use Rattle.std.proofs.Common.{◌≡◌, drop, nat_eq}
use Rattle.std.specs.List.{list_any, starts_with}
use Rattle.elf_edits.specs.EditModel.{texts_model}
use Rattle.elf_edits_shrink.proofs.search.begins_with_one.Given as goal

-- no prefix so far begins the directory
abbrev pub invariant-loop-prefix : goal.invariant-loop-prefix
invariant-loop-prefix l = list_any (λ p. starts_with nat_eq l.directory p) (texts_model l.prefixes) ≡ list_any (λ p. starts_with nat_eq l.directory p) (texts_model (drop l.prefix-index l.prefixes))
