use Rattle.std.proofs.Common.{◌≡◌, ◌∷◌, [], drop}
use Rattle.std.specs.List.{flat_map, list_any}
use Rattle.elf_edits.specs.TextModel.{pairs_model}
use Rattle.elf_edits.specs.Texts.{holds_nul}
use Rattle.elf_edits.proofs.texts.any_nul_in_pairs.Given as goal

-- no text so far has a NUL
abbrev pub invariant-loop-old : goal.invariant-loop-old
invariant-loop-old l = list_any holds_nul (flat_map (λ pair. pair.0 ∷ pair.1 ∷ []) (pairs_model l.pairs)) ≡ list_any holds_nul (flat_map (λ pair. pair.0 ∷ pair.1 ∷ []) (pairs_model (drop l.old-index l.pairs)))
