use Rattle.std.proofs.Common.{ℕ, ◌<◌, slice_index_or}
use Rattle.elf_format.specs.Views.{NamedSymbol}
use Rattle.elf_image_symbols.specs.declared.change.Change.{Change}
use Rattle.elf_image_symbols.specs.Changes.{Leaves}
use Rattle.elf_image_symbols.proofs.changes.are_idle.Given as goal

abbrev pub invariant-loop-change : goal.invariant-loop-change
invariant-loop-change l = (k : ℕ) (d : Change) → k < l.change-index → Leaves (λ (y : NamedSymbol). y) l.table (slice_index_or l.changes k d)
