use Rattle.std.proofs.Common.{take}
use Rattle.std.specs.List.{AllZip}
use Rattle.macho_edits.specs.Edit.{calls_lent}
use Rattle.arwen_macho.specs.FatSlice.{IsStepIn}
use Rattle.arwen_macho.proofs.fat.changes_all.Given as goal

abbrev pub invariant-loop-slice : goal.invariant-loop-slice
invariant-loop-slice l = AllZip (IsStepIn (calls_lent l.edits)) (take l.slice-index l.slices) l.changes.items
