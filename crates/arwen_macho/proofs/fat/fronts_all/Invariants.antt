use Rattle.std.proofs.Common.{take}
use Rattle.std.specs.List.{AllZip}
use Rattle.macho_edits.specs.Edit.{calls_lent}
use Rattle.arwen_macho.specs.Fronts.{IsFrontOf}
use Rattle.arwen_macho.proofs.fat.fronts_all.Given as goal

abbrev pub invariant-loop-slice : goal.invariant-loop-slice
invariant-loop-slice l = AllZip (IsFrontOf (calls_lent l.edits)) (take l.slice-index l.slices) l.fronts.items
