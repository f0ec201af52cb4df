use Rattle.std.proofs.Common.{◌≡◌, map, take}
use Rattle.elf_layout_plan.specs.PlanModel.{place_model}
use Rattle.elf_layout.specs.Reaches.{reach_of_begin}
use Rattle.elf_layout.proofs.TreeSteps.{IsTreeUpTo}
use Rattle.elf_layout.proofs.reaches.tree_over.Given as goal

abbrev pub invariant-loop-begin : goal.invariant-loop-begin
invariant-loop-begin l = l.tree.items ≡ map (reach_of_begin (map place_model l.places)) (take l.begin-index l.begins)

abbrev pub invariant-loop-k : goal.invariant-loop-k
invariant-loop-k l = IsTreeUpTo (map place_model l.places) l.begins l.k l.tree.items
