use Rattle.std.proofs.Common.{◌≡◌, ◌++◌, drop, map}
use Rattle.elf_image.specs.ImageModel.{name_model}
use Rattle.elf_layout_plan.specs.Staying.{unmarked_names}
use Rattle.elf_layout_sizes.proofs.texts.Texts.push_names.Given as goal

-- what is there so far, with the names that are left, is all of it
abbrev pub invariant-loop-name : goal.invariant-loop-name
invariant-loop-name l =
    l.self ++ map (λ v. v.name) (unmarked_names l.staying.marks (map name_model (drop l.name-index l.names)))
    ≡ l.initial.self ++ map (λ v. v.name) (unmarked_names l.staying.marks (map name_model l.names))
