use Rattle.std.proofs.Common.{◌≡◌, ◌++◌, drop, map}
use Rattle.elf_image.specs.ImageModel.{definition_model}
use Rattle.elf_layout_plan.specs.Texts.{texts_of_definitions}
use Rattle.elf_layout_sizes.proofs.texts.Texts.push_definitions.Given as goal

-- what is there so far, with the names of the versions that are left, is all of it
abbrev pub invariant-loop-definition : goal.invariant-loop-definition
invariant-loop-definition l =
    l.self ++ texts_of_definitions (map definition_model (drop l.definition-index l.definitions)) ≡ l.initial.self ++ texts_of_definitions (map definition_model l.definitions)
