-- The texts of all users, one behind the other.
use Rattle.elf_layout_plan.specs.Texts.{texts_in_use}
use Rattle.elf_layout_sizes.proofs.TextSteps.{six_parts}
use Rattle.elf_layout_sizes.proofs.users.Users.push_all.Goals as goal

pub returns : goal.returns
unfolding texts_in_use
returns c =
    six_parts _ _ _ _ _ _ _ _ _ _ _ _ _ c.in_ok-push_dynamic.ensures c.in_ok-push_dynamic_symbols.ensures c.in_ok-push_definitions.ensures c.in_ok-push_needs.ensures
    c.in_ok-push_symbols.ensures c.in_ok-push_sections.ensures
