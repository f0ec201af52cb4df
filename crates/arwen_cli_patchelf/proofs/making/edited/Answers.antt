-- There are edits.
use Rattle.std.proofs.Common.{◌∙◌, sym}
use Rattle.std.proofs.lemmas.Result.{IfOk-weaker}
use Rattle.elf_commands.specs.Groups.{group_model}
use Rattle.arwen_cli_patchelf.proofs.StepLaws.{edited_some}
use Rattle.arwen_cli_patchelf.proofs.making.edited.Goals as goal

pub returns-clause-edited : goal.returns-clause-edited
returns-clause-edited c =
    IfOk-weaker c.edit_each.result _ _ (λ new edited. edited_some group_model c.args.edits.now c.args.bytes.now new (sym c.if-is_empty.false ∙ c.is_empty.ensures) edited) c.edit_each.ensures.made
