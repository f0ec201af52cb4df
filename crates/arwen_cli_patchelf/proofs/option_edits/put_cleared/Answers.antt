use Rattle.std.proofs.Common.{codes, map}
use Rattle.elf_edits.specs.Edit.{ClearSymbolVersion}
use Rattle.arwen_cli_patchelf.specs.OptionEdits.{by, planned_model}
use Rattle.arwen_cli_patchelf.proofs.EditLaws.{each_more}
use Rattle.arwen_cli_patchelf.proofs.option_edits.put_cleared.Goals as goal

pub loop-name-preserved : goal.loop-name-preserved
loop-name-preserved c =
    each_more (λ value. value.items) (λ value. by (codes "--clear-symbol-version") (ClearSymbolVersion value)) (map planned_model c.args.planned.now.items)
    (map planned_model c.loop-name.planned.items) (map planned_model c.put.new.planned.items) c.loop-name.yielded c.in-Some.name c.in_ok-put.ensures c.loop-name.invariant
