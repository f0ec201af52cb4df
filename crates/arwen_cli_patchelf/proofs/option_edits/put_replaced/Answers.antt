-- There is a pair.
use Rattle.std.proofs.Common.{◌∙◌, ◌++◌, ap, codes, map, sym}
use Rattle.std.proofs.lemmas.Result.{on_ok_weaker}
use Rattle.elf_edits.specs.Edit.{ReplaceLibrary}
use Rattle.arwen_cli_options.specs.Asked.{pair_lent}
use Rattle.arwen_cli_patchelf.specs.OptionEdits.{planned_model}
use Rattle.arwen_cli_patchelf.proofs.EditLaws.{some_given}
use Rattle.arwen_cli_patchelf.proofs.option_edits.put_replaced.Goals as goal

pub returns : goal.returns
returns c =
    let pairs = c.in_ok-pairs.pairs in
    on_ok_weaker c.put.result (λ put. put ∙ ap (λ l. map planned_model c.args.planned.now.items ++ l)
    (some_given (codes "--replace-needed") ReplaceLibrary pair_lent pairs.items pairs.len _ pairs.ok.0 (sym c.if-is_empty.false ∙ c.is_empty.ensures) c.in_ok-pairs.ensures)) c.put.ensures
