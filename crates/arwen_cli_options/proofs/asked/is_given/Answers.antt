-- An option of another name is passed over.
use Rattle.std.proofs.Common.{List, ap, drop, map, sym, ◌||◌, ◌+◌, ◌∙◌}
use Rattle.arwen_cli_options.specs.Asked.{asked_model, is_given}
use Rattle.arwen_cli_options.specs.declared.asked.AskedOption.{AskedOption}
use Rattle.arwen_cli_options.proofs.Turns.{turned}
use Rattle.arwen_cli_options.proofs.asked.is_given.Goals as goal

pub loop-option-preserved : goal.loop-option-preserved
loop-option-preserved c =
    let i = c.loop-option.option-index in
    let asked = c.args.asked.now in
    let told = λ (left : List AskedOption). is_given c.args.name.now (map asked_model left) in
    turned told asked i _ c.option-item.result _ _ c.loop-option-test.true c.option-item.is
    (ap (λ b. b || told (drop (i + 1) asked)) (sym c.eq.ensures ∙ c.if-eq.false)) c.loop-option.invariant
