-- One name after another.
use Rattle.elf_image_symbols.specs.Loan.{symbols_now}
use Rattle.elf_layout_plan.specs.Texts.{texts_of_symbols}
use Rattle.std.proofs.Common.{◌++◌}
use Rattle.elf_layout_sizes.proofs.SymbolSteps.{name_gathered}
use Rattle.elf_layout_sizes.proofs.texts.Texts.push_symbols.Goals as goal

pub loop-i-preserved : goal.loop-i-preserved
loop-i-preserved c =
    name_gathered c.loop-i.self c.push.new.self (c.reserve.new.self ++ texts_of_symbols (symbols_now c.args.symbols)) (symbols_now c.args.symbols) c.loop-i.i c.name.result.now
    c.name.ensures c.in_ok-push.ensures c.loop-i.invariant
