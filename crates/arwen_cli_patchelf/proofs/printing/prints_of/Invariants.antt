use Rattle.std.proofs.Common.{◌≡◌, ◌++◌, drop, map}
use Rattle.arwen_cli_options.specs.Asked.{asked_model}
use Rattle.arwen_cli_patchelf.specs.Printing.{prints_among}
use Rattle.arwen_cli_patchelf.proofs.printing.prints_of.Given as goal

-- the prints so far, with those of the ones that are left
abbrev pub invariant-loop-print : goal.invariant-loop-print
invariant-loop-print l =
    l.prints.items ++ prints_among (map asked_model l.asked) (drop l.print-index l.all) ≡ prints_among (map asked_model l.asked) l.all
