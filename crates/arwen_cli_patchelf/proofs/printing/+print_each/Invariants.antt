use Rattle.std.proofs.Common.{length}
use Rattle.arwen_cli_patchelf.proofs.printing.+print_each.Given as goal

-- fewer prints are left each time
abbrev pub decreases-print_each : goal.decreases-print_each
decreases-print_each g l = length l.prints.now
