use Rattle.std.proofs.Common.{length}
use Rattle.arwen_cli_install_names.proofs.equal_edits.+are_equal.Given as goal

-- fewer texts are left each time
abbrev pub decreases-are_equal : goal.decreases-are_equal
decreases-are_equal l = length l.left.now
