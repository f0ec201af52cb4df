use Rattle.std.proofs.Common.{length}
use Rattle.test_cases_edits.proofs.lists.+put_edited_on.Given as goal

-- fewer edits are left each time
abbrev pub decreases-put_edited_on : goal.decreases-put_edited_on
decreases-put_edited_on l = length l.edits.now
