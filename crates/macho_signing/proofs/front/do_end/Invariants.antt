-- The pages so far end there.
use Rattle.std.proofs.Common.{ℕ, ◌<◌, ◌≤◌}
use Rattle.macho_signatures.specs.Pages.{page_end, page_start}
use Rattle.macho_signing.proofs.front.do_end.Given as goal

abbrev pub invariant-loop-page : goal.invariant-loop-page
invariant-loop-page l = (page : ℕ) → page < l.page → page_start l.directory page < l.len → page_end l.directory page ≤ l.len
