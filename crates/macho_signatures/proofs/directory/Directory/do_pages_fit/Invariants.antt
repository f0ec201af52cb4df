-- All pages so far fit.
use Rattle.std.proofs.Common.{◌≡◌, true}
use Rattle.std.specs.List.{list_all, range_with_len}
use Rattle.macho_signatures.specs.Pages.{is_fit}
use Rattle.macho_signatures.proofs.directory.Directory.do_pages_fit.Given as goal

abbrev pub invariant-loop-page : goal.invariant-loop-page
invariant-loop-page l = list_all (is_fit l.self l.bytes) (range_with_len 0 l.page) ≡ true
