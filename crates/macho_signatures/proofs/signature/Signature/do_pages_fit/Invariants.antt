-- All directories so far fit.
use Rattle.std.proofs.Common.{◌≡◌, true, take}
use Rattle.std.specs.List.{list_all}
use Rattle.macho_signatures.specs.Pages.{is_fit, pages_of}
use Rattle.macho_signatures.proofs.signature.Signature.do_pages_fit.Given as goal

abbrev pub invariant-loop-directory : goal.invariant-loop-directory
invariant-loop-directory l = list_all (λ d. list_all (is_fit d l.bytes) (pages_of d)) (take l.directory-index l.self.directories.items) ≡ true
