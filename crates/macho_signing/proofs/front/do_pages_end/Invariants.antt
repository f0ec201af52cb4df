-- The pages of the directories so far end there.
use Rattle.std.proofs.Common.{take}
use Rattle.std.specs.List.{All}
use Rattle.macho_signing.specs.Front.{EndsWithin}
use Rattle.macho_signing.proofs.front.do_pages_end.Given as goal

abbrev pub invariant-loop-directory : goal.invariant-loop-directory
invariant-loop-directory l = All (EndsWithin l.len) (take l.directory-index l.directories)
