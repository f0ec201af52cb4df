use Rattle.std.proofs.Common.{◌≡◌, map, take}
use Rattle.arwen_cli_facts.proofs.signature.hashes_of.Given as goal

-- the hashes of the directories so far
abbrev pub invariant-loop-directory : goal.invariant-loop-directory
invariant-loop-directory l = l.hashes.items ≡ map (λ d. d.hash) (take l.directory-index l.directories)
