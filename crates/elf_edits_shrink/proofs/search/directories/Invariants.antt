use Rattle.std.proofs.Common.{◌≡◌, map}
use Rattle.elf_edits_shrink.proofs.search.directories.Given as goal

-- the parts that `split` gave so far
abbrev pub invariant-loop-part : goal.invariant-loop-part
invariant-loop-part l = map (λ x. x.now) l.parts.items ≡ map (λ x. x.now) l.yielded
