use Rattle.std.proofs.Common.{◌≡◌, ◌++◌, map, take}
use Rattle.elf_image_flaws.proofs.versions.push_indices.Given as goal

-- the indices so far
abbrev pub invariant-loop-version : goal.invariant-loop-version
invariant-loop-version l = l.known.items ≡ l.initial.known.items ++ map (λ v. v.index) (take l.version-index l.versions)
