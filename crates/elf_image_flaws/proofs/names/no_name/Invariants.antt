use Rattle.std.proofs.Common.{◌≡◌, drop, map}
use Rattle.std.specs.Prelude.{find, nat_lt, not}
use Rattle.elf_image_flaws.proofs.names.no_name.Given as goal

-- a text is there at each place so far
abbrev pub invariant-loop-version : goal.invariant-loop-version
invariant-loop-version l = find (λ place. not (nat_lt place l.end)) (map (λ v. v.name) (drop l.version-index l.versions)) ≡ find (λ place. not (nat_lt place l.end)) (map (λ v. v.name) l.versions)
