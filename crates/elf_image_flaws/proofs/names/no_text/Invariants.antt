use Rattle.std.proofs.Common.{◌≡◌, drop}
use Rattle.std.specs.Prelude.{find, nat_lt, not}
use Rattle.elf_image_flaws.proofs.names.no_text.Given as goal

-- a text is there at each place so far
abbrev pub invariant-loop-place : goal.invariant-loop-place
invariant-loop-place l = find (λ place. not (nat_lt place l.end)) (drop l.place-index l.places) ≡ find (λ place. not (nat_lt place l.end)) l.places
