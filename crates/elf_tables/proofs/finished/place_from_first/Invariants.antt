use Rattle.std.proofs.Common.{◌≡◌, drop}
use Rattle.std.specs.Map.{lookup}
use Rattle.std.specs.Str.{bytes_eq}
use Rattle.elf_tables.specs.StringSteps.{with_places}
use Rattle.elf_tables.proofs.finished.place_from_first.Given as goal

-- the pairs that are left tell what all of them do
abbrev pub invariant-loop-i : goal.invariant-loop-i
invariant-loop-i l = lookup (bytes_eq l.text) (with_places (drop l.i l.texts) (drop l.i l.places)) ≡ lookup (bytes_eq l.text) (with_places l.texts l.places)
