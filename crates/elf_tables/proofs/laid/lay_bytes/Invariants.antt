use Rattle.std.proofs.Common.{◌≡◌, ◌≤◌, length, take}
use Rattle.elf_tables.specs.StringSteps.{texts_in, with_places}
use Rattle.elf_tables.proofs.LaySteps.{Growing}
use Rattle.elf_tables.proofs.laid.lay_bytes.Given as goal

-- the bytes hold the texts so far, what is left makes them as long as they get, and each text so far has its place
abbrev pub invariant-loop-keyed : goal.invariant-loop-keyed
invariant-loop-keyed l =
    Growing (texts_in l.texts) l.keyed-index l.bytes.items l.last.text l.place (with_places (take l.keyed-index l.texts) l.places.items)
    × (length l.places.items ≡ l.keyed-index) × (l.keyed-index ≤ length l.texts)
