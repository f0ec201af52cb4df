-- The commands so far.
use Rattle.std.proofs.Common.{◌≡◌, map, take}
use Rattle.patch_bytes.specs.ByteString.{bytes_of_each}
use Rattle.macho_signing.specs.Place.{signature_commands}
use Rattle.macho_signing.proofs.place.kept_commands.Given as goal

abbrev pub invariant-loop-string : goal.invariant-loop-string
invariant-loop-string l = map (λ c. c.now) l.kept.items ≡ signature_commands l.order (bytes_of_each (take l.string-index l.commands))
