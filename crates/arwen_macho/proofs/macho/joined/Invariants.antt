use Rattle.std.proofs.Common.{◌≡◌, ◌++◌, drop}
use Rattle.std.specs.List.{concat}
use Rattle.patch_bytes.specs.ByteString.{bytes_of_each}
use Rattle.arwen_macho.proofs.macho.joined.Given as goal

-- what is joined and what is left are all of it
abbrev pub invariant-loop-command : goal.invariant-loop-command
invariant-loop-command l = l.area.items ++ concat (bytes_of_each (drop l.command-index l.commands)) ≡ concat (bytes_of_each l.commands)
