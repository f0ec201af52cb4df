use Rattle.std.proofs.Common.{◌≡◌, ◌++◌, take}
use Rattle.macho_edits.specs.Built.{fields}
use Rattle.macho_edits.proofs.commands.push_fields.Given as goal

abbrev pub invariant-loop-number : goal.invariant-loop-number
invariant-loop-number l = l.bytes.items ≡ l.initial.bytes.items ++ fields l.order (take l.number-index l.numbers)
