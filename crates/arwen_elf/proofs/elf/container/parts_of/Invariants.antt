use Rattle.std.proofs.Common.{◌≡◌, map}
use Rattle.std.specs.String.{string_bytes}
use Rattle.arwen_elf.proofs.elf.container.parts_of.Given as goal

-- the parts that `split` gave so far
abbrev pub invariant-loop-part : goal.invariant-loop-part
invariant-loop-part l = map string_bytes l.parts.items ≡ map (λ x. x.now) l.yielded
