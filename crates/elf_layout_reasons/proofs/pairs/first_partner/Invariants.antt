use Rattle.std.proofs.Common.{◌≡◌, drop}
use Rattle.elf_layout_reasons.specs.Stuck.{first_partner}
use Rattle.elf_layout_reasons.proofs.pairs.first_partner.Given as goal

abbrev pub invariant-loop-other : goal.invariant-loop-other
invariant-loop-other l = first_partner l.block (drop l.other-index l.others) ≡ first_partner l.block l.others
