use Rattle.std.proofs.Common.{length, refl}
use Rattle.arwen_elf_writer.proofs.WrittenLaws.{none_differs}
use Rattle.arwen_elf_writer.proofs.output.no_difference.Goals as goal

pub returns-clause-makeable : goal.returns-clause-makeable
returns-clause-makeable c =
    none_differs c.args.bytes.now (record { growth = c.new.result; pieces = c.new-2.result; new_length = length c.args.bytes.now })
    (record { no_growth = c.new.ensures.items; no_pieces = c.new-2.ensures.items; as_long = refl })
