-- What reading the file answers is its fault.
use Rattle.std.proofs.Common.{◌≡◌}
use Rattle.elf_format.specs.Rules.{fault_of}
use Rattle.elf_image_reasons.specs.ReadTests.{IsToldFault}
use Rattle.elf_image_reasons.proofs.RuleSteps.{file_fault, told_ok}
use Rattle.elf_image_reasons.proofs.broken.fault_of_file.Goals as goal

pub returns : goal.returns
returns c =
    told_ok (λ x. IsToldFault c.err.result x) (λ x. x ≡ fault_of c.args.bytes.now) c.told_fault.result
    (λ x is. file_fault c.images_show.ensures c.args.bytes.now c.read.result c.err.result x c.read.ensures c.err.ensures.value is) c.told_fault.ensures
