-- What reading the headers answers.
use Rattle.std.proofs.Common.{◌≡◌}
use Rattle.std.specs.Result.{result_err}
use Rattle.elf_format.specs.Stages.{parts_read}
use Rattle.elf_image_reasons.specs.ReadTests.{IsToldFault}
use Rattle.elf_image_reasons.proofs.RuleSteps.{headers_fault, told_ok}
use Rattle.elf_image_reasons.proofs.broken.fault_of_headers.Goals as goal

pub returns : goal.returns
returns c =
    told_ok (λ x. IsToldFault c.err.result x) (λ x. x ≡ result_err (parts_read c.args.bytes.now)) c.told_fault.result
    (λ x is. headers_fault c.read_headers.result (parts_read c.args.bytes.now) c.err.result x c.read_headers.ensures c.err.ensures.value is) c.told_fault.ensures
