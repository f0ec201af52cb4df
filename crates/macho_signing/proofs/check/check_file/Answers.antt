use Rattle.std.proofs.Common.{◌∙◌}
use Rattle.macho_signing.proofs.CheckLaws.{checks_of}
use Rattle.macho_signing.proofs.check.check_file.Goals as goal

pub returns : goal.returns
returns c = checks_of c.args.bytes.now c.deref.result.now c.check_parts.result c.in_ok-parts.ensures.0 (c.deref.ensures.value ∙ c.in_ok-parts.ensures.1) c.check_parts.ensures
