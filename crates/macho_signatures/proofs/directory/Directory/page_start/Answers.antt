use Rattle.std.proofs.Common.{arith, refl}
use Rattle.macho_signatures.proofs.PageLaws.{page_start-below}
use Rattle.macho_signatures.proofs.directory.Directory.page_start.Goals as goal

pub overflow_mul-result : goal.overflow_mul-result
overflow_mul-result c = let h = page_start-below c.args.self.now c.args.page c.requires.pages c.requires.inside in omega (arith, h)

pub returns : goal.returns
returns c = record { value = refl; below = page_start-below c.args.self.now c.args.page c.requires.pages c.requires.inside }
