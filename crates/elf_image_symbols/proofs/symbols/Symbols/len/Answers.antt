-- As many symbols as records.
use Rattle.std.proofs.Common.{◌/◌, length, ap, ◌∙◌}
use Rattle.elf_image_symbols.proofs.SeenSteps.{seen_long}
use Rattle.elf_image_symbols.proofs.symbols.Symbols.len.Goals as goal

pub returns : goal.returns
returns c = ap (λ n. length c.self.inside.bytes.now / n) c.symbol_size.ensures.value ∙ seen_long c.self.inside c.self.invariant c.args.self.now c.self.view_is
