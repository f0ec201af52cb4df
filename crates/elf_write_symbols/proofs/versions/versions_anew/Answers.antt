-- The symbols stay in their order where their names do.
use Rattle.std.proofs.Common.{Option, ap, sym, subst, ◌∙◌}
use Rattle.std.specs.Prelude.{length}
use Rattle.elf_format.specs.Image.{Image, counted}
use Rattle.elf_write_symbols.specs.declared.renumbering.Reordering.{Reordering}
use Rattle.elf_write_symbols.specs.Renumbering.{IsReorderingFor}
use Rattle.elf_write_spec.proofs.ForCallers.OrderFacts.{order-same}
use Rattle.elf_write_symbols.proofs.versions.versions_anew.Goals as goal

pub versions_by-requires-in-None-clause-order : goal.versions_by-requires-in-None-clause-order
versions_by-requires-in-None-clause-order c =
    let read : Image = c.args.read.now in
    let image : Image = c.args.image.now in
    c.deref-in-None.ensures.value ∙ c.in_ok-order-in-None.ensures ∙ ap counted (c.len.ensures ∙ ap length c.dynamic_symbols.ensures.symbols)
    ∙ sym (order-same read image (subst (λ (o : Option Reordering). IsReorderingFor read image o) c.in-None.is c.requires.reordering))
