use Rattle.elf_layout_moves.specs.Seen.{resized_model}
use Rattle.elf_layout_segments.proofs.SplitSteps.{seen-sized}
use Rattle.elf_layout_segments.proofs.reading.sections_have_sizes.Goals as goal

pub returns : goal.returns
returns c = seen-sized (resized_model c.r.inside) c.args.r.now c.r.view_is c.r.invariant c.source-source.ensures.edited
