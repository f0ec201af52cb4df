use Rattle.std.proofs.Common.{map}
use Rattle.elf_image.specs.ImageModel.{section_model}
use Rattle.elf_layout_segments.proofs.FlagSteps.{IsFlagsLimitBelow}
use Rattle.elf_layout_segments.proofs.forecasts.flags_limit.Given as goal

abbrev pub invariant-loop-position : goal.invariant-loop-position
invariant-loop-position l = IsFlagsLimitBelow l.leave l.limits (map section_model l.sections) l.flags l.position l.least
