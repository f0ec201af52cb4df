-- The sections so far that stay stand in front.
use Rattle.std.proofs.Common.{map}
use Rattle.elf_image.specs.Deleted.{is_left}
use Rattle.elf_image.proofs.PicksInPlace.{PicksInPlace}
use Rattle.elf_image.proofs.section_edits.keep_sections.Given as goal

abbrev pub invariant-loop-i : goal.invariant-loop-i
invariant-loop-i l = PicksInPlace (map (is_left l.gone) l.numbers) l.initial.sections.items l.sections.items l.kept l.i
