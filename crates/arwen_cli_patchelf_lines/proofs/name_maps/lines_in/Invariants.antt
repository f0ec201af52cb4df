use Rattle.std.proofs.Common.{◌≡◌, map}
use Rattle.command_words.specs.Parts.{texts_lent}
use Rattle.arwen_cli_patchelf_lines.proofs.name_maps.lines_in.Given as goal

-- the lines that were yielded
abbrev pub invariant-loop-line : goal.invariant-loop-line
invariant-loop-line l = texts_lent l.made.items ≡ map (λ x. x.now) l.yielded
