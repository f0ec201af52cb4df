use Rattle.std.proofs.Common.{◌≡◌, ◌++◌, string_bytes, take}
use Rattle.arwen_cli_show.specs.Lines.{lines}
use Rattle.arwen_cli_facts.specs.Texts.{texts_model}
use Rattle.arwen_cli_show.proofs.lines.put_lines.Given as goal

-- the lines of the values so far
abbrev pub invariant-loop-value : goal.invariant-loop-value
invariant-loop-value l = string_bytes l.out ≡ string_bytes l.initial.out ++ lines l.key (texts_model (take l.value-index l.values))
