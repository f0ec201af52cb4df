use Rattle.std.proofs.Common.{drop, map}
use Rattle.arwen_cli_options.specs.Asked.{asked_model}
use Rattle.arwen_cli_patchelf_lines.proofs.ValueLaws.{Leads, Stops}
use Rattle.arwen_cli_patchelf_lines.proofs.values.resolved.Given as goal

-- what the options that are left ask for behind those so far is what all ask for, and a refusal of one of them is one of all
abbrev pub invariant-loop-one : goal.invariant-loop-one
invariant-loop-one g l =
    Leads (g.F.FileBytes.contents l.files) l.shrinks l.given (map asked_model l.asked.items) (drop l.one-index l.given)
    × Stops (g.F.FileBytes.contents l.files) (g.F.FileBytes.may_fail l.files) l.shrinks l.given (drop l.one-index l.given)
