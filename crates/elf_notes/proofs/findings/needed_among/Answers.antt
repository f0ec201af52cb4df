-- The set has just the names that are needed.
use Rattle.std.proofs.Common.{map, ◌∙◌}
use Rattle.std.specs.HashSet.{keys}
use Rattle.std.proofs.lemmas.Result.{IfOk-weaker}
use Rattle.elf_edits.specs.Texts.{is_among}
use Rattle.elf_notes.proofs.NameSteps.{by_set}
use Rattle.elf_notes.proofs.findings.needed_among.Goals as goal

pub returns : goal.returns
returns c =
    IfOk-weaker c.names_in.result _ _ (λ names is.
    is ∙ by_set (keys c.in_ok-set.set) (is_among (map (λ n. n.now) c.args.needed.now)) (map (λ n. n.now) c.args.asked.now) c.in_ok-set.ensures) c.names_in.ensures
