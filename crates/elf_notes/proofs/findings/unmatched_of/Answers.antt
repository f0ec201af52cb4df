-- What is left of the names is in neither list.
use Rattle.std.proofs.Common.{Bool, map, not, ap, ◌∙◌}
use Rattle.std.specs.Prelude.{◌&&◌}
use Rattle.std.specs.HashSet.{keys}
use Rattle.std.proofs.lemmas.Result.{IfOk-weaker}
use Rattle.elf_edits.specs.Texts.{is_among}
use Rattle.elf_notes.specs.Notes.{Name}
use Rattle.elf_notes.proofs.NameSteps.{two_left_out}
use Rattle.elf_notes.proofs.findings.unmatched_of.Goals as goal

pub returns : goal.returns
returns c =
    let known : Name → Bool = is_among (map (λ n. n.now) c.args.known.now) in
    let put : Name → Bool = is_among (map (λ n. n.now) c.args.put.now) in
    IfOk-weaker c.names_in.result _ _ (λ found is. is ∙ two_left_out (keys c.take_out-2.new.set) known put (map (λ n. n.now) c.args.asked.now) (λ name.
    c.take_out-2.ensures name ∙ ap (λ b. b && not (put name)) (c.take_out.ensures name ∙ ap (λ b. b && not (known name)) (c.in_ok-missing.ensures name)))) c.names_in.ensures
