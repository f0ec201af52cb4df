-- What is left of the names is looked for in vain.
use Rattle.std.proofs.Common.{Bool, map, not, ap, ◌∙◌}
use Rattle.std.specs.Prelude.{◌&&◌}
use Rattle.std.specs.HashSet.{keys}
use Rattle.std.proofs.lemmas.Result.{IfOk-weaker}
use Rattle.elf_edits.specs.Symbols.{names_behind_first}
use Rattle.elf_edits.specs.Texts.{is_among}
use Rattle.elf_image_symbols.specs.Loan.{symbols_now}
use Rattle.elf_notes.specs.Notes.{Name}
use Rattle.elf_notes.proofs.NameSteps.{two_left_out}
use Rattle.elf_notes.proofs.symbols.unmatched_symbols_of.Goals as goal

pub returns : goal.returns
returns c =
    let there : Name → Bool = is_among (names_behind_first (symbols_now c.args.symbols)) in
    let put : Name → Bool = is_among (map (λ n. n.now) c.args.put.now) in
    IfOk-weaker c.names_in.result _ _ (λ found is. is ∙ two_left_out (keys c.take_out.new.set) there put (map (λ n. n.now) c.args.asked.now) (λ name.
    c.take_out.ensures name ∙ ap (λ b. b && not (put name)) (c.leave_out_symbols.ensures name ∙ ap (λ b. b && not (there name)) (c.in_ok-missing.ensures name)))) c.names_in.ensures
