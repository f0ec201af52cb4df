-- An option of another name is passed over.
use Rattle.std.proofs.Common.{Bor, [], List, ap, drop, map, sym, ◌||◌, ◌+◌, ◌∙◌}
use Rattle.std.proofs.lemmas.List.{at_drop_more}
use Rattle.arwen_cli_options.specs.Options.{Text, given_model}
use Rattle.arwen_cli_options.specs.declared.options.Given.{Given}
use Rattle.arwen_cli_patchelf_lines.specs.Refusals.{is_asked}
use Rattle.arwen_cli_patchelf_lines.proofs.refusals.is_asked.Goals as goal

abbrev none : Bor Text
none = record { ref_ptr = (0, 0); now = [] }

pub loop-one-preserved : goal.loop-one-preserved
loop-one-preserved c =
    let i = c.loop-one.one-index in
    let given = c.args.given.now in
    let told = λ (left : List Given). is_asked c.args.name.now (map given_model left) in
    sym (at_drop_more told given i (record { name = none; first = none; second = none }) c.loop-one-test.true
    ∙ ap (λ b. b || told (drop (i + 1) given)) (sym c.eq.ensures ∙ c.if-eq.false)) ∙ c.loop-one.invariant
