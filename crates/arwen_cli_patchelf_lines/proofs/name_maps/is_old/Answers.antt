-- A pair with another old name is passed over.
use Rattle.std.proofs.Common.{Bor, [], List, ap, drop, map, sym, ◌||◌, ◌+◌, ◌∙◌}
use Rattle.std.proofs.lemmas.List.{at_drop_more}
use Rattle.arwen_cli_options.specs.Options.{Text}
use Rattle.arwen_cli_patchelf_lines.specs.NameMaps.{is_old, lent_pair}
use Rattle.arwen_cli_patchelf_lines.specs.declared.name_maps.NamePair.{NamePair}
use Rattle.arwen_cli_patchelf_lines.proofs.name_maps.is_old.Goals as goal

abbrev none : Bor Text
none = record { ref_ptr = (0, 0); now = [] }

pub loop-pair-preserved : goal.loop-pair-preserved
loop-pair-preserved c =
    let i = c.loop-pair.pair-index in
    let pairs = c.args.pairs.now in
    let told = λ (left : List NamePair). is_old c.args.name.now (map lent_pair left) in
    sym (at_drop_more told pairs i (record { old = none; new = none }) c.loop-pair-test.true ∙ ap (λ b. b || told (drop (i + 1) pairs)) (sym c.eq.ensures ∙ c.if-eq.false))
    ∙ c.loop-pair.invariant
