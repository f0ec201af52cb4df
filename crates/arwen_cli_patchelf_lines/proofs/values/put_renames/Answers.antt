-- A rename is put behind those so far.
use Rattle.std.proofs.Common.{Bor, List, [], ap, append_assoc, get_or, map, sym, take, ◌++◌, ◌∷◌, ◌∙◌}
use Rattle.std.proofs.lemmas.List.{map_more, map_push}
use Rattle.arwen_cli_options.specs.Asked.{asked_model}
use Rattle.arwen_cli_options.specs.Options.{Asked, Text}
use Rattle.arwen_cli_patchelf_lines.specs.NameMaps.{lent_pair}
use Rattle.arwen_cli_patchelf_lines.specs.Values.{rename_asked}
use Rattle.arwen_cli_patchelf_lines.specs.declared.name_maps.NamePair.{NamePair}
use Rattle.arwen_cli_patchelf_lines.proofs.values.put_renames.Goals as goal

abbrev none : Bor Text
none = record { ref_ptr = (0, 0); now = [] }

pub loop-pair-preserved : goal.loop-pair-preserved
loop-pair-preserved c =
    let i = c.loop-pair.pair-index in
    let pairs : List NamePair = c.args.pairs.now in
    let pair = get_or pairs i (record { old = none; new = none }) in
    let rename = rename_asked c.args.name.now in
    let first = map asked_model c.args.asked.now.items in
    let so_far : List Asked = map rename (map lent_pair (take i pairs)) in
    let one : Asked = rename (lent_pair pair) in
    c.in_ok-put_rename.ensures
    ∙ ap (λ asked. asked ++ one ∷ []) c.loop-pair.invariant
    ∙ append_assoc first so_far (one ∷ [])
    ∙ ap (λ l. first ++ l) (sym (ap (map rename) (map_more lent_pair pairs i (record { old = none; new = none }) c.loop-pair-test.true)
    ∙ map_push rename (map lent_pair (take i pairs)) (lent_pair pair)))
