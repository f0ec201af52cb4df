-- The last text is added.
use Rattle.std.proofs.Common.{◌++◌, ◌∷◌, [], ◌∙◌, List, ap, append_assoc, codes, map, option_map, sym}
use Rattle.std.proofs.lemmas.Result.{on_ok_weaker}
use Rattle.elf_edits.specs.Edit.{AddRpath}
use Rattle.elf_edits.specs.TextModel.{Bytes, texts_model}
use Rattle.arwen_cli_options.specs.Asked.{asked_model}
use Rattle.arwen_cli_options.specs.Options.{Asked}
use Rattle.arwen_cli_patchelf.specs.OptionEdits.{Planned, added_edits, by, forced, planned_model}
use Rattle.arwen_cli_patchelf.proofs.option_edits.put_added.Goals as goal

pub returns : goal.returns
returns c =
    let asked : List Asked = map asked_model c.args.asked.now in
    let old : List Planned = map planned_model c.args.planned.now.items in
    let one : List Bytes → Planned = λ texts. by (codes "--add-rpath") (AddRpath (texts_model texts)) in
    let text = c.in-Some.text in
    on_ok_weaker c.put_once.result (λ put. put
    ∙ ap (λ l. l ++ forced asked) (c.in_ok-put.ensures ∙ ap (λ texts. old ++ one texts ∷ []) (c.in_ok-push.ensures.items ∙ ap (λ l. l ++ text ∷ []) c.new-texts.ensures.items))
    ∙ append_assoc old (one (text ∷ []) ∷ []) (forced asked)
    ∙ ap (λ given. old ++ added_edits asked given) (ap (option_map (λ bytes. bytes.items)) (sym c.in-Some.is) ∙ c.in_ok-text.ensures)) c.put_once.ensures
