-- The first text, and the others behind colons.
use Rattle.std.proofs.Common.{◌≡◌, ◌<◌, ◌-◌, List, ◌++◌, ◌∙◌, ap, arith, drop, length, length-drop, sym, take}
use Rattle.std.proofs.lemmas.List.{take_all}
use Rattle.elf_edits.specs.TextModel.{Bytes, texts_model}
use Rattle.elf_edits.specs.Texts.{behind_colons}
use Rattle.elf_edits.proofs.TextSteps.{joined_first, not_empty}
use Rattle.elf_edits.proofs.texts.join.Goals as goal

pub returns : goal.returns
returns c =
    let some : 0 < length c.args.texts.now = not_empty (length c.args.texts.now) (sym c.is_empty.ensures ∙ c.if-is_empty.false) in
    let rest : take (length c.args.texts.now - 1) (drop 1 c.args.texts.now) ≡ drop 1 c.args.texts.now = take_all (length c.args.texts.now - 1) (drop 1 c.args.texts.now) (omega (arith, length-drop 1 c.args.texts.now)) in
    c.in_ok-put_behind.ensures
    ∙ ap (λ (l : List Bytes). c.in_ok-made.made.items ++ behind_colons (texts_model l)) rest
    ∙ ap (λ l. l ++ behind_colons (texts_model (drop 1 c.args.texts.now))) (c.in_ok-made.ensures.items ∙ c.as_slice.ensures.value)
    ∙ joined_first c.args.texts.now c.index-texts-0.result some c.index-texts-0.is
