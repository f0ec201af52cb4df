-- One more text is put behind a colon.
use Rattle.std.proofs.Common.{◌+◌, ◌++◌, ◌∙◌, List, ap, drop, ℕ}
use Rattle.elf_edits.specs.TextModel.{texts_model}
use Rattle.elf_edits.specs.Texts.{behind_colons}
use Rattle.elf_edits.proofs.TextSteps.{behind_all, behind_more}
use Rattle.elf_edits.proofs.texts.put_behind.Goals as goal

pub loop-text-preserved : goal.loop-text-preserved
loop-text-preserved c =
    let i = c.loop-text.text-index in
    let made = c.loop-text.made.items in
    ap (λ (l : List ℕ). l ++ behind_colons (texts_model (drop (i + 1) c.args.texts.now))) (c.in_ok-extend_from_slice.ensures.items ∙ ap (λ (l : List ℕ). l ++ c.as_slice.result.now) c.in_ok-push.ensures.items ∙ ap (λ (l : List ℕ). (made ++ _) ++ l) c.as_slice.ensures.value)
    ∙ behind_more c.args.texts.now i c.text-item.result c.loop-text-test.true c.text-item.is made (c.args.made.now.items ++ behind_colons (texts_model c.args.texts.now)) c.loop-text.invariant

pub returns : goal.returns
returns c =
    behind_all c.args.texts.now c.loop-text.text-index c.loop-text-test.false c.loop-text.made.items (c.args.made.now.items ++ behind_colons (texts_model c.args.texts.now)) c.loop-text.invariant
