use Rattle.std.proofs.Common.{◌≤◌, ◌*◌, arith, length, drop, length-drop}
use Rattle.arwen_c_edits.proofs.TextSteps.{all_pairs}
use Rattle.arwen_c_edits.specs.declared.lent.LentText.{LentText}
use Rattle.arwen_c_edits.proofs.texts.pairs_copied.Goals as goal

pub returns : goal.returns
returns c =
    let few : length (drop (2 * c.loop-index.index) c.args.texts.now) ≤ 1 = omega (arith, length-drop {A = LentText}) in
    all_pairs c.args.texts.now c.loop-index.index c.loop-index.copies.items few c.loop-index.invariant
