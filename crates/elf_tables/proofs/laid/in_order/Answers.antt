use Rattle.std.proofs.Common.{◌≡◌, ◌<◌, ℕ, List, get_or, length, refl, ap, ◌∙◌, arith}
use Rattle.std.proofs.lemmas.List.{get_or_default}
use Rattle.elf_tables.specs.StringSteps.{Numbered, text_numbered}
use Rattle.elf_tables.proofs.OrderedPlaces.{ordered_more}
use Rattle.elf_tables.proofs.laid.in_order.Goals as goal

pub loop-i-preserved : goal.loop-i-preserved
loop-i-preserved c =
    let ks : List Numbered = c.args.texts.now in
    let i : ℕ = c.loop-i.i in
    let k : Numbered = c.index-texts-i.result in
    let is : c.nth.result ≡ (text_numbered ks i).nth =
    c.nth.ensures ∙ ap (λ (n : Numbered). n.nth) (c.index-texts-i.is ∙ get_or_default ks i k _ c.loop-i-test.true) in
    let numbered : c.nth.result ≡ (get_or ks i k).nth = c.nth.ensures ∙ ap (λ (n : Numbered). n.nth) c.index-texts-i.is in
    let within : c.nth.result < length c.loop-i.order.items = omega (arith, numbered, c.requires.numbered i k c.loop-i-test.true, c.loop-i.invariant.many) in
    ordered_more ks c.args.places.now c.loop-i.order.items _ i c.nth.result (get_or c.args.places.now i 0) c.loop-i.invariant is within refl refl
