-- One section more stays in front of those that are left to look at, or goes.
use Rattle.std.proofs.Common.{◌≡◌, ◌<◌, ◌≤◌, ◌∙◌, ℕ, Bool, List, length, map, not, sym, ap, arith, get_or, false}
use Rattle.std.proofs.lemmas.List.{get_or-map, length-map}
use Rattle.elf_image.specs.Deleted.{is_left}
use Rattle.elf_image.specs.ImageModel.{section_model}
use Rattle.elf_image.proofs.PicksInPlace.{map_picked, picks_all, picks_less, picks_more, some_element}
use Rattle.elf_image.proofs.section_edits.keep_sections.Goals as goal
use Rattle.elf_image.proofs.section_edits.keep_sections.Goals.{then-not-contains, else-not-contains}

pub loop-i-preserved : goal.loop-i-preserved
loop-i-preserved c =
    let numbers : List ℕ = c.args.numbers.now in
    let bs : List Bool = map (is_left c.args.gone.now) numbers in
    let xs = c.args.sections.now.items in
    let i : ℕ = c.loop-i.i in
    let inside : i < length numbers = omega (arith, c.loop-i-test.true) in
    let few : i < length bs = omega (arith, inside, length-map numbers (is_left c.args.gone.now)) in
    let same : length bs ≡ length xs = length-map numbers (is_left c.args.gone.now) ∙ c.requires.numbered in
    let d = some_element xs i (omega (arith, few, same)) in
    let told : get_or bs i false ≡ not c.contains.result = get_or-map (is_left c.args.gone.now) numbers i 0 false inside ∙ ap not (sym c.contains.ensures) in
    elim c.if-not-contains.branch [
      | then-not-contains w ↦
          rw (w.sections-is, w.kept-is) (picks_more bs xs c.loop-i.sections.items c.loop-i.kept i c.loop-i.invariant few same d _ (told ∙ ap not w.if-not-contains.true) w.swap.ensures.by_index)
      | else-not-contains w ↦
          rw (w.sections-is, w.kept-is) (picks_less bs xs c.loop-i.sections.items c.loop-i.kept i c.loop-i.invariant few same d (told ∙ ap not w.if-not-contains.false))
    ]

pub returns : goal.returns
returns c =
    let bs : List Bool = map (is_left c.args.gone.now) c.args.numbers.now in
    let past : length bs ≤ c.loop-i.i = omega (arith, c.loop-i-test.false, length-map c.args.numbers.now (is_left c.args.gone.now)) in
    ap (map section_model) (c.truncate.ensures.items ∙ picks_all bs c.args.sections.now.items c.loop-i.sections.items c.loop-i.kept c.loop-i.i c.loop-i.invariant past)
    ∙ map_picked section_model bs c.args.sections.now.items
