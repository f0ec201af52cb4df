-- The order has a place for each symbol.
use Rattle.std.proofs.Common.{◌<◌, ℕ, List, Option, ap, sym, ◌∙◌, refl, length, subst, arith}
use Rattle.std.specs.List.{slice_get}
use Rattle.std.proofs.lemmas.Option.{slice_get_read}
use Rattle.elf_format.specs.Image.{Image}
use Rattle.elf_format.proofs.ForCallers.Lengths.{slice_get-counted}
use Rattle.elf_write_symbols.specs.declared.renumbering.Reordering.{Reordering}
use Rattle.elf_write_symbols.specs.Renumbering.{IsReordering, IsReorderingFor}
use Rattle.elf_write_spec.proofs.ForCallers.OrderFacts.{length-order, order-same}
use Rattle.elf_write_symbols.proofs.FinalOrder.{all, place_inside}
use Rattle.elf_write_symbols.proofs.ReadyFacts.{facts}
use Rattle.elf_write_symbols.proofs.renumbering.order_of.Goals as goal

pub index-requires : goal.index-requires
index-requires c =
    let read : Image = c.args.read.now in
    let image : Image = c.args.image.now in
    let r : IsReordering read image c.in-Some.reordering = subst (λ (o : Option Reordering). IsReorderingFor read image o) c.in-Some.is c.requires.reordering in
    omega (arith, c.requires.inside, ap length r.order, length-order read image (all read image c.requires.ready (facts read image c.requires.ready)))

pub returns-in-Some-clause-place : goal.returns-in-Some-clause-place
returns-in-Some-clause-place c =
    let read : Image = c.args.read.now in
    let image : Image = c.args.image.now in
    let items : List ℕ = c.in-Some.reordering.order.items in
    let r : IsReordering read image c.in-Some.reordering = subst (λ (o : Option Reordering). IsReorderingFor read image o) c.in-Some.is c.requires.reordering in
    let within : c.args.i < length items =
    omega (arith, c.requires.inside, ap length r.order, length-order read image (all read image c.requires.ready (facts read image c.requires.ready))) in
    ap (λ (l : List ℕ). slice_get l c.args.i) (sym r.order) ∙ slice_get_read items (length items) c.args.i c.index.result.now refl within c.index.ensures

pub returns-in-Some-clause-inside : goal.returns-in-Some-clause-inside
returns-in-Some-clause-inside c =
    let read : Image = c.args.read.now in
    let image : Image = c.args.image.now in
    let items : List ℕ = c.in-Some.reordering.order.items in
    let r : IsReordering read image c.in-Some.reordering = subst (λ (o : Option Reordering). IsReorderingFor read image o) c.in-Some.is c.requires.reordering in
    let within : c.args.i < length items =
    omega (arith, c.requires.inside, ap length r.order, length-order read image (all read image c.requires.ready (facts read image c.requires.ready))) in
    place_inside read image c.requires.ready (facts read image c.requires.ready) c.args.i c.index.result.now
    (ap (λ (l : List ℕ). slice_get l c.args.i) (sym r.order) ∙ slice_get_read items (length items) c.args.i c.index.result.now refl within c.index.ensures)

pub returns-in-None-clause-place : goal.returns-in-None-clause-place
returns-in-None-clause-place c =
    let read : Image = c.args.read.now in
    let image : Image = c.args.image.now in
    ap (λ (l : List ℕ). slice_get l c.args.i)
    (order-same read image (subst (λ (o : Option Reordering). IsReorderingFor read image o) c.in-None.is c.requires.reordering))
    ∙ slice_get-counted (length image.dynamic_symbols) c.args.i c.requires.inside
