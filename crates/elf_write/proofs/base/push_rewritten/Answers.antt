-- One section more, and the end.
use Rattle.std.proofs.Common.{◌∙◌, Vec, Global, append-nil, true, false, sym, ap}
use Rattle.elf_format.specs.declared.range.Range.{Range}
use Rattle.elf_write.proofs.LayingPlaces.{places-all, places-more}
use Rattle.elf_write.proofs.base.push_rewritten.Goals as goal
use Rattle.elf_write.proofs.base.push_rewritten.Goals.{then-leaves_place+in_ok-push, else-leaves_place}

pub loop-i-preserved : goal.loop-i-preserved
loop-i-preserved c = elim c.if-leaves_place.branch [
  | then-leaves_place+in_ok-push w ↦
      ap (λ (v : Vec Range Global). v.items) w.places-is ∙ w.in_ok-push.ensures.items
      ∙ places-more c.args.image.now c.args.interpreter c.args.places.now.items c.loop-i.places.items c.sections-sections.result.now
      c.loop-i.i c.read_section.result c.index-sections-i.result true c.requires c.source-source.ensures.edited c.sections-sections.ensures
      c.loop-i-test.true c.index-sections-i.is c.read_section.ensures (sym w.if-leaves_place.true ∙ c.leaves_place.ensures) c.loop-i.invariant
  | else-leaves_place w ↦
      ap (λ (v : Vec Range Global). v.items) w.places-is ∙ sym (append-nil c.loop-i.places.items)
      ∙ places-more c.args.image.now c.args.interpreter c.args.places.now.items c.loop-i.places.items c.sections-sections.result.now
      c.loop-i.i c.read_section.result c.index-sections-i.result false c.requires c.source-source.ensures.edited c.sections-sections.ensures
      c.loop-i-test.true c.index-sections-i.is c.read_section.ensures (sym w.if-leaves_place.false ∙ c.leaves_place.ensures) c.loop-i.invariant
]

pub returns : goal.returns
returns c = places-all c.args.image.now c.args.places.now.items c.loop-i.places.items c.sections-sections.result.now c.loop-i.i
    c.source-source.ensures.edited c.sections-sections.ensures c.loop-i-test.false c.loop-i.invariant
