-- The change at its place is found, or there is none.
use Rattle.std.proofs.Common.{Some, sym, ap, ◌∙◌}
use Rattle.elf_image_symbols.specs.declared.change.Change.{Change}
use Rattle.elf_image_symbols.proofs.ChangeLaws.{change_of-gap, change_of-place}
use Rattle.elf_image_symbols.proofs.changes.find.Goals as goal

pub returns-in-Ok : goal.returns-in-Ok
returns-in-Ok c =
    let place = c.in-Ok.ensures in
    ap (λ (d : Change). Some d) c.index-changes-k.is
    ∙ sym (change_of-place c.args.changes.now c.args.number c.in-Ok.k c.index-changes-k.result place.within place.before place.here)

pub returns-in-Err : goal.returns-in-Err
returns-in-Err c = sym (change_of-gap c.args.changes.now c.args.number c.in-Err.field-0 c.in-Err.ensures)
