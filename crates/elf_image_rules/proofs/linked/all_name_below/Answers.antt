-- What was checked of the same section is taken over.
use Rattle.std.proofs.Common.{◌<◌, arith, get_or, length}
use Rattle.elf_image_rules.specs.declared.linked.Checked.{Checked}
use Rattle.elf_image_rules.proofs.LinkSteps.{checked_same, no_checked}
use Rattle.elf_image_rules.proofs.linked.all_name_below.Goals as goal

pub returns-then-is_same : goal.returns-then-is_same
returns-then-is_same c =
    let found : Checked = get_or c.args.checked.now c.in-Ok.i no_checked in
    let within : c.in-Ok.i < length c.args.checked.now = omega (arith, c.in-Ok.ensures.bound) in
    checked_same c.args.parts.now.form c.args.parts.now.file.now found c.args.table (c.requires c.in-Ok.i no_checked within)
    (c.is_same.ensures.limit c.if-is_same.true) (c.is_same.ensures.kind c.if-is_same.true) (c.is_same.ensures.offset c.if-is_same.true) (c.is_same.ensures.size c.if-is_same.true)
