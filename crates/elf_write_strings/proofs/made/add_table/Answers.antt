-- One table more is told.
use Rattle.std.proofs.Common.{◌≡◌, List, None, Some, subst, sym}
use Rattle.elf_write_strings.specs.declared.made.Made.{Made}
use Rattle.elf_write_strings.specs.MadeSteps.{AreMore, AreTold, IsAsTold}
use Rattle.elf_write_strings.specs.WrittenStrings.{made_of}
use Rattle.elf_write_strings.proofs.MadeStrings.{more_told, not_none, told_more}
use Rattle.elf_write_strings.proofs.made.add_table.Goals as goal

pub returns-in_ok-push-clause-told : goal.returns-in_ok-push-clause-told
returns-in_ok-push-clause-told c =
    let read = c.args.read.now in
    let image = c.args.image.now in
    let here : IsAsTold read image c.args.number (Some c.in-Some.table) = subst (IsAsTold read image c.args.number) c.in-Some.is c.in_ok-table.ensures.table in
    subst (AreTold read image) (sym c.in_ok-push.ensures.items) (told_more read image c.args.made.now.items c.in-Some.table c.requires.told here.1)

pub returns-in_ok-push-clause-more : goal.returns-in_ok-push-clause-more
returns-in_ok-push-clause-more c =
    subst (AreMore c.args.made.now.items) (sym c.in_ok-push.ensures.items)
    (more_told c.args.read.now c.args.image.now c.args.made.now.items c.in-Some.table)

pub returns-in_ok-push-clause-own : goal.returns-in_ok-push-clause-own
returns-in_ok-push-clause-own c none =
    let read = c.args.read.now in
    let image = c.args.image.now in
    let here : IsAsTold read image c.args.number (Some c.in-Some.table) = subst (IsAsTold read image c.args.number) c.in-Some.is c.in_ok-table.ensures.table in
    absurd (not_none read image c.args.made.now.items c.in-Some.table c.args.number here.0
    (subst (λ (l : List Made). made_of l c.args.number ≡ None) c.in_ok-push.ensures.items none))
