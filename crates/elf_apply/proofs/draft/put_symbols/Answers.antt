-- The image has other names than were read only where they can change.
use Rattle.std.proofs.Common.{Option, subst}
use Rattle.std.specs.Prelude.{IfSome}
use Rattle.elf_image_symbols.specs.EditedList.{EditedList}
use Rattle.elf_apply.specs.Drafted.{AreSymbolsFor}
use Rattle.elf_apply.proofs.DraftLaws.{can_put_symbols}
use Rattle.elf_apply.proofs.draft.put_symbols.Goals as goal

pub put_dynamic_symbols-requires : goal.put_dynamic_symbols-requires
put_dynamic_symbols-requires c =
    can_put_symbols c.args.builder.now c.in-Some.symbols c.source-source.ensures.edited
    (subst (λ (o : Option EditedList). IfSome o (AreSymbolsFor c.args.builder.now)) c.in-Some.is c.requires)
