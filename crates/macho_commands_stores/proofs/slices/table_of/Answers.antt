use Rattle.std.proofs.Common.{◌∙◌, ◌+◌, ◌*◌, ap, arith, rules, subst, sym, List}
use Rattle.std.proofs.lemmas.List.{take_rest}
use Rattle.macho_image.specs.Fat.{table}
use Rattle.macho_image.specs.declared.fat.FatArch.{FatArch}
use Rattle.macho_commands_stores.specs.Slices.{AreRising}
use Rattle.macho_commands_stores.proofs.SliceLaws.{table_is}
use Rattle.macho_commands_stores.proofs.slices.table_of.Goals as goal

pub returns : goal.returns
returns c =
    let Rising : List FatArch → Type 0 = AreRising (8 + 20 * c.number32-count.result) c.args.size in
    table_is c.args.first.now c.args.size c.number32-count.result c.in_ok-archs.archs.items (sym c.is_fat.ensures ∙ c.if-not-is_fat.false) (omega arith) (omega arith) c.number32-count.ensures
    (c.in_ok-archs.ensures ∙ ap (table c.number32-count.result) (take_rest c.args.first.now 8)) (omega arith) (subst Rising c.as_slice.ensures.value (c.are_rising.ensures (search (rules, c.if-not-are_rising.false))))
