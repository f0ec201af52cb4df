use Rattle.std.proofs.Common.{rules, tests}
use Rattle.std.proofs.lemmas.Iterator.{YieldsList-from_slice}
use Rattle.std.proofs.lemmas.Iterator.Search.{any_from_yields_List}
use Rattle.macho_image.specs.Fat.{is_outside}
use Rattle.macho_image.proofs.fat.some_outside.Goals as goal

pub returns : goal.returns
returns c =
    any_from_yields_List (is_outside c.args.len c.args.table_end) _ _ _ c.any.ensures.ran (YieldsList-from_slice c.args.archs.now cc) (λ x b q k. search (rules, tests))
