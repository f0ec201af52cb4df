use Rattle.std.proofs.Common.{arith}
use Rattle.macho_image.proofs.FatSteps.{length-read}
use Rattle.macho_image.proofs.fat.fat_archs.Goals as goal

pub check_slices-requires : goal.check_slices-requires
check_slices-requires c =
    let long = length-read c.number32-count.result _ _ _ c.in_ok-archs.ensures c.deref.ensures.value in
    omega arith
