use Rattle.std.proofs.Common.{◌∙◌, sym}
use Rattle.macho_commands_stores.specs.declared.slices.SliceFronts.{SliceFronts}
use Rattle.macho_commands_stores.proofs.SliceLaws.{slices_read}
use Rattle.macho_commands_stores.proofs.slices.load_slices.Goals as goal

pub returns-clause-slices : goal.returns-clause-slices
returns-clause-slices g c =
    let read : SliceFronts = record { fronts = c.in-Some-2.fronts; length = c.in_ok-length.length } in
    let table = rw (c.in-Some.is, c.as_slice.ensures.value) at c.in_ok-archs.ensures in
    let fronts = rw (c.in-Some-2.is, c.as_slice-2.ensures.value) at c.in_ok-fronts.ensures.fronts in
    slices_read _ _ 4096 c.in_ok-first.first.items c.in-Some.archs.items read c.in_ok-first.ensures.read (c.in_ok-length.ensures.kept ∙ c.in_ok-first.ensures.kept)
    (λ bytes is. c.in_ok-length.ensures.length bytes (sym c.in_ok-length.ensures.kept ∙ is)) table fronts
