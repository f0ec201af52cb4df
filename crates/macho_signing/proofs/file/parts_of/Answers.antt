use Rattle.std.proofs.Common.{◌∙◌, List, length, map, ap, refl, sym, subst}
use Rattle.macho_signing.specs.declared.file.Part.{Part}
use Rattle.macho_signing.specs.File.{AreParts, parts_fault, parts_of, slice_part}
use Rattle.macho_signing.proofs.PartLaws.{slices_are_parts}
use Rattle.macho_signing.proofs.file.parts_of.Goals as goal

pub returns : goal.returns
unfolding parts_of parts_fault
returns c =
    let fat = sym c.is_fat.ensures ∙ c.if-not-is_fat.false in
    let made = c.in_ok-slice_parts.ensures ∙ ap (map slice_part) (c.deref.ensures.value ∙ c.in_ok-archs.ensures.1) in
    let P : List Part → Type 0 = λ l. AreParts (length c.args.bytes.now) l in
    (rw (fat, c.in_ok-archs.ensures.0) refl, rw fat made, subst P (sym made) (slices_are_parts c.args.bytes.now c.in_ok-archs.ensures.0))
