use Rattle.std.proofs.Common.{◌≡◌, ◌+◌, ◌≤◌, ℕ, List, length, map, None, refl, sym, ◌∙◌, subst, arith}
use Rattle.std.specs.List.{All}
use Rattle.std.proofs.lemmas.Result.{err_from_is_err_and}
use Rattle.patch_bytes.specs.Bytes.{AreBytes}
use Rattle.macho_image.specs.declared.fat.FatArch.{FatArch}
use Rattle.macho_image.specs.Fat.{slice_of}
use Rattle.arwen_macho.specs.FatSlice.{first_macho}
use Rattle.arwen_macho.specs.Found.{Finds, slices_found}
use Rattle.arwen_macho.proofs.FatHeldLaws.{first_fat_fields}
use Rattle.arwen_macho.proofs.FatLaws.{accepted_whole}
use Rattle.arwen_macho.proofs.FatStepLaws.{finds_slices, finds_table}
use Rattle.macho_image.proofs.ForCallers.{table_passes}
use Rattle.arwen_macho.proofs.fat.FatMachoContainer.parse.Goals as goal

pub returns-in_err-table : goal.returns-in_err-table
returns-in_err-table c =
    let p = err_from_is_err_and c.from_residual.result c.from_residual.ensures.1 in
    rw (p.1, p.2) (finds_table c.in_err-table.field-0.0 c.args.bytes.now c.in_err-table.ensures)

pub parse_slices-requires : goal.parse_slices-requires
parse_slices-requires c =
    let Inside : List FatArch → Type 0 = λ archs. All (λ a. a.offset + a.size ≤ length c.args.bytes.now) archs in
    subst Inside (sym (c.deref.ensures.value ∙ c.in_ok-table.ensures.1)) (table_passes c.args.bytes.now c.in_ok-table.ensures.0).3.inside

pub returns-in_err-archs : goal.returns-in_err-archs
returns-in_err-archs c =
    let e = c.in_err-archs.field-0.0 in
    let Archs : List FatArch → Type 0 = λ archs. Finds e (slices_found (map (slice_of c.args.bytes.now) archs)) in
    let p = err_from_is_err_and c.from_residual-in_err-archs.result c.from_residual-in_err-archs.ensures.1 in
    rw (p.1, p.2) (finds_slices e c.args.bytes.now c.in_ok-table.ensures.0 (subst Archs (c.deref.ensures.value ∙ c.in_ok-table.ensures.1) c.in_err-archs.ensures))

pub invariant_of-result : goal.invariant_of-result
invariant_of-result c =
    let bytes : List ℕ = c.args.bytes.now in
    let are : AreBytes bytes = record { each = λ i. omega (arith, c.type_inv.bytes i) } in
    let table = c.deref.ensures.value ∙ c.in_ok-table.ensures.1 in
    let Parsed : List FatArch → Type 0 = λ archs. (slices_found (map (slice_of bytes) archs) ≡ None) × (c.in_ok-archs.archs.items ≡ map (first_macho bytes) archs) in
    let parsed = subst Parsed table c.in_ok-archs.ensures in
    (first_fat_fields (record { source = c.args.bytes; archs = c.in_ok-archs.archs; edited = None }) (accepted_whole bytes c.in_ok-table.ensures.0 parsed.0) are parsed.1 refl).1

pub returns : goal.returns
returns c =
    let bytes : List ℕ = c.args.bytes.now in
    let are : AreBytes bytes = record { each = λ i. omega (arith, c.type_inv.bytes i) } in
    let table = c.deref.ensures.value ∙ c.in_ok-table.ensures.1 in
    let Parsed : List FatArch → Type 0 = λ archs. (slices_found (map (slice_of bytes) archs) ≡ None) × (c.in_ok-archs.archs.items ≡ map (first_macho bytes) archs) in
    let parsed = subst Parsed table c.in_ok-archs.ensures in
    let accepted = accepted_whole bytes c.in_ok-table.ensures.0 parsed.0 in
    (accepted, (first_fat_fields (record { source = c.args.bytes; archs = c.in_ok-archs.archs; edited = None }) accepted are parsed.1 refl).0)
