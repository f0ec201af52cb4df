-- A fat file by the fronts of its slices.
use Rattle.std.proofs.Common.{List, length, string_bytes, subst, sym}
use Rattle.std.specs.List.{All}
use Rattle.std.proofs.Math.Nat.{le_refl}
use Rattle.std.proofs.lemmas.Result.{err_from_is_err_and}
use Rattle.macho_commands.specs.Engine.{asked}
use Rattle.macho_commands.specs.Meaning.{file_of, macho_command_model}
use Rattle.macho_commands.specs.Sliced.{IsLoadedFront, RefusesFronts, TellsFronts}
use Rattle.macho_commands_stores.specs.declared.slices.SliceFront.{SliceFront}
use Rattle.macho_image.specs.Fat.{table_end}
use Rattle.byte_store.specs.Laid.{patches_of}
use Rattle.macho_commands.proofs.SlicedRuns.{inside_all, loaded_all, makes_lent, may_refuse, patched_slices, refused_slices, told_slices, torn_slices}
use Rattle.macho_commands.proofs.StoreLaws.{torn_by}
use Rattle.macho_commands.proofs.sliced.patch_slices.Goals as goal

pub edited_fronts-requires : goal.edited_fronts-requires
edited_fronts-requires g c =
    let read = c.requires.read in
    let Loaded : List SliceFront → Type 0 = All IsLoadedFront in
    subst Loaded (sym c.as_slice.ensures.value) (loaded_all _ (table_end (length read.archs)) c.args.slices.now.length read.archs c.args.slices.now.fronts.items read.short read.rising read.fronts)

pub returns-in_err-pieces-clause-err : goal.returns-in_err-pieces-clause-err
returns-in_err-pieces-clause-err g c =
    let p = err_from_is_err_and c.from_residual.result c.from_residual.ensures.1 in
    rw (p.1, p.2) (may_refuse c.args.signing (macho_command_model c.args.command.now) c.as_slice.result.now _ c.requires.leaves c.in_err-pieces.ensures.err)

pub returns-in_err-pieces-clause-left : goal.returns-in_err-pieces-clause-left
returns-in_err-pieces-clause-left g c =
    let p = err_from_is_err_and c.from_residual.result c.from_residual.ensures.1 in
    let Refuses : List SliceFront → Type 0 = λ l. RefusesFronts (asked (macho_command_model c.args.command.now)) l c.in_err-pieces.field-0.0 in
    rw (p.1, p.2) (refused_slices _ c.args.signing (macho_command_model c.args.command.now) _ c.args.slices.now _ c.requires.leaves c.requires.read (subst Refuses c.as_slice.ensures.value c.in_err-pieces.ensures.err))

pub write_changes_of-requires-clause-inside : goal.write_changes_of-requires-clause-inside
write_changes_of-requires-clause-inside g c =
    let read = c.requires.read in
    let makes = makes_lent (asked (macho_command_model c.args.command.now)) c.as_slice.result.now c.args.slices.now.fronts.items c.in_ok-pieces.field-0.pieces.items c.as_slice-2.result.now c.in_ok-lent.lent.items c.as_slice-3.result.now
    c.as_slice.ensures.value c.as_slice-3.ensures.value c.in_ok-lent.ensures c.as_slice-2.ensures.value c.in_ok-pieces.ensures.makes in
    inside_all (asked (macho_command_model c.args.command.now)) _ (table_end (length read.archs)) c.args.slices.now.length read.archs c.args.slices.now.fronts.items (patches_of c.as_slice-3.result.now) read.rising read.fronts makes

pub returns-in_err-write_changes_of-clause-left : goal.returns-in_err-write_changes_of-clause-left
returns-in_err-write_changes_of-clause-left g c =
    let p = err_from_is_err_and c.from_residual-in_err-write_changes_of.result c.from_residual-in_err-write_changes_of.ensures.1 in
    let makes = makes_lent (asked (macho_command_model c.args.command.now)) c.as_slice.result.now c.args.slices.now.fronts.items c.in_ok-pieces.field-0.pieces.items c.as_slice-2.result.now c.in_ok-lent.lent.items c.as_slice-3.result.now
    c.as_slice.ensures.value c.as_slice-3.ensures.value c.in_ok-lent.ensures c.as_slice-2.ensures.value c.in_ok-pieces.ensures.makes in
    rw (p.1, p.2) (torn_by g.S.Store.may_fail_write g.S.Store.may_take_none c.args.signing (macho_command_model c.args.command.now) _ _ _ _ _ _ (le_refl (g.S.Store.failed c.args.store.now)) c.in_err-write_changes_of.ensures.cause
    (torn_slices c.args.signing (macho_command_model c.args.command.now) _ _ c.args.slices.now (patches_of c.as_slice-3.result.now) c.requires.leaves c.requires.read makes c.in_err-write_changes_of.ensures.err))

pub returns-clause-patched : goal.returns-clause-patched
returns-clause-patched g c =
    let makes = makes_lent (asked (macho_command_model c.args.command.now)) c.as_slice.result.now c.args.slices.now.fronts.items c.in_ok-pieces.field-0.pieces.items c.as_slice-2.result.now c.in_ok-lent.lent.items c.as_slice-3.result.now
    c.as_slice.ensures.value c.as_slice-3.ensures.value c.in_ok-lent.ensures c.as_slice-2.ensures.value c.in_ok-pieces.ensures.makes in
    patched_slices c.args.signing (macho_command_model c.args.command.now) _ _ c.args.slices.now (patches_of c.as_slice-3.result.now) c.requires.leaves c.requires.read makes c.in_ok-write_changes_of.ensures.ok

pub returns-clause-told : goal.returns-clause-told
returns-clause-told g c =
    let Tells : List SliceFront → Type 0 = λ l. TellsFronts c.args.notes (file_of (macho_command_model c.args.command.now)) l (string_bytes c.in_ok-pieces.field-0.text) in
    told_slices c.args.notes c.args.signing (macho_command_model c.args.command.now) _ c.args.slices.now (string_bytes c.in_ok-pieces.field-0.text) c.requires.leaves c.requires.read (subst Tells c.as_slice.ensures.value c.in_ok-pieces.ensures.told)
