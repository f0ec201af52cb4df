-- What was read of the store tells of its file.
use Rattle.std.proofs.Common.{◌∙◌, arith, sym}
use Rattle.std.proofs.lemmas.Result.{err_from_is_err_and}
use Rattle.arwen_macho.specs.Fronts.{fronts_on}
use Rattle.macho_signatures.specs.Renewed.{laid as slots_on}
use Rattle.macho_commands_stores.specs.declared.loading.Loaded.{Loaded}
use Rattle.macho_commands.specs.Engine.{signs_of}
use Rattle.macho_commands.specs.Meaning.{macho_command_model}
use Rattle.macho_commands.proofs.NotingLaws.{told_of_store}
use Rattle.macho_commands.proofs.StoreLaws.{ReadsStore, makes_store, patched_store, refused_store, shown_back, standing_inside, standing_parts, torn_by, torn_store}
use Rattle.macho_commands.proofs.engine.patch_loaded.Goals as goal

pub returns-in_err-fronts-clause-left : goal.returns-in_err-fronts-clause-left
returns-in_err-fronts-clause-left g c =
    let p = err_from_is_err_and c.from_residual-in_err-fronts.result c.from_residual-in_err-fronts.ensures.1 in
    let loaded : Loaded = c.in_ok-bytes.field-0 in
    let reads : ReadsStore (signs_of c.args.signing (macho_command_model c.args.command.now)) (g.S.Store.contents c.args.store.now) loaded =
    record { enough = c.leaves_signatures-leaves.result; leaves = c.leaves_signatures-leaves.ensures; is = c.in_ok-bytes.ensures.loaded } in
    rw (p.1, p.2) (refused_store _ c.args.signing (macho_command_model c.args.command.now) _ _ loaded _ reads c.in_ok-bytes.ensures.kept (rw (sym c.as_slice.ensures.value) c.in_err-fronts.ensures.err))

pub returns-clause-patched : goal.returns-clause-patched
returns-clause-patched g c =
    let loaded : Loaded = c.in_ok-bytes.field-0 in
    let reads : ReadsStore (signs_of c.args.signing (macho_command_model c.args.command.now)) (g.S.Store.contents c.args.store.now) loaded =
    record { enough = c.leaves_signatures-leaves.result; leaves = c.leaves_signatures-leaves.ensures; is = c.in_ok-bytes.ensures.loaded } in
    patched_store c.args.signing (macho_command_model c.args.command.now) _ _ _ loaded c.as_slice-2.result.now c.as_slice-3.result.now c.as_slice-6.result.now reads c.in_ok-bytes.ensures.kept
    (rw (sym c.as_slice.ensures.value, c.as_slice-2.ensures.value, c.as_slice-3.ensures.value) c.in_ok-fronts.ensures.ok)
    (standing_parts loaded.bytes.items c.deref_mut.result.now c.as_slice-4.result.now c.as_slice-2.result.now c.as_slice-3.result.now c.in_ok-changes.changes.items c.as_slice-5.result.now c.in_ok-pieces.pieces.items c.as_slice-6.result.now
    c.deref_mut.ensures.value c.in_ok-changes.ensures.ok
    (shown_back loaded.bytes.len c.as_slice-4.result.now c.changes_of.new.bytes loaded.bytes.items (slots_on c.as_slice-3.result.now (fronts_on c.as_slice-2.result.now c.deref_mut.result.now)) c.as_slice-4.ensures.value
    (omega (arith, c.changes_of.auto.bytes, c.deref_mut.ensures.len)) (omega (arith, c.changes_of.auto.bytes, c.deref_mut.ensures.len)) c.in_ok-changes.ensures.bytes)
    c.as_slice-5.ensures.value c.in_ok-pieces.ensures c.as_slice-6.ensures.value)
    c.in_ok-write_changes_of.ensures.ok

-- the changes lie in the bytes, which were written through
pub standing_pieces-requires : goal.standing_pieces-requires
standing_pieces-requires g c =
    let loaded : Loaded = c.in_ok-bytes.field-0 in
    standing_inside c.deref_mut.result.now c.as_slice-4.result.now c.as_slice-2.result.now c.as_slice-3.result.now c.in_ok-changes.changes.items c.as_slice-5.result.now
    c.in_ok-changes.ensures.ok
    (shown_back loaded.bytes.len c.as_slice-4.result.now c.changes_of.new.bytes loaded.bytes.items (slots_on c.as_slice-3.result.now (fronts_on c.as_slice-2.result.now c.deref_mut.result.now)) c.as_slice-4.ensures.value
    (omega (arith, c.changes_of.auto.bytes, c.deref_mut.ensures.len)) (omega (arith, c.changes_of.auto.bytes, c.deref_mut.ensures.len)) c.in_ok-changes.ensures.bytes)
    c.as_slice-5.ensures.value

pub write_changes_of-requires-clause-inside : goal.write_changes_of-requires-clause-inside
write_changes_of-requires-clause-inside g c =
    let loaded : Loaded = c.in_ok-bytes.field-0 in
    let parts =
    standing_parts loaded.bytes.items c.deref_mut.result.now c.as_slice-4.result.now c.as_slice-2.result.now c.as_slice-3.result.now c.in_ok-changes.changes.items c.as_slice-5.result.now c.in_ok-pieces.pieces.items c.as_slice-6.result.now
    c.deref_mut.ensures.value c.in_ok-changes.ensures.ok
    (shown_back loaded.bytes.len c.as_slice-4.result.now c.changes_of.new.bytes loaded.bytes.items (slots_on c.as_slice-3.result.now (fronts_on c.as_slice-2.result.now c.deref_mut.result.now)) c.as_slice-4.ensures.value
    (omega (arith, c.changes_of.auto.bytes, c.deref_mut.ensures.len)) (omega (arith, c.changes_of.auto.bytes, c.deref_mut.ensures.len)) c.in_ok-changes.ensures.bytes)
    c.as_slice-5.ensures.value c.in_ok-pieces.ensures c.as_slice-6.ensures.value in
    λ i d below. let lies = parts.inside i d below in omega (arith, lies, c.in_ok-bytes.ensures.within, loaded.bytes.ok)

pub write_changes_of-requires-clause-old : goal.write_changes_of-requires-clause-old
write_changes_of-requires-clause-old g c = λ file known.
    let loaded : Loaded = c.in_ok-bytes.field-0 in
    let reads : ReadsStore (signs_of c.args.signing (macho_command_model c.args.command.now)) (g.S.Store.contents c.args.store.now) loaded =
    record { enough = c.leaves_signatures-leaves.result; leaves = c.leaves_signatures-leaves.ensures; is = c.in_ok-bytes.ensures.loaded } in
    (makes_store c.args.signing (macho_command_model c.args.command.now) (g.S.Store.contents c.args.store.now) loaded c.as_slice-2.result.now c.as_slice-3.result.now c.as_slice-6.result.now file reads (sym c.in_ok-bytes.ensures.kept ∙ known)
    (rw (sym c.as_slice.ensures.value, c.as_slice-2.ensures.value, c.as_slice-3.ensures.value) c.in_ok-fronts.ensures.ok)
    (standing_parts loaded.bytes.items c.deref_mut.result.now c.as_slice-4.result.now c.as_slice-2.result.now c.as_slice-3.result.now c.in_ok-changes.changes.items c.as_slice-5.result.now c.in_ok-pieces.pieces.items c.as_slice-6.result.now
    c.deref_mut.ensures.value c.in_ok-changes.ensures.ok
    (shown_back loaded.bytes.len c.as_slice-4.result.now c.changes_of.new.bytes loaded.bytes.items (slots_on c.as_slice-3.result.now (fronts_on c.as_slice-2.result.now c.deref_mut.result.now)) c.as_slice-4.ensures.value
    (omega (arith, c.changes_of.auto.bytes, c.deref_mut.ensures.len)) (omega (arith, c.changes_of.auto.bytes, c.deref_mut.ensures.len)) c.in_ok-changes.ensures.bytes)
    c.as_slice-5.ensures.value c.in_ok-pieces.ensures c.as_slice-6.ensures.value)).long

pub returns-in_err-write_changes_of-clause-left : goal.returns-in_err-write_changes_of-clause-left
returns-in_err-write_changes_of-clause-left g c =
    let p = err_from_is_err_and c.from_residual-in_err-write_changes_of.result c.from_residual-in_err-write_changes_of.ensures.1 in
    let loaded : Loaded = c.in_ok-bytes.field-0 in
    let reads : ReadsStore (signs_of c.args.signing (macho_command_model c.args.command.now)) (g.S.Store.contents c.args.store.now) loaded =
    record { enough = c.leaves_signatures-leaves.result; leaves = c.leaves_signatures-leaves.ensures; is = c.in_ok-bytes.ensures.loaded } in
    rw (p.1, p.2) (torn_by g.S.Store.may_fail_write g.S.Store.may_take_none c.args.signing (macho_command_model c.args.command.now) _ _ _ _ _ _ c.in_ok-bytes.ensures.grows c.in_err-write_changes_of.ensures.cause
    (torn_store c.args.signing (macho_command_model c.args.command.now) _ _ _ loaded c.as_slice-2.result.now c.as_slice-3.result.now c.as_slice-6.result.now reads c.in_ok-bytes.ensures.kept
    (rw (sym c.as_slice.ensures.value, c.as_slice-2.ensures.value, c.as_slice-3.ensures.value) c.in_ok-fronts.ensures.ok)
    (standing_parts loaded.bytes.items c.deref_mut.result.now c.as_slice-4.result.now c.as_slice-2.result.now c.as_slice-3.result.now c.in_ok-changes.changes.items c.as_slice-5.result.now c.in_ok-pieces.pieces.items c.as_slice-6.result.now
    c.deref_mut.ensures.value c.in_ok-changes.ensures.ok
    (shown_back loaded.bytes.len c.as_slice-4.result.now c.changes_of.new.bytes loaded.bytes.items (slots_on c.as_slice-3.result.now (fronts_on c.as_slice-2.result.now c.deref_mut.result.now)) c.as_slice-4.ensures.value
    (omega (arith, c.changes_of.auto.bytes, c.deref_mut.ensures.len)) (omega (arith, c.changes_of.auto.bytes, c.deref_mut.ensures.len)) c.in_ok-changes.ensures.bytes)
    c.as_slice-5.ensures.value c.in_ok-pieces.ensures c.as_slice-6.ensures.value)
    c.in_err-write_changes_of.ensures.err))

-- the line of what was read is that of the file
pub returns-clause-told : goal.returns-clause-told
returns-clause-told g c =
    let loaded : Loaded = c.in_ok-bytes.field-0 in
    let reads : ReadsStore (signs_of c.args.signing (macho_command_model c.args.command.now)) (g.S.Store.contents c.args.store.now) loaded =
    record { enough = c.leaves_signatures-leaves.result; leaves = c.leaves_signatures-leaves.ensures; is = c.in_ok-bytes.ensures.loaded } in
    told_of_store c.args.notes c.args.signing (macho_command_model c.args.command.now) _ loaded c.as_slice-2.result.now c.as_slice-3.result.now _ reads
    (rw (sym c.as_slice.ensures.value, c.as_slice-2.ensures.value, c.as_slice-3.ensures.value) c.in_ok-fronts.ensures.ok)
    (rw (sym c.as_slice.ensures.value) c.in_ok-fronts.ensures.told)
