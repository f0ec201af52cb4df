-- A file by the fronts of its slices, with the slots of the pages that edits touch.
use Rattle.std.proofs.Common.{◌≡◌, ◌∙◌, ℕ, Global, List, Vec, ap, map, subst, sym}
use Rattle.std.specs.List.{All}
use Rattle.std.proofs.lemmas.Result.{err_from_is_err_and}
use Rattle.byte_store.specs.Composed.{owned_patches}
use Rattle.byte_store.specs.Laid.{Patch, patches_of}
use Rattle.macho_commands.specs.Engine.{asked}
use Rattle.macho_commands.specs.Meaning.{macho_command_model}
use Rattle.macho_commands.specs.Sliced.{IsLoadedFront, MakesEdited, RefusesFronts}
use Rattle.macho_commands_stores.specs.Renewing.{AreAsLong, IsLow, SignsFronts}
use Rattle.macho_commands_stores.specs.declared.slices.SliceFront.{SliceFront}
use Rattle.macho_commands.proofs.RenewedRuns.{Makes, edited_long, makes_inside, may_refuse_renewed, patched_renewed, read_loaded, read_low, refused_renewed, told_renewed, torn_renewed}
use Rattle.macho_commands.proofs.StoreLaws.{torn_by}
use Rattle.macho_commands.proofs.renewed.patch_renewed.Goals as goal

abbrev items_of : Vec ℕ Global → List ℕ
items_of v = v.items

pub edited_fronts-requires : goal.edited_fronts-requires
edited_fronts-requires g c =
    let Loaded : List SliceFront → Type 0 = All IsLoadedFront in
    subst Loaded (sym c.as_slice-fronts.ensures.value) (read_loaded _ c.args.slices.now c.requires.read)

pub returns-in_err-pieces-clause-err : goal.returns-in_err-pieces-clause-err
returns-in_err-pieces-clause-err g c =
    let p = err_from_is_err_and c.from_residual.result c.from_residual.ensures.1 in
    rw (p.1, p.2) (may_refuse_renewed c.args.signing (macho_command_model c.args.command.now) c.as_slice-fronts.result.now _ c.in_err-pieces.ensures.err)

pub returns-in_err-pieces-clause-left : goal.returns-in_err-pieces-clause-left
returns-in_err-pieces-clause-left g c =
    let p = err_from_is_err_and c.from_residual.result c.from_residual.ensures.1 in
    let Refuses : List SliceFront → Type 0 = λ l. RefusesFronts (asked (macho_command_model c.args.command.now)) l c.in_err-pieces.field-0.0 in
    rw (p.1, p.2) (refused_renewed _ c.args.signing (macho_command_model c.args.command.now) _ c.args.slices.now _ c.requires.read (subst Refuses c.as_slice-fronts.ensures.value c.in_err-pieces.ensures.err))

pub load_slots-requires-clause-low : goal.load_slots-requires-clause-low
load_slots-requires-clause-low g c =
    let Low : List SliceFront → Type 0 = All IsLow in
    subst Low (sym c.as_slice-fronts.ensures.value) (read_low _ c.args.slices.now c.requires.read)

pub load_slots-requires-clause-long : goal.load_slots-requires-clause-long
load_slots-requires-clause-long g c =
    let fronts : List SliceFront = c.as_slice-fronts.result.now in
    let same : c.as_slice.result.now ≡ c.in_ok-pieces.field-0.edited.items = c.as_slice.ensures.value in
    let Long : List (Vec ℕ Global) → Type 0 = λ l. AreAsLong fronts (map items_of l) in
    subst Long (sym same) (edited_long (asked (macho_command_model c.args.command.now)) fronts (map items_of c.in_ok-pieces.field-0.edited.items) (owned_patches c.in_ok-pieces.field-0.pieces.items) c.in_ok-pieces.ensures.edited)

pub write_changes_of-requires-clause-inside : goal.write_changes_of-requires-clause-inside
write_changes_of-requires-clause-inside g c =
    let known = g.S.Store.contents c.args.store.now in
    let fronts : List SliceFront = c.args.slices.now.fronts.items in
    let edited : List (Vec ℕ Global) = c.in_ok-pieces.field-0.edited.items in
    let same : c.as_slice.result.now ≡ edited = c.as_slice.ensures.value in
    let slots : List Patch = owned_patches c.in-Some.slots.pieces.items in
    let Edits : List SliceFront → Type 0 = λ l. MakesEdited (asked (macho_command_model c.args.command.now)) l (map items_of edited) (owned_patches c.in_ok-pieces.field-0.pieces.items) in
    let Fronts : List SliceFront → Type 0 = λ l. SignsFronts known l (map items_of edited) slots c.in-Some.slots.are_some_left in
    let News : List (Vec ℕ Global) → Type 0 = λ l. SignsFronts known c.as_slice-fronts.result.now (map items_of l) slots c.in-Some.slots.are_some_left in
    let told = rw c.in-Some.is at c.in_ok-slots.ensures.slots in
    makes_inside c.args.signing (macho_command_model c.args.command.now) known c.args.slices.now (patches_of c.as_slice-3.result.now) c.in-Some.slots.are_some_left
    (record {
      touched = c.requires.touched;
      read_is = c.requires.read;
      news = map items_of edited;
      edits = owned_patches c.in_ok-pieces.field-0.pieces.items;
      slots = slots;
      makes = subst Edits c.as_slice-fronts.ensures.value c.in_ok-pieces.ensures.edited;
      signs = subst Fronts c.as_slice-fronts.ensures.value (subst News same told);
      all =
          ap patches_of c.as_slice-3.ensures.value ∙ c.in_ok-lent.ensures ∙ ap owned_patches c.as_slice-2.ensures.value ∙ c.in_ok-all.ensures;
    })

pub returns-clause-patched : goal.returns-clause-patched
returns-clause-patched g c =
    let known = g.S.Store.contents c.args.store.now in
    let fronts : List SliceFront = c.args.slices.now.fronts.items in
    let edited : List (Vec ℕ Global) = c.in_ok-pieces.field-0.edited.items in
    let same : c.as_slice.result.now ≡ edited = c.as_slice.ensures.value in
    let slots : List Patch = owned_patches c.in-Some.slots.pieces.items in
    let Edits : List SliceFront → Type 0 = λ l. MakesEdited (asked (macho_command_model c.args.command.now)) l (map items_of edited) (owned_patches c.in_ok-pieces.field-0.pieces.items) in
    let Fronts : List SliceFront → Type 0 = λ l. SignsFronts known l (map items_of edited) slots c.in-Some.slots.are_some_left in
    let News : List (Vec ℕ Global) → Type 0 = λ l. SignsFronts known c.as_slice-fronts.result.now (map items_of l) slots c.in-Some.slots.are_some_left in
    let told = rw c.in-Some.is at c.in_ok-slots.ensures.slots in
    let m : Makes c.args.signing (macho_command_model c.args.command.now) known c.args.slices.now (patches_of c.as_slice-3.result.now) c.in-Some.slots.are_some_left =
    record {
      touched = c.requires.touched;
      read_is = c.requires.read;
      news = map items_of edited;
      edits = owned_patches c.in_ok-pieces.field-0.pieces.items;
      slots = slots;
      makes = subst Edits c.as_slice-fronts.ensures.value c.in_ok-pieces.ensures.edited;
      signs = subst Fronts c.as_slice-fronts.ensures.value (subst News same told);
      all =
          ap patches_of c.as_slice-3.ensures.value ∙ c.in_ok-lent.ensures ∙ ap owned_patches c.as_slice-2.ensures.value ∙ c.in_ok-all.ensures;
    } in (
      patched_renewed c.args.signing (macho_command_model c.args.command.now) known _ _ c.args.slices.now (patches_of c.as_slice-3.result.now) c.in-Some.slots.are_some_left m c.in_ok-slots.ensures.kept c.in_ok-write_changes_of.ensures.ok,
      told_renewed c.args.notes c.args.signing (macho_command_model c.args.command.now) known c.args.slices.now (patches_of c.as_slice-3.result.now) c.in-Some.slots.are_some_left c.path_to_binary-path.result.now _ m c.path_to_binary-path.ensures c.in_ok-text.ensures,
    )

pub returns-in_err-write_changes_of-clause-left : goal.returns-in_err-write_changes_of-clause-left
returns-in_err-write_changes_of-clause-left g c =
    let p = err_from_is_err_and c.from_residual-in_err-write_changes_of.result c.from_residual-in_err-write_changes_of.ensures.1 in
    let known = g.S.Store.contents c.args.store.now in
    let fronts : List SliceFront = c.args.slices.now.fronts.items in
    let edited : List (Vec ℕ Global) = c.in_ok-pieces.field-0.edited.items in
    let same : c.as_slice.result.now ≡ edited = c.as_slice.ensures.value in
    let slots : List Patch = owned_patches c.in-Some.slots.pieces.items in
    let Edits : List SliceFront → Type 0 = λ l. MakesEdited (asked (macho_command_model c.args.command.now)) l (map items_of edited) (owned_patches c.in_ok-pieces.field-0.pieces.items) in
    let Fronts : List SliceFront → Type 0 = λ l. SignsFronts known l (map items_of edited) slots c.in-Some.slots.are_some_left in
    let News : List (Vec ℕ Global) → Type 0 = λ l. SignsFronts known c.as_slice-fronts.result.now (map items_of l) slots c.in-Some.slots.are_some_left in
    let told = rw c.in-Some.is at c.in_ok-slots.ensures.slots in
    let m : Makes c.args.signing (macho_command_model c.args.command.now) known c.args.slices.now (patches_of c.as_slice-3.result.now) c.in-Some.slots.are_some_left =
    record {
      touched = c.requires.touched;
      read_is = c.requires.read;
      news = map items_of edited;
      edits = owned_patches c.in_ok-pieces.field-0.pieces.items;
      slots = slots;
      makes = subst Edits c.as_slice-fronts.ensures.value c.in_ok-pieces.ensures.edited;
      signs = subst Fronts c.as_slice-fronts.ensures.value (subst News same told);
      all =
          ap patches_of c.as_slice-3.ensures.value ∙ c.in_ok-lent.ensures ∙ ap owned_patches c.as_slice-2.ensures.value ∙ c.in_ok-all.ensures;
    } in
    rw (p.1, p.2) (torn_by g.S.Store.may_fail_write g.S.Store.may_take_none c.args.signing (macho_command_model c.args.command.now) _ _ _ _ _ _ c.in_ok-slots.ensures.grows c.in_err-write_changes_of.ensures.cause
    (torn_renewed c.args.signing (macho_command_model c.args.command.now) known _ _ c.args.slices.now (patches_of c.as_slice-3.result.now) c.in-Some.slots.are_some_left m c.in_ok-slots.ensures.kept c.in_err-write_changes_of.ensures.err))
