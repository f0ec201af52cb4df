-- One slice more.
use Rattle.std.proofs.Common.{◌≡◌, ◌<◌, ◌||◌, ◌++◌, ◌∙◌, ℕ, Global, List, Vec, ap, arith, get_or, inl, inr, length, map, subst, sym}
use Rattle.std.proofs.lemmas.List.{get_or-map, length-map}
use Rattle.std.proofs.lemmas.Result.{err_from_is_err_and}
use Rattle.std.specs.List.{All}
use Rattle.byte_store.specs.Composed.{owned_patches}
use Rattle.byte_store.specs.Shown.{shifted}
use Rattle.macho_signatures.specs.Renewed.{SlotLies}
use Rattle.macho_signatures.specs.declared.renewal.Slot.{Slot}
use Rattle.macho_commands_stores.specs.Renewing.{slot_patch}
use Rattle.macho_commands_stores.specs.declared.slices.SliceFront.{SliceFront}
use Rattle.macho_commands_stores.proofs.RenewingLaws.{count_edited, left_more, lie_within, long_at, signs_more}
use Rattle.macho_commands_stores.proofs.SliceLaws.{later}
use Rattle.macho_commands_stores.proofs.renewing.load_slots.Goals as goal
use Rattle.macho_commands_stores.proofs.renewing.load_slots.Goals.{then-are_some_left, else-are_some_left}

abbrev items_of : Vec ℕ Global → List ℕ
items_of v = v.items

new_is : (edited : List (Vec ℕ Global)) (i : ℕ) (v : Vec ℕ Global) (new : List ℕ) → i < length edited → v ≡ get_or edited i v → new ≡ v.items → new ≡ get_or (map items_of edited) i new
new_is edited i v new inside is same = same ∙ ap items_of is ∙ sym (get_or-map items_of edited i v new inside)

within : (fronts : List SliceFront) (edited : List (Vec ℕ Global)) (i : ℕ) → length (map items_of edited) ≡ length fronts → i < length fronts → i < length edited
within fronts edited i same inside = omega (arith, same, inside, length-map edited items_of)

pub slots_behind-requires-clause-long : goal.slots_behind-requires-clause-long
slots_behind-requires-clause-long g c =
    let edited : List (Vec ℕ Global) = c.args.edited.now in
    let i : ℕ = c.loop-i.i in
    long_at c.args.fronts.now (map items_of edited) i c.index-fronts-i.result c.as_slice.result.now c.requires.long c.loop-i-test.true c.index-fronts-i.is
    (new_is edited i c.index-edited-i.result c.as_slice.result.now (within c.args.fronts.now edited i (count_edited c.args.fronts.now (map items_of edited) c.requires.long) c.loop-i-test.true) c.index-edited-i.is c.as_slice.ensures.value)

pub push_slots_at-requires-clause-lie : goal.push_slots_at-requires-clause-lie
push_slots_at-requires-clause-lie g c =
    let low = c.requires.low c.loop-i.i c.index-fronts-i.result c.loop-i-test.true in
    let lie = rw c.in-Some.is at c.in_ok-made.ensures.lie in
    let P : List Slot → Type 0 = All (SlotLies 4294967296) in
    subst P (sym c.as_slice-in-loop-i.ensures.value) (lie_within c.index-fronts-i.result.size 4294967296 c.in-Some.made.slots.items (omega (arith, low, ap (λ (f : SliceFront). f.size) c.index-fronts-i.is)) lie)

pub loop-i-preserved : goal.loop-i-preserved
loop-i-preserved g c =
    let edited : List (Vec ℕ Global) = c.args.edited.now in
    let i : ℕ = c.loop-i.i in
    let inside : i < length edited = within c.args.fronts.now edited i (count_edited c.args.fronts.now (map items_of edited) c.requires.long) c.loop-i-test.true in
    let lie = rw c.in-Some.is at c.in_ok-made.ensures.lie in
    let signs = rw c.in-Some.is at c.in_ok-made.ensures.slots in
    let left : c.if-are_some_left.are_some_left ≡ (c.loop-i.are_some_left || c.in-Some.made.is_left) =
    left_more c.loop-i.are_some_left c.in-Some.made.is_left c.if-are_some_left.are_some_left
    (elim c.if-are_some_left.branch [
      | then-are_some_left w ↦ inl (w.if-are_some_left.true, w.are_some_left-is ∙ w.if-are_some_left.true)
      | else-are_some_left w ↦ inr (w.if-are_some_left.false, w.are_some_left-is)
    ]) in
    record {
      signs = signs_more _ _ c.args.fronts.now (map items_of edited) i c.index-fronts-i.result c.as_slice.result.now c.in-Some.made (owned_patches c.loop-i.pieces.items) (owned_patches c.push_slots_at.new.pieces.items) c.loop-i.are_some_left c.if-are_some_left.are_some_left
          c.loop-i-test.true (omega (arith, inside, length-map edited items_of)) c.loop-i.invariant.kept c.index-fronts-i.is
          (new_is edited i c.index-edited-i.result c.as_slice.result.now inside c.index-edited-i.is c.as_slice.ensures.value)
          c.loop-i.invariant.signs signs lie
          (c.in_ok-push_slots_at.ensures ∙ ap (λ (l : List Slot). owned_patches c.loop-i.pieces.items ++ map (shifted c.index-fronts-i.result.offset) (map slot_patch l)) c.as_slice-in-loop-i.ensures.value)
          left;
      kept = c.in_ok-made.ensures.kept ∙ c.loop-i.invariant.kept;
      grows = omega (arith, c.in_ok-made.ensures.grows, c.loop-i.invariant.grows);
    }

pub returns-in_err-made-clause-cause : goal.returns-in_err-made-clause-cause
returns-in_err-made-clause-cause g c =
    let p = err_from_is_err_and c.from_residual.result c.from_residual.ensures.1 in
    rw (p.1, p.2) (later g.S.Store.may_fail_read _ _ _ _ _ _ c.loop-i.invariant.kept c.loop-i.invariant.grows c.in_err-made.ensures.cause)
