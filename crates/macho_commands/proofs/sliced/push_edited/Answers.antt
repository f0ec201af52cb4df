-- What edits write over a front is what the changes put behind the pieces.
use Rattle.std.proofs.Common.{◌≡◌, ◌∙◌, List, [], ap, arith, subst, sym, ℕ}
use Rattle.arwen_macho.specs.Fronts.{fronts_on}
use Rattle.arwen_macho.specs.declared.front.Front.{Front}
use Rattle.macho_commands.specs.Engine.{WritesEdits, asked}
use Rattle.macho_commands.specs.Meaning.{macho_command_model}
use Rattle.macho_commands.proofs.SlicedRuns.{adds_front, low_changes, written_back}
use Rattle.macho_commands.proofs.StoreLaws.{standing_inside, standing_parts}
use Rattle.macho_commands.proofs.sliced.push_edited.Goals as goal

pub standing_pieces-requires : goal.standing_pieces-requires
standing_pieces-requires c =
    standing_inside c.deref_mut.result.now c.as_slice-4.result.now c.as_slice-3.result.now [] c.in_ok-changes.changes.items c.as_slice-5.result.now
    c.in_ok-changes.ensures.ok
    (c.as_slice-4.ensures.value
    ∙ written_back c.in_ok-bytes.bytes.len c.front_changes.new.bytes c.in_ok-bytes.bytes.items (omega (arith, c.front_changes.auto.bytes, c.deref_mut.ensures.len)) (omega (arith, c.front_changes.auto.bytes, c.deref_mut.ensures.len))
    ∙ c.in_ok-changes.ensures.bytes)
    c.as_slice-5.ensures.value

pub push_changes_at-requires-clause-inside : goal.push_changes_at-requires-clause-inside
push_changes_at-requires-clause-inside c =
    let same : c.deref_mut.result.now ≡ c.args.front.now.bytes.items = c.deref_mut.ensures.value ∙ c.in_ok-bytes.ensures.items ∙ c.as_slice-2.ensures.value in
    let parts =
    standing_parts c.args.front.now.bytes.items c.deref_mut.result.now c.as_slice-4.result.now c.as_slice-3.result.now [] c.in_ok-changes.changes.items c.as_slice-5.result.now c.in_ok-standing.standing.items c.as_slice-6.result.now
    same c.in_ok-changes.ensures.ok
    (c.as_slice-4.ensures.value
    ∙ written_back c.in_ok-bytes.bytes.len c.front_changes.new.bytes c.in_ok-bytes.bytes.items (omega (arith, c.front_changes.auto.bytes, c.deref_mut.ensures.len)) (omega (arith, c.front_changes.auto.bytes, c.deref_mut.ensures.len))
    ∙ c.in_ok-changes.ensures.bytes)
    c.as_slice-5.ensures.value c.in_ok-standing.ensures c.as_slice-6.ensures.value in
    low_changes c.args.front.now.bytes.items _ c.requires.thin parts.inside

pub returns-clause-adds : goal.returns-clause-adds
returns-clause-adds c =
    let same : c.deref_mut.result.now ≡ c.args.front.now.bytes.items = c.deref_mut.ensures.value ∙ c.in_ok-bytes.ensures.items ∙ c.as_slice-2.ensures.value in
    let fronts : List Front = c.as_slice-3.result.now in
    let Writes : List ℕ → Type 0 = λ l. WritesEdits (asked (macho_command_model c.args.command.now)) l c.in_ok-fronts.fronts.items in
    let Fronts : List Front → Type 0 = λ l. WritesEdits (asked (macho_command_model c.args.command.now)) c.args.front.now.bytes.items l in
    let back =
    written_back c.in_ok-bytes.bytes.len c.front_changes.new.bytes c.in_ok-bytes.bytes.items (omega (arith, c.front_changes.auto.bytes, c.deref_mut.ensures.len)) (omega (arith, c.front_changes.auto.bytes, c.deref_mut.ensures.len))
    ∙ c.in_ok-changes.ensures.bytes in
    adds_front (asked (macho_command_model c.args.command.now)) c.args.front.now _ fronts c.as_slice-6.result.now _ _
    (subst Fronts (sym c.as_slice-3.ensures.value) (subst Writes c.as_slice.ensures.value c.in_ok-fronts.ensures.ok))
    (standing_parts c.args.front.now.bytes.items c.deref_mut.result.now c.as_slice-4.result.now fronts [] c.in_ok-changes.changes.items c.as_slice-5.result.now c.in_ok-standing.standing.items c.as_slice-6.result.now
    same c.in_ok-changes.ensures.ok (c.as_slice-4.ensures.value ∙ back) c.as_slice-5.ensures.value c.in_ok-standing.ensures c.as_slice-6.ensures.value)
    c.in_ok-push_changes_at.ensures
    (back ∙ ap (fronts_on fronts) same)
