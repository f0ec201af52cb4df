-- One slot more is laid.
use Rattle.std.proofs.Common.{List, ℕ, sym}
use Rattle.macho_signatures.specs.declared.renewal.Slot.{Slot}
use Rattle.macho_commands_stores.proofs.PieceLaws.{slot_done, slot_long}
use Rattle.macho_commands_stores.proofs.PieceLaws.{lays_further, lies_further}
use Rattle.macho_commands_stores.proofs.changes.lay_slots.Goals as goal

pub loop-slot-preserved : goal.loop-slot-preserved
loop-slot-preserved c =
    let slots : List Slot = c.args.slots.now in
    let i : ℕ = c.loop-slot.slot-index in
    let initial : List ℕ = c.args.bytes.now in
    let held : List ℕ = c.loop-slot.bytes in
    let next : List ℕ = c.lay_change.new.bytes in
    let before = c.loop-slot.invariant in
    let told = c.in_ok-lay_change.ensures in
    record {
      long = slot_long slots i _ initial held next c.as_slice.result.now c.requires before.long c.loop-slot-test.true c.as_slice.ensures told.bytes;
      done = slot_done slots i _ held next _ c.as_slice.result.now c.loop-slot-test.true c.as_slice.ensures told.bytes before.done;
      lays = lays_further c.args.pieces.now.items c.loop-slot.pieces.items c.lay_change.new.pieces.items initial held next before.lays told.laid;
      inside = lies_further _ _ c.args.pieces.now.items c.loop-slot.pieces.items c.lay_change.new.pieces.items (sym before.long) before.inside told.inside;
    }
