-- The change of the symbol at the position clears its version.
use Rattle.std.proofs.Common.{true, refl, arith}
use Rattle.elf_image_symbols.specs.declared.change.Change.{Change}
use Rattle.elf_image_symbols.specs.EditedList.{with_global_version}
use Rattle.elf_image_symbols.proofs.SymbolLaws.{clears}
use Rattle.elf_image_symbols.proofs.EditedLaws.{are_changed, edited_by, number_below}
use Rattle.elf_image_symbols.proofs.edited_symbols.EditedSymbols.clear_version.Goals as goal

pub touch-k-requires-clause-there : goal.touch-k-requires-clause-there
touch-k-requires-clause-there c =
    number_below c.self.inside c.self.invariant c.args.self.now c.self.view_is c.args.i c.number_at-number.result c.number_at-number.ensures

pub invariant_of-self : goal.invariant_of-self
invariant_of-self c = record {
  changes =
      are_changed (λ (d : Change). record d { is_cleared = true }) c.self.inside.table c.touch-k.new.changes.items c.set_cleared.new.changes.items c.touch-k.result (λ d. refl)
      (λ d has. has) c.touch-k.ensures.changes c.set_cleared.ensures.items;
  kept = c.self.invariant.kept;
  room_for_changes = omega (arith, c.touch-k.ensures.room, c.set_cleared.ensures.room);
  room_for_numbers = c.self.invariant.room_for_numbers;
}

pub returns : goal.returns
returns c =
    edited_by c.self.inside c.self.invariant c.args.self.now c.self.view_is (λ (d : Change). record d { is_cleared = true }) with_global_version (λ d. refl) clears
    c.args.i c.number_at-number.result c.touch-k.result c.touch-k.new.changes.items c.set_cleared.new.changes.items c.number_at-number.ensures c.touch-k.ensures.place c.touch-k.ensures.same
    c.set_cleared.ensures.items
