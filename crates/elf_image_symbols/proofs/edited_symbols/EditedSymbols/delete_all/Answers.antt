-- The numbers that don't stay are gone.
use Rattle.std.proofs.Common.{ℕ, filter, length, sym, ap, ◌∙◌, subst, arith}
use Rattle.elf_image_symbols.specs.EditedList.{stays}
use Rattle.elf_image_symbols.specs.EditedModel.{numbers_of}
use Rattle.elf_image_symbols.specs.Rising.{AreRising, numbers_there}
use Rattle.elf_image_symbols.proofs.RisingLaws.{rising_filter}
use Rattle.elf_image_symbols.proofs.EditedLaws.{deleted_all, numbers_rise}
use Rattle.elf_image_symbols.proofs.edited_symbols.EditedSymbols.delete_all.Goals as goal

pub invariant_of-self : goal.invariant_of-self
invariant_of-self c =
    let s = c.self.inside in
    let left = c.list_others.ensures.items ∙ ap (λ (n : ℕ). filter (stays c.args.gone.now) (numbers_there s.are_all n s.kept.items)) c.len-count.ensures in
    record {
      changes = c.self.invariant.changes;
      kept = subst (AreRising 0 (length s.table)) (sym left) (rising_filter 0 (length s.table) (stays c.args.gone.now) (numbers_of s) (numbers_rise s c.self.invariant));
      room_for_changes = c.self.invariant.room_for_changes;
      room_for_numbers = omega (arith, c.self.invariant.room_for_numbers, c.list_others.ensures.room);
    }

pub returns : goal.returns
returns c =
    let s = c.self.inside in
    deleted_all s c.self.invariant c.args.self.now c.self.view_is c.args.gone.now c.list_others.new.numbers.items
    (c.list_others.ensures.items ∙ ap (λ (n : ℕ). filter (stays c.args.gone.now) (numbers_there s.are_all n s.kept.items)) c.len-count.ensures)
