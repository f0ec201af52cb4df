-- The number at the position is gone.
use Rattle.std.proofs.Common.{◌≡◌, ℕ, List, length, sym, ap, ◌∙◌, subst, arith}
use Rattle.std.specs.Prelude.{remove}
use Rattle.elf_image_symbols.specs.EditedModel.{numbers_of}
use Rattle.elf_image_symbols.specs.Rising.{AreRising, numbers_there}
use Rattle.elf_image_symbols.proofs.RisingLaws.{rising_remove}
use Rattle.elf_image_symbols.proofs.EditedLaws.{deleted_at, numbers_rise}
use Rattle.elf_image_symbols.proofs.edited_symbols.EditedSymbols.delete.Goals as goal

pub invariant_of-self : goal.invariant_of-self
invariant_of-self c =
    let s = c.self.inside in
    let listed : c.list_all.new.numbers.items ≡ numbers_of s = c.list_all.ensures.items ∙ ap (λ (n : ℕ). numbers_there s.are_all n s.kept.items) c.len-count.ensures in
    let left = c.remove.ensures.items ∙ ap (λ (l : List ℕ). remove l c.args.i) listed in
    record {
      changes = c.self.invariant.changes;
      kept = subst (AreRising 0 (length s.table)) (sym left) (rising_remove 0 (length s.table) (numbers_of s) c.args.i (numbers_rise s c.self.invariant));
      room_for_changes = c.self.invariant.room_for_changes;
      room_for_numbers = omega (arith, c.self.invariant.room_for_numbers, c.list_all.ensures.room, c.remove.ensures.capacity);
    }

pub returns : goal.returns
returns c =
    let s = c.self.inside in
    let listed : c.list_all.new.numbers.items ≡ numbers_of s = c.list_all.ensures.items ∙ ap (λ (n : ℕ). numbers_there s.are_all n s.kept.items) c.len-count.ensures in
    deleted_at s c.self.invariant c.args.self.now c.self.view_is c.args.i c.remove.new.self.items (c.remove.ensures.items ∙ ap (λ (l : List ℕ). remove l c.args.i) listed)
