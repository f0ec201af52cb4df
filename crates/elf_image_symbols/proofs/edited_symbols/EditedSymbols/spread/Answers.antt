-- Each symbol has a change, which makes of it what was made.
use Rattle.std.proofs.Common.{◌≡◌, List, length, map, ap, ◌∙◌, arith}
use Rattle.elf_format.specs.Image.{counted}
use Rattle.elf_format.specs.Views.{NamedSymbol}
use Rattle.elf_image_symbols.specs.declared.change.Change.{Change}
use Rattle.elf_image_symbols.specs.Changes.{change_at}
use Rattle.elf_image_symbols.proofs.SpreadLaws.{told_changes, told_kept, told_shown}
use Rattle.elf_image_symbols.proofs.edited_symbols.EditedSymbols.spread.Goals as goal

pub invariant_of-result : goal.invariant_of-result
invariant_of-result c =
    let s = c.self.inside in
    let told : c.in_ok-changes.changes.items ≡ map (change_at s.table s.changes.items) (counted (length s.table)) =
    c.in_ok-changes.ensures.items ∙ ap (λ (cs : List Change). map (change_at s.table cs) (counted (length s.table))) c.deref.ensures.value in
    let long : length c.same.result ≡ length s.table = ap (λ (ys : List NamedSymbol). length ys) c.same.ensures in
    record {
      changes = told_changes s.table s.changes.items c.self.invariant.changes c.same.result c.in_ok-changes.changes.items c.same.ensures told;
      kept = told_kept s.table s.kept.items c.self.invariant.kept c.same.result c.in_ok-kept.kept.items c.same.ensures (c.in_ok-kept.ensures.items ∙ c.deref-2.ensures.value);
      room_for_changes = omega (arith, c.in_ok-changes.ensures.room, long);
      room_for_numbers = omega (arith, c.in_ok-kept.ensures.room, c.len-room.ensures, long);
    }

pub returns : goal.returns
returns c =
    let s = c.self.inside in
    let told : c.in_ok-changes.changes.items ≡ map (change_at s.table s.changes.items) (counted (length s.table)) =
    c.in_ok-changes.ensures.items ∙ ap (λ (cs : List Change). map (change_at s.table cs) (counted (length s.table))) c.deref.ensures.value in
    told_shown s c.self.invariant c.args.self.now c.self.view_is c.same.result c.in_ok-changes.changes.items c.in_ok-kept.kept.items c.same.ensures told
    (c.in_ok-kept.ensures.items ∙ c.deref-2.ensures.value)
