-- One symbol more has its change, and there is room for it.
use Rattle.std.proofs.Common.{ℕ, List, ◌∷◌, [], ◌++◌, length, map, refl, sym, ap, ◌∙◌, arith}
use Rattle.std.proofs.lemmas.List.{length-map}
use Rattle.elf_format.specs.Image.{counted}
use Rattle.elf_image_symbols.proofs.ForCallers.Lengths.{length-counted}
use Rattle.elf_image_symbols.specs.declared.change.Change.{Change}
use Rattle.elf_image_symbols.specs.Changes.{change_at}
use Rattle.elf_image_symbols.proofs.SpreadLaws.{change_at-same, map-counted-more}
use Rattle.elf_image_symbols.proofs.changes.spread_changes.Goals as goal

pub loop-number-init : goal.loop-number-init
unfolding counted
loop-number-init c = record {
  made = c.in_ok-spread.ensures.items;
  room = c.in_ok-spread.ensures.capacity;
  rising = c.requires;
  same = λ m le. refl;
}

pub push_reserved-requires : goal.push_reserved-requires
push_reserved-requires c =
    let n : ℕ = c.loop-number.number in
    let told : ℕ → Change = change_at c.args.table.now c.args.changes.now in
    omega (arith, c.loop-number.spread.ok.0, ap (λ (l : List Change). length l) c.loop-number.invariant.made, length-map (counted n) told, length-counted n, c.loop-number.invariant.room, c.loop-number-test.true)

pub loop-number-preserved : goal.loop-number-preserved
loop-number-preserved c =
    let n : ℕ = c.loop-number.number in
    let told : ℕ → Change = change_at c.args.table.now c.args.changes.now in
    let here = c.in_ok-change.ensures ∙ change_at-same c.args.table.now c.args.changes.now c.loop-number.rest.now n (c.loop-number.invariant.same n (omega arith)) in
    record {
      made =
          c.push_reserved.ensures.items
          ∙ ap (λ (l : List Change). l ++ c.in_ok-change.change ∷ []) c.loop-number.invariant.made
          ∙ ap (λ (d : Change). map told (counted n) ++ d ∷ []) here
          ∙ sym (map-counted-more told n);
      room = omega (arith, c.loop-number.invariant.room, c.push_reserved.ensures.capacity);
      rising = c.changes_behind-rest.ensures.rising (length c.args.table.now) c.loop-number.invariant.rising;
      same = λ m le. c.changes_behind-rest.ensures.same m (omega (arith, le)) ∙ c.loop-number.invariant.same m (omega (arith, le));
    }
