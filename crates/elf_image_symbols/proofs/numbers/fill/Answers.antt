-- There is room for one number more, and with it they are as many as that.
use Rattle.std.proofs.Common.{ℕ, List, [], ◌∷◌, ◌++◌, length, sym, ap, ◌∙◌, arith}
use Rattle.elf_format.specs.Image.{counted}
use Rattle.elf_image_symbols.proofs.ForCallers.Lengths.{length-counted}
use Rattle.elf_image_symbols.proofs.RisingLaws.{counted-more}
use Rattle.elf_image_symbols.proofs.numbers.fill.Goals as goal

pub loop-number-init : goal.loop-number-init
unfolding counted
loop-number-init c = record { listed = c.clear.ensures.items; room = c.clear.ensures.capacity }

pub push_reserved-requires : goal.push_reserved-requires
push_reserved-requires c =
    omega (arith, c.loop-number.numbers.ok.0, ap (λ (l : List ℕ). length l) c.loop-number.invariant.listed, length-counted c.loop-number.number, c.loop-number.invariant.room, c.loop-number-test.true, c.requires)

pub loop-number-preserved : goal.loop-number-preserved
loop-number-preserved c =
    let n : ℕ = c.loop-number.number in
    record {
      listed = c.push_reserved.ensures.items ∙ ap (λ (l : List ℕ). l ++ n ∷ []) c.loop-number.invariant.listed ∙ sym (counted-more n);
      room = c.push_reserved.ensures.capacity ∙ c.loop-number.invariant.room;
    }
