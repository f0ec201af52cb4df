-- One number more stays or goes, and there is room for it.
use Rattle.std.proofs.Common.{ℕ, List, [], ◌∷◌, ◌++◌, filter, length, sym, ap, ◌∙◌, arith}
use Rattle.elf_format.specs.Image.{counted}
use Rattle.elf_image_symbols.specs.EditedList.{stays}
use Rattle.elf_image_symbols.proofs.RisingLaws.{one_goes, one_stays, rising_counted, rising_filter, rising_long}
use Rattle.elf_image_symbols.proofs.numbers.fill_others.Goals as goal
use Rattle.elf_image_symbols.proofs.numbers.fill_others.Goals.{then-not-is_among, else-not-is_among}

pub loop-number-init : goal.loop-number-init
unfolding counted
loop-number-init c = record { listed = c.clear.ensures.items; room = c.clear.ensures.capacity }

pub push_reserved-requires : goal.push_reserved-requires
push_reserved-requires c =
    let n : ℕ = c.loop-number.number in
    let test = stays c.args.gone.now in
    let long = rising_long 0 n (filter test (counted n)) (rising_filter 0 n test (counted n) (rising_counted n)) (omega arith) in
    omega (arith, c.loop-number.numbers.ok.0, ap (λ (l : List ℕ). length l) c.loop-number.invariant.listed, long, c.loop-number.invariant.room, c.loop-number-test.true, c.requires.room)

pub loop-number-preserved : goal.loop-number-preserved
loop-number-preserved c =
    let n : ℕ = c.loop-number.number in
    elim c.if-not-is_among.branch [
      | then-not-is_among w ↦
          rw w.numbers-is
          (record {
            listed =
                w.push_reserved.ensures.items ∙ ap (λ (l : List ℕ). l ++ n ∷ []) c.loop-number.invariant.listed
                ∙ one_stays c.args.gone.now n (sym c.is_among.ensures ∙ w.if-not-is_among.true);
            room = w.push_reserved.ensures.capacity ∙ c.loop-number.invariant.room;
          })
      | else-not-is_among w ↦
          rw w.numbers-is
          (record {
            listed = c.loop-number.invariant.listed ∙ one_goes c.args.gone.now n (sym c.is_among.ensures ∙ w.if-not-is_among.false);
            room = c.loop-number.invariant.room;
          })
    ]
