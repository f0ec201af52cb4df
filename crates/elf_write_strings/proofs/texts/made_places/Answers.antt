-- One text more.
use Rattle.std.proofs.Common.{◌+◌, ◌<◌, ℕ, List, [], length, map, take, get_or, sym, subst, arith}
use Rattle.std.specs.Borrow.{Bor}
use Rattle.elf_format.specs.Answers.{borrowed}
use Rattle.elf_write_strings.specs.PlacedTexts.{TextsStand}
use Rattle.elf_write_strings.proofs.TextsPlaced.{reads_from, stand_next}
use Rattle.elf_write_strings.proofs.texts.made_places.Goals as goal

pub loop-text-preserved : goal.loop-text-preserved
loop-text-preserved c =
    let i : ℕ = c.loop-text.text-index in
    let none : Bor (List ℕ) = record { ref_ptr = (0, 0); now = [] } in
    let within : i < length c.args.texts.now = omega arith in
    subst (λ (ps : List ℕ). TextsStand c.args.table.now.bytes (map borrowed (take (i + 1) c.args.texts.now)) ps)
    (sym {A = List ℕ} c.in_ok-push.ensures.items)
    (stand_next c.args.table.now.bytes c.args.texts.now i none c.loop-text.places.items within c.loop-text.invariant c.from.result
    (reads_from c.args.table.now.bytes c.offset_of.result (get_or c.args.texts.now i none).now c.unwrap.result c.from.result
    c.offset_of.ensures.stands c.unwrap.ensures c.from.ensures))
