-- A text that is there begins in the bytes, and a NUL stands behind it.
use Rattle.std.proofs.Common.{◌-◌, ℕ, List, length, take, drop, sym, ap, ◌∙◌, arith}
use Rattle.std.specs.Prelude.{is_some}
use Rattle.std.proofs.lemmas.Bool.{true≢false}
use Rattle.elf_format.proofs.ForCallers.ReadingSteps.{text_found, text_missing}
use Rattle.elf_image_symbols.proofs.NameSteps.{text_of_rest, there_within}
use Rattle.elf_image_symbols.proofs.names.text_there.Goals as goal

pub slice_bounds-rest-count : goal.slice_bounds-rest-count
slice_bounds-rest-count c = let low = there_within (length c.args.texts.now) c.args.place c.args.texts.now (omega arith) c.requires in omega (arith, low)

pub slice_bounds-rest-start : goal.slice_bounds-rest-start
slice_bounds-rest-start c = let low = there_within (length c.args.texts.now) c.args.place c.args.texts.now (omega arith) c.requires in omega (arith, low)

pub returns : goal.returns
returns c =
    let rest : List ℕ = take (length c.args.texts.now - c.args.place) (drop c.args.place c.args.texts.now) in
    let found = c.in-Some.ensures in
    text_of_rest c.args.place c.args.texts.now ∙ text_found rest c.in-Some.end found.0.high found.1 found.0.before

pub unreachable-requires : goal.unreachable-requires
unreachable-requires c =
    let rest : List ℕ = take (length c.args.texts.now - c.args.place) (drop c.args.place c.args.texts.now) in
    true≢false (sym c.requires ∙ ap is_some (text_of_rest c.args.place c.args.texts.now ∙ text_missing rest c.in-None.ensures))
