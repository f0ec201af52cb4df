-- The map has the pairs.
use Rattle.std.proofs.Common.{◌∙◌, List, ap, ℕ}
use Rattle.std.specs.List.{list_any}
use Rattle.elf_image.specs.Views.{NamedSymbol}
use Rattle.elf_image_symbols.specs.Loan.{symbols_now}
use Rattle.elf_edits.specs.Symbols.{has_new_name, names_behind_first}
use Rattle.elf_edits.specs.TextModel.{pairs_model}
use Rattle.elf_edits.proofs.SymbolSteps.{one_pair, pair_found_names, same_found_names}
use Rattle.elf_edits.proofs.symbols.rename_any.Goals as goal

pub returns : goal.returns
returns c =
    c.is_about_any-2.ensures
    ∙ same_found_names c.in_ok-names.names.entries (pairs_model c.args.pairs.now) c.in_ok-names.ensures (symbols_now c.args.symbols.now)

pub returns-then-pairs-eq1 : goal.returns-then-pairs-eq1
returns-then-pairs-eq1 c =
    let ys : List NamedSymbol = symbols_now c.args.symbols.now in
    c.is_about_any.ensures
    ∙ pair_found_names c.as_slice.result.now c.as_slice-then-pairs-eq1.result.now ys
    ∙ ap (λ (ps : List (List ℕ × List ℕ)). list_any (has_new_name ps) (names_behind_first ys))
    (one_pair c.args.pairs.now c.index-pairs-0.result c.as_slice.result.now c.as_slice-then-pairs-eq1.result.now c.if-pairs-eq1.true c.index-pairs-0.is c.as_slice.ensures.value c.as_slice-then-pairs-eq1.ensures.value)
