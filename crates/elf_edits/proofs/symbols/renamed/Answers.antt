-- The map has the pairs.
use Rattle.std.proofs.Common.{◌≡◌, List, false, subst, sym, ℕ}
use Rattle.std.specs.List.{list_any}
use Rattle.std.proofs.lemmas.Result.{IfOk-weaker}
use Rattle.elf_edits.specs.Edit.{RenameDynamicSymbols, texts_of}
use Rattle.elf_edits.specs.SymbolChanges.{AreSymbolsAfter}
use Rattle.elf_edits.specs.TextModel.{pairs_model}
use Rattle.elf_edits.specs.Texts.{holds_nul}
use Rattle.elf_edits.proofs.SymbolSteps.{after_one_rename, after_renames, given_names, given_one, one_pair}
use Rattle.elf_edits.proofs.symbols.renamed.Goals as goal

pub change-requires-2 : goal.change-requires-2
change-requires-2 c = given_names c.in_ok-names.names.entries (pairs_model c.args.pairs.now) c.in_ok-names.ensures c.requires

pub returns : goal.returns
returns c =
    IfOk-weaker c.change-2.result _ _ (λ made h. after_renames c.in_ok-names.names.entries (pairs_model c.args.pairs.now) c.in_ok-names.ensures c.args.symbols.now made h) c.change-2.ensures

pub change-requires : goal.change-requires
change-requires c =
    given_one c.as_slice.result.now c.as_slice-then-pairs-eq1.result.now
    (subst (λ (ps : List (List ℕ × List ℕ)). list_any holds_nul (texts_of (RenameDynamicSymbols ps)) ≡ false)
    (sym (one_pair c.args.pairs.now c.index-pairs-0.result c.as_slice.result.now c.as_slice-then-pairs-eq1.result.now c.if-pairs-eq1.true c.index-pairs-0.is c.as_slice.ensures.value c.as_slice-then-pairs-eq1.ensures.value)) c.requires)

pub returns-then-pairs-eq1 : goal.returns-then-pairs-eq1
returns-then-pairs-eq1 c =
    IfOk-weaker c.change.result _ _ (λ made h. subst (λ (ps : List (List ℕ × List ℕ)). AreSymbolsAfter (RenameDynamicSymbols ps) c.args.symbols.now made)
    (one_pair c.args.pairs.now c.index-pairs-0.result c.as_slice.result.now c.as_slice-then-pairs-eq1.result.now c.if-pairs-eq1.true c.index-pairs-0.is c.as_slice.ensures.value c.as_slice-then-pairs-eq1.ensures.value)
    (after_one_rename c.as_slice.result.now c.as_slice-then-pairs-eq1.result.now c.args.symbols.now made h)) c.change.ensures
