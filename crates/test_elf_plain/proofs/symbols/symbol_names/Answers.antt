-- One value for each element.
use Rattle.std.proofs.Common.{◌≡◌, ◌++◌, ◌∷◌, [], ℕ, List, map, Option}
use Rattle.std.proofs.lemmas.List.{map_push}
use Rattle.std.proofs.lemmas.Result.{err_from_is_err_and}
use Rattle.patch_bytes.specs.Memory.{text_at}
use Rattle.elf_format.specs.Options.{each}
use Rattle.elf_format.specs.declared.records.SymbolNumbers.{SymbolNumbers}
use Rattle.elf_format.proofs.ReadingSteps.{no_symbol}
use Rattle.elf_format.proofs.ReadingSteps.{each_done, each_ends, each_goes}
use Rattle.test_elf_plain.specs.PlainViews.{source_model, text_model}
use Rattle.test_elf_plain.proofs.symbols.symbol_names.Goals as goal

pub returns-in_err-name : goal.returns-in_err-name
returns-in_err-name c =
    let p = err_from_is_err_and c.from_residual.result c.from_residual.ensures.1 in
    let f : SymbolNumbers → Option (List ℕ) = λ y. text_at c.args.room (source_model c.args.texts.now) y.st_name in
    rw (p.1, p.2) (each_ends f c.in_err-name.field-0.0 (map text_model c.loop-symbol.names.items) c.args.symbols.now c.loop-symbol.symbol-index (no_symbol) (each f c.args.symbols.now) c.loop-symbol-test.true c.in_err-name.ensures c.loop-symbol.invariant)

pub loop-symbol-preserved : goal.loop-symbol-preserved
loop-symbol-preserved c =
    let f : SymbolNumbers → Option (List ℕ) = λ y. text_at c.args.room (source_model c.args.texts.now) y.st_name in
    let made = c.in_ok-name.name in
    let e : map text_model c.push.new.self.items ≡ map text_model c.loop-symbol.names.items ++ text_model made ∷ [] = rw c.in_ok-push.ensures.items (map_push text_model c.loop-symbol.names.items made) in
    rw e (each_goes f (map text_model c.loop-symbol.names.items) c.args.symbols.now c.loop-symbol.symbol-index (no_symbol) (text_model made) (each f c.args.symbols.now) c.loop-symbol-test.true c.in_ok-name.ensures c.loop-symbol.invariant)

pub returns : goal.returns
returns c =
    let f : SymbolNumbers → Option (List ℕ) = λ y. text_at c.args.room (source_model c.args.texts.now) y.st_name in
    each_done f (map text_model c.loop-symbol.names.items) c.args.symbols.now c.loop-symbol.symbol-index (each f c.args.symbols.now) c.loop-symbol-test.false c.loop-symbol.invariant
