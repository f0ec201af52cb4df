-- The set has the names.
use Rattle.std.proofs.Common.{◌∙◌, Bool}
use Rattle.std.specs.HashSet.{keys}
use Rattle.std.proofs.lemmas.Result.{IfOk-weaker}
use Rattle.elf_edits.specs.Changes.{has_name}
use Rattle.elf_edits.specs.TextModel.{texts_model}
use Rattle.elf_edits.specs.Texts.{is_among}
use Rattle.elf_format.specs.Views.{NamedSymbol}
use Rattle.elf_image_symbols.specs.Loan.{numbers_now, symbols_now}
use Rattle.elf_symbol_edits.specs.Named.{symbol_name}
use Rattle.elf_symbol_edits.proofs.NumberSteps.{passing_same}
use Rattle.elf_symbol_edits.proofs.names.symbols_with.Goals as goal

pub returns : goal.returns
returns c =
    let held : NamedSymbol → Bool = λ y. has_name (keys c.in_ok-set.set) (symbol_name y) in
    let meant : NamedSymbol → Bool = λ y. is_among (texts_model c.args.names.now) (symbol_name y) in
    IfOk-weaker c.symbols_in.result _ _ (λ made is. is ∙ passing_same held meant (λ y. c.in_ok-set.ensures (symbol_name y)) (numbers_now c.args.symbols.now) (symbols_now c.args.symbols.now)) c.symbols_in.ensures
