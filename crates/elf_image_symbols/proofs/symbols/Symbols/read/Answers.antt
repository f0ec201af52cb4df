-- The symbols are shown where their names are there, however far a text may be looked for.
use Rattle.std.proofs.Common.{Option, List, ℕ, [], sym, ◌∙◌, length}
use Rattle.std.specs.Prelude.{option_map}
use Rattle.elf_format.specs.Memory.{memory_of}
use Rattle.elf_format.specs.Answers.{borrowed}
use Rattle.elf_format.specs.Views.{NamedSymbol}
use Rattle.elf_image_symbols.specs.TableSymbols.{table_symbols}
use Rattle.elf_image_symbols.proofs.ShownSteps.{none_there, shown_same, shown_where_named, some_there}
use Rattle.elf_image_symbols.proofs.symbols.Symbols.read.Goals as goal

pub returns-then-not-are_names_there : goal.returns-then-not-are_names_there
returns-then-not-are_names_there c room long =
    let texts = memory_of c.args.texts.now in
    let versions : Option (List ℕ) = option_map borrowed c.args.versions in
    let shown : Option (List NamedSymbol) = table_symbols c.args.form (length c.args.texts.now) texts c.args.bytes.now versions in
    sym (shown_same c.args.form room c.args.texts.now c.args.bytes.now versions long
    ∙ none_there shown (shown_where_named c.args.form (length c.args.texts.now) texts c.args.bytes.now versions ∙ sym c.if-not-are_names_there.ensures))

pub invariant_of-result : goal.invariant_of-result
invariant_of-result c =
    let texts = memory_of c.args.texts.now in
    let versions : Option (List ℕ) = option_map borrowed c.args.versions in
    some_there (table_symbols c.args.form (length c.args.texts.now) texts c.args.bytes.now versions) []
    (shown_where_named c.args.form (length c.args.texts.now) texts c.args.bytes.now versions ∙ sym c.if-not-are_names_there.ensures)

pub returns : goal.returns
returns c room long =
    let texts = memory_of c.args.texts.now in
    let versions : Option (List ℕ) = option_map borrowed c.args.versions in
    sym (shown_same c.args.form room c.args.texts.now c.args.bytes.now versions long
    ∙ some_there (table_symbols c.args.form (length c.args.texts.now) texts c.args.bytes.now versions) []
    (shown_where_named c.args.form (length c.args.texts.now) texts c.args.bytes.now versions ∙ sym c.if-not-are_names_there.ensures))
