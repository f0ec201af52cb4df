-- The symbol that its record shows.
use Rattle.std.proofs.Common.{◌≡◌, ℕ, List, Some, ap, sym, ◌∙◌, length, arith}
use Rattle.std.specs.Prelude.{is_some}
use Rattle.std.proofs.lemmas.Option.{same_Some}
use Rattle.elf_format.specs.Memory.{memory_of, text_at}
use Rattle.elf_format.specs.declared.records.SymbolNumbers.{SymbolNumbers}
use Rattle.elf_format.specs.Records.{symbol_numbers}
use Rattle.elf_image_symbols.specs.TableSymbols.{kept_as}
use Rattle.elf_image_symbols.proofs.SeenSteps.{numbers_of, seen_at, twice_fits, version_of, within}
use Rattle.elf_image_symbols.proofs.symbols.Symbols.get.Goals as goal

pub record_at-requires : goal.record_at-requires
record_at-requires c = within c.self.inside c.self.invariant c.args.self.now c.self.view_is c.args.i c.requires

pub text_there-requires : goal.text_there-requires
text_there-requires c =
    let (y, _, shows) = seen_at c.self.inside c.self.invariant c.args.self.now c.self.view_is c.args.i c.requires in
    let read : c.read_symbol_numbers-numbers.result ≡ numbers_of c.self.inside c.args.i =
    c.read_symbol_numbers-numbers.ensures ∙ ap (symbol_numbers c.self.inside.form) c.record_at.ensures in
    ap (λ (n : SymbolNumbers). is_some (text_at (length c.self.inside.texts.now) (memory_of c.self.inside.texts.now) n.st_name)) read ∙ ap is_some shows.named

pub version-requires : goal.version-requires
version-requires c =
    twice_fits c.self.inside.form.wide c.args.i (length c.self.inside.bytes.now) (within c.self.inside c.self.invariant c.args.self.now c.self.view_is c.args.i c.requires) (omega arith)

pub returns : goal.returns
returns c =
    let (y, at, shows) = seen_at c.self.inside c.self.invariant c.args.self.now c.self.view_is c.args.i c.requires in
    let read : c.read_symbol_numbers-numbers.result ≡ numbers_of c.self.inside c.args.i =
    c.read_symbol_numbers-numbers.ensures ∙ ap (symbol_numbers c.self.inside.form) c.record_at.ensures in
    let named : c.text_there.result.now ≡ y.name =
    same_Some c.text_there.result.now y.name (sym c.text_there.ensures
    ∙ ap (λ (n : SymbolNumbers). text_at (length c.self.inside.texts.now) (memory_of c.self.inside.texts.now) n.st_name) read ∙ shows.named) in
    at ∙ ap Some (sym shows.kept
    ∙ ap (λ (n : List ℕ). kept_as (numbers_of c.self.inside c.args.i) (version_of c.self.inside c.args.i) n) (sym named)
    ∙ ap (λ v. kept_as (numbers_of c.self.inside c.args.i) v c.text_there.result.now) (sym c.version.ensures)
    ∙ ap (λ (n : SymbolNumbers). kept_as n c.version.result c.text_there.result.now) (sym read))
