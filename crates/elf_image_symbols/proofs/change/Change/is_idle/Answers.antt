-- The name and the version are those that were read, or one of them isn't.
use Rattle.std.proofs.Common.{◌≡◌, ℕ, List, Bool, true, false, refl, sym, ap, ◌∙◌}
use Rattle.std.specs.Prelude.{bytes_eq, not}
use Rattle.std.proofs.lemmas.Bool.{false≢true}
use Rattle.std.proofs.lemmas.Option.{get_or_from_slice_get}
use Rattle.elf_format.specs.Views.{NamedSymbol}
use Rattle.elf_image_symbols.specs.SymbolModel.{symbol_model}
use Rattle.elf_image_symbols.specs.Changes.{no_symbol, read_at, version_by}
use Rattle.elf_image_symbols.proofs.SymbolLaws.{leaves_all, leaves_no_name, leaves_version}
use Rattle.elf_image_symbols.proofs.change.Change.is_idle.Goals as goal

not_back : (a b : Bool) → a ≡ not b → b ≡ not a
not_back a true e = ap not (sym e)
not_back a false e = ap not (sym e)

pub returns-then-ne : goal.returns-then-ne
returns-then-ne c =
    let y : NamedSymbol = symbol_model c.get-read.result in
    let is : read_at c.args.table.now c.args.self.now.number ≡ y = get_or_from_slice_get c.args.table.now c.args.self.now.number y no_symbol c.get-read.ensures in
    let other : bytes_eq c.args.self.now.name.bytes y.name ≡ false =
    ap (λ (n : List ℕ). bytes_eq n y.name) (sym c.as_slice.ensures) ∙ not_back true (bytes_eq c.as_slice.result.now y.name) c.if-ne.ensures in (
      λ h. absurd (false≢true h),
      λ leaves. absurd (leaves_no_name c.args.table.now c.args.self.now y is other (ap (λ (z : NamedSymbol). z.name) leaves)),
    )

pub returns-then-not-self : goal.returns-then-not-self
returns-then-not-self c =
    let y : NamedSymbol = symbol_model c.get-read.result in
    let is : read_at c.args.table.now c.args.self.now.number ≡ y = get_or_from_slice_get c.args.table.now c.args.self.now.number y no_symbol c.get-read.ensures in
    let same : bytes_eq c.args.self.now.name.bytes y.name ≡ true =
    ap (λ (n : List ℕ). bytes_eq n y.name) (sym c.as_slice.ensures) ∙ not_back false (bytes_eq c.as_slice.result.now y.name) c.if-ne.ensures in (
      λ h. leaves_all c.args.table.now c.args.self.now y is same (ap (λ (b : Bool). version_by b y.version) c.if-not-self.true),
      λ leaves. refl,
    )

pub returns : goal.returns
returns c =
    let y : NamedSymbol = symbol_model c.get-read.result in
    let is : read_at c.args.table.now c.args.self.now.number ≡ y = get_or_from_slice_get c.args.table.now c.args.self.now.number y no_symbol c.get-read.ensures in
    let same : bytes_eq c.args.self.now.name.bytes y.name ≡ true =
    ap (λ (n : List ℕ). bytes_eq n y.name) (sym c.as_slice.ensures) ∙ not_back false (bytes_eq c.as_slice.result.now y.name) c.if-ne.ensures in
    let by = ap (λ (b : Bool). version_by b y.version) c.if-not-self.false in (
      λ h. leaves_all c.args.table.now c.args.self.now y is same (by ∙ c.is_global.ensures.0 h),
      λ leaves. c.is_global.ensures.1 (sym by ∙ leaves_version c.args.table.now c.args.self.now y is leaves),
    )
