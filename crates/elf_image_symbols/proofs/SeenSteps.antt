-- The symbols that a reader of them holds, position by position.
use Rattle.std.proofs.Common.{◌≡◌, ◌<◌, ◌*◌, ◌/◌, ◌^◌, ℕ, List, drop, length, take, sym, ap, ◌∙◌, subst, Option, None, Some, [], get_or, arith}
use Rattle.std.specs.Prelude.{option_map, slice_get}
use Rattle.std.proofs.lemmas.Option.{slice_get-get_or}
use Rattle.elf_format.specs.Memory.{memory_of, text_at}
use Rattle.elf_format.specs.declared.records.SymbolNumbers.{SymbolNumbers}
use Rattle.elf_format.specs.declared.version_id.VersionId.{VersionId}
use Rattle.elf_format.specs.Wide.{Wide}
use Rattle.elf_format.specs.Wide.TheVariants.{W32, W64}
use Rattle.elf_format.specs.Answers.{borrowed}
use Rattle.elf_format.specs.Form.{by_class}
use Rattle.elf_format.specs.Records.{symbol_numbers, symbol_size}
use Rattle.elf_format.specs.Views.{NamedSymbol}
use Rattle.elf_format.proofs.ForCallers.ReadingSteps.{no_symbol}
use Rattle.elf_image_symbols.specs.declared.symbols.Symbols.TheInside.{Inside}
use Rattle.elf_image_symbols.specs.SymbolsModel.{HaveNames, symbols_model}
use Rattle.elf_image_symbols.specs.TableSymbols.{kept_as, version_at}
use Rattle.elf_image_symbols.proofs.ShownSteps.{name_of, shown_at, shown_long}

-- a symbol that stands for none
nothing : NamedSymbol
nothing = kept_as no_symbol None []

-- the numbers of the record at a position
abbrev pub numbers_of : Inside → ℕ → SymbolNumbers
numbers_of s i = symbol_numbers s.form (take (symbol_size s.form) (drop (i * symbol_size s.form) s.bytes.now))

-- the version at a position
abbrev pub version_of : Inside → ℕ → Option VersionId
version_of s i = version_at s.form (option_map borrowed s.versions) i

-- the record at a position shows a symbol: its name is there, and with its numbers it is this symbol
pub record Shows (s : Inside) (i : ℕ) (y : NamedSymbol) : Type 0 where
  pub named : text_at (length s.texts.now) (memory_of s.texts.now) (numbers_of s i).st_name ≡ Some y.name
  pub kept : kept_as (numbers_of s i) (version_of s i) y.name ≡ y

module _ (s : Inside) (names : HaveNames s) (ys : List NamedSymbol) (seen : symbols_model s ≡ ys) where
  pub within : (i : ℕ) → i < length ys → i < length s.bytes.now / symbol_size s.form
  within i less =
      subst (λ n. i < n) (ap length (sym seen) ∙ shown_long s.form (length s.texts.now) (memory_of s.texts.now) s.bytes.now (option_map borrowed s.versions) (symbols_model s) names) less

  pub seen_long : length s.bytes.now / symbol_size s.form ≡ length ys
  seen_long =
      sym (shown_long s.form (length s.texts.now) (memory_of s.texts.now) s.bytes.now (option_map borrowed s.versions) (symbols_model s) names) ∙ ap length seen

  pub seen_at : (i : ℕ) → i < length ys → (y : NamedSymbol) × (slice_get ys i ≡ Some y) × Shows s i y
  seen_at i less =
      let y : NamedSymbol = get_or ys i nothing in
      let at : slice_get ys i ≡ Some y = slice_get-get_or ys i nothing less in
      let shorter : i < length (symbols_model s) = subst (λ (l : List NamedSymbol). i < length l) (sym seen) less in
      let shown =
      shown_at s.form (length s.texts.now) (memory_of s.texts.now) s.bytes.now (option_map borrowed s.versions) (symbols_model s) names i shorter
      ∙ ap (λ (l : List NamedSymbol). slice_get l i) seen ∙ at in
      let (named, kept) = name_of (length s.texts.now) (memory_of s.texts.now) (numbers_of s i) (version_of s i) y shown in
      (y, at, record { named = named; kept = kept })

-- the numbers of bytes up to a position are small, as those of all records are
pub twice_fits : (wide : Wide) (i long : ℕ) → i < long / by_class wide 16 24 → long < 2 ^ 64 → i * 2 < 2 ^ 64
twice_fits W32 i long less small = omega (arith, less, small)
twice_fits W64 i long less small = omega (arith, less, small)
