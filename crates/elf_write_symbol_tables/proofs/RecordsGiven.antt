-- The record of a symbol, by what calls tell of it.
use Rattle.std.proofs.Common.{◌≡◌, ◌<◌, ℕ, ◌+◌, Bool, true, false, List, length, refl, sym, ap, ◌∙◌, subst, Option, Some, None}
use Rattle.std.specs.Prelude.{IsSome, option_map, slice_index}
use Rattle.std.specs.List.{slice_get}
use Rattle.std.proofs.lemmas.Option.{none-some}
use Rattle.elf_format.specs.declared.constants.TheConstants.{SHT_DYNSYM, SHT_SYMTAB}
use Rattle.elf_format.specs.declared.records.SymbolNumbers.{SymbolNumbers}
use Rattle.elf_format.specs.Image.{Image, ImageSection}
use Rattle.elf_format.specs.Records.{symbols_in}
use Rattle.elf_format.specs.Views.{NamedSymbol}
use Rattle.elf_image.specs.Names.{are_names_changed}
use Rattle.elf_write_strings.proofs.ForCallers.SymbolSteps.{part_at}
use Rattle.elf_tables.specs.Fields.{do_fields_fit}
use Rattle.elf_tables.specs.Spelled.{symbol_fields}
use Rattle.elf_tables.specs.Strings.{place_of}
use Rattle.elf_write_symbols.specs.Final.{dynamic_order, final}
use Rattle.elf_write_symbols.specs.Headers.{Reads}
use Rattle.elf_write_symbols.specs.Ready.{IsEditedReady, IsSectionOfType}
use Rattle.elf_write_symbols.proofs.ForCallers.WholeEdits.{ReadFacts}
use Rattle.elf_write_strings.specs.declared.made.Made.{Made}
use Rattle.elf_write_strings.specs.WrittenStrings.{IsTold, are_static_names_left, content_read}
use Rattle.elf_write_symbols.proofs.ForCallers.ReadyFacts.{facts}
use Rattle.elf_write_symbol_tables.specs.NamePlaces.{HasNames, TellsNames, begins_empty, place_in, place_of_named}
use Rattle.elf_write_symbol_tables.specs.SymbolSteps.{IsRecordAt, record_with}
use Rattle.elf_write_symbol_tables.proofs.NamesTold.{name_stands, placed_in}
use Rattle.elf_write_symbol_tables.proofs.SymbolsShown.{IsPicked, dynamic_final, dynamic_picked, number_within, record_shown, record_stays, static_final, static_picked}
use Rattle.elf_write_symbol_tables.proofs.SymbolsStay.{dynamic_named, dynamic_placed, dynamic_stays, static_named}
use Rattle.elf_write_symbol_tables.proofs.TablesRead.{IsTable, dynamic_table, static_table}

some_is : {A : Type 0} (o : Option A) (x : A) → o ≡ Some x → IsSome o
some_is None x h = absurd (none-some x h)
some_is (Some y) x h = refl

-- where a table that tells a name has it
read_told : (read image : Image) (m : Made) → IsTold read image m → (place : ℕ) (y : NamedSymbol) → IsSome (place_of m.table y.name) → place_in m.table y ≡ place
    → Reads m.table.bytes place y.name
read_told read image m told place y some is =
    subst (λ (k : ℕ). Reads m.table.bytes k y.name) is (name_stands read image m told y.name some).read

-- ## Dynamic symbols

module _ (read image : Image) (is : IsEditedReady read image) (s : ImageSection) (at : IsSectionOfType SHT_DYNSYM image s) where
  f : ReadFacts read image
  f = facts read image is

  table : IsTable read image s read.dynamic_symbols
  table = dynamic_table read image is s at

  abbrev finals : List NamedSymbol
  finals = (final read image).dynamic_symbols

  module _ (lent_numbers : List ℕ) (same_numbers : lent_numbers ≡ image.dynamic_symbol_numbers) (k number : ℕ)
      (number_at : slice_get lent_numbers k ≡ Some number) where
    picked : IsPicked read.dynamic_symbols image.dynamic_symbols k number
    picked = dynamic_picked read image f k number (ap (λ (l : List ℕ). slice_get l k) (sym same_numbers) ∙ number_at)

    pub dynamic_within : number < length (symbols_in image.form s.content)
    dynamic_within = number_within read image s read.dynamic_symbols image.dynamic_symbols finals table k number picked

    module _ (m : Made) (told : IsTold read image m) (lent : List NamedSymbol) (same : lent ≡ image.dynamic_symbols) (i place : ℕ) (n : SymbolNumbers)
        (order_at : slice_get (dynamic_order read image) i ≡ Some k)
        (made : option_map (record_with image place) (slice_get (symbols_in image.form s.content) number) ≡ Some n)
        (fits : do_fields_fit (symbol_fields image.form n) ≡ true) where
      lent_at : slice_get lent k ≡ Some picked.symbol
      lent_at = ap (λ (l : List NamedSymbol). slice_get l k) same ∙ picked.is_there

      by_place : IsSome (place_of m.table picked.symbol.name) → place_in m.table picked.symbol ≡ place → IsRecordAt image.form m.table.bytes finals i n
      by_place some is_place =
          record_shown read image s read.dynamic_symbols image.dynamic_symbols finals table m.table.bytes i k number place n picked
          (dynamic_final read image f i k picked.symbol order_at picked.is_there) made fits
          (read_told read image m told place picked.symbol some is_place)

      -- the table tells where its name stands
      pub dynamic_told_at : TellsNames m.table image.dynamic_symbols → option_map (λ y. place_in m.table y) (slice_get lent k) ≡ Some place
          → IsRecordAt image.form m.table.bytes finals i n
      dynamic_told_at named placed =
          by_place (named.each k picked.symbol picked.is_there) (part_at (λ y. place_in m.table y) (slice_get lent k) picked.symbol place lent_at placed)

      -- the name of a symbol has the next place in the order of the table
      pub dynamic_ordered_at : (before : ℕ) (begins : Bool) (places : List ℕ) → HasNames m.table before image.dynamic_symbols → places ≡ m.table.in_order
          → begins ≡ begins_empty m.table
          → option_map (λ y. place_of_named begins y (slice_index places (before + k))) (slice_get lent k) ≡ Some place
          → IsRecordAt image.form m.table.bytes finals i n
      dynamic_ordered_at before begins places named own starts placed =
          let y : NamedSymbol = picked.symbol in
          let next : ℕ = slice_index places (before + k) in
          let has : place_of m.table y.name ≡ Some next =
          named.each k y picked.is_there ∙ ap (λ (l : List ℕ). Some (slice_index l (before + k))) (sym own) in
          by_place (some_is (place_of m.table y.name) next has)
          (sym (placed_in m.table begins y next starts has) ∙ part_at (λ z. place_of_named begins z next) (slice_get lent k) y place lent_at placed)

  -- with the names that were read, each stands where it stood
  module _ (same : are_names_changed read image ≡ false) (i : ℕ) (within : i < length image.dynamic_symbols) where
    stays : IsPicked read.dynamic_symbols image.dynamic_symbols i i
    stays = dynamic_stays read image f same i within

    pub staying_within : i < length (symbols_in image.form s.content)
    staying_within = number_within read image s read.dynamic_symbols image.dynamic_symbols finals table i i stays

    pub dynamic_named_at : (n : SymbolNumbers) → option_map (λ m. record_with image m.st_name m) (slice_get (symbols_in image.form s.content) i) ≡ Some n
        → do_fields_fit (symbol_fields image.form n) ≡ true → IsRecordAt image.form (content_read image s.sh_link) finals i n
    dynamic_named_at n made fits =
        record_stays read image s read.dynamic_symbols image.dynamic_symbols finals table i i i n stays (dynamic_placed read image f same i within stays)
        made fits (dynamic_named read image f same i stays)

-- ## Static symbols

module _ (read image : Image) (is : IsEditedReady read image) (s : ImageSection) (at : IsSectionOfType SHT_SYMTAB image s)
    (lent_numbers : List ℕ) (same_numbers : lent_numbers ≡ image.symbol_numbers) (i number : ℕ) (number_at : slice_get lent_numbers i ≡ Some number) where
  facts_of : ReadFacts read image
  facts_of = facts read image is

  statics : IsTable read image s read.symbols
  statics = static_table read image is s at

  abbrev static_finals : List NamedSymbol
  static_finals = (final read image).symbols

  own_number : slice_get image.symbol_numbers i ≡ Some number
  own_number = ap (λ (l : List ℕ). slice_get l i) (sym same_numbers) ∙ number_at

  there : IsPicked read.symbols image.symbols i number
  there = static_picked read image facts_of i number own_number

  pub static_within : number < length (symbols_in image.form s.content)
  static_within = number_within read image s read.symbols image.symbols static_finals statics i number there

  -- the table tells where its name stands
  pub static_told_at : (m : Made) → IsTold read image m → TellsNames m.table image.symbols → (lent : List NamedSymbol) → lent ≡ image.symbols → (place : ℕ)
      → (n : SymbolNumbers) → option_map (λ y. place_in m.table y) (slice_get lent i) ≡ Some place
      → option_map (record_with image place) (slice_get (symbols_in image.form s.content) number) ≡ Some n
      → do_fields_fit (symbol_fields image.form n) ≡ true → IsRecordAt image.form m.table.bytes static_finals i n
  static_told_at m told named lent same place n placed made fits =
      let y : NamedSymbol = there.symbol in
      let lent_at : slice_get lent i ≡ Some y = ap (λ (l : List NamedSymbol). slice_get l i) same ∙ there.is_there in
      record_shown read image s read.symbols image.symbols static_finals statics m.table.bytes i i number place n there
      (static_final read image facts_of i y there.is_there) made fits
      (read_told read image m told place y (named.each i y there.is_there)
      (part_at (λ z. place_in m.table z) (slice_get lent i) y place lent_at placed))

  -- the name of a symbol stands where it stood
  pub static_named_at : are_static_names_left read image ≡ true → (n : SymbolNumbers)
      → option_map (λ m. record_with image m.st_name m) (slice_get (symbols_in image.form s.content) number) ≡ Some n
      → do_fields_fit (symbol_fields image.form n) ≡ true → IsRecordAt image.form (content_read image s.sh_link) static_finals i n
  static_named_at left n made fits =
      record_stays read image s read.symbols image.symbols static_finals statics i i number n there
      (static_final read image facts_of i there.symbol there.is_there) made fits (static_named read image left i number own_number there)
