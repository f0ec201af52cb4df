-- Records that show the symbols of an edited image, by what was read of these.
use Rattle.std.proofs.Common.{◌≡◌, ◌<◌, ℕ, Bool, true, false, List, length, refl, sym, ap, ◌∙◌, subst, Option, Some, None, arith}
use Rattle.std.specs.Prelude.{◌||◌, nat_le, nat_lt, option_map}
use Rattle.std.specs.List.{slice_get}
use Rattle.std.proofs.lemmas.Bool.{false≢true, ltb-true}
use Rattle.std.proofs.lemmas.List.{length-map}
use Rattle.std.proofs.lemmas.Option.{get_or_from_slice_get, same_Some, slice_get-map, slice_get_within}
use Rattle.elf_format.specs.declared.constants.TheConstants.{SHN_LORESERVE}
use Rattle.elf_format.specs.declared.records.SymbolNumbers.{SymbolNumbers}
use Rattle.elf_format.specs.Image.{Image, ImageSection}
use Rattle.elf_format.specs.Records.{symbols_in}
use Rattle.elf_format.specs.Views.{NamedSymbol}
use Rattle.elf_image.specs.Kept.{KeptSection, kept_at_number}
use Rattle.elf_image_symbols.specs.TableSymbols.{kept_as, symbol_with}
use Rattle.elf_write_strings.proofs.ForCallers.SymbolSteps.{with_part}
use Rattle.elf_tables.specs.Fields.{do_fields_fit}
use Rattle.elf_tables.specs.Spelled.{symbol_fields}
use Rattle.elf_write_symbols.specs.Contents.{IsSymbolOf}
use Rattle.elf_write_symbols.specs.Final.{dynamic_order, final, final_symbol, new_symbol_section, ordered}
use Rattle.elf_write_symbols.specs.Headers.{Reads}
use Rattle.elf_write_symbols.proofs.ForCallers.FinalSymbols.{all_symbols, final_count, final_ordered}
use Rattle.elf_write_symbols.proofs.ForCallers.NumberedSections.{each_there}
use Rattle.elf_write_symbols.proofs.ForCallers.OrderFacts.{ordered-at}
use Rattle.elf_write_symbols.proofs.ForCallers.WholeEdits.{ReadFacts, kept_is, numbered, rising, section_read, symbols_written}
use Rattle.elf_write_symbols.proofs.ForCallers.WholeLists.{there_at}
use Rattle.elf_write_strings.specs.WrittenStrings.{content_read}
use Rattle.elf_write_symbols.proofs.ForCallers.SectionFacts.{section_below, special_section, symbol_section}
use Rattle.elf_write_symbol_tables.specs.SymbolSteps.{IsRecordAt, record_with}
use Rattle.elf_write_symbol_tables.proofs.TablesRead.{IsOfRecord, IsTable}

-- ## One symbol

-- the record of a symbol that was read, with the place of its name now and the number that its section gets
pub shown_with : (image : Image) (strings all : List ℕ) (sections place : ℕ) (old y : NamedSymbol) (n m : SymbolNumbers) → IsOfRecord all sections old n
    → symbol_with 0 y ≡ symbol_with 0 old → record_with image place n ≡ m → Reads strings place y.name → IsSymbolOf strings (final_symbol image y) m
shown_with image strings all sections place old y n m of same made reads =
    let was : symbol_with 0 (kept_as n of.version old.name) ≡ symbol_with 0 y =
    ap (symbol_with 0) (sym of.fields) ∙ sym same in
    record {
      name = subst (λ (k : ℕ). Reads strings k y.name) (ap (λ (k : SymbolNumbers). k.st_name) made) reads;
      st_info = sym (ap (λ (k : SymbolNumbers). k.st_info) made) ∙ ap (λ (k : SymbolNumbers). k.st_info) was;
      st_other = sym (ap (λ (k : SymbolNumbers). k.st_other) made) ∙ ap (λ (k : SymbolNumbers). k.st_other) was;
      st_shndx = sym (ap (λ (k : SymbolNumbers). k.st_shndx) made) ∙ ap (λ (k : SymbolNumbers). new_symbol_section image k.st_shndx) was;
      st_value = sym (ap (λ (k : SymbolNumbers). k.st_value) made) ∙ ap (λ (k : SymbolNumbers). k.st_value) was;
      st_size = sym (ap (λ (k : SymbolNumbers). k.st_size) made) ∙ ap (λ (k : SymbolNumbers). k.st_size) was;
    }

-- A symbol at a position of its list, and what was read at its number.
pub record IsPicked (olds ys : List NamedSymbol) (k number : ℕ) : Type 0 where
  pub symbol : NamedSymbol
  pub is_there : slice_get ys k ≡ Some symbol
  pub old : NamedSymbol
  pub is_old : slice_get olds number ≡ Some old
  pub same : symbol_with 0 symbol ≡ symbol_with 0 old

module _ (read image : Image) (s : ImageSection) (olds ys finals : List NamedSymbol) (table : IsTable read image s olds) where
  abbrev records : List SymbolNumbers
  records = symbols_in image.form s.content

  -- the symbol's record is there
  pub number_within : (k number : ℕ) → IsPicked olds ys k number → number < length records
  number_within k number picked = omega (arith, slice_get_within olds number picked.old picked.is_old, table.count)

  -- the record that is spelled for it
  pub record_shown : (strings : List ℕ) (i k number place : ℕ) (m : SymbolNumbers) → (picked : IsPicked olds ys k number)
      → slice_get finals i ≡ Some (final_symbol image picked.symbol) → option_map (record_with image place) (slice_get records number) ≡ Some m
      → do_fields_fit (symbol_fields image.form m) ≡ true → Reads strings place picked.symbol.name → IsRecordAt image.form strings finals i m
  record_shown strings i k number place m picked at made fits reads =
      let (n, n_at, is) = with_part (record_with image place) (slice_get records number) m made in
      let of : IsOfRecord (content_read image s.sh_link) (length read.sections) picked.old n = table.each number picked.old n picked.is_old n_at in
      record {
        symbol = final_symbol image picked.symbol;
        is_there = at;
        shown = shown_with image strings (content_read image s.sh_link) (length read.sections) place picked.old picked.symbol n m of picked.same is reads;
        fits = fits;
      }

  -- the record that is spelled for the symbol, its name where it stood at read
  pub record_stays : (i k number : ℕ) (m : SymbolNumbers) → (picked : IsPicked olds ys k number)
      → slice_get finals i ≡ Some (final_symbol image picked.symbol)
      → option_map (λ n. record_with image n.st_name n) (slice_get records number) ≡ Some m
      → do_fields_fit (symbol_fields image.form m) ≡ true → picked.old.name ≡ picked.symbol.name
      → IsRecordAt image.form (content_read image s.sh_link) finals i m
  record_stays i k number m picked at made fits named =
      let strings : List ℕ = content_read image s.sh_link in
      let (n, n_at, is) = with_part (λ n. record_with image n.st_name n) (slice_get records number) m made in
      let of : IsOfRecord strings (length read.sections) picked.old n = table.each number picked.old n picked.is_old n_at in
      record {
        symbol = final_symbol image picked.symbol;
        is_there = at;
        shown = shown_with image strings strings (length read.sections) n.st_name picked.old picked.symbol n m of picked.same is
            (subst (λ (text : List ℕ). Reads strings n.st_name text) named of.stands.read);
        fits = fits;
      }

-- ## The symbols of both lists

module _ (read image : Image) (f : ReadFacts read image) where
  pub dynamic_picked : (k number : ℕ) → slice_get image.dynamic_symbol_numbers k ≡ Some number → IsPicked read.dynamic_symbols image.dynamic_symbols k number
  dynamic_picked k number at =
      let within : k < length image.dynamic_symbols =
      omega (arith, slice_get_within image.dynamic_symbol_numbers k number at, f.edit.dynamic_symbols.numbered) in
      let (y, y_at) = there_at image.dynamic_symbols k within in
      let (old, old_at, same) = f.edit.dynamic_symbols.same k y y_at in
      record {
        symbol = y;
        is_there = y_at;
        old = old;
        is_old = ap (slice_get read.dynamic_symbols) (sym (get_or_from_slice_get image.dynamic_symbol_numbers k number 0 at)) ∙ old_at;
        same = ap (symbol_with 0) same.2;
      }

  pub static_picked : (k number : ℕ) → slice_get image.symbol_numbers k ≡ Some number → IsPicked read.symbols image.symbols k number
  static_picked k number at =
      let within : k < length image.symbols =
      omega (arith, slice_get_within image.symbol_numbers k number at, f.edit.symbols.numbered) in
      let (y, y_at) = there_at image.symbols k within in
      let (old, old_at, same) = f.edit.symbols.same k y y_at in
      record {
        symbol = y;
        is_there = y_at;
        old = old;
        is_old = ap (slice_get read.symbols) (sym (get_or_from_slice_get image.symbol_numbers k number 0 at)) ∙ old_at;
        same = ap (symbol_with 0) same.1;
      }

  -- the final symbols
  pub dynamic_final : (i k : ℕ) (y : NamedSymbol) → slice_get (dynamic_order read image) i ≡ Some k → slice_get image.dynamic_symbols k ≡ Some y
      → slice_get (final read image).dynamic_symbols i ≡ Some (final_symbol image y)
  dynamic_final i k y at there =
      ap (λ (l : List NamedSymbol). slice_get l i) (final_ordered read image f)
      ∙ slice_get-map (final_symbol image) (ordered read image) i
      ∙ ap (option_map (final_symbol image)) (ordered-at read image (all_symbols read image f) i k at ∙ there)

  pub dynamic_long : length (final read image).dynamic_symbols ≡ length image.dynamic_symbols
  dynamic_long = final_count read image f

  pub static_long : length (final read image).symbols ≡ length image.symbols
  static_long = ap length (symbols_written read image) ∙ length-map image.symbols (final_symbol image)

  pub static_final : (i : ℕ) (y : NamedSymbol) → slice_get image.symbols i ≡ Some y
      → slice_get (final read image).symbols i ≡ Some (final_symbol image y)
  static_final i y there =
      ap (λ (l : List NamedSymbol). slice_get l i) (symbols_written read image)
      ∙ slice_get-map (final_symbol image) image.symbols i ∙ ap (option_map (final_symbol image)) there

  -- ## Where all sections are there

  -- the sections of symbols keep their numbers
  pub section_stays : length image.sections ≡ length read.sections → (n : ℕ) → (nat_lt n (length read.sections) || nat_le SHN_LORESERVE n) ≡ true
      → new_symbol_section image n ≡ n
  section_stays all n there = by_special (nat_le SHN_LORESERVE n) refl
    where
      first_of : (a b : Bool) → b ≡ false → (a || b) ≡ true → a ≡ true
      first_of true b _ _ = refl
      first_of false b none h = absurd (false≢true (sym none ∙ h))

      by_special : (b : Bool) → nat_le SHN_LORESERVE n ≡ b → new_symbol_section image n ≡ n
      by_special true special = sym (special_section read image f n special)
      by_special false plain =
          let below : n < length read.sections =
          ltb-true n (length read.sections) (first_of (nat_lt n (length read.sections)) (nat_le SHN_LORESERVE n) plain there) in
          let own : slice_get image.section_numbers n ≡ Some n =
          each_there image.section_numbers (length read.sections) (rising read image f) (section_below read image f)
          (numbered read image f ∙ all) n below in
          let at = section_read read image f n (omega (arith, below, all)) in
          let number : at.number ≡ n = same_Some at.number n (sym at.is_number ∙ own) in
          let kept : kept_at_number n image ≡ Some (record { position = n; number = at.number; section = at.section }) =
          ap (λ (m : ℕ). kept_at_number m image) (sym number) ∙ kept_is read image f n at in
          sym (symbol_section read image f n plain)
          ∙ ap (λ (o : Option KeptSection). elim o as (λ _. ℕ) [ Some x ↦ x.position | None ↦ 0 ]) kept
