-- Symbols that have the names that they had at read, and sections of symbols whose bytes are those that were read.
use Rattle.std.proofs.Common.{◌≡◌, ◌<◌, ℕ, zero, suc, Bool, true, false, List, [], ◌∷◌, length, map, refl, sym, ap, ◌∙◌, subst, Option, Some, None, arith, inl, inr}
use Rattle.std.specs.Prelude.{◌&&◌, ◌*◌, ◌↔◌, ◌==◌, IsTrue, option_map}
use Rattle.std.specs.List.{list_all, slice_get}
use Rattle.std.specs.Str.{bytes_eq}
use Rattle.std.specs.Cmp.Lexicographic.{bytes_decides}
use Rattle.std.proofs.lemmas.Bool.{and_from, and_parts, both_ways, eq-eqb, eqb-true, false_from_ne_true, false≢true}
use Rattle.std.proofs.lemmas.List.{length-map}
use Rattle.std.proofs.lemmas.Option.{get_or_from_slice_get, none-some, same_Some, slice_get-map, slice_get_within}
use Rattle.elf_format.specs.declared.constants.TheConstants.{SHT_DYNSYM, SHT_SYMTAB}
use Rattle.elf_format.specs.declared.records.SymbolNumbers.{SymbolNumbers}
use Rattle.elf_format.specs.Image.{Image, ImageSection, image_of}
use Rattle.elf_format.specs.Options.{is_some_and}
use Rattle.elf_format.specs.Records.{symbol_size, symbols_in}
use Rattle.elf_format.specs.Views.{NamedSymbol}
use Rattle.elf_format.proofs.ForCallers.Lengths.{length-counted, slice_get-counted}
use Rattle.elf_image.specs.Kept.{link_of_type}
use Rattle.elf_image.specs.Names.{are_names_changed, texts_of_symbols}
use Rattle.elf_image.specs.SymbolsRead.{HasStaticSymbolsOf, OfRead}
use Rattle.elf_image_symbols.specs.TableSymbols.{kept_as, symbol_with}
use Rattle.elf_write_strings.specs.Texts.{is_table_copied}
use Rattle.elf_write_strings.proofs.ForCallers.PlacedRead.{at_read}
use Rattle.elf_write_strings.proofs.ForCallers.SameTexts.{names_kept}
use Rattle.elf_write_symbols.specs.Contents.{IsSymbolOf}
use Rattle.elf_write_symbols.specs.Final.{are_same_symbols, are_symbols_kept, final, final_symbol, is_same_symbol, new_symbol_section}
use Rattle.elf_write_symbols.specs.Ready.{IsEditedReady, IsSectionOfType}
use Rattle.elf_write_symbols.proofs.ForCallers.FinalSymbols.{all_symbols}
use Rattle.elf_write_symbols.specs.Headers.{Reads}
use Rattle.elf_write_symbols.proofs.ForCallers.NumberedSections.{each_there}
use Rattle.elf_write_symbols.proofs.ForCallers.StaticSymbols.{static_below}
use Rattle.elf_write_symbols.proofs.ForCallers.OrderFacts.{all_there, names_count, order-same}
use Rattle.elf_write_symbols.proofs.ForCallers.WholeEdits.{ReadFacts, symbols_written}
use Rattle.elf_write_symbols.proofs.ForCallers.WholeLists.{all-each, same_items, there_at}
use Rattle.elf_write_strings.specs.declared.made.Made.{Made}
use Rattle.elf_write_strings.specs.WrittenStrings.{AreStrings, IsEditedTable, IsTold, are_static_names_left, are_texts_left, content_read, made_of, strings_at}
use Rattle.elf_write_strings.proofs.ForCallers.TextsShared.{symbols_linked}
use Rattle.elf_write_strings.proofs.ForCallers.UsersStay.{has_link, users_stay}
use Rattle.elf_write_strings.proofs.ForCallers.VersionsShown.{number_found, strings_copied, strings_made}
use Rattle.elf_write_symbols.proofs.ForCallers.ReadyFacts.{facts}
use Rattle.elf_write_symbol_tables.specs.SymbolSteps.{ShowsSymbols, is_section_kept, record_with}
use Rattle.elf_write_symbol_tables.proofs.Spelled.{each_symbol}
use Rattle.elf_write_symbol_tables.proofs.SymbolsShown.{IsPicked, dynamic_final, dynamic_long, dynamic_picked, section_stays, shown_with, static_final}
use Rattle.elf_write_symbol_tables.proofs.TablesRead.{IsOfRecord, IsTable, dynamic_link, dynamic_table, static_link, static_table}

-- ## Names of a string table that is as it was read

module _ (read image : Image) (is : IsEditedReady read image) (made : List Made) (are : AreStrings read image made) (s : ImageSection) where
  -- dynamic symbols whose strings aren't told anew have the names that were read
  pub dynamic_same : IsSectionOfType SHT_DYNSYM image s → made_of made s.sh_link ≡ None → are_names_changed read image ≡ false
  dynamic_same at none =
      let number : ℕ = s.sh_link in
      let user : link_of_type SHT_DYNSYM image ≡ Some number = dynamic_link read image is s at in
      let edited : IsEditedTable image number = inl (symbols_linked read image (facts read image is) number user) in
      (users_stay read image number (are.as_read number edited none).stay).dynamic (has_link image SHT_DYNSYM number user)

  static_edited : IsSectionOfType SHT_SYMTAB image s → IsEditedTable image s.sh_link
  static_edited at = inr (inl (static_link read image is s at))

  -- static symbols whose strings aren't told anew have the names that were read, each by its number at read
  pub static_left : IsSectionOfType SHT_SYMTAB image s → made_of made s.sh_link ≡ None → are_static_names_left read image ≡ true
  static_left at none =
      let number : ℕ = s.sh_link in
      (users_stay read image number (are.as_read number (static_edited at) none).stay).statics
      (has_link image SHT_SYMTAB number (static_link read image is s at))

  -- the strings that a section of static symbols links to are copied where they are as they were read
  pub static_copied : IsSectionOfType SHT_SYMTAB image s → made_of made s.sh_link ≡ None → true ≡ is_table_copied read image s.sh_link
  static_copied at none = sym (are.as_read s.sh_link (static_edited at) none).copied

  -- strings that are told anew are copied where their table says so
  pub told_copied : (m : Made) → made_of made s.sh_link ≡ Some m → m.is_copied ≡ is_table_copied read image s.sh_link
  told_copied m found = (are.told s.sh_link m found).which ∙ ap (is_table_copied read image) (number_found made s.sh_link m found)

  -- strings that are copied have their bytes
  pub copied_strings : is_table_copied read image s.sh_link ≡ true → content_read image s.sh_link ≡ strings_at image made s.sh_link
  copied_strings copied = by_made (made_of made s.sh_link) refl
    where
      by_made : (o : Option Made) → made_of made s.sh_link ≡ o → content_read image s.sh_link ≡ strings_at image made s.sh_link
      by_made None none = strings_copied image made s.sh_link none
      by_made (Some m) found =
          let told : IsTold read image m = are.told s.sh_link m found in
          let own : m.number ≡ s.sh_link = number_found made s.sh_link m found in
          ap (content_read image) (sym own) ∙ sym (told.copied (ap (is_table_copied read image) own ∙ copied))
          ∙ strings_made image made s.sh_link m found

-- ## Names, one by one

left_at : (texts : List (List ℕ)) (ns : List ℕ) (ts : List (List ℕ)) → are_texts_left texts ns ts ≡ true → (k number : ℕ) (t : List ℕ)
    → slice_get ns k ≡ Some number → slice_get ts k ≡ Some t → is_some_and (bytes_eq t) (slice_get texts number) ≡ true
left_at texts [] ts left k number t n_at t_at = absurd (none-some number n_at)
left_at texts (n ∷ ns) [] left k number t n_at t_at = absurd (none-some t t_at)
left_at texts (n ∷ ns) (u ∷ ts) left zero number t n_at t_at =
    let here : is_some_and (bytes_eq u) (slice_get texts n) ≡ true = (and_parts (is_some_and (bytes_eq u) (slice_get texts n)) (are_texts_left texts ns ts) left).0 in
    ap (λ (x : List ℕ). is_some_and (bytes_eq x) (slice_get texts number)) (sym (same_Some u t t_at))
    ∙ ap (λ (m : ℕ). is_some_and (bytes_eq u) (slice_get texts m)) (sym (same_Some n number n_at)) ∙ here
left_at texts (n ∷ ns) (u ∷ ts) left (suc k) number t n_at t_at =
    left_at texts ns ts (and_parts (is_some_and (bytes_eq u) (slice_get texts n)) (are_texts_left texts ns ts) left).1 k number t n_at t_at

name_at : (ys : List NamedSymbol) (k : ℕ) (y : NamedSymbol) → slice_get ys k ≡ Some y → slice_get (texts_of_symbols ys) k ≡ Some y.name
name_at ys k y at = slice_get-map (λ (z : NamedSymbol). z.name) ys k ∙ ap (option_map (λ (z : NamedSymbol). z.name)) at

-- static symbols that have the names that they had at read
pub static_named : (read image : Image) → are_static_names_left read image ≡ true → (k number : ℕ) → slice_get image.symbol_numbers k ≡ Some number
    → (picked : IsPicked read.symbols image.symbols k number) → picked.old.name ≡ picked.symbol.name
static_named read image left k number at picked =
    let same : is_some_and (bytes_eq picked.symbol.name) (slice_get (texts_of_symbols read.symbols) number) ≡ true =
    left_at (texts_of_symbols read.symbols) image.symbol_numbers (texts_of_symbols image.symbols) left k number picked.symbol.name at
    (name_at image.symbols k picked.symbol picked.is_there) in
    sym ((bytes_decides picked.symbol.name picked.old.name).0
    (ap (is_some_and (bytes_eq picked.symbol.name)) (sym (name_at read.symbols number picked.old picked.is_old)) ∙ same))

-- ## Dynamic symbols with the names that were read

module _ (read image : Image) (f : ReadFacts read image) (same : are_names_changed read image ≡ false) where
  -- each keeps its number and its place
  pub dynamic_stays : (i : ℕ) → i < length image.dynamic_symbols → IsPicked read.dynamic_symbols image.dynamic_symbols i i
  dynamic_stays i within =
      dynamic_picked read image f i i (all_there read image (all_symbols read image f) same i (omega (arith, within, names_count read image same)))

  pub dynamic_named : (i : ℕ) → (picked : IsPicked read.dynamic_symbols image.dynamic_symbols i i) → picked.old.name ≡ picked.symbol.name
  dynamic_named i picked =
      same_Some picked.old.name picked.symbol.name
      (sym (name_at read.dynamic_symbols i picked.old picked.is_old)
      ∙ ap (λ (l : List (List ℕ)). slice_get l i) (names_kept read image same)
      ∙ name_at image.dynamic_symbols i picked.symbol picked.is_there)

  pub dynamic_placed : (i : ℕ) → i < length image.dynamic_symbols → (picked : IsPicked read.dynamic_symbols image.dynamic_symbols i i)
      → slice_get (final read image).dynamic_symbols i ≡ Some (final_symbol image picked.symbol)
  dynamic_placed i within picked =
      dynamic_final read image f i i picked.symbol
      (ap (λ (l : List ℕ). slice_get l i) (order-same read image same) ∙ slice_get-counted (length image.dynamic_symbols) i within) picked.is_there

-- as they were read, where no section went
pub dynamic_lent : (read image : Image) → IsEditedReady read image → (s : ImageSection) → IsSectionOfType SHT_DYNSYM image s
    → are_names_changed read image ≡ false → length image.sections ≡ length read.sections
    → ShowsSymbols image.form (content_read image s.sh_link) (final read image).dynamic_symbols s.content
dynamic_lent read image is s at same all = record {
  symbols = each_symbol strings finals records (dynamic_long read image f ∙ many ∙ sym table.count) shown;
  sized = table.sized ∙ ap (λ (n : ℕ). n * symbol_size image.form) (sym (dynamic_long read image f ∙ many));
}
  where
    f : ReadFacts read image
    f = facts read image is

    table : IsTable read image s read.dynamic_symbols
    table = dynamic_table read image is s at

    many : length image.dynamic_symbols ≡ length read.dynamic_symbols
    many = names_count read image same

    strings : List ℕ
    strings = content_read image s.sh_link

    finals : List NamedSymbol
    finals = (final read image).dynamic_symbols

    records : List SymbolNumbers
    records = symbols_in image.form s.content

    shown : (j : ℕ) (y : NamedSymbol) (n : SymbolNumbers) → slice_get finals j ≡ Some y → slice_get records j ≡ Some n → IsSymbolOf strings y n
    shown j y n y_at n_at =
        let within : j < length image.dynamic_symbols = omega (arith, slice_get_within finals j y y_at, dynamic_long read image f) in
        let picked : IsPicked read.dynamic_symbols image.dynamic_symbols j j = dynamic_stays read image f same j within in
        let of : IsOfRecord strings (length read.sections) picked.old n = table.each j picked.old n picked.is_old n_at in
        let own : final_symbol image picked.symbol ≡ y =
        same_Some (final_symbol image picked.symbol) y (sym (dynamic_placed read image f same j within picked) ∙ y_at) in
        let made : record_with image n.st_name n ≡ n = ap (λ (k : ℕ). record n { st_shndx = k }) (section_stays read image f all n.st_shndx of.section) in
        subst (λ (z : NamedSymbol). IsSymbolOf strings z n) own
        (shown_with image strings strings (length read.sections) n.st_name picked.old picked.symbol n n of picked.same made
        (subst (λ (text : List ℕ). Reads strings n.st_name text) (dynamic_named read image f same j picked) of.stands.read))

-- ## Static symbols that are kept

-- symbols that are the same, one by one
same_count : (xs ys : List NamedSymbol) → are_same_symbols xs ys ≡ true → length xs ≡ length ys
same_count [] [] h = refl
same_count [] (y ∷ ys) h = absurd (false≢true h)
same_count (x ∷ xs) [] h = absurd (false≢true h)
same_count (x ∷ xs) (y ∷ ys) h = ap suc (same_count xs ys (and_parts (is_same_symbol x y) (are_same_symbols xs ys) h).1)

same_each : (xs ys : List NamedSymbol) → are_same_symbols xs ys ≡ true → (i : ℕ) (x y : NamedSymbol) → slice_get xs i ≡ Some x → slice_get ys i ≡ Some y
    → is_same_symbol x y ≡ true
same_each [] ys h i x y x_at y_at = absurd (none-some x x_at)
same_each (a ∷ xs) [] h i x y x_at y_at = absurd (none-some y y_at)
same_each (a ∷ xs) (b ∷ ys) h zero x y x_at y_at =
    ap (λ (z : NamedSymbol). is_same_symbol z y) (sym (same_Some a x x_at)) ∙ ap (is_same_symbol a) (sym (same_Some b y y_at))
    ∙ (and_parts (is_same_symbol a b) (are_same_symbols xs ys) h).0
same_each (a ∷ xs) (b ∷ ys) h (suc i) x y x_at y_at =
    same_each xs ys (and_parts (is_same_symbol a b) (are_same_symbols xs ys) h).1 i x y x_at y_at

-- what is the same of two symbols
pub record IsSame (x y : NamedSymbol) : Type 0 where
  pub name : x.name ≡ y.name
  pub st_info : x.st_info ≡ y.st_info
  pub st_other : x.st_other ≡ y.st_other
  pub st_shndx : x.st_shndx ≡ y.st_shndx
  pub st_value : x.st_value ≡ y.st_value
  pub st_size : x.st_size ≡ y.st_size

is_same : (x y : NamedSymbol) → is_same_symbol x y ≡ true → IsSame x y
is_same x y h =
    let a : Bool = bytes_eq x.name y.name in
    let b : Bool = x.st_info == y.st_info in
    let c : Bool = x.st_other == y.st_other in
    let d : Bool = x.st_shndx == y.st_shndx in
    let e : Bool = x.st_value == y.st_value in
    let five = and_parts (a && b && c && d && e) (x.st_size == y.st_size) h in
    let four = and_parts (a && b && c && d) e five.0 in
    let three = and_parts (a && b && c) d four.0 in
    let two = and_parts (a && b) c three.0 in
    let one = and_parts a b two.0 in
    record {
      name = (bytes_decides x.name y.name).0 one.0;
      st_info = eqb-true x.st_info y.st_info one.1;
      st_other = eqb-true x.st_other y.st_other two.1;
      st_shndx = eqb-true x.st_shndx y.st_shndx three.1;
      st_value = eqb-true x.st_value y.st_value four.1;
      st_size = eqb-true x.st_size y.st_size five.1;
    }

-- as they were read
pub static_lent : (read image : Image) → IsEditedReady read image → (s : ImageSection) → IsSectionOfType SHT_SYMTAB image s
    → are_symbols_kept read image ≡ true
    → ShowsSymbols image.form (content_read image s.sh_link) (final read image).symbols s.content
static_lent read image is s at kept = record {
  symbols = each_symbol strings finals records (sym (table.count ∙ many)) shown;
  sized = table.sized ∙ ap (λ (n : ℕ). n * symbol_size image.form) many;
}
  where
    table : IsTable read image s read.symbols
    table = static_table read image is s at

    strings : List ℕ
    strings = content_read image s.sh_link

    finals : List NamedSymbol
    finals = (final read image).symbols

    records : List SymbolNumbers
    records = symbols_in image.form s.content

    many : length read.symbols ≡ length finals
    many = same_count read.symbols finals kept

    shown : (j : ℕ) (y : NamedSymbol) (n : SymbolNumbers) → slice_get finals j ≡ Some y → slice_get records j ≡ Some n → IsSymbolOf strings y n
    shown j y n y_at n_at =
        let (old, old_at) = there_at read.symbols j (omega (arith, slice_get_within finals j y y_at, many)) in
        let of : IsOfRecord strings (length read.sections) old n = table.each j old n old_at n_at in
        let same : IsSame old y = is_same old y (same_each read.symbols finals kept j old y old_at y_at) in
        let was : symbol_with 0 (kept_as n of.version old.name) ≡ symbol_with 0 old = ap (symbol_with 0) (sym of.fields) in
        record {
          name = subst (λ (text : List ℕ). Reads strings n.st_name text) same.name of.stands.read;
          st_info = ap (λ (k : SymbolNumbers). k.st_info) was ∙ same.st_info;
          st_other = ap (λ (k : SymbolNumbers). k.st_other) was ∙ same.st_other;
          st_shndx = ap (λ (k : SymbolNumbers). k.st_shndx) was ∙ same.st_shndx;
          st_value = ap (λ (k : SymbolNumbers). k.st_value) was ∙ same.st_value;
          st_size = ap (λ (k : SymbolNumbers). k.st_size) was ∙ same.st_size;
        }

-- ## Whether they are

bytes_same : (text : List ℕ) → bytes_eq text text ≡ true
bytes_same text = (bytes_decides text text).1 refl

same_but : (image : Image) (y : NamedSymbol) → is_same_symbol y (final_symbol image y) ≡ is_section_kept image y
same_but image y = by_section (is_section_kept image y) refl
  where
    number_same : (n : ℕ) → (n == n) ≡ true
    number_same n = eq-eqb n n refl

    by_section : (b : Bool) → is_section_kept image y ≡ b → is_same_symbol y (final_symbol image y) ≡ b
    by_section true kept =
        and_from _ _ (and_from _ _ (and_from _ _ (and_from _ _ (and_from _ _ (bytes_same y.name) (number_same y.st_info)) (number_same y.st_other)) kept)
        (number_same y.st_value)) (number_same y.st_size)
    by_section false moves =
        false_from_ne_true (is_same_symbol y (final_symbol image y)) (λ (h : is_same_symbol y (final_symbol image y) ≡ true).
        both_ways (is_section_kept image y) moves
        (eq-eqb y.st_shndx (new_symbol_section image y.st_shndx) (is_same y (final_symbol image y) h).st_shndx))

-- symbols that stay are kept where their sections are
kept_by : (image : Image) (ys : List NamedSymbol) → are_same_symbols ys (map (final_symbol image) ys) ≡ list_all (is_section_kept image) ys
kept_by image [] = refl
kept_by image (y ∷ ys) =
    ap (λ (b : Bool). b && are_same_symbols ys (map (final_symbol image) ys)) (same_but image y)
    ∙ ap (λ (b : Bool). is_section_kept image y && b) (kept_by image ys)

pub kept_sections : (read image : Image) → image.symbols ≡ read.symbols → list_all (is_section_kept image) image.symbols ≡ are_symbols_kept read image
kept_sections read image same =
    sym (kept_by image image.symbols)
    ∙ ap (λ (ys : List NamedSymbol). are_same_symbols ys (map (final_symbol image) image.symbols)) same
    ∙ ap (are_same_symbols read.symbols) (sym (symbols_written read image))

-- all symbols are kept where no section went
pub all_kept : (read image : Image) → IsEditedReady read image → (s : ImageSection) → IsSectionOfType SHT_SYMTAB image s → image.symbols ≡ read.symbols
    → length image.sections ≡ length read.sections → true ≡ are_symbols_kept read image
all_kept read image is s at same all = sym (all-each (is_section_kept image) image.symbols each) ∙ kept_sections read image same
  where
    table : IsTable read image s read.symbols
    table = static_table read image is s at

    each : (i : ℕ) (y : NamedSymbol) → slice_get image.symbols i ≡ Some y → is_section_kept image y ≡ true
    each i y y_at =
        let was : slice_get read.symbols i ≡ Some y = ap (λ (l : List NamedSymbol). slice_get l i) (sym same) ∙ y_at in
        let (n, n_at) = there_at (symbols_in image.form s.content) i (omega (arith, slice_get_within read.symbols i y was, table.count)) in
        let of : IsOfRecord (content_read image s.sh_link) (length read.sections) y n = table.each i y n was n_at in
        let own : y.st_shndx ≡ n.st_shndx = ap (λ (z : NamedSymbol). z.st_shndx) of.fields in
        let stays : new_symbol_section image n.st_shndx ≡ n.st_shndx = section_stays read image (facts read image is) all n.st_shndx of.section in
        eq-eqb y.st_shndx (new_symbol_section image y.st_shndx) (own ∙ sym stays ∙ ap (new_symbol_section image) (sym own))

-- none other are: with the names that were read, one by one, these are the symbols that were read
module _ (read image : Image) (f : ReadFacts read image) (kept : are_symbols_kept read image ≡ true) where
  long : length image.symbols ≡ length read.symbols
  long =
      sym (length-map image.symbols (final_symbol image)) ∙ sym (ap length (symbols_written read image))
      ∙ sym (same_count read.symbols (final read image).symbols kept)

  numbers_stay : (n : ℕ) → n < length read.symbols → slice_get image.symbol_numbers n ≡ Some n
  numbers_stay n below =
      each_there image.symbol_numbers (length read.symbols) f.edit.symbols.rising (static_below read image f) (f.edit.symbols.numbered ∙ long) n below

  symbol_stays : (i : ℕ) (y old : NamedSymbol) → slice_get image.symbols i ≡ Some y → slice_get read.symbols i ≡ Some old → y ≡ old
  symbol_stays i y old y_at old_at =
      let own : slice_get image.symbol_numbers i ≡ Some i = numbers_stay i (slice_get_within read.symbols i old old_at) in
      let (was, was_at, same) = f.edit.symbols.same i y y_at in
      let is_was : was ≡ old =
      same_Some was old (sym was_at ∙ ap (slice_get read.symbols) (get_or_from_slice_get image.symbol_numbers i i 0 own) ∙ old_at) in
      let named : old.name ≡ y.name =
      (is_same old (final_symbol image y) (same_each read.symbols (final read image).symbols kept i old (final_symbol image y) old_at
      (static_final read image f i y y_at))).name in
      same.1 ∙ ap (λ (z : NamedSymbol). record z { name = y.name }) is_was ∙ ap (λ (text : List ℕ). record old { name = text }) (sym named)

  has_symbols : HasStaticSymbolsOf read image
  has_symbols = record {
    symbols = same_items image.symbols read.symbols long symbol_stays;
    numbers = same_items image.symbol_numbers read.symbol_numbers
        (f.edit.symbols.numbered ∙ long ∙ sym (ap length f.holds.symbol_numbers ∙ length-counted (length read.symbols))) (λ i n m n_at m_at.
        let below : i < length read.symbols =
        omega (arith, slice_get_within read.symbol_numbers i m m_at, ap length f.holds.symbol_numbers, length-counted (length read.symbols)) in
        let own : m ≡ i =
        same_Some m i (sym m_at ∙ ap (λ (l : List ℕ). slice_get l i) f.holds.symbol_numbers ∙ slice_get-counted (length read.symbols) i below) in
        same_Some n i (sym n_at ∙ numbers_stay i below) ∙ sym own);
  }

module _ (read image : Image) (is : IsEditedReady read image) (b : Bool) (told : OfRead image (λ r. IsTrue b ↔ HasStaticSymbolsOf r image)) where
  read_is : read ≡ is.edited.read
  read_is = is.at_read ∙ at_read (image_of image.source) is.edited.read image is.edited.is_read

  -- by what the image tells
  pub told_kept : b ≡ true → image.symbols ≡ read.symbols
  told_kept is_true = ((told is.edited.read is.edited.is_read).0 is_true).symbols ∙ ap (λ (r : Image). r.symbols) (sym read_is)

  pub told_changed : b ≡ false → false ≡ are_symbols_kept read image
  told_changed other = sym (false_from_ne_true (are_symbols_kept read image) (λ kept.
      both_ways b other ((told is.edited.read is.edited.is_read).1
      (subst (λ (r : Image). HasStaticSymbolsOf r image) read_is (has_symbols read image (facts read image is) kept)))))
