-- The static symbols of a written file are those of the image in its final form.
use Rattle.std.proofs.Common.{◌≡◌, ◌<◌, ℕ, zero, suc, List, [], ◌∷◌, length, map, replicate, refl, sym, ap, ◌∙◌, subst, Option, Some, None, arith}
use Rattle.std.specs.Prelude.{option_map}
use Rattle.std.specs.List.{slice_get}
use Rattle.std.proofs.lemmas.List.{length-map, length-replicate}
use Rattle.std.proofs.lemmas.Option.{none-some, same_Some, slice_get-map, slice_get_within}
use Rattle.patch_bytes.specs.Memory.{◌>>=◌, Memory, memory_of, text_at}
use Rattle.patch_bytes.proofs.MemoryLaws.{Keeps-refl, some_bind}
use Rattle.elf_format.specs.declared.constants.TheConstants.{SHT_SYMTAB}
use Rattle.elf_format.specs.declared.records.SectionHeader.{SectionHeader}
use Rattle.elf_format.specs.declared.records.SymbolNumbers.{SymbolNumbers}
use Rattle.elf_format.specs.declared.version_id.VersionId.{VersionId}
use Rattle.elf_format.specs.File.{linked_section, section_of_type}
use Rattle.elf_format.specs.Image.{Image, static_symbols, symbols_of}
use Rattle.elf_format.specs.Options.{is_one_of}
use Rattle.elf_format.specs.Records.{symbols_in}
use Rattle.elf_format.specs.Rules.{text_users, texts_of}
use Rattle.elf_format.specs.Views.{NamedSymbol, named_symbols, names_of}
use Rattle.elf_image.specs.ReadImage.{AreStaticSymbols, AreSymbolsOf, IsSymbolOf}
use Rattle.elf_image.specs.TableSymbols.{kept_as}
use Rattle.elf_image.specs.Kept.{image_at_read, kept_of_type}
use Rattle.elf_write_spec.specs.Contents.{AreSymbolsOf as AreWrittenSymbols, IsSymbolOf as IsWrittenSymbol}
use Rattle.elf_write_spec.specs.Final.{final, final_symbol}
use Rattle.elf_write_spec.specs.ReadBack.{HasWrittenParts, written_parts}
use Rattle.elf_write_spec.specs.Output.{IsPlannedOutput, Output, written_bytes}
use Rattle.elf_write_spec.proofs.ContentsReadBack.{Linked, bytes_are, linked_at, symbols_content, texts_are, texts_fit}
use Rattle.elf_write_spec.proofs.StaticSymbols.{final_static, static_read}
use Rattle.elf_write_spec.proofs.TextsRead.{each-from, text_read_back}
use Rattle.elf_write_spec.proofs.WholeEdits.{symbols_written}
use Rattle.elf_write_spec.proofs.WholeFacts.{ReadFacts, SectionAt, StaticAt, Stays, There, Nowhere, Went, read_facts, static_at}
use Rattle.elf_write_spec.proofs.WholeLists.{there_at}

-- ## Symbols by their records

-- symbols that are those of their records, one by one
named_are : (room : ℕ) (texts : Memory) (ns : List SymbolNumbers) (versions : List (Option VersionId)) (symbols : List NamedSymbol)
    → length symbols ≡ length ns → length versions ≡ length ns
    → ((i : ℕ) (x : NamedSymbol) → slice_get symbols i ≡ Some x
    → (y : SymbolNumbers) × (version : Option VersionId) × (slice_get ns i ≡ Some y) ×
    (slice_get versions i ≡ Some version) × IsSymbolOf room texts y version x)
    → named_symbols ns (map (λ y. y.name) symbols) versions ≡ symbols
unfolding named_symbols
named_are room texts [] versions [] long wide all = refl
named_are room texts [] versions (x ∷ xs) long wide all = absurd (omega (arith, long))
named_are room texts (n ∷ ns) versions [] long wide all = absurd (omega (arith, long))
named_are room texts (n ∷ ns) [] (x ∷ xs) long wide all = absurd (omega (arith, wide))
named_are room texts (n ∷ ns) (v ∷ versions) (x ∷ xs) long wide all =
    let (y, version, y_there, version_there, is) = all zero x refl in
    let first : kept_as n v x.name ≡ x =
    ap (λ (m : SymbolNumbers). kept_as m v x.name) (same_Some n y y_there)
    ∙ ap (λ (u : Option VersionId). kept_as y u x.name) (same_Some v version version_there) ∙ sym is.fields in
    ap (λ (z : NamedSymbol). z ∷ named_symbols ns (map (λ q. q.name) xs) versions) first
    ∙ ap (λ (zs : List NamedSymbol). x ∷ zs)
    (named_are room texts ns versions xs (omega (arith, long)) (omega (arith, wide)) (λ i z there. all (suc i) z there))

-- all symbols are there, with their names
pub symbols_made : (room : ℕ) (texts : Memory) (ns : List SymbolNumbers) (versions : List (Option VersionId)) (symbols : List NamedSymbol)
    → length versions ≡ length ns → AreSymbolsOf room texts ns versions symbols
    → (names_of room texts ns >>= λ names. Some (named_symbols ns names versions)) ≡ Some symbols
symbols_made room texts ns versions symbols wide are =
    let names : List (List ℕ) = map (λ (y : NamedSymbol). y.name) symbols in
    let there : names_of room texts ns ≡ Some names =
    each-from (λ y. text_at room texts y.st_name) ns names (length-map symbols (λ (y : NamedSymbol). y.name) ∙ are.count)
    (λ i n name n_there name_there.
    let (x, x_there) = there_at symbols i (omega (arith, are.count, slice_get_within ns i n n_there)) in
    let (y, version, y_there, _, is) = are.each i x x_there in
    let same : n ≡ y = same_Some n y (sym n_there ∙ y_there) in
    let named : Some x.name ≡ Some name =
    sym (slice_get-map (λ (z : NamedSymbol). z.name) symbols i ∙ ap (option_map (λ (z : NamedSymbol). z.name)) x_there) ∙ name_there in
    ap (λ (m : SymbolNumbers). text_at room texts m.st_name) same ∙ is.name ∙ named) in
    some_bind (names_of room texts ns) (λ ks. Some (named_symbols ns ks versions)) names there
    ∙ ap (λ (l : List NamedSymbol). Some l) (named_are room texts ns versions symbols are.count wide are.each)

-- ## Records

pub length-written : (strings : List ℕ) (ys : List NamedSymbol) (ns : List SymbolNumbers) → AreWrittenSymbols strings ys ns
    → length ys ≡ length ns
length-written strings [] [] are = refl
length-written strings [] (n ∷ ns) are = absurd are
length-written strings (y ∷ ys) [] are = absurd are
length-written strings (y ∷ ys) (n ∷ ns) are = ap suc (length-written strings ys ns are.1)

-- the record of a symbol
pub written_at : (strings : List ℕ) (ys : List NamedSymbol) (ns : List SymbolNumbers) → AreWrittenSymbols strings ys ns
    → (i : ℕ) (y : NamedSymbol) → slice_get ys i ≡ Some y → (n : SymbolNumbers) × (slice_get ns i ≡ Some n) × IsWrittenSymbol strings y n
written_at strings [] [] are i y there = absurd (none-some y there)
written_at strings [] (n ∷ ns) are i y there = absurd are
written_at strings (x ∷ ys) [] are i y there = absurd are
written_at strings (x ∷ ys) (n ∷ ns) are zero y there =
    (n, refl, subst (λ (z : NamedSymbol). IsWrittenSymbol strings z n) (same_Some x y there) are.0)
written_at strings (x ∷ ys) (n ∷ ns) are (suc i) y there = written_at strings ys ns are.1 i y there

-- a symbol by its record and its version
pub symbol_is : (strings : List ℕ) (x : NamedSymbol) (n : SymbolNumbers) (version : Option VersionId) → IsWrittenSymbol strings x n
    → x.version ≡ version
    → x ≡ kept_as n version x.name
symbol_is strings x n version is same =
    let made : NamedSymbol = kept_as n version x.name in
    ap (λ (v : Option VersionId). record x { version = v }) same
    ∙ ap (λ (k : ℕ). record made { st_info = k; st_other = x.st_other; st_shndx = x.st_shndx; st_value = x.st_value; st_size = x.st_size })
    (sym is.st_info)
    ∙ ap (λ (k : ℕ). record made { st_other = k; st_shndx = x.st_shndx; st_value = x.st_value; st_size = x.st_size }) (sym is.st_other)
    ∙ ap (λ (k : ℕ). record made { st_shndx = k; st_value = x.st_value; st_size = x.st_size }) (sym is.st_shndx)
    ∙ ap (λ (k : ℕ). record made { st_value = k; st_size = x.st_size }) (sym is.st_value)
    ∙ ap (λ (k : ℕ). record made { st_size = k }) (sym is.st_size)

-- ## The symbols for a link editor

-- what stands in a list of one value
pub in_replicate : {A : Type 0} (x : A) (n k : ℕ) (y : A) → slice_get (replicate n x) k ≡ Some y → y ≡ x
in_replicate x zero k y at = absurd (none-some y at)
in_replicate x (suc n) zero y at = sym (same_Some x y at)
in_replicate x (suc n) (suc k) y at = in_replicate x n k y at

replicate_at : {A : Type 0} (x : A) (n k : ℕ) → k < n → slice_get (replicate n x) k ≡ Some x
replicate_at x zero k less = absurd (omega (arith, less))
replicate_at x (suc n) zero less = refl
replicate_at x (suc n) (suc k) less = replicate_at x n k (omega (arith, less))

module _ (w : Output) (is : IsPlannedOutput w) (has : HasWrittenParts w) (f : ReadFacts w) where
  pub form_is : w.image.form ≡ f.parts.opened.form
  form_is = f.edit.form ∙ f.holds.form

  abbrev read : Image
  read = image_at_read w.image

  abbrev symbols : List NamedSymbol
  symbols = (final read w.image).symbols

  -- static symbols have no versions
  no_version : (i : ℕ) (x : NamedSymbol) → slice_get symbols i ≡ Some x → x.version ≡ None
  no_version i x at =
      let (z, z_at, made) = final_static read w.image f i x at in
      let was = static_read read w.image f i z z_at in
      ap (λ (v : NamedSymbol). v.version) made ∙ ap (λ (v : NamedSymbol). v.version) was.same.1
      ∙ by_section (section_of_type SHT_SYMTAB f.parts.sections) f.holds.symbols was.number was.old was.is_old
    where
      by_section : (o : Option SectionHeader) → AreStaticSymbols f.parts o read.symbols → (k : ℕ) (y : NamedSymbol)
          → slice_get read.symbols k ≡ Some y → y.version ≡ None
      by_section None empty k y there = absurd (none-some y (ap (λ (l : List NamedSymbol). slice_get l k) (sym empty) ∙ there))
      by_section (Some s) are k y there =
          let (n, version, _, version_at, is_y) = are.each k y there in
          ap (λ (z : NamedSymbol). z.version) is_y.fields ∙ in_replicate None (length (symbols_of f.parts s)) k version version_at

  module _ (i : ℕ) (at : SectionAt w f.parts i) (e : at.old.sh_type ≡ SHT_SYMTAB) where
    -- the records, with the strings that they link to
    linked : Linked w is f i at
    linked = linked_at w is f i at (ap (is_one_of text_users) e)

    written : AreWrittenSymbols linked.table.bytes symbols (symbols_of (written_parts w) at.header)
    written =
        subst (λ (bytes : List ℕ). AreWrittenSymbols linked.table.bytes symbols (symbols_in w.image.form bytes))
        (sym (bytes_are w is has f i at))
        (subst (λ (xs : List ℕ). AreWrittenSymbols xs symbols (symbols_in w.image.form at.bytes)) linked.are_strings
        (symbols_content w is f i at e))

    count : length symbols ≡ length (symbols_of (written_parts w) at.header)
    count = length-written linked.table.bytes symbols (symbols_of (written_parts w) at.header) written

    symbols_are : AreSymbolsOf (length (written_bytes w)) (texts_of (written_parts w) (linked_section w.headers at.header))
        (symbols_of (written_parts w) at.header) (replicate (length (symbols_of (written_parts w) at.header)) None) symbols
    symbols_are = record {
      count = count;
      each = λ j x there.
          let (n, n_there, is_written) = written_at linked.table.bytes symbols (symbols_of (written_parts w) at.header) written j x there in (
            n,
            None,
            n_there,
            replicate_at None (length (symbols_of (written_parts w) at.header)) j (omega (arith, slice_get_within symbols j x there, count)),
            record {
              name = ap (λ (m : Memory). text_at (length (written_bytes w)) m n.st_name) (texts_are w is has f i at linked)
                  ∙ text_read_back linked.table.bytes n.st_name x.name is_written.name (length (written_bytes w)) (texts_fit w is has f i at linked)
                  (memory_of linked.table.bytes) (Keeps-refl (memory_of linked.table.bytes));
              fields = symbol_is linked.table.bytes x n None is_written (no_version j x there);
            },
          );
    }

    static_there : static_symbols (written_parts w) (Some at.header) ≡ Some symbols
    unfolding static_symbols
    static_there =
        symbols_made (length (written_bytes w)) (texts_of (written_parts w) (linked_section w.headers at.header))
        (symbols_of (written_parts w) at.header) (replicate (length (symbols_of (written_parts w) at.header)) None) symbols
        (length-replicate (length (symbols_of (written_parts w) at.header)) None) symbols_are

  -- without their section there are none
  static_gone : kept_of_type SHT_SYMTAB w.image ≡ None → section_of_type SHT_SYMTAB w.headers ≡ None
      → static_symbols (written_parts w) (section_of_type SHT_SYMTAB w.headers) ≡ Some symbols
  unfolding static_symbols
  static_gone gone now =
      ap (static_symbols (written_parts w)) now
      ∙ ap (λ (ys : List NamedSymbol). Some ys)
      (sym (symbols_written read w.image ∙ ap (map (final_symbol w.image)) (f.edit.complete.no_static gone)))

  static_by : StaticAt w f.parts → static_symbols (written_parts w) (section_of_type SHT_SYMTAB w.headers) ≡ Some symbols
  unfolding static_symbols
  static_by (Stays (Nowhere was now none)) = static_gone none now
  static_by (Stays (There i at e was now there)) = ap (static_symbols (written_parts w)) now ∙ static_there i at e
  static_by (Went old was now none) = static_gone none now

-- the static symbols
pub symbols_read_back : (w : Output) → IsPlannedOutput w → HasWrittenParts w
    → static_symbols (written_parts w) (section_of_type SHT_SYMTAB w.headers) ≡ Some (final (image_at_read w.image) w.image).symbols
symbols_read_back w is has = let f = read_facts w is in static_by w is has f (static_at w is f)
