-- A written file is of a kind that is read.
use Rattle.std.proofs.Common.{◌≡◌, ◌≤◌, ◌<◌, ℕ, zero, suc, Bool, true, false, not, ◌&&◌, List, [], ◌∷◌, length, filter, refl, sym, ap, ◌∙◌, subst, inl, inr, Option, Some, None, arith}
use Rattle.std.specs.Prelude.{IsTrue, nat_lt, ◌==◌}
use Rattle.std.specs.List.{list_all, slice_get}
use Rattle.std.proofs.lemmas.Bool.{and_from, and_parts, eq-eqb, eqb-true, false≢true, lt-ltb, or_cases}
use Rattle.std.proofs.lemmas.Bool.Decides.{nat_tests}
use Rattle.std.proofs.lemmas.Option.{none-some, same_Some, slice_get_within}
use Rattle.elf_format.specs.declared.constants.TheConstants.{ET_DYN, ET_EXEC, PN_XNUM, SHN_LORESERVE, SHN_XINDEX, SHT_DYNSYM, SHT_GNU_VERSYM, SHT_STRTAB, SHT_SYMTAB}
use Rattle.elf_format.specs.declared.form.Form.{Form}
use Rattle.elf_format.specs.declared.header.Header.{Header}
use Rattle.elf_format.specs.declared.records.SectionHeader.{SectionHeader}
use Rattle.elf_format.specs.declared.records.SymbolNumbers.{SymbolNumbers}
use Rattle.elf_format.specs.File.{Opened, section_bytes, section_of_type, sections_of, sections_there}
use Rattle.elf_format.specs.Image.{symbols_of}
use Rattle.elf_format.specs.Options.{is_none_or, is_one_of}
use Rattle.elf_format.specs.Records.{file_header_size, section_header, section_header_size, segment_header_size, symbols_in}
use Rattle.elf_format.specs.Rules.{is_file_kind, is_symbol_table, names_are_texts, no_extended_numbers}
use Rattle.elf_format.specs.Views.{NamedSymbol}
use Rattle.elf_image.specs.ReadImage.{AreDynamicSymbols, AreStaticSymbols}
use Rattle.elf_image.specs.Kept.{image_at_read}
use Rattle.elf_layout_plan.specs.Memory.{Resized}
use Rattle.elf_layout_plan.specs.Plan.{Plan, does_place_fit, does_plan_fit, does_segment_fit, plan_for, resized}
use Rattle.elf_layout_plan.specs.Sizes.{fits_field}
use Rattle.elf_layout_plan.specs.Standing.{sections_offset}
use Rattle.elf_layout_plan.proofs.ForCallers.PlacedLists.{Has, all-at, all-from, filter-at, filter-from, find-at, slice_get-at}
use Rattle.elf_layout_plan.proofs.ForCallers.PlacedRead.{ReadsPlaced, header_filled, reads_placed}
use Rattle.elf_layout_plan.proofs.ForCallers.PlacedSegments.{end_before_sections, header_before_kept_end, kept_before_segments_end, segments_before_end}
use Rattle.elf_write_spec.specs.ReadBack.{HasWrittenParts, written_parts}
use Rattle.elf_write_spec.specs.Contents.{AreSymbolsOf, IsSymbolOf}
use Rattle.elf_write_spec.specs.Final.{final, new_number, new_symbol_section}
use Rattle.elf_write_spec.specs.Output.{IsPlannedOutput, Output, written_bytes}
use Rattle.elf_write_spec.proofs.ContentFacts.{dynamic_symbols_shown, linked_bytes, symbols_shown}
use Rattle.elf_write_spec.proofs.HeaderTables.{header_bytes, sections_there-all}
use Rattle.elf_write_spec.proofs.FinalSymbols.{final_at}
use Rattle.elf_write_spec.proofs.StaticSymbols.{final_static, section_moves, static_read}
use Rattle.elf_write_spec.proofs.WholeFacts.{ReadFacts, SectionAt, lengths, names_section_at, read_facts, section_at_header}
use Rattle.elf_write_spec.proofs.WholeLists.{has_at}
use Rattle.elf_format.proofs.ForCallers.Lengths.{length-sections}

-- ## Ten tests

abbrev TenTests : Bool → Bool → Bool → Bool → Bool → Bool → Bool → Bool → Bool → Bool → Bool
TenTests a b c d e f g h i j = a && b && c && d && e && f && g && h && i && j

record AllTen (a b c d e f g h i j : Bool) : Type 0 where
  type : a ≡ true
  table : b ≡ true
  filled : c ≡ true
  sections : d ≡ true
  segments : e ≡ true
  segment_size : f ≡ true
  section_size : g ≡ true
  names_number : h ≡ true
  names : i ≡ true
  numbers : j ≡ true

ten_parts : (a b c d e f g h i j : Bool) → TenTests a b c d e f g h i j ≡ true → AllTen a b c d e f g h i j
ten_parts a b c d e f g h i j all =
    let p9 = and_parts (a && b && c && d && e && f && g && h && i) j all in
    let p8 = and_parts (a && b && c && d && e && f && g && h) i p9.0 in
    let p7 = and_parts (a && b && c && d && e && f && g) h p8.0 in
    let p6 = and_parts (a && b && c && d && e && f) g p7.0 in
    let p5 = and_parts (a && b && c && d && e) f p6.0 in
    let p4 = and_parts (a && b && c && d) e p5.0 in
    let p3 = and_parts (a && b && c) d p4.0 in
    let p2 = and_parts (a && b) c p3.0 in
    let p1 = and_parts a b p2.0 in
    record {
      type = p1.0;
      table = p1.1;
      filled = p2.1;
      sections = p3.1;
      segments = p4.1;
      segment_size = p5.1;
      section_size = p6.1;
      names_number = p7.1;
      names = p8.1;
      numbers = p9.1;
    }

ten_from : (a b c d e f g h i j : Bool) → AllTen a b c d e f g h i j → TenTests a b c d e f g h i j ≡ true
ten_from a b c d e f g h i j all =
    and_from (a && b && c && d && e && f && g && h && i) j
    (and_from (a && b && c && d && e && f && g && h) i
    (and_from (a && b && c && d && e && f && g) h
    (and_from (a && b && c && d && e && f) g
    (and_from (a && b && c && d && e) f
    (and_from (a && b && c && d) e
    (and_from (a && b && c) d
    (and_from (a && b) c
    (and_from a b all.type all.table)
    all.filled) all.sections) all.segments) all.segment_size) all.section_size) all.names_number) all.names) all.numbers

abbrev KindTests : Opened → Type 0
KindTests o =
    AllTen (is_one_of (ET_EXEC ∷ ET_DYN ∷ []) o.header.e_type) (not (o.header.e_shoff == 0)) (not (o.header.e_shnum == 0))
    (nat_lt o.header.e_shnum SHN_LORESERVE) (nat_lt o.header.e_phnum PN_XNUM)
    (o.header.e_phentsize == segment_header_size o.form) (o.header.e_shentsize == section_header_size o.form)
    (nat_lt o.header.e_shstrndx o.header.e_shnum) (names_are_texts o) (no_extended_numbers o)

kind_parts : (o : Opened) → is_file_kind o ≡ true → KindTests o
kind_parts o h = ten_parts (is_one_of (ET_EXEC ∷ ET_DYN ∷ []) o.header.e_type) (not (o.header.e_shoff == 0)) (not (o.header.e_shnum == 0))
    (nat_lt o.header.e_shnum SHN_LORESERVE) (nat_lt o.header.e_phnum PN_XNUM)
    (o.header.e_phentsize == segment_header_size o.form) (o.header.e_shentsize == section_header_size o.form)
    (nat_lt o.header.e_shstrndx o.header.e_shnum) (names_are_texts o) (no_extended_numbers o) h

kind_from : (o : Opened) → KindTests o → is_file_kind o ≡ true
kind_from o h = ten_from (is_one_of (ET_EXEC ∷ ET_DYN ∷ []) o.header.e_type) (not (o.header.e_shoff == 0)) (not (o.header.e_shnum == 0))
    (nat_lt o.header.e_shnum SHN_LORESERVE) (nat_lt o.header.e_phnum PN_XNUM)
    (o.header.e_phentsize == segment_header_size o.form) (o.header.e_shentsize == section_header_size o.form)
    (nat_lt o.header.e_shstrndx o.header.e_shnum) (names_are_texts o) (no_extended_numbers o) h

-- ## The section header table

not_zero : (n : ℕ) → 0 < n → not (n == 0) ≡ true
not_zero n h = grind (arith, nat_tests)

below : (a b : ℕ) → nat_lt a b ≡ true → a < b
below a b h = grind (arith, nat_tests)

offset_is : (w : Output) (is : IsPlannedOutput w) → w.plan.e_shoff ≡ sections_offset (resized w.image) is.planned.moved
unfolding plan_for
offset_is w is = ap (λ (l : Plan). l.e_shoff) is.planned.follows

-- the section header table stands behind the file header
pub behind_header : (w : Output) → IsPlannedOutput w → file_header_size w.image.form ≤ w.plan.e_shoff
behind_header w is =
    let r : Resized = resized w.image in
    let moved : List ℕ = is.planned.moved in
    let reads : ReadsPlaced r = reads_placed w.image is.edited in
    omega (
      arith,
      header_before_kept_end r moved reads,
      kept_before_segments_end r moved reads,
      segments_before_end r moved reads,
      end_before_sections r moved reads,
      offset_is w is,
    )

-- the numbers of entries fit plain numbering
counts_fit : (w : Output) → IsPlannedOutput w
    → (nat_lt (length w.plan.segments) PN_XNUM ≡ true) × (nat_lt (length w.plan.places) SHN_LORESERVE ≡ true)
unfolding does_plan_fit
counts_fit w is =
    let form : Form = w.image.form in
    let a : Bool = list_all (does_place_fit form) w.plan.places in
    let b : Bool = list_all (does_segment_fit form) w.plan.segments in
    let d : Bool = fits_field form w.plan.e_phoff in
    let e : Bool = fits_field form w.plan.e_shoff in
    let f : Bool = nat_lt (length w.plan.segments) PN_XNUM in
    let g : Bool = nat_lt (length w.plan.places) SHN_LORESERVE in
    let last = and_parts (a && b && d && e && f) g is.planned.fits in
    ((and_parts (a && b && d && e) f last.0).1, last.1)

module _ (w : Output) (is : IsPlannedOutput w) (f : ReadFacts w) where
  old_kind : KindTests f.parts.opened
  old_kind = kind_parts f.parts.opened f.rules.file_kind

  header_was : w.image.header ≡ record (image_at_read w.image).header { os_abi = w.image.header.os_abi }
  header_was = f.edit.header

  same_type : w.image.header.e_type ≡ f.parts.opened.header.e_type
  same_type = ap (λ (h : Header). h.e_type) header_was ∙ ap (λ (h : Header). h.e_type) f.holds.header

  -- a section with a number below the count that was read was there
  pub section_below : (n : ℕ) → n < f.parts.opened.header.e_shnum → n < length f.parts.sections
  section_below n less = omega (arith, less, length-sections f.parts.opened f.parts.sections f.are_parts.sections)

  -- there is a section
  pub some_place : 0 < length w.plan.places
  some_place =
      let number : ℕ = f.parts.opened.header.e_shstrndx in
      let less : number < f.parts.opened.header.e_shnum = below number f.parts.opened.header.e_shnum old_kind.names_number in
      let (j, at, _, _) = names_section_at w is f (section_below number less) in
      omega (arith, slice_get_within w.plan.places j at.place at.is_place)

  -- the section of names has a number of one that is there
  pub names_below : new_number w.image w.image.header.e_shstrndx < length w.plan.places
  names_below =
      let number : ℕ = f.parts.opened.header.e_shstrndx in
      let less : number < f.parts.opened.header.e_shnum = below number f.parts.opened.header.e_shnum old_kind.names_number in
      let (j, at, _, new) = names_section_at w is f (section_below number less) in
      omega (arith, slice_get_within w.plan.places j at.place at.is_place, new)

  pub same_form : w.image.form ≡ f.parts.opened.form
  same_form = f.edit.form ∙ f.holds.form

-- ## Names

-- the test on the section of names, for a header that is there
names_test : (o : Opened) (sections : List SectionHeader) → sections_of o ≡ Some sections → o.header.e_shstrndx < o.header.e_shnum
    → (s : SectionHeader) → slice_get sections o.header.e_shstrndx ≡ Some s → names_are_texts o ≡ (s.sh_type == SHT_STRTAB)
names_test o sections h less s at =
    let (bytes, there, made) = header_bytes o sections h o.header.e_shstrndx less s at in
    ap (is_none_or (λ b. (section_header o.form b).sh_type == SHT_STRTAB)) there
    ∙ ap (λ (x : SectionHeader). x.sh_type == SHT_STRTAB) made

names_right : (w : Output) (is : IsPlannedOutput w) → HasWrittenParts w → (f : ReadFacts w)
    → names_are_texts (written_parts w).opened ≡ true
names_right w is has f =
    let old = old_kind w is f in
    let o : Opened = f.parts.opened in
    let number : ℕ = o.header.e_shstrndx in
    let less : number < o.header.e_shnum = below number o.header.e_shnum old.names_number in
    let (j, at, is_number, same) = names_section_at w is f (section_below w is f number less) in
    let here : slice_get w.headers (new_number w.image w.image.header.e_shstrndx) ≡ Some at.header =
    ap (λ (n : ℕ). slice_get w.headers n) same ∙ at.is_header in
    names_test (written_parts w).opened w.headers has.parts.sections (names_below w is f) at.header here
    ∙ ap (λ (n : ℕ). n == SHT_STRTAB) at.type
    ∙ sym (names_test o f.parts.sections f.are_parts.sections less at.old (ap (slice_get f.parts.sections) (sym is_number) ∙ at.is_old))
    ∙ old.names

-- ## Numbers of sections in symbols

abbrev IsPlain : ℕ → Type 0
IsPlain n = not (n == SHN_XINDEX) ≡ true

symbols-at : (strings : List ℕ) (ys : List NamedSymbol) (ns : List SymbolNumbers) → AreSymbolsOf strings ys ns
    → (j : ℕ) (n : SymbolNumbers) → slice_get ns j ≡ Some n
    → (y : NamedSymbol) × (slice_get ys j ≡ Some y) × IsSymbolOf strings y n
symbols-at strings [] [] are j n at = absurd (none-some n at)
symbols-at strings [] (m ∷ ns) are j n at = absurd are
symbols-at strings (y ∷ ys) [] are j n at = absurd are
symbols-at strings (y ∷ ys) (m ∷ ns) are zero n at = (y, refl, subst (IsSymbolOf strings y) (same_Some m n at) are.0)
symbols-at strings (y ∷ ys) (m ∷ ns) are (suc j) n at = symbols-at strings ys ns are.1 j n at

module _ (w : Output) (is : IsPlannedOutput w) (has : HasWrittenParts w) (f : ReadFacts w) where
  -- the numbers of sections in symbols that were read are plain
  plain_in : (s : SectionHeader) → Has s f.parts.sections → is_symbol_table s ≡ true → (y : SymbolNumbers)
      → Has y (symbols_of f.parts s) → IsPlain y.st_shndx
  plain_in s here table y y_here =
      let o : Opened = f.parts.opened in
      let there : Has s (sections_there o) =
      subst (λ (l : List SectionHeader). Has s l) (sym (sections_there-all o f.parts.sections f.are_parts.sections)) here in
      all-at (λ x. not (x.st_shndx == SHN_XINDEX)) (symbols_of f.parts s) y
      (all-at (λ t. list_all (λ x. not (x.st_shndx == SHN_XINDEX)) (symbols_in o.form (section_bytes o.file t)))
      (filter is_symbol_table (sections_there o)) s (old_kind w is f).numbers (filter-from is_symbol_table (sections_there o) s there table)) y_here

  plain_dynamic : (symbols : List NamedSymbol) (versions o : Option SectionHeader) → section_of_type SHT_DYNSYM f.parts.sections ≡ o
      → AreDynamicSymbols f.parts versions o symbols → (i : ℕ) (x : NamedSymbol) → slice_get symbols i ≡ Some x → IsPlain x.st_shndx
  plain_dynamic symbols versions None o_is none i x at = absurd (none-some x (ap (λ (l : List NamedSymbol). slice_get l i) (sym none) ∙ at))
  plain_dynamic symbols versions (Some s) o_is are i x at =
      let (y, version, y_at, _, is_y) = are.each i x at in
      let found = find-at (λ x. x.sh_type == SHT_DYNSYM) f.parts.sections s o_is in
      let table : is_symbol_table s ≡ true = ap (is_one_of (SHT_SYMTAB ∷ SHT_DYNSYM ∷ [])) (eqb-true s.sh_type SHT_DYNSYM found.1) in
      subst IsPlain (sym (ap (λ (z : NamedSymbol). z.st_shndx) is_y.fields))
      (plain_in s found.0 table y (slice_get-at (symbols_of f.parts s) i y y_at))

  plain_static : (symbols : List NamedSymbol) (o : Option SectionHeader) → section_of_type SHT_SYMTAB f.parts.sections ≡ o
      → AreStaticSymbols f.parts o symbols → (i : ℕ) (x : NamedSymbol) → slice_get symbols i ≡ Some x → IsPlain x.st_shndx
  plain_static symbols None o_is none i x at = absurd (none-some x (ap (λ (l : List NamedSymbol). slice_get l i) (sym none) ∙ at))
  plain_static symbols (Some s) o_is are i x at =
      let (y, version, y_at, _, is_y) = are.each i x at in
      let found = find-at (λ x. x.sh_type == SHT_SYMTAB) f.parts.sections s o_is in
      let table : is_symbol_table s ≡ true = ap (is_one_of (SHT_SYMTAB ∷ SHT_DYNSYM ∷ [])) (eqb-true s.sh_type SHT_SYMTAB found.1) in
      subst IsPlain (sym (ap (λ (z : NamedSymbol). z.st_shndx) is_y.fields))
      (plain_in s found.0 table y (slice_get-at (symbols_of f.parts s) i y y_at))

  -- a section's number is below the special ones now too
  plain_below : (n : ℕ) → n < length w.plan.places → IsPlain n
  plain_below n less = grind (arith, nat_tests, counts_fit w is)

  plain_moved : (x : NamedSymbol) → IsPlain x.st_shndx → IsPlain (new_symbol_section w.image x.st_shndx)
  plain_moved x plain =
      let long = lengths w is f in
      elim (section_moves (image_at_read w.image) w.image f (omega (arith, some_place w is f, long.places, long.sections)) x.st_shndx) [
        | inl special ↦ subst IsPlain (sym special.1) plain
        | inr less ↦ plain_below (new_symbol_section w.image x.st_shndx) (omega (arith, less, long.places))
      ]

  plain_written : (i : ℕ) (at : SectionAt w f.parts i) → is_symbol_table at.old ≡ true → (y : SymbolNumbers)
      → Has y (symbols_in w.image.form at.bytes) → IsPlain y.st_shndx
  plain_written i at table y here = elim (or_cases (SHT_SYMTAB == at.old.sh_type) (is_one_of (SHT_DYNSYM ∷ []) at.old.sh_type) table) [
    | inl static ↦
        let shown = symbols_shown w is f i at (sym (eqb-true SHT_SYMTAB at.old.sh_type static)) in
        let symbols : List NamedSymbol = (final (image_at_read w.image) w.image).symbols in
        let (j, y_at) = has_at (symbols_in w.image.form at.bytes) y here in
        let (x, x_at, is_x) = symbols-at (linked_bytes w is f i at) symbols (symbols_in w.image.form at.bytes) shown j y y_at in
        let (z, z_at, made) = final_static (image_at_read w.image) w.image f j x x_at in
        let was = static_read (image_at_read w.image) w.image f j z z_at in
        subst IsPlain (sym (is_x.st_shndx ∙ ap (λ (v : NamedSymbol). v.st_shndx) made))
        (plain_moved z (subst IsPlain (sym was.section)
        (plain_static (image_at_read w.image).symbols (section_of_type SHT_SYMTAB f.parts.sections) refl f.holds.symbols was.number was.old was.is_old)))
    | inr rest ↦ elim (or_cases (SHT_DYNSYM == at.old.sh_type) false rest) [
      | inl dynamic ↦
          let shown = dynamic_symbols_shown w is f i at (sym (eqb-true SHT_DYNSYM at.old.sh_type dynamic)) in
          let symbols : List NamedSymbol = (final (image_at_read w.image) w.image).dynamic_symbols in
          let (j, y_at) = has_at (symbols_in w.image.form at.bytes) y here in
          let (x, x_at, is_x) = symbols-at (linked_bytes w is f i at) symbols (symbols_in w.image.form at.bytes) shown j y y_at in
          let (z, was, made) = final_at (image_at_read w.image) w.image f j x x_at in
          subst IsPlain (sym (is_x.st_shndx ∙ ap (λ (v : NamedSymbol). v.st_shndx) made))
          (plain_moved z (subst IsPlain (sym was.section)
          (plain_dynamic (image_at_read w.image).dynamic_symbols (section_of_type SHT_GNU_VERSYM f.parts.sections)
          (section_of_type SHT_DYNSYM f.parts.sections) refl f.holds.dynamic_symbols was.number was.old was.is_old)))
      | inr none ↦ absurd (false≢true none)
    ]
  ]

  no_extended : no_extended_numbers (written_parts w).opened ≡ true
  no_extended =
      let o : Opened = (written_parts w).opened in
      let test : SectionHeader → Bool = λ s. list_all (λ y. not (y.st_shndx == SHN_XINDEX)) (symbols_in o.form (section_bytes o.file s)) in
      ap (λ (l : List SectionHeader). list_all test (filter is_symbol_table l)) (sections_there-all o w.headers has.parts.sections)
      ∙ all-from test (filter is_symbol_table w.headers) (λ s here.
      let back = filter-at is_symbol_table w.headers s here in
      let (i, s_at) = has_at w.headers s back.0 in
      let (at, same) = section_at_header w is f i s s_at in
      let table : is_symbol_table at.old ≡ true =
      ap (is_one_of (SHT_SYMTAB ∷ SHT_DYNSYM ∷ [])) (sym at.type ∙ ap (λ (x : SectionHeader). x.sh_type) same) ∙ back.1 in
      let bytes : section_bytes (written_bytes w) s ≡ at.bytes = has.contents i s at.bytes s_at at.is_bytes in
      all-from (λ y. not (y.st_shndx == SHN_XINDEX)) (symbols_in o.form (section_bytes o.file s)) (λ y y_here.
      plain_written i at table y (subst (λ (l : List SymbolNumbers). Has y l) (ap (symbols_in w.image.form) bytes) y_here)))

-- ## All of it

pub file_kind : (w : Output) → IsPlannedOutput w → HasWrittenParts w → IsTrue (is_file_kind (written_parts w).opened)
file_kind w is has =
    let f : ReadFacts w = read_facts w is in
    let old = old_kind w is f in
    let fits = counts_fit w is in
    kind_from (written_parts w).opened (record {
      type = ap (is_one_of (ET_EXEC ∷ ET_DYN ∷ [])) (same_type w is f) ∙ old.type;
      table = not_zero w.plan.e_shoff (let more = behind_header w is in let some = header_filled w.image.form in omega (arith, more, some));
      filled = not_zero (length w.plan.places) (some_place w is f);
      sections = fits.1;
      segments = fits.0;
      segment_size = eq-eqb (segment_header_size w.image.form) (segment_header_size w.image.form) refl;
      section_size = eq-eqb (section_header_size w.image.form) (section_header_size w.image.form) refl;
      names_number = lt-ltb (new_number w.image w.image.header.e_shstrndx) (length w.plan.places) (names_below w is f);
      names = names_right w is has f;
      numbers = no_extended w is has f;
    })
