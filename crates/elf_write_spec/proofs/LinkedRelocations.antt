-- The relocations of a written file name symbols of their table.
use Rattle.std.proofs.Common.{◌≡◌, ◌<◌, ◌⊎◌, ℕ, suc, ◌*◌, ◌/◌, ◌%◌, Bool, true, false, List, [], ◌∷◌, length, map, refl, sym, ap, ◌∙◌, subst, inl, inr, Option, Some, None, arith}
use Rattle.std.specs.Prelude.{Contains, ◌&&◌, ◌||◌, not, ◌==◌, if◌then◌else◌, is_none, nat_lt, option_map, slice_index}
use Rattle.std.specs.List.{list_all, list_any, slice_get}
use Rattle.std.proofs.Math.Nat.{mul-div_left}
use Rattle.std.proofs.lemmas.Bool.{and_from, and_parts, both_ways, cond-false, cond-true, cond_both, eq-eqb, eqb-true, false_from_ne_true, false≢true, lt-ltb, not-true, or_cases}
use Rattle.std.proofs.lemmas.Option.{get_or_from_slice_get, same_Some, slice_get-get_or, slice_get_within}
use Rattle.patch_bytes.specs.declared.number.Wide.{Wide}
use Rattle.patch_bytes.specs.declared.number.Wide.TheVariants.{W32, W64}
use Rattle.elf_format.specs.declared.constants.TheConstants.{EM_MIPS, SHT_DYNAMIC, SHT_DYNSYM, SHT_GNU_HASH, SHT_GNU_VERDEF, SHT_GNU_VERNEED, SHT_GNU_VERSYM, SHT_HASH, SHT_NOBITS, SHT_NOTE, SHT_NULL, SHT_PROGBITS, SHT_REL, SHT_RELA, SHT_STRTAB, SHT_SYMTAB}
use Rattle.elf_format.specs.declared.form.Form.{Form}
use Rattle.elf_format.specs.declared.records.SectionHeader.{SectionHeader}
use Rattle.elf_format.specs.declared.section_data.SectionData.{SectionData}
use Rattle.elf_format.specs.declared.section_data.SectionData.TheVariants as kinds
use Rattle.elf_format.specs.File.{Parts, has_file_bytes, section_bytes, section_of_type}
use Rattle.elf_format.specs.Form.{by_class}
use Rattle.elf_format.specs.Image.{Image, ImageSection, symbols_of}
use Rattle.elf_format.specs.Options.{is_none_or, is_one_of, is_some_and, kept_if}
use Rattle.elf_format.specs.Records.{Relocation, relocation_size, relocations_in, symbol_numbers, symbol_size}
use Rattle.elf_format.specs.Rules.{data_of, file_of, is_opaque_relocation, is_relocation_section, is_symbol_table, relocated_symbols, relocations_fit, relocations_of, single_section_types}
use Rattle.elf_format.specs.Views.{NamedSymbol}
use Rattle.elf_format.proofs.ForCallers.Placed.{passes_picked}
use Rattle.elf_format.proofs.ForCallers.ViewsAgree.{length-bytes}
use Rattle.elf_image.specs.ReadImage.{AreDynamicSymbols, AreStaticSymbols}
use Rattle.elf_image.specs.Kept.{KeptSection, image_at_read, kept_of_type, kept_sections}
use Rattle.elf_image.specs.Names.{are_names_changed}
use Rattle.elf_image.specs.Relocated.{are_relocations, is_against, names_symbol}
use Rattle.elf_image.specs.Complete.{AreRelocated}
use Rattle.elf_image.specs.Staying.{table_number}
use Rattle.elf_layout_plan.specs.Plan.{resized}
use Rattle.elf_write_spec.specs.Renumbered.{AreRenumbered, new_symbol, renumbered}
use Rattle.elf_write_spec.specs.Contents.{AreRelocationsOf, AreStaticRelocationsOf, IsContentOfKind, content_at_number}
use Rattle.elf_write_spec.specs.Final.{is_static_renumbered, new_dynamic_symbols, new_static_symbols}
use Rattle.elf_write_spec.specs.ReadBack.{HasWrittenParts, written_parts}
use Rattle.elf_write_spec.specs.Output.{IsPlannedOutput, Output}
use Rattle.elf_write_spec.proofs.FinalSymbols.{all_symbols}
use Rattle.elf_write_spec.proofs.LinkedContents.{bytes_there, content_of_kind, section_content, section_kind}
use Rattle.elf_write_spec.proofs.LinkedLists.{all-picked, one_place}
use Rattle.elf_write_spec.proofs.SingleTypes.{one_section}
use Rattle.elf_write_spec.proofs.LinkedMatch.{Both, LinkAt, Neither, each-header, form_kept, is_in, link_at, machine_kept, names_link}
use Rattle.elf_write_spec.proofs.LinkedSizes.{are_single, dynamic_symbol_sizes, only_one, relocation_sizes, symbol_sizes}
use Rattle.elf_write_spec.proofs.LinkedSymbols.{symbol_types}
use Rattle.elf_write_spec.proofs.NumberedSections.{kept_as}
use Rattle.elf_write_spec.proofs.OrderFacts.{names_count, new-at, new_below}
use Rattle.elf_write_spec.proofs.StaticSymbols.{static_below, static_count, static_new}
use Rattle.elf_write_spec.proofs.StaticSymbols.{static_at as static_slot}
use Rattle.elf_write_spec.proofs.WholeLists.{none-passes}
use Rattle.elf_layout_plan.proofs.ForCallers.ApartLists.{any-from}
use Rattle.elf_write_spec.proofs.WholeFacts.{Nowhere, ReadFacts, SectionAt, StaticAt, Stays, There, TypeAt, Went, static_at, type_at}
use Rattle.elf_format.proofs.ForCallers.Lengths.{length-records}
use Rattle.elf_write_spec.proofs.SectionKinds.{kind_by}

-- ## How many symbols a table has

pub symbol_size-pos : (wide : Wide) → 0 < by_class wide 16 24
symbol_size-pos W32 = omega arith
symbol_size-pos W64 = omega arith

module _ (p : Parts) (single : are_single p ≡ true) where
  length-static : (symbols : List NamedSymbol) (i : ℕ) (s : SectionHeader) → slice_get p.sections i ≡ Some s → s.sh_type ≡ SHT_SYMTAB
      → AreStaticSymbols p (section_of_type SHT_SYMTAB p.sections) symbols → length symbols ≡ length (symbols_of p s)
  length-static symbols i s at type are =
      let found : section_of_type SHT_SYMTAB p.sections ≡ Some s = only_one p single SHT_SYMTAB refl i s at type in
      (subst (λ (o : Option SectionHeader). AreStaticSymbols p o symbols) found are).count

  length-dynamic : (symbols : List NamedSymbol) (i : ℕ) (s : SectionHeader) → slice_get p.sections i ≡ Some s → s.sh_type ≡ SHT_DYNSYM
      → AreDynamicSymbols p (section_of_type SHT_GNU_VERSYM p.sections) (section_of_type SHT_DYNSYM p.sections) symbols
      → length symbols ≡ length (symbols_of p s)
  length-dynamic symbols i s at type are =
      let found : section_of_type SHT_DYNSYM p.sections ≡ Some s = only_one p single SHT_DYNSYM refl i s at type in
      (subst (λ (o : Option SectionHeader). AreDynamicSymbols p (section_of_type SHT_GNU_VERSYM p.sections) o symbols) found are).count

module _ (w : Output) (is : IsPlannedOutput w) (f : ReadFacts w) where
  -- as many symbols as the table's bytes have room for
  length-records_read : (i : ℕ) (at : SectionAt w f.parts i) → has_file_bytes at.old ≡ true
      → length (symbols_of f.parts at.old) ≡ at.old.sh_size / symbol_size f.parts.opened.form
  length-records_read i at stored =
      length-records (symbol_numbers f.parts.opened.form) (symbol_size f.parts.opened.form)
      (length (section_bytes (file_of f.parts) at.old) / symbol_size f.parts.opened.form) (section_bytes (file_of f.parts) at.old)
      ∙ ap (λ n. n / symbol_size f.parts.opened.form) (length-bytes f.parts f.rules at.old (is_in w is f i at) stored)

  count_by_size : (size count : ℕ) → size ≡ count * symbol_size w.image.form → size / symbol_size w.image.form ≡ count
  count_by_size size count e =
      ap (λ n. n / symbol_size w.image.form) e ∙ mul-div_left count (symbol_size-pos w.image.form.wide)

  -- the symbols that there are, in a table of a type
  pub count_now : (i : ℕ) (at : SectionAt w f.parts i) → at.old.sh_type ≡ SHT_DYNSYM
      → at.header.sh_size / symbol_size w.image.form ≡ length w.image.dynamic_symbols
  count_now i at dynamic =
      count_by_size at.header.sh_size (length w.image.dynamic_symbols) (dynamic_symbol_sizes w is f i at dynamic)

  pub static_count_now : (i : ℕ) (at : SectionAt w f.parts i) → at.old.sh_type ≡ SHT_SYMTAB
      → at.header.sh_size / symbol_size w.image.form ≡ length w.image.symbols
  static_count_now i at static =
      count_by_size at.header.sh_size (length w.image.symbols) (symbol_sizes w is f i at static)

  -- as many symbols as were read, in a table of a type
  pub count_was : are_single f.parts ≡ true → (i : ℕ) (at : SectionAt w f.parts i) → at.old.sh_type ≡ SHT_DYNSYM
      → at.old.sh_size / symbol_size f.parts.opened.form ≡ length (image_at_read w.image).dynamic_symbols
  count_was single i at dynamic =
      sym (length-dynamic f.parts single (image_at_read w.image).dynamic_symbols at.number at.old at.is_old dynamic f.holds.dynamic_symbols
      ∙ length-records_read i at (ap (λ n. not (n == 0) && not (n == 8)) dynamic))

  pub static_count_was : are_single f.parts ≡ true → (i : ℕ) (at : SectionAt w f.parts i) → at.old.sh_type ≡ SHT_SYMTAB
      → at.old.sh_size / symbol_size f.parts.opened.form ≡ length (image_at_read w.image).symbols
  static_count_was single i at static =
      sym (length-static f.parts single (image_at_read w.image).symbols at.number at.old at.is_old static f.holds.symbols
      ∙ length-records_read i at (ap (λ n. not (n == 0) && not (n == 8)) static))

-- ## Relocations

pub relocation_types : (n : ℕ) → is_one_of (SHT_REL ∷ SHT_RELA ∷ []) n ≡ true → (n ≡ SHT_REL) ⊎ (n ≡ SHT_RELA)
relocation_types n h = elim (or_cases (SHT_REL == n) (SHT_RELA == n || false) h) [
  | inl rel ↦ inl (sym (eqb-true SHT_REL n rel))
  | inr more ↦ elim (or_cases (SHT_RELA == n) false more) [
    | inl rela ↦ inr (sym (eqb-true SHT_RELA n rela))
    | inr none ↦ absurd (false≢true none)
  ]
]

not_bits : (n : ℕ) → (n ≡ SHT_REL) ⊎ (n ≡ SHT_RELA) → (n == SHT_PROGBITS) ≡ false
not_bits n (inl rel) = ap (λ m. m == SHT_PROGBITS) rel
not_bits n (inr rela) = ap (λ m. m == SHT_PROGBITS) rela

-- the symbol table that relocations are against, before and after, or neither
data TableAt (w : Output) (p : Parts) (link : ℕ) (old now : Option SectionHeader) : Type 0 where
  NoTable : old ≡ None → now ≡ None → TableAt w p link old now
  Table : (n : ℕ) (l : SectionAt w p n) → is_symbol_table l.old ≡ true → l.number ≡ link → old ≡ Some l.old → now ≡ Some l.header
      → TableAt w p link old now

-- relocations are kept as they are
abbrev opaque_by : ℕ → Bool → List Relocation → Bool
opaque_by machine apart relocations = machine == EM_MIPS || apart && list_any (λ (r : Relocation). not (r.r_symbol == 0)) relocations

-- relocations name symbols of a table with so many
abbrev pub do_name : ℕ → List Relocation → Bool
do_name count relocations = list_all (λ (r : Relocation). r.r_symbol == 0 || nat_lt r.r_symbol count) relocations

-- a section of relocations that fit, which aren't opaque
abbrev pub fits : Parts → SectionHeader → Bool
fits p s =
    s.sh_size % relocation_size p.opened.form s.sh_type == 0
    && is_none_or (λ (l : SectionHeader). do_name (l.sh_size / symbol_size p.opened.form) (relocations_of p s))
    (relocated_symbols p.sections s)

abbrev pub is_tested : Parts → SectionHeader → Bool
is_tested p s = is_relocation_section s && not (is_opaque_relocation p s)

-- relocations name symbols of a table, where the new number of each is that of one
names_renumbered : (numbers : List ℕ) (count : ℕ) (rs : List Relocation)
    → ((k : ℕ) (r : Relocation) → slice_get rs k ≡ Some r → (r.r_symbol ≡ 0) ⊎ (slice_index numbers r.r_symbol < count))
    → do_name count (map (renumbered (new_symbol numbers)) rs) ≡ true
names_renumbered numbers count [] below = refl
names_renumbered numbers count (r ∷ rs) below =
    and_from (new_symbol numbers r.r_symbol == 0 || nat_lt (new_symbol numbers r.r_symbol) count) _
    (by_symbol (below 0 r refl)) (names_renumbered numbers count rs (λ k x at. below (suc k) x at))
  where
    either : (b : Bool) → (b || true) ≡ true
    either true = refl
    either false = refl

    by_test : (b : Bool) → slice_index numbers r.r_symbol < count
        → ((if b then 0 else slice_index numbers r.r_symbol) == 0 || nat_lt (if b then 0 else slice_index numbers r.r_symbol) count) ≡ true
    by_test true less = refl
    by_test false less =
        ap (λ (b : Bool). slice_index numbers r.r_symbol == 0 || b) (lt-ltb (slice_index numbers r.r_symbol) count less)
        ∙ either (slice_index numbers r.r_symbol == 0)

    by_symbol : (r.r_symbol ≡ 0) ⊎ (slice_index numbers r.r_symbol < count)
        → (new_symbol numbers r.r_symbol == 0 || nat_lt (new_symbol numbers r.r_symbol) count) ≡ true
    by_symbol (inl none) =
        ap (λ (n : ℕ). new_symbol numbers n == 0 || nat_lt (new_symbol numbers n) count) none
    by_symbol (inr less) = by_test (r.r_symbol == 0) less

-- only sections of relocations have relocations
pub relocation_kind : (n : ℕ) (opaque : Bool) → are_relocations (kind_by n opaque) ≡ true
    → (is_one_of (SHT_REL ∷ SHT_RELA ∷ []) n ≡ true) × (opaque ≡ false)
relocation_kind n opaque =
    let P : SectionData → Type 0 = λ k. are_relocations k ≡ true
    → (is_one_of (SHT_REL ∷ SHT_RELA ∷ []) n ≡ true) × (opaque ≡ false) in
    let no : (k : SectionData) → are_relocations k ≡ false → P k = λ k other h. absurd (false≢true (sym other ∙ h)) in
    cond_both (n == SHT_NOBITS) kinds.Uninitialized _ P (λ _. no kinds.Uninitialized refl) (λ _.
    cond_both (n == SHT_DYNAMIC) kinds.Dynamic _ P (λ _. no kinds.Dynamic refl) (λ _.
    cond_both (is_one_of (SHT_REL ∷ SHT_RELA ∷ []) n) (if opaque then kinds.Opaque else kinds.Relocation) _ P
    (λ type. cond_both opaque kinds.Opaque kinds.Relocation P (λ _. no kinds.Opaque refl) (λ plain h. (type, plain))) (λ _.
    cond_both (n == SHT_NOTE) kinds.Note _ P (λ _. no kinds.Note refl) (λ _.
    cond_both (n == SHT_STRTAB) kinds.Strings _ P (λ _. no kinds.Strings refl) (λ _.
    cond_both (n == SHT_SYMTAB) kinds.Symbols _ P (λ _. no kinds.Symbols refl) (λ _.
    cond_both (n == SHT_DYNSYM) kinds.DynamicSymbols _ P (λ _. no kinds.DynamicSymbols refl) (λ _.
    cond_both (n == SHT_HASH) kinds.Hash _ P (λ _. no kinds.Hash refl) (λ _.
    cond_both (n == SHT_GNU_HASH) kinds.GnuHash _ P (λ _. no kinds.GnuHash refl) (λ _.
    cond_both (n == SHT_GNU_VERSYM) kinds.GnuVersym _ P (λ _. no kinds.GnuVersym refl) (λ _.
    cond_both (n == SHT_GNU_VERDEF) kinds.GnuVerdef _ P (λ _. no kinds.GnuVerdef refl) (λ _.
    cond_both (n == SHT_GNU_VERNEED) kinds.GnuVerneed kinds.Opaque P (λ _. no kinds.GnuVerneed refl) (λ _. no kinds.Opaque refl))))))))))))

module _ (w : Output) (is : IsPlannedOutput w) (f : ReadFacts w) where
  abbrev read : Image
  read = image_at_read w.image

  -- ## The table that relocations are against

  table_by : (i : ℕ) (at : SectionAt w f.parts i) → LinkAt w f.parts at.old.sh_link
      → TableAt w f.parts at.old.sh_link (relocated_symbols f.parts.sections at.old) (relocated_symbols w.headers at.header)
  table_by i at (Neither old_none none) =
      NoTable (ap (kept_if is_symbol_table) old_none) (ap (kept_if is_symbol_table) (ap (slice_get w.headers) at.link ∙ none))
  table_by i at (Both j l there new number) = by_test (is_symbol_table l.old) refl
    where
      old_is : (relocated_symbols f.parts.sections at.old) ≡ (if is_symbol_table l.old then Some l.old else None)
      old_is = ap (kept_if is_symbol_table) there

      now_is : (relocated_symbols w.headers at.header) ≡ (if is_symbol_table l.old then Some l.header else None)
      now_is =
          ap (kept_if is_symbol_table) (ap (slice_get w.headers) (at.link ∙ new) ∙ l.is_header)
          ∙ ap (λ n. if is_one_of (SHT_SYMTAB ∷ SHT_DYNSYM ∷ []) n then Some l.header else None) l.type

      by_test : (b : Bool) → is_symbol_table l.old ≡ b
          → TableAt w f.parts at.old.sh_link (relocated_symbols f.parts.sections at.old) (relocated_symbols w.headers at.header)
      by_test true e =
          Table j l e number (old_is ∙ cond-true (is_symbol_table l.old) (Some l.old) None e) (now_is
          ∙ cond-true (is_symbol_table l.old) (Some l.header) None e)
      by_test false e =
          NoTable (old_is ∙ cond-false (is_symbol_table l.old) (Some l.old) None e) (now_is
          ∙ cond-false (is_symbol_table l.old) (Some l.header) None e)

  not_null : (i : ℕ) (at : SectionAt w f.parts i) → (at.old.sh_type ≡ SHT_REL) ⊎ (at.old.sh_type ≡ SHT_RELA) → (at.old.sh_type == SHT_NULL) ≡ false
  not_null i at (inl rel) = ap (λ n. n == SHT_NULL) rel
  not_null i at (inr rela) = ap (λ n. n == SHT_NULL) rela

  table_at : (i : ℕ) (at : SectionAt w f.parts i) → (at.old.sh_type ≡ SHT_REL) ⊎ (at.old.sh_type ≡ SHT_RELA)
      → TableAt w f.parts at.old.sh_link (relocated_symbols f.parts.sections at.old) (relocated_symbols w.headers at.header)
  table_at i at type = table_by i at (link_at w is f i at.old.sh_link at (names_link at (not_null i at type)))

  -- the table of a type that relocations are against
  pub record Against (type i : ℕ) (at : SectionAt w f.parts i) : Type 0 where
    pub table : ℕ
    pub symbols : SectionAt w f.parts table
    pub typed : symbols.old.sh_type ≡ type
    pub named : relocated_symbols f.parts.sections at.old ≡ Some symbols.old

  module _ (i : ℕ) (at : SectionAt w f.parts i) where
    links : (type : ℕ) → is_against (table_number type w.image) at.section ≡ true
        → is_some_and (λ n. n == at.section.sh_link) (table_number type w.image) ≡ true
    links type h = (and_parts (are_relocations at.section.kind) _ h).1

    no_table : (type : ℕ) → is_against (table_number type w.image) at.section ≡ true → kept_of_type type w.image ≡ None → ⊥
    no_table type h none =
        false≢true (sym (ap (λ (o : Option KeptSection). is_some_and (λ n. n == at.section.sh_link)
        (option_map (λ s. s.number) o)) none) ∙ links type h)

    against_by : (type : ℕ) → is_one_of (SHT_SYMTAB ∷ SHT_DYNSYM ∷ []) type ≡ true → is_against (table_number type w.image) at.section ≡ true
        → TypeAt w f.parts type → Against type i at
    against_by type table h (Nowhere was now none) = absurd (no_table type h none)
    against_by type table h (There k d typed was now there) =
        let here : (d.number == at.section.sh_link) ≡ true =
        sym (ap (λ (o : Option KeptSection). is_some_and (λ n. n == at.section.sh_link) (option_map (λ s. s.number) o)) there) ∙ links type h in
        let link : at.old.sh_link ≡ d.number =
        sym (ap (λ (x : ImageSection). x.sh_link) at.of_old.fields) ∙ sym (eqb-true d.number at.section.sh_link here) in
        let is_table : is_symbol_table d.old ≡ true = ap (is_one_of (SHT_SYMTAB ∷ SHT_DYNSYM ∷ [])) typed ∙ table in
        record {
          table = k;
          symbols = d;
          typed = typed;
          named = ap (kept_if is_symbol_table) (ap (slice_get f.parts.sections) link ∙ d.is_old)
              ∙ cond-true (is_symbol_table d.old) (Some d.old) None is_table;
        }

    pub against : is_against (table_number SHT_DYNSYM w.image) at.section ≡ true → Against SHT_DYNSYM i at
    against h = against_by SHT_DYNSYM refl h (type_at w is f SHT_DYNSYM refl)

    pub against_static : is_against (table_number SHT_SYMTAB w.image) at.section ≡ true → Against SHT_SYMTAB i at
    against_static h = by_table (static_at w is f)
      where
        by_table : StaticAt w f.parts → Against SHT_SYMTAB i at
        by_table (Stays t) = against_by SHT_SYMTAB refl h t
        by_table (Went old was now none) = absurd (no_table SHT_SYMTAB h none)

    -- not against both
    pub not_both : is_against (table_number SHT_DYNSYM w.image) at.section ≡ true → is_against (table_number SHT_SYMTAB w.image) at.section ≡ false
    not_both dynamic = false_from_ne_true (is_against (table_number SHT_SYMTAB w.image) at.section) (λ static.
        let a = against dynamic in
        let b = against_static static in
        let same : a.symbols.old ≡ b.symbols.old = same_Some a.symbols.old b.symbols.old (sym a.named ∙ b.named) in
        let types : SHT_DYNSYM ≡ SHT_SYMTAB = sym a.typed ∙ ap (λ (x : SectionHeader). x.sh_type) same ∙ b.typed in
        both_ways (SHT_DYNSYM == SHT_SYMTAB) refl (eq-eqb SHT_DYNSYM SHT_SYMTAB types))

  -- a table that is there is the one of its type
  number_of_type : (j : ℕ) (l : SectionAt w f.parts j) (type : ℕ) → is_one_of single_section_types type ≡ true → l.old.sh_type ≡ type
      → TypeAt w f.parts type → table_number type w.image ≡ Some l.number
  number_of_type j l type single typed (Nowhere was now none) =
      absurd (both_ways (l.old.sh_type == type) (none-passes (λ (s : SectionHeader). s.sh_type == type) f.parts.sections was l.number l.old l.is_old)
      (eq-eqb l.old.sh_type type typed))
  number_of_type j l type single typed (There k d is_typed was now there) =
      let same : d.number ≡ l.number =
      one_place (λ (s : SectionHeader). s.sh_type == type) f.parts.sections d.number l.number d.old l.old (one_section f.parts f.rules type single)
      d.is_old l.is_old (eq-eqb d.old.sh_type type is_typed) (eq-eqb l.old.sh_type type typed) in
      ap (option_map (λ (s : KeptSection). s.number)) there ∙ ap (λ (n : ℕ). Some n) same

  pub dynamic_number : (j : ℕ) (l : SectionAt w f.parts j) → l.old.sh_type ≡ SHT_DYNSYM → table_number SHT_DYNSYM w.image ≡ Some l.number
  dynamic_number j l typed = number_of_type j l SHT_DYNSYM refl typed (type_at w is f SHT_DYNSYM refl)

  pub static_number : (j : ℕ) (l : SectionAt w f.parts j) → l.old.sh_type ≡ SHT_SYMTAB → table_number SHT_SYMTAB w.image ≡ Some l.number
  static_number j l typed = by_table (static_at w is f)
    where
      by_table : StaticAt w f.parts → table_number SHT_SYMTAB w.image ≡ Some l.number
      by_table (Stays t) = number_of_type j l SHT_SYMTAB refl typed t
      by_table (Went old was now none) =
          let type : l.section.sh_type ≡ SHT_SYMTAB = ap (λ (x : ImageSection). x.sh_type) l.of_old.fields ∙ typed in
          absurd (both_ways (l.section.sh_type == SHT_SYMTAB)
          (none-passes (λ (s : KeptSection). s.section.sh_type == SHT_SYMTAB) (kept_sections w.image) none j (kept_as j l.number l.section) l.is_kept)
          (eq-eqb l.section.sh_type SHT_SYMTAB type))

  is_against_it : (i : ℕ) (at : SectionAt w f.parts i) (n : ℕ) (o : Option ℕ) → are_relocations at.section.kind ≡ true → o ≡ Some n
      → n ≡ at.old.sh_link → is_against o at.section ≡ true
  is_against_it i at n o kind there link =
      and_from (are_relocations at.section.kind) (is_some_and (λ m. m == at.section.sh_link) o) kind
      (ap (is_some_and (λ m. m == at.section.sh_link)) there
      ∙ eq-eqb n at.section.sh_link (link ∙ sym (ap (λ (x : ImageSection). x.sh_link) at.of_old.fields)))

  -- ## What their bytes hold

  -- the relocations are renumbered
  abbrev pub are_moved : (i : ℕ) → SectionAt w f.parts i → Bool
  are_moved i at = are_names_changed read w.image && is_against (table_number SHT_DYNSYM w.image) at.section

  abbrev pub are_static_moved : (i : ℕ) → SectionAt w f.parts i → Bool
  are_static_moved i at = is_static_renumbered read w.image && is_against (table_number SHT_SYMTAB w.image) at.section

  section_type : (i : ℕ) (at : SectionAt w f.parts i) → at.section.sh_type ≡ at.old.sh_type
  section_type i at = ap (λ (x : ImageSection). x.sh_type) at.of_old.fields

  kind_now : (i : ℕ) (at : SectionAt w f.parts i) → (at.old.sh_type ≡ SHT_REL) ⊎ (at.old.sh_type ≡ SHT_RELA)
      → data_of f.parts at.old ≡ (if is_opaque_relocation f.parts at.old then kinds.Opaque else kinds.Relocation)
  kind_now i at (inl rel) = ap (λ n. kind_by n (is_opaque_relocation f.parts at.old)) rel
  kind_now i at (inr rela) = ap (λ n. kind_by n (is_opaque_relocation f.parts at.old)) rela

  -- the relocations name dynamic symbols by new numbers, or static ones, or nothing changes
  pub data Moves (i : ℕ) (at : SectionAt w f.parts i) : Type 0 where
    Dynamic : are_names_changed read w.image ≡ true → is_against (table_number SHT_DYNSYM w.image) at.section ≡ true
        → AreRenumbered w.image.form at.section.sh_type (new_dynamic_symbols read w.image) at.section.content at.bytes → Moves i at
    Static : is_static_renumbered read w.image ≡ true → is_against (table_number SHT_SYMTAB w.image) at.section ≡ true
        → AreRenumbered w.image.form at.section.sh_type (new_static_symbols read w.image) at.section.content at.bytes → Moves i at
    Stay : are_moved i at ≡ false → are_static_moved i at ≡ false → at.bytes ≡ at.section.content → Moves i at

  moves_static : (i : ℕ) (at : SectionAt w f.parts i) → are_moved i at ≡ false → AreStaticRelocationsOf (resized w.image) at.section at.bytes → Moves i at
  moves_static i at stay are = by_test (are_static_moved i at) refl
    where
      by_test : (b : Bool) → are_static_moved i at ≡ b → Moves i at
      by_test true moved =
          let both = and_parts (is_static_renumbered read w.image) _ moved in
          Static both.0 both.1 (subst (λ (b : Bool). elim b as (λ _. Type 0) [
            | true ↦ AreRenumbered w.image.form at.section.sh_type (new_static_symbols read w.image) at.section.content at.bytes
            | _ ↦ at.bytes ≡ at.section.content
          ]) moved are)
      by_test false other =
          Stay stay other (subst (λ (b : Bool). elim b as (λ _. Type 0) [
            | true ↦ AreRenumbered w.image.form at.section.sh_type (new_static_symbols read w.image) at.section.content at.bytes
            | _ ↦ at.bytes ≡ at.section.content
          ]) other are)

  moves_by : (i : ℕ) (at : SectionAt w f.parts i) → AreRelocationsOf (resized w.image) at.section at.bytes → Moves i at
  moves_by i at are = by_test (are_moved i at) refl
    where
      by_test : (b : Bool) → are_moved i at ≡ b → Moves i at
      by_test true moved =
          let both = and_parts (are_names_changed read w.image) _ moved in
          Dynamic both.0 both.1 (subst (λ (b : Bool). elim b as (λ _. Type 0) [
            | true ↦ AreRenumbered w.image.form at.section.sh_type (new_dynamic_symbols read w.image) at.section.content at.bytes
            | _ ↦ AreStaticRelocationsOf (resized w.image) at.section at.bytes
          ]) moved are)
      by_test false other =
          moves_static i at other (subst (λ (b : Bool). elim b as (λ _. Type 0) [
            | true ↦ AreRenumbered w.image.form at.section.sh_type (new_dynamic_symbols read w.image) at.section.content at.bytes
            | _ ↦ AreStaticRelocationsOf (resized w.image) at.section at.bytes
          ]) other are)

  pub moves : (i : ℕ) (at : SectionAt w f.parts i) → (at.old.sh_type ≡ SHT_REL) ⊎ (at.old.sh_type ≡ SHT_RELA) → Moves i at
  moves i at type = by_opaque (is_opaque_relocation f.parts at.old) refl
    where
      either : (b : Bool) → (b && false) ≡ false
      either true = refl
      either false = refl

      of_kind : (kind : SectionData) → data_of f.parts at.old ≡ kind → IsContentOfKind (resized w.image) w.plan w.raw
          (content_at_number w.image w.contents at.section.sh_link) (kept_as i at.number at.section) at.bytes kind
      of_kind = content_of_kind w is f i at (not_bits at.old.sh_type type)

      by_opaque : (b : Bool) → is_opaque_relocation f.parts at.old ≡ b → Moves i at
      by_opaque false e =
          moves_by i at (of_kind kinds.Relocation (kind_now i at type ∙ ap (λ (b : Bool). if b then kinds.Opaque else kinds.Relocation) e))
      by_opaque true e =
          let kind : data_of f.parts at.old ≡ kinds.Opaque =
          kind_now i at type ∙ ap (λ (b : Bool). if b then kinds.Opaque else kinds.Relocation) e in
          let apart : (o : Option ℕ) → is_against o at.section ≡ false =
          λ o. ap (λ (k : SectionData). are_relocations k && is_some_and (λ n. n == at.section.sh_link) o) (section_kind w is f i at ∙ kind) in
          Stay (ap (λ (b : Bool). are_names_changed read w.image && b) (apart (table_number SHT_DYNSYM w.image))
          ∙ either (are_names_changed read w.image))
          (ap (λ (b : Bool). is_static_renumbered read w.image && b) (apart (table_number SHT_SYMTAB w.image))
          ∙ either (is_static_renumbered read w.image))
          (of_kind kinds.Opaque kind)

  -- the relocations that were read
  pub relocations_were : (i : ℕ) (at : SectionAt w f.parts i)
      → relocations_in w.image.form at.section.sh_type at.section.content ≡ relocations_of f.parts at.old
  relocations_were i at =
      ap (relocations_in w.image.form at.section.sh_type) (section_content w is f i at)
      ∙ ap (λ n. relocations_in w.image.form n (section_bytes (file_of f.parts) at.old)) (section_type i at)
      ∙ ap (λ (form : Form). relocations_in form at.old.sh_type (section_bytes (file_of f.parts) at.old)) (form_kept w is f)

  -- each of the relocations that are against a table names one of its symbols that are there
  pub symbol_named : (i : ℕ) (at : SectionAt w f.parts i) → (o : Option ℕ) (numbers : List ℕ) → AreRelocated w.image o numbers
      → is_against o at.section ≡ true
      → (k : ℕ) (r : Relocation) → slice_get (relocations_in w.image.form at.section.sh_type at.section.content) k ≡ Some r
      → (r.r_symbol ≡ 0) ⊎ ((m : ℕ) × (slice_get numbers m ≡ Some r.r_symbol))
  symbol_named i at o numbers there against_it k r r_at =
      let s : KeptSection = kept_as i at.number at.section in
      let has : Contains (kept_sections w.image) s =
      (i, slice_get_within (kept_sections w.image) i s at.is_kept, get_or_from_slice_get (kept_sections w.image) i s s at.is_kept) in
      let names : names_symbol w.image.form o r.r_symbol at.section ≡ true =
      and_from (is_against o at.section) _ against_it
      (any-from (λ (x : Relocation). x.r_symbol == r.r_symbol) (relocations_in w.image.form at.section.sh_type at.section.content) k r r_at
      (eq-eqb r.r_symbol r.r_symbol refl)) in
      elim (there s r.r_symbol has names) [
        | inl none ↦ inl none
        | inr (m, within, is_m) ↦ inr (m, slice_get-get_or numbers m r.r_symbol within ∙ ap (λ (n : ℕ). Some n) is_m)
      ]

module _ (w : Output) (is : IsPlannedOutput w) (f : ReadFacts w) (has : HasWrittenParts w) where
  -- ## Those that are written

  relocations_are : (i : ℕ) (at : SectionAt w f.parts i)
      → relocations_of (written_parts w) at.header ≡ relocations_in w.image.form at.section.sh_type at.bytes
  relocations_are i at =
      ap (relocations_in w.image.form at.header.sh_type) (bytes_there w is f has i at)
      ∙ ap (λ n. relocations_in w.image.form n at.bytes) (at.type ∙ sym (section_type w is f i at))

  relocations_same : (i : ℕ) (at : SectionAt w f.parts i) → at.bytes ≡ at.section.content
      → relocations_of (written_parts w) at.header ≡ relocations_of f.parts at.old
  relocations_same i at bytes =
      relocations_are i at ∙ ap (relocations_in w.image.form at.section.sh_type) bytes ∙ relocations_were w is f i at

  -- ## Whether they are kept as they are

  apart_same : (i : ℕ) (at : SectionAt w f.parts i)
      → TableAt w f.parts at.old.sh_link (relocated_symbols f.parts.sections at.old) (relocated_symbols w.headers at.header)
      → is_none (relocated_symbols w.headers at.header) ≡ is_none (relocated_symbols f.parts.sections at.old)
  apart_same i at (NoTable old now) = ap is_none now ∙ sym (ap is_none old)
  apart_same i at (Table n l table number old now) = ap is_none now ∙ sym (ap is_none old)

  by_machine : (i : ℕ) (at : SectionAt w f.parts i) → (at.old.sh_type ≡ SHT_REL) ⊎ (at.old.sh_type ≡ SHT_RELA)
      → is_opaque_relocation (written_parts w) at.header
      ≡ opaque_by f.parts.opened.header.e_machine (is_none (relocated_symbols f.parts.sections at.old))
      (relocations_of (written_parts w) at.header)
  by_machine i at type =
      ap (λ n. opaque_by n (is_none (relocated_symbols w.headers at.header)) (relocations_of (written_parts w) at.header))
      (machine_kept w is f)
      ∙ ap (λ b. opaque_by f.parts.opened.header.e_machine b (relocations_of (written_parts w) at.header))
      (apart_same i at (table_at w is f i at type))

  pub opaque_same : (i : ℕ) (at : SectionAt w f.parts i) → is_relocation_section at.old ≡ true
      → is_opaque_relocation (written_parts w) at.header ≡ is_opaque_relocation f.parts at.old
  opaque_same i at h = by_moves (moves w is f i at type)
    where
      type : (at.old.sh_type ≡ SHT_REL) ⊎ (at.old.sh_type ≡ SHT_RELA)
      type = relocation_types at.old.sh_type h

      -- against a table they are plain
      with_table : is_none (relocated_symbols f.parts.sections at.old) ≡ false
          → is_opaque_relocation (written_parts w) at.header ≡ is_opaque_relocation f.parts at.old
      with_table there =
          by_machine i at type
          ∙ ap (λ b. opaque_by f.parts.opened.header.e_machine b (relocations_of (written_parts w) at.header)) there
          ∙ ap (λ b. opaque_by f.parts.opened.header.e_machine b (relocations_of f.parts at.old)) (sym there)

      by_moves : Moves w is f i at → is_opaque_relocation (written_parts w) at.header ≡ is_opaque_relocation f.parts at.old
      by_moves (Dynamic changed dynamic renumbered) = with_table (ap is_none (against w is f i at dynamic).named)
      by_moves (Static went static renumbered) = with_table (ap is_none (against_static w is f i at static).named)
      by_moves (Stay other apart bytes) =
          by_machine i at type
          ∙ ap (opaque_by f.parts.opened.header.e_machine (is_none (relocated_symbols f.parts.sections at.old)))
          (relocations_same i at bytes)

module _ (w : Output) (is : IsPlannedOutput w) (f : ReadFacts w) (has : HasWrittenParts w) (single : are_single f.parts ≡ true) where
  -- relocations that name dynamic symbols name some that are there
  dynamic_named : (i : ℕ) (at : SectionAt w f.parts i) → is_against (table_number SHT_DYNSYM w.image) at.section ≡ true
      → do_name (length w.image.dynamic_symbols)
      (map (renumbered (new_symbol (new_dynamic_symbols (image_at_read w.image) w.image)))
      (relocations_in w.image.form at.section.sh_type at.section.content)) ≡ true
  dynamic_named i at dynamic =
      let before : Image = image_at_read w.image in
      let all = all_symbols before w.image f in
      names_renumbered (new_dynamic_symbols before w.image) (length w.image.dynamic_symbols)
      (relocations_in w.image.form at.section.sh_type at.section.content) (λ k r r_at.
      elim (symbol_named w is f i at (table_number SHT_DYNSYM w.image) w.image.dynamic_symbol_numbers f.edit.complete.dynamic_relocated dynamic k r r_at) [
        | inl none ↦ inl none
        | inr (m, number) ↦
            inr (omega (arith, new-at before w.image all r.r_symbol (all.below m r.r_symbol number), new_below before w.image all m r.r_symbol number))
      ])

  static_named : (i : ℕ) (at : SectionAt w f.parts i) → is_against (table_number SHT_SYMTAB w.image) at.section ≡ true
      → do_name (length w.image.symbols)
      (map (renumbered (new_symbol (new_static_symbols (image_at_read w.image) w.image)))
      (relocations_in w.image.form at.section.sh_type at.section.content)) ≡ true
  static_named i at static =
      let before : Image = image_at_read w.image in
      names_renumbered (new_static_symbols before w.image) (length w.image.symbols)
      (relocations_in w.image.form at.section.sh_type at.section.content) (λ k r r_at.
      elim (symbol_named w is f i at (table_number SHT_SYMTAB w.image) w.image.symbol_numbers f.edit.complete.static_relocated static k r r_at) [
        | inl none ↦ inl none
        | inr (m, number) ↦
            inr (omega (
              arith,
              static_slot before w.image f r.r_symbol (static_below before w.image f m r.r_symbol number),
              static_new before w.image f m r.r_symbol number,
              slice_get_within w.image.symbol_numbers m r.r_symbol number,
              f.edit.symbols.numbered,
            ))
      ])

  -- what of them holds against their table
  names_by : (i : ℕ) (at : SectionAt w f.parts i) → (at.old.sh_type ≡ SHT_REL) ⊎ (at.old.sh_type ≡ SHT_RELA)
      → are_relocations at.section.kind ≡ true
      → TableAt w f.parts at.old.sh_link (relocated_symbols f.parts.sections at.old) (relocated_symbols w.headers at.header)
      → is_none_or (λ (l : SectionHeader). do_name (l.sh_size / symbol_size f.parts.opened.form) (relocations_of f.parts at.old))
      (relocated_symbols f.parts.sections at.old) ≡ true
      → is_none_or (λ (l : SectionHeader). do_name (l.sh_size / symbol_size w.image.form) (relocations_of (written_parts w) at.header))
      (relocated_symbols w.headers at.header) ≡ true
  names_by i at type kind (NoTable old now) h =
      ap (is_none_or (λ (l : SectionHeader). do_name (l.sh_size / symbol_size w.image.form)
      (relocations_of (written_parts w) at.header))) now
  names_by i at type kind (Table n l table number old now) h =
      ap (is_none_or (λ (k : SectionHeader). do_name (k.sh_size / symbol_size w.image.form)
      (relocations_of (written_parts w) at.header))) now
      ∙ by_type (symbol_types l.old.sh_type table)
    where
      were : do_name (l.old.sh_size / symbol_size f.parts.opened.form) (relocations_of f.parts at.old) ≡ true
      were = sym (ap (is_none_or
          (λ (k : SectionHeader). do_name (k.sh_size / symbol_size f.parts.opened.form) (relocations_of f.parts at.old))) old)
          ∙ h

      -- as they were, they name symbols of as many
      as_read : (count was : ℕ) → l.old.sh_size / symbol_size f.parts.opened.form ≡ was → count ≡ was → at.bytes ≡ at.section.content
          → do_name count (relocations_of (written_parts w) at.header) ≡ true
      as_read count before was same bytes =
          ap (λ m. do_name m (relocations_of (written_parts w) at.header)) (same ∙ sym was)
          ∙ ap (do_name (l.old.sh_size / symbol_size f.parts.opened.form)) (relocations_same w is f has i at bytes) ∙ were

      anew : (count : ℕ) (numbers : List ℕ) → AreRenumbered w.image.form at.section.sh_type numbers at.section.content at.bytes
          → do_name count (map (renumbered (new_symbol numbers)) (relocations_in w.image.form at.section.sh_type at.section.content)) ≡ true
          → do_name count (relocations_of (written_parts w) at.header) ≡ true
      anew count numbers renumbered named =
          ap (do_name count) (relocations_are w is f has i at ∙ renumbered.relocations) ∙ named

      test_false : (a b : Bool) → b ≡ true → (a && b) ≡ false → a ≡ false
      test_false true b is_b h = absurd (both_ways b h is_b)
      test_false false b is_b h = refl

      of_dynamic : is_against (table_number SHT_DYNSYM w.image) at.section ≡ true → l.old.sh_type ≡ SHT_DYNSYM → Moves w is f i at
          → do_name (length w.image.dynamic_symbols) (relocations_of (written_parts w) at.header) ≡ true
      of_dynamic dynamic typed (Dynamic changed _ renumbered) =
          anew (length w.image.dynamic_symbols) (new_dynamic_symbols (image_at_read w.image) w.image) renumbered (dynamic_named i at dynamic)
      of_dynamic dynamic typed (Static went static renumbered) =
          absurd (both_ways (is_against (table_number SHT_SYMTAB w.image) at.section) (not_both w is f i at dynamic) static)
      of_dynamic dynamic typed (Stay other apart bytes) =
          as_read (length w.image.dynamic_symbols) (length (image_at_read w.image).dynamic_symbols) (count_was w is f single n l typed)
          (names_count (image_at_read w.image) w.image
          (test_false (are_names_changed (image_at_read w.image) w.image) (is_against (table_number SHT_DYNSYM w.image) at.section) dynamic other)) bytes

      of_static : is_against (table_number SHT_SYMTAB w.image) at.section ≡ true → l.old.sh_type ≡ SHT_SYMTAB → Moves w is f i at
          → do_name (length w.image.symbols) (relocations_of (written_parts w) at.header) ≡ true
      of_static static typed (Dynamic changed dynamic renumbered) =
          absurd (both_ways (is_against (table_number SHT_SYMTAB w.image) at.section) (not_both w is f i at dynamic) static)
      of_static static typed (Static went _ renumbered) =
          anew (length w.image.symbols) (new_static_symbols (image_at_read w.image) w.image) renumbered (static_named i at static)
      of_static static typed (Stay other apart bytes) =
          as_read (length w.image.symbols) (length (image_at_read w.image).symbols) (static_count_was w is f single n l typed)
          (static_count (image_at_read w.image) w.image f
          (test_false (is_static_renumbered (image_at_read w.image) w.image) (is_against (table_number SHT_SYMTAB w.image) at.section) static apart)) bytes

      by_type : (l.old.sh_type ≡ SHT_SYMTAB) ⊎ (l.old.sh_type ≡ SHT_DYNSYM)
          → do_name (l.header.sh_size / symbol_size w.image.form) (relocations_of (written_parts w) at.header) ≡ true
      by_type (inl static) =
          ap (λ m. do_name m (relocations_of (written_parts w) at.header)) (static_count_now w is f n l static)
          ∙ of_static (is_against_it w is f i at l.number (table_number SHT_SYMTAB w.image) kind (static_number w is f n l static) number)
          static (moves w is f i at type)
      by_type (inr dynamic) =
          ap (λ m. do_name m (relocations_of (written_parts w) at.header)) (count_now w is f n l dynamic)
          ∙ of_dynamic (is_against_it w is f i at l.number (table_number SHT_DYNSYM w.image) kind (dynamic_number w is f n l dynamic) number)
          dynamic (moves w is f i at type)

  sized_read_back : (i : ℕ) (at : SectionAt w f.parts i) → (at.old.sh_type ≡ SHT_REL) ⊎ (at.old.sh_type ≡ SHT_RELA)
      → (at.header.sh_size % relocation_size w.image.form at.header.sh_type == 0) ≡
      (at.old.sh_size % relocation_size f.parts.opened.form at.old.sh_type == 0)
  sized_read_back i at type =
      ap (λ n. n % relocation_size w.image.form at.header.sh_type == 0) (relocation_sizes w is f i at type)
      ∙ ap (λ n. at.old.sh_size % relocation_size w.image.form n == 0) at.type
      ∙ ap (λ (form : Form). at.old.sh_size % relocation_size form at.old.sh_type == 0) (form_kept w is f)

  -- plain relocations are read
  relocations_plain : (i : ℕ) (at : SectionAt w f.parts i) → (at.old.sh_type ≡ SHT_REL) ⊎ (at.old.sh_type ≡ SHT_RELA)
      → not (is_opaque_relocation f.parts at.old) ≡ true → are_relocations at.section.kind ≡ true
  relocations_plain i at type plain =
      ap are_relocations (section_kind w is f i at ∙ kind_now w is f i at type)
      ∙ ap (λ (b : Bool). are_relocations (if b then kinds.Opaque else kinds.Relocation)) (not-true (is_opaque_relocation f.parts at.old) plain)

  fits_read_back : relocations_fit f.parts ≡ true → (i : ℕ) (at : SectionAt w f.parts i) → is_tested (written_parts w) at.header ≡ true
      → fits (written_parts w) at.header ≡ true
  fits_read_back all i at picked =
      let tested = and_parts (is_relocation_section at.header) (not (is_opaque_relocation (written_parts w) at.header)) picked in
      let was : is_relocation_section at.old ≡ true = ap (is_one_of (SHT_REL ∷ SHT_RELA ∷ [])) (sym at.type) ∙ tested.0 in
      let type = relocation_types at.old.sh_type was in
      let plain : not (is_opaque_relocation f.parts at.old) ≡ true = ap not (sym (opaque_same w is f has i at was)) ∙ tested.1 in
      let old : fits f.parts at.old ≡ true =
      passes_picked at.old f.parts.sections (is_in w is f i at) (fits f.parts) (is_tested f.parts) all
      (and_from (is_relocation_section at.old) (not (is_opaque_relocation f.parts at.old)) was plain) in
      let both = and_parts (at.old.sh_size % relocation_size f.parts.opened.form at.old.sh_type == 0) _ old in
      and_from (at.header.sh_size % relocation_size w.image.form at.header.sh_type == 0) _ (sized_read_back i at type ∙ both.0)
      (names_by i at type (relocations_plain i at type plain) (table_at w is f i at type) both.1)

  pub relocations_read_back : relocations_fit f.parts ≡ true → relocations_fit (written_parts w) ≡ true
  relocations_read_back all =
      all-picked (fits (written_parts w)) (is_tested (written_parts w)) w.headers
      (each-header w is f (λ h. is_tested (written_parts w) h ≡ true → fits (written_parts w) h ≡ true) (fits_read_back all))
