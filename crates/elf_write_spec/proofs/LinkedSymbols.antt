-- The symbols of a written file name sections that are there.
use Rattle.std.proofs.Common.{◌≡◌, ◌⊎◌, ℕ, zero, suc, Bool, true, false, List, [], ◌∷◌, refl, sym, ap, ◌∙◌, inl, inr, length, Some, arith}
use Rattle.std.specs.Prelude.{◌||◌, ◌==◌, nat_le, nat_lt}
use Rattle.std.specs.List.{list_all, slice_get}
use Rattle.std.proofs.lemmas.Bool.{and_from, eqb-true, false≢true, lt-ltb, or_cases}
use Rattle.elf_format.specs.declared.constants.TheConstants.{SHN_LORESERVE, SHT_DYNSYM, SHT_SYMTAB}
use Rattle.elf_format.specs.declared.records.SectionHeader.{SectionHeader}
use Rattle.elf_format.specs.declared.records.SymbolNumbers.{SymbolNumbers}
use Rattle.elf_format.specs.File.{section_bytes}
use Rattle.elf_format.specs.Options.{is_one_of}
use Rattle.elf_format.specs.Records.{symbols_in}
use Rattle.elf_format.specs.Rules.{is_symbol_table, symbols_have_sections}
use Rattle.elf_format.specs.Views.{NamedSymbol}
use Rattle.elf_image.specs.Kept.{image_at_read}
use Rattle.elf_write_spec.specs.ReadBack.{HasWrittenParts, written_parts}
use Rattle.elf_write_spec.specs.Contents.{AreSymbolsOf}
use Rattle.elf_write_spec.specs.Final.{final, new_symbol_section}
use Rattle.elf_write_spec.specs.Output.{IsPlannedOutput, Output, written_bytes}
use Rattle.elf_write_spec.proofs.FinalSymbols.{final_at}
use Rattle.elf_write_spec.proofs.StaticSymbols.{final_static, section_moves}
use Rattle.elf_write_spec.proofs.ContentFacts.{dynamic_symbols_shown, linked_bytes, symbols_shown}
use Rattle.elf_write_spec.proofs.RuleKind.{some_place}
use Rattle.elf_write_spec.proofs.LinkedContents.{bytes_there}
use Rattle.elf_write_spec.proofs.LinkedLists.{all-picked}
use Rattle.elf_write_spec.proofs.LinkedMatch.{each-header}
use Rattle.elf_write_spec.proofs.WholeFacts.{ReadFacts, SectionAt, lengths}

-- a symbol's section is there, or its number has a special meaning
abbrev pub is_section_there : ℕ → ℕ → Bool
is_section_there count number = nat_lt number count || nat_le SHN_LORESERVE number

-- a symbol table is one of two types
pub symbol_types : (n : ℕ) → is_one_of (SHT_SYMTAB ∷ SHT_DYNSYM ∷ []) n ≡ true → (n ≡ SHT_SYMTAB) ⊎ (n ≡ SHT_DYNSYM)
symbol_types n h = elim (or_cases (SHT_SYMTAB == n) (SHT_DYNSYM == n || false) h) [
  | inl static ↦ inl (sym (eqb-true SHT_SYMTAB n static))
  | inr more ↦ elim (or_cases (SHT_DYNSYM == n) false more) [
    | inl dynamic ↦ inr (sym (eqb-true SHT_DYNSYM n dynamic))
    | inr none ↦ absurd (false≢true none)
  ]
]

-- records of symbols have the sections of the symbols
records_pass : (count : ℕ) (strings : List ℕ) (ys : List NamedSymbol) (ns : List SymbolNumbers) → AreSymbolsOf strings ys ns
    → ((i : ℕ) (y : NamedSymbol) → slice_get ys i ≡ Some y → is_section_there count y.st_shndx ≡ true)
    → list_all (λ (n : SymbolNumbers). is_section_there count n.st_shndx) ns ≡ true
records_pass count strings [] [] h each = refl
records_pass count strings [] (n ∷ ns) h each = absurd h
records_pass count strings (y ∷ ys) [] h each = absurd h
records_pass count strings (y ∷ ys) (n ∷ ns) h each =
    and_from (is_section_there count n.st_shndx) _ (ap (is_section_there count) h.0.st_shndx ∙ each zero y refl)
    (records_pass count strings ys ns h.1 (λ i z at. each (suc i) z at))

module _ (w : Output) (is : IsPlannedOutput w) (f : ReadFacts w) (has : HasWrittenParts w) where
  -- the number that a symbol's section gets
  section_passes : (x : NamedSymbol) → is_section_there (length w.image.sections) (new_symbol_section w.image x.st_shndx) ≡ true
  section_passes x =
      let n : ℕ = new_symbol_section w.image x.st_shndx in
      let long = lengths w is f in
      elim (section_moves (image_at_read w.image) w.image f (omega (arith, some_place w is f, long.places, long.sections)) x.st_shndx) [
        | inl special ↦ ap (is_section_there (length w.image.sections)) special.1 ∙ special_passes (nat_lt x.st_shndx (length w.image.sections)) special.0
        | inr less ↦ ap (λ (b : Bool). b || nat_le SHN_LORESERVE n) (lt-ltb n (length w.image.sections) less)
      ]
    where
      special_passes : (b : Bool) {c : Bool} → c ≡ true → (b || c) ≡ true
      special_passes true h = refl
      special_passes false h = h

  dynamic_pass : (i : ℕ) (y : NamedSymbol) → slice_get (final (image_at_read w.image) w.image).dynamic_symbols i ≡ Some y
      → is_section_there (length w.image.sections) y.st_shndx ≡ true
  dynamic_pass i y at =
      let (x, _, made) = final_at (image_at_read w.image) w.image f i y at in
      ap (λ (z : NamedSymbol). is_section_there (length w.image.sections) z.st_shndx) made ∙ section_passes x

  static_pass : (i : ℕ) (y : NamedSymbol) → slice_get (final (image_at_read w.image) w.image).symbols i ≡ Some y
      → is_section_there (length w.image.sections) y.st_shndx ≡ true
  static_pass i y at =
      let (x, _, made) = final_static (image_at_read w.image) w.image f i y at in
      ap (λ (z : NamedSymbol). is_section_there (length w.image.sections) z.st_shndx) made ∙ section_passes x

  table_read_back : (i : ℕ) (at : SectionAt w f.parts i) → (at.old.sh_type ≡ SHT_SYMTAB) ⊎ (at.old.sh_type ≡ SHT_DYNSYM)
      → list_all (λ (y : SymbolNumbers). is_section_there (length w.image.sections) y.st_shndx) (symbols_in w.image.form at.bytes) ≡ true
  table_read_back i at (inl static) =
      records_pass (length w.image.sections) (linked_bytes w is f i at) (final (image_at_read w.image) w.image).symbols
      (symbols_in w.image.form at.bytes) (symbols_shown w is f i at static) static_pass
  table_read_back i at (inr dynamic) =
      records_pass (length w.image.sections) (linked_bytes w is f i at) (final (image_at_read w.image) w.image).dynamic_symbols
      (symbols_in w.image.form at.bytes) (dynamic_symbols_shown w is f i at dynamic) dynamic_pass

  pub symbols_read_back : symbols_have_sections (written_parts w) ≡ true
  symbols_read_back =
      all-picked (λ (s : SectionHeader). list_all
      (λ (y : SymbolNumbers). is_section_there (written_parts w).opened.header.e_shnum y.st_shndx)
      (symbols_in w.image.form (section_bytes (written_bytes w) s))) is_symbol_table w.headers
      (each-header w is f (λ h. is_symbol_table h ≡ true → list_all
      (λ (y : SymbolNumbers). is_section_there (written_parts w).opened.header.e_shnum y.st_shndx)
      (symbols_in w.image.form (section_bytes (written_bytes w) h)) ≡ true) (λ i at picked.
      ap (λ bytes. list_all (λ (y : SymbolNumbers). is_section_there (written_parts w).opened.header.e_shnum y.st_shndx)
      (symbols_in w.image.form bytes))
      (bytes_there w is f has i at)
      ∙ ap (λ count. list_all (λ (y : SymbolNumbers). is_section_there count y.st_shndx) (symbols_in w.image.form at.bytes))
      (lengths w is f).places
      ∙ table_read_back i at (symbol_types at.old.sh_type (ap (is_one_of (SHT_SYMTAB ∷ SHT_DYNSYM ∷ [])) (sym at.type) ∙ picked))))
