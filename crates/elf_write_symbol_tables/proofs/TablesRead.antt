-- A section of symbols as it was read: one record for each symbol that was read, its name in the string table that the section links to.
use Rattle.std.proofs.Common.{◌≡◌, ℕ, ◌*◌, ◌/◌, ◌%◌, Bool, true, List, [], ◌∷◌, length, replicate, refl, sym, ap, ◌∙◌, subst, Option, Some, None, arith}
use Rattle.std.specs.Prelude.{◌&&◌, ◌||◌, not, ◌==◌, nat_le, nat_lt}
use Rattle.std.specs.List.{list_all, slice_get}
use Rattle.std.proofs.lemmas.Bool.{and_parts, cond-true, eq-eqb}
use Rattle.std.proofs.lemmas.Option.{same_Some}
use Rattle.patch_bytes.specs.Memory.{◌>>=◌, Keeps, Memory, memory_of, text_at}
use Rattle.patch_bytes.proofs.MemoryLaws.{Keeps-refl, text_at-keeps}
use Rattle.elf_format.specs.declared.constants.TheConstants.{DT_STRSZ, SHN_LORESERVE, SHT_DYNSYM, SHT_GNU_VERSYM, SHT_SYMTAB}
use Rattle.elf_format.specs.declared.form.Form.{Form}
use Rattle.elf_format.specs.declared.records.SectionHeader.{SectionHeader}
use Rattle.elf_format.specs.declared.records.SymbolNumbers.{SymbolNumbers}
use Rattle.elf_format.specs.declared.version_id.VersionId.{VersionId}
use Rattle.elf_format.specs.Dynamic.{value_of_tag}
use Rattle.elf_format.specs.File.{Parts, linked_section, section_bytes, section_of_type}
use Rattle.elf_format.specs.Image.{Image, ImageSection, symbols_of, versions_read}
use Rattle.elf_format.specs.Options.{is_one_of}
use Rattle.elf_format.specs.Records.{symbol_size, symbols_in}
use Rattle.elf_format.specs.Rules.{are_linked, are_whole, dynamic_texts_of, file_of, infos_are_sections, is_one_of_each, is_symbol_table, raw_entries, relocations_fit, single_section_types, symbols_have_sections, text_users, texts_of, unit_of}
use Rattle.elf_format.specs.Views.{NamedSymbol}
use Rattle.elf_format.proofs.ForCallers.Lengths.{length-sections}
use Rattle.elf_format.proofs.ForCallers.Placed.{IsIn, IsIn-slice_get, passes_picked}
use Rattle.elf_format.proofs.ForCallers.ViewsAgree.{length-bytes, whole_count, whole_entries}
use Rattle.elf_image.specs.Kept.{KeptSection, link_of_type}
use Rattle.elf_image.specs.ReadImage.{AreDynamicSymbols, AreStaticSymbols, AreSymbolsOf}
use Rattle.elf_image_symbols.specs.TableSymbols.{kept_as}
use Rattle.elf_tables.specs.Strings.{StandsAt}
use Rattle.elf_write_symbols.specs.Ready.{IsEditedReady, IsSectionOfType}
use Rattle.elf_write_symbols.proofs.ForCallers.LinkedLists.{found_only}
use Rattle.elf_write_symbols.proofs.ForCallers.SingleTypes.{one_section}
use Rattle.elf_write_symbols.proofs.ForCallers.WholeEdits.{ReadFacts, length-read}
use Rattle.elf_write_strings.specs.WrittenStrings.{content_read}
use Rattle.elf_write_strings.proofs.ForCallers.ReadTables.{first_keeps}
use Rattle.elf_write_strings.proofs.ForCallers.TablesThere.{TableThere, content_at, link_there}
use Rattle.elf_write_strings.proofs.ForCallers.VersionsTexts.{text_stands}
use Rattle.elf_write_symbols.proofs.ForCallers.ReadyFacts as ready
use Rattle.elf_write_symbols.proofs.ForCallers.ReadyFacts.{Here, facts, section_here}
use Rattle.elf_write_symbol_tables.proofs.Fits.{length-symbols}
use Rattle.elf_write_symbol_tables.proofs.Spelled.{symbol_size-positive}

-- a symbol, and the record that it was read from: its name stands in these strings, and its section is one of so many, or special
pub record IsOfRecord (strings : List ℕ) (sections : ℕ) (old : NamedSymbol) (n : SymbolNumbers) : Type 0 where
  pub stands : StandsAt strings n.st_name old.name
  pub version : Option VersionId
  pub fields : old ≡ kept_as n version old.name
  pub section : (nat_lt n.st_shndx sections || nat_le SHN_LORESERVE n.st_shndx) ≡ true

-- a section has one record for each of these symbols
pub record IsTable (read image : Image) (section : ImageSection) (olds : List NamedSymbol) : Type 0 where
  pub count : length (symbols_in image.form section.content) ≡ length olds
  pub sized : length section.content ≡ length olds * symbol_size image.form
  pub each : (i : ℕ) (old : NamedSymbol) (n : SymbolNumbers) → slice_get olds i ≡ Some old
      → slice_get (symbols_in image.form section.content) i ≡ Some n
      → IsOfRecord (content_read image section.sh_link) (length read.sections) old n

-- ## The rule on sections

symbols_right : (p : Parts)
    → (is_one_of_each p.segments p.sections && are_linked p.sections && are_whole p.opened.form p.sections && symbols_have_sections p && relocations_fit p
    && infos_are_sections p)
    ≡ true
    → symbols_have_sections p ≡ true
symbols_right p linked =
    let all =
    and_parts (is_one_of_each p.segments p.sections && are_linked p.sections && are_whole p.opened.form p.sections && symbols_have_sections p && relocations_fit p)
    (infos_are_sections p) linked in
    let more =
    and_parts (is_one_of_each p.segments p.sections && are_linked p.sections && are_whole p.opened.form p.sections && symbols_have_sections p)
    (relocations_fit p) all.0 in
    (and_parts (is_one_of_each p.segments p.sections && are_linked p.sections && are_whole p.opened.form p.sections) (symbols_have_sections p) more.0).1

-- ## A section of a type of symbols

record IsSymbolType (type : ℕ) : Type 0 where
  pub table : is_one_of (SHT_SYMTAB ∷ SHT_DYNSYM ∷ []) type ≡ true
  pub user : is_one_of text_users type ≡ true
  pub single : is_one_of single_section_types type ≡ true
  pub stored : (not (type == 0) && not (type == 8)) ≡ true

module _ (read image : Image) (f : ReadFacts read image) (type : ℕ) (kind : IsSymbolType type) (s : ImageSection)
    (r : Here read image f type s) where
  abbrev p : Parts
  p = f.parts

  abbrev old : SectionHeader
  old = r.at.old

  is_in : IsIn old p.sections
  is_in = IsIn-slice_get p.sections r.at.number old r.at.is_old

  form_is : image.form ≡ p.opened.form
  form_is = f.edit.form ∙ f.holds.form

  -- no other section of that type was read
  found : section_of_type type p.sections ≡ Some old
  found =
      found_only (λ (h : SectionHeader). h.sh_type == type) p.sections r.at.number old (one_section p f.rules type kind.single) r.at.is_old
      (eq-eqb old.sh_type type r.was_typed)

  -- the records are those that were read
  records_were : symbols_in image.form s.content ≡ symbols_of p old
  records_were =
      ap (λ (form : Form). symbols_in form s.content) form_is
      ∙ ap (symbols_in p.opened.form) (ready.content_was read image f type s r)

  -- ## How many bytes

  is_table : is_symbol_table old ≡ true
  is_table = ap (is_one_of (SHT_SYMTAB ∷ SHT_DYNSYM ∷ [])) r.was_typed ∙ kind.table

  long : length s.content ≡ old.sh_size
  long =
      ap length (ready.content_was read image f type s r)
      ∙ length-bytes p f.rules old is_in (ap (λ n. not (n == 0) && not (n == 8)) r.was_typed ∙ kind.stored)

  content_whole : length s.content ≡ length (symbols_in image.form s.content) * symbol_size image.form
  content_whole =
      let size : ℕ = symbol_size p.opened.form in
      let unit : unit_of p.opened.form old ≡ size = cond-true (is_symbol_table old) size _ is_table in
      let whole : old.sh_size % size ≡ 0 = ap (λ n. old.sh_size % n) (sym unit) ∙ whole_entries p f.rules old is_in in
      long
      ∙ sym (whole_count old.sh_size size (symbol_size-positive p.opened.form) whole)
      ∙ ap (λ (n : ℕ). (n / size) * size) (sym long)
      ∙ ap (λ (form : Form). (length s.content / symbol_size form) * symbol_size form) (sym form_is)
      ∙ ap (λ (n : ℕ). n * symbol_size image.form) (sym (length-symbols image.form s.content))

  -- ## Names and sections

  -- the bytes of the string table, as they were read
  strings_were : texts_of p (linked_section p.sections old) ≡ memory_of (content_read image s.sh_link)
  strings_were =
      let t : TableThere read image p r.at.section.sh_link = link_there read image f r.position r.at (ap (is_one_of text_users) r.was_typed ∙ kind.user) in
      let link : r.at.section.sh_link ≡ old.sh_link = ap (λ (x : ImageSection). x.sh_link) r.at.of_old.fields in
      let linked : linked_section p.sections old ≡ Some t.at.old =
      ap (λ (n : ℕ). slice_get p.sections n) (sym link ∙ sym t.is_number) ∙ t.at.is_old in
      let own : s.sh_link ≡ t.at.number = ap (λ (x : ImageSection). x.sh_link) (sym r.own) ∙ sym t.is_number in
      let same : content_read image s.sh_link ≡ section_bytes (file_of p) t.at.old =
      ap (content_read image) own ∙ content_at read image f t.i t.at ∙ ap (λ (x : ImageSection). x.content) t.at.of_old.fields in
      ap (texts_of p) linked ∙ ap (λ (xs : List ℕ). memory_of xs) (sym same)

  -- each record names a section that was read
  section_there : (i : ℕ) (n : SymbolNumbers) → slice_get (symbols_in image.form s.content) i ≡ Some n
      → (nat_lt n.st_shndx (length read.sections) || nat_le SHN_LORESERVE n.st_shndx) ≡ true
  section_there i n at =
      let count : length read.sections ≡ p.opened.header.e_shnum =
      length-read read image f ∙ length-sections p.opened p.sections f.are_parts.sections in
      let test : SymbolNumbers → Bool = λ y. nat_lt y.st_shndx p.opened.header.e_shnum || nat_le SHN_LORESERVE y.st_shndx in
      let all : list_all test (symbols_of p old) ≡ true =
      passes_picked old p.sections is_in (λ h. list_all test (symbols_in p.opened.form (section_bytes (file_of p) h))) is_symbol_table
      (symbols_right p f.rules.linked) is_table in
      let there : slice_get (symbols_of p old) i ≡ Some n = ap (λ (l : List SymbolNumbers). slice_get l i) (sym records_were) ∙ at in
      ap (λ (k : ℕ). nat_lt n.st_shndx k || nat_le SHN_LORESERVE n.st_shndx) count
      ∙ (IsIn-slice_get (symbols_of p old) i n there).passes test all

  -- ## All of it

  of_texts : (texts : Memory) (versions : List (Option VersionId)) (olds : List NamedSymbol) → Keeps texts (texts_of p (linked_section p.sections old))
      → AreSymbolsOf (length (file_of p)) texts (symbols_of p old) versions olds → IsTable read image s olds
  of_texts texts versions olds keeps were =
      let room : ℕ = length (file_of p) in
      let all : Memory = texts_of p (linked_section p.sections old) in
      let strings : List ℕ = content_read image s.sh_link in
      let count : length (symbols_in image.form s.content) ≡ length olds = ap length records_were ∙ sym were.count in
      record {
        count = count;
        sized = content_whole ∙ ap (λ (n : ℕ). n * symbol_size image.form) count;
        each = λ i y n y_at n_at.
            let (m, version, m_at, _, of) = were.each i y y_at in
            let same : m ≡ n = same_Some m n (sym m_at ∙ ap (λ (l : List SymbolNumbers). slice_get l i) (sym records_were) ∙ n_at) in
            let named : text_at room texts n.st_name ≡ Some y.name = ap (λ (k : SymbolNumbers). text_at room texts k.st_name) (sym same) ∙ of.name in
            let there : text_at room (memory_of strings) n.st_name ≡ Some y.name =
            ap (λ (t : Memory). text_at room t n.st_name) (sym strings_were)
            ∙ text_at-keeps room room (omega arith) texts all keeps n.st_name y.name named in
            record {
              stands = text_stands room strings n.st_name y.name there;
              version = version;
              fields = of.fields ∙ ap (λ (k : SymbolNumbers). kept_as k version y.name) same;
              section = section_there i n n_at;
            };
      }

-- ## Both tables

dynamic_type : IsSymbolType SHT_DYNSYM
dynamic_type = record { table = refl; user = refl; single = refl; stored = refl }

static_type : IsSymbolType SHT_SYMTAB
static_type = record { table = refl; user = refl; single = refl; stored = refl }

module _ (read image : Image) (is : IsEditedReady read image) (s : ImageSection) where
  abbrev f : ReadFacts read image
  f = facts read image is

  pub dynamic_table : IsSectionOfType SHT_DYNSYM image s → IsTable read image s read.dynamic_symbols
  dynamic_table at =
      let r = section_here read image f SHT_DYNSYM s at in
      let p : Parts = f.parts in
      let all : Memory = texts_of p (linked_section p.sections r.at.old) in
      of_texts read image f SHT_DYNSYM dynamic_type s r (dynamic_texts_of p (linked_section p.sections r.at.old))
      (versions_read p (section_of_type SHT_GNU_VERSYM p.sections) (length (symbols_of p r.at.old))) read.dynamic_symbols
      (first_keeps (value_of_tag DT_STRSZ (raw_entries p)) all)
      (subst (λ (o : Option SectionHeader). AreDynamicSymbols p (section_of_type SHT_GNU_VERSYM p.sections) o read.dynamic_symbols)
      (found read image f SHT_DYNSYM dynamic_type s r) f.holds.dynamic_symbols)

  pub static_table : IsSectionOfType SHT_SYMTAB image s → IsTable read image s read.symbols
  static_table at =
      let r = section_here read image f SHT_SYMTAB s at in
      let p : Parts = f.parts in
      let all : Memory = texts_of p (linked_section p.sections r.at.old) in
      of_texts read image f SHT_SYMTAB static_type s r all
      (replicate (length (symbols_of p r.at.old)) None) read.symbols
      (Keeps-refl all)
      (subst (λ (o : Option SectionHeader). AreStaticSymbols p o read.symbols)
      (found read image f SHT_SYMTAB static_type s r) f.holds.symbols)

-- where a section of symbols links
links : (read image : Image) → (f : ReadFacts read image) → (type : ℕ) → IsSymbolType type → (s : ImageSection) → IsSectionOfType type image s
    → link_of_type type image ≡ Some s.sh_link
links read image f type kind s at =
    let r = section_here read image f type s at in
    ap (λ (o : Option KeptSection). o >>= λ k. Some k.section.sh_link) (ready.one_kept read image f type s r kind.single)

pub dynamic_link : (read image : Image) → IsEditedReady read image → (s : ImageSection) → IsSectionOfType SHT_DYNSYM image s
    → link_of_type SHT_DYNSYM image ≡ Some s.sh_link
dynamic_link read image is s at = links read image (facts read image is) SHT_DYNSYM dynamic_type s at

pub static_link : (read image : Image) → IsEditedReady read image → (s : ImageSection) → IsSectionOfType SHT_SYMTAB image s
    → link_of_type SHT_SYMTAB image ≡ Some s.sh_link
static_link read image is s at = links read image (facts read image is) SHT_SYMTAB static_type s at
