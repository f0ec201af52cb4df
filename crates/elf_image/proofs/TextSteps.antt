-- The steps of reading the parts of an image that have texts.
use Rattle.std.proofs.Common.{◌≡◌, ℕ, List, [], length, refl, sym, ap, ◌∙◌, Option, Some, None}
use Rattle.std.specs.Prelude.{option_map}
use Rattle.std.specs.List.{slice_get}
use Rattle.patch_bytes.specs.Memory.{◌>>=◌, Memory}
use Rattle.elf_format.specs.declared.constants.TheConstants.{SHT_GNU_VERSYM}
use Rattle.elf_format.specs.declared.view_fault.ViewFault.{ViewFault}
use Rattle.elf_format.specs.declared.view_fault.ViewFault.TheVariants as faults
use Rattle.elf_format.specs.declared.section_data.SectionData.{SectionData}
use Rattle.elf_format.specs.Dynamic.{Entry, shown_entry}
use Rattle.elf_format.specs.File.{Parts, linked_section, section_bytes, section_of_type}
use Rattle.elf_format.specs.Image.{dynamic_symbols_read, entries_read, section_read, static_symbols, versions_read}
use Rattle.elf_format.specs.Options.{each}
use Rattle.elf_format.specs.Answers.{Fails}
use Rattle.elf_format.specs.declared.records.SectionHeader.{SectionHeader}
use Rattle.elf_format.specs.declared.records.SymbolNumbers.{SymbolNumbers}
use Rattle.elf_format.specs.Records.{symbols_in}
use Rattle.elf_format.specs.Rules.{data_of, file_of, linked_texts, raw_entries, texts_of}
use Rattle.elf_image.specs.TextSteps.{named_section}
use Rattle.elf_image_symbols.specs.TableSymbols.{table_symbols, versions_in}
use Rattle.elf_format.specs.Views.{named_symbols, names_of}

-- ## Sections

-- a section that stands for none
abbrev pub no_section : SectionHeader
no_section = record { sh_name = 0; sh_type = 0; sh_flags = 0; sh_addr = 0; sh_offset = 0; sh_size = 0; sh_link = 0; sh_info = 0; sh_addralign = 0; sh_entsize = 0 }

-- a section is read with the names and the kind that belong to it
pub section_named : (p : Parts) (texts : Memory) (s : SectionHeader) (kind : SectionData) → texts ≡ texts_of p (slice_get p.sections p.opened.header.e_shstrndx) → kind ≡ data_of p s
    → named_section (file_of p) texts s kind ≡ section_read p s
unfolding named_section section_read
section_named p texts s kind same_texts same_kind =
    ap (λ t. named_section (file_of p) t s kind) same_texts ∙ ap (named_section (file_of p) (texts_of p (slice_get p.sections p.opened.header.e_shstrndx)) s) same_kind

-- ## By the one section of a type

module _ (p : Parts) (o : Option SectionHeader) where
  pub static_none : None ≡ o → static_symbols p o ≡ Some []
  unfolding static_symbols
  static_none e = ap (static_symbols p) (sym e)

  pub static_some : (s : SectionHeader) (texts : Memory) (bytes : List ℕ) → Some s ≡ o → texts ≡ texts_of p (linked_section p.sections s) → bytes ≡ section_bytes (file_of p) s
      → table_symbols p.opened.form (length (file_of p)) texts bytes None ≡ static_symbols p o
  unfolding static_symbols table_symbols versions_in
  static_some s texts bytes e same_texts same_bytes =
      ap (λ t. table_symbols p.opened.form (length (file_of p)) t bytes None) same_texts
      ∙ ap (λ b. table_symbols p.opened.form (length (file_of p)) (texts_of p (linked_section p.sections s)) b None) same_bytes
      ∙ ap (static_symbols p) e

  pub dynamic_none : None ≡ o → dynamic_symbols_read p o ≡ Some []
  unfolding dynamic_symbols_read
  dynamic_none e = ap (dynamic_symbols_read p) (sym e)

  pub entries_none : None ≡ o → entries_read p o ≡ Some None
  unfolding entries_read
  entries_none e = ap (entries_read p) (sym e)

-- the versions of a section's bytes, where there is such a section
pub versions_by_section : (p : Parts) (o : Option SectionHeader) (count : ℕ) → versions_in p.opened.form (option_map (section_bytes (file_of p)) o) count ≡ versions_read p o count
unfolding versions_in versions_read
versions_by_section p None count = refl
versions_by_section p (Some s) count = refl

module _ (p : Parts) (o : Option SectionHeader) (s : SectionHeader) (texts : Memory) (is : Some s ≡ o) (same_texts : texts ≡ linked_texts p s) where
  pub dynamic_some : (bytes : List ℕ) (versions : Option (List ℕ)) → bytes ≡ section_bytes (file_of p) s
      → versions ≡ option_map (section_bytes (file_of p)) (section_of_type SHT_GNU_VERSYM p.sections)
      → table_symbols p.opened.form (length (file_of p)) texts bytes versions ≡ dynamic_symbols_read p o
  unfolding dynamic_symbols_read table_symbols
  dynamic_some bytes versions same_bytes same_versions =
      let ys : List SymbolNumbers = symbols_in p.opened.form (section_bytes (file_of p) s) in
      let found : Option SectionHeader = section_of_type SHT_GNU_VERSYM p.sections in
      ap (λ t. table_symbols p.opened.form (length (file_of p)) t bytes versions) same_texts
      ∙ ap (λ b. table_symbols p.opened.form (length (file_of p)) (linked_texts p s) b versions) same_bytes
      ∙ ap (table_symbols p.opened.form (length (file_of p)) (linked_texts p s) (section_bytes (file_of p) s)) same_versions
      ∙ ap (λ vs. names_of (length (file_of p)) (linked_texts p s) ys >>= (λ ns. Some (named_symbols ys ns vs))) (versions_by_section p found (length ys))
      ∙ ap (dynamic_symbols_read p) is

  entries_by : each (shown_entry (length (file_of p)) texts) (raw_entries p) >>= (λ es. Some (Some es)) ≡ entries_read p o
  unfolding entries_read
  entries_by = ap (λ t. each (shown_entry (length (file_of p)) t) (raw_entries p) >>= (λ es. Some (Some es))) same_texts ∙ ap (entries_read p) is

  pub entries_fail : (fault : ViewFault) → Fails fault (each (shown_entry (length (file_of p)) texts) (raw_entries p)) → Fails fault (entries_read p o)
  entries_fail faults.Absent h = sym entries_by ∙ ap (λ v. v >>= (λ es. Some (Some es))) h
  entries_fail faults.Memory h = tt

  pub entries_some : (es : List Entry) → each (shown_entry (length (file_of p)) texts) (raw_entries p) ≡ Some es → entries_read p o ≡ Some (Some es)
  entries_some es h = sym entries_by ∙ ap (λ v. v >>= (λ l. Some (Some l))) h
