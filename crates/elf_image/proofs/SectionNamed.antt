-- A section that gets another name leaves an image that was read and edited.
use Rattle.std.proofs.Common.{◌≡◌, ℕ, Bool, true, List, drop, get_or, refl, sym, ap, ◌∙◌, Option, Some, None}
use Rattle.std.specs.Prelude.{◌||◌, ◌==◌, All, Contains, IsSome, is_some, nat_le}
use Rattle.std.specs.Option.{option_map}
use Rattle.std.proofs.lemmas.Bool.{true≢false}
use Rattle.std.proofs.lemmas.Option.{none-some}
use Rattle.patch_bytes.specs.Memory.{◌>>=◌}
use Rattle.elf_format.specs.declared.constants.TheConstants.{SHN_LORESERVE, SHT_DYNSYM, SHT_GNU_HASH, SHT_HASH, SHT_SYMTAB}
use Rattle.elf_format.specs.Image.{Image, ImageSection}
use Rattle.elf_format.specs.Views.{NamedSymbol}
use Rattle.elf_image_symbols.specs.EditedList.{changed_at}
use Rattle.elf_image.specs.Complete.{has_section}
use Rattle.elf_image.specs.Edited.{IsEdited, IsName, IsSameSection}
use Rattle.elf_image.specs.Kept.{KeptSection, interpreter_number, kept_at_number, kept_of_type, kept_sections}
use Rattle.elf_image.specs.Needed.{names_section}
use Rattle.elf_image.specs.SectionEdits.{with_section_name}
use Rattle.elf_image.proofs.SectionsLeft.{AreSectionsLeft, Unnamed, both_some, number_stays, section_was, sections_renamed, table_stays, type_stays, unnamed}
use Rattle.elf_image.proofs.SymbolsKept.{picked_changed}
use Rattle.elf_image.proofs.TablesLeft.{relocated_left, renumbers_left}

none_same : (o q : Option KeptSection) → option_map unnamed o ≡ option_map unnamed q → o ≡ None → q ≡ None
none_same o None same none = refl
none_same o (Some k) same none = absurd (none-some (unnamed k) (sym (ap (option_map unnamed) none) ∙ same))

named_section : (name : List ℕ) → IsName name → (old s : ImageSection) → IsSameSection old s → IsSameSection old (with_section_name name s)
named_section name whole old s is = (whole, ap (with_section_name name) is.1)

module _ (image : Image) (i : ℕ) (name : List ℕ) (whole : IsName name) (h : IsEdited image) where
  abbrev new : Image
  new = record image { changed = true; sections = changed_at i (with_section_name name) image.sections }

  abbrev keep : ℕ → Bool
  keep n = true

  left : AreSectionsLeft keep image new
  left = sections_renamed i name image new refl refl

  still : (n : ℕ) → is_some (kept_at_number n new) ≡ is_some (kept_at_number n image)
  still n = number_stays keep image new left n refl

  same_type : (type : ℕ) → option_map unnamed (kept_of_type type new) ≡ option_map unnamed (kept_of_type type image)
  same_type type = type_stays keep image new left type (λ k has typed. refl)

  linked_still : (s t : KeptSection) → Contains (kept_sections new) s → Contains (kept_sections h.read) t → names_section s.section t.number ≡ true → IsSome (kept_at_number t.number new)
  linked_still s t has t_has names =
      let (old, old_has, same, _) = section_was keep image new left s has in
      still t.number ∙ h.is_edit.complete.linked old t old_has t_has (ap (λ (x : Unnamed). names_section x.1 t.number) same ∙ names)

  sections_still : (ys : List NamedSymbol) → All (λ y. has_section image y ≡ true) ys → All (λ y. has_section new y ≡ true) ys
  sections_still ys all j d less =
      let y : NamedSymbol = get_or ys j d in
      ap (λ (b : Bool). y.st_shndx == 0 || nat_le SHN_LORESERVE y.st_shndx || b) (still y.st_shndx) ∙ all j d less

  interpreter_still : (o : Option ℕ) → IsSome (o >>= λ number. kept_at_number number image) → IsSome (o >>= λ number. kept_at_number number new)
  interpreter_still None is = is
  interpreter_still (Some n) is = still n ∙ is

  pub with_section_named : IsEdited new
  with_section_named = record {
    read = h.read;
    is_read = h.is_read;
    is_edit = record {
      form = h.is_edit.form;
      header = h.is_edit.header;
      segments = h.is_edit.segments;
      sections = picked_changed IsSameSection (with_section_name name) h.read.sections image.section_numbers image.sections i (named_section name whole) h.is_edit.sections;
      symbols = h.is_edit.symbols;
      dynamic_symbols = h.is_edit.dynamic_symbols;
      definitions = h.is_edit.definitions;
      needs = h.is_edit.needs;
      entries = h.is_edit.entries;
      interpreter = h.is_edit.interpreter;
      complete = record {
        lasting = λ s has lasts. still s.number ∙ h.is_edit.complete.lasting s has lasts;
        linked = linked_still;
        first_dynamic = h.is_edit.complete.first_dynamic;
        first_static = λ some. h.is_edit.complete.first_static (sym (both_some (kept_of_type SHT_SYMTAB new) (kept_of_type SHT_SYMTAB image) (same_type SHT_SYMTAB)) ∙ some);
        no_static = λ none. h.is_edit.complete.no_static (none_same (kept_of_type SHT_SYMTAB new) (kept_of_type SHT_SYMTAB image) (same_type SHT_SYMTAB) none);
        dynamic_sections = sections_still image.dynamic_symbols h.is_edit.complete.dynamic_sections;
        static_sections = sections_still (drop 1 image.symbols) h.is_edit.complete.static_sections;
        dynamic_relocated = relocated_left keep image new left refl SHT_DYNSYM image.dynamic_symbol_numbers (table_stays keep image new left SHT_DYNSYM (λ k has typed. refl))
            h.is_edit.complete.dynamic_relocated;
        static_relocated = relocated_left keep image new left refl SHT_SYMTAB image.symbol_numbers (table_stays keep image new left SHT_SYMTAB (λ k has typed. refl))
            h.is_edit.complete.static_relocated;
        tables = λ changed. renumbers_left keep image new left refl (same_type SHT_HASH) (same_type SHT_GNU_HASH) (table_stays keep image new left SHT_DYNSYM (λ k has typed. refl))
            (h.is_edit.complete.tables changed);
        interpreter = h.is_edit.complete.interpreter;
        interpreter_section = λ some. interpreter_still (interpreter_number h.read) (h.is_edit.complete.interpreter_section some);
      };
      unchanged = λ e. absurd (true≢false e);
    };
  }
