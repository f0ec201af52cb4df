-- Relocations of an image name symbols that are there.
use Rattle.std.proofs.Common.{◌≡◌, ◌⊎◌, ℕ, ◌<◌, List, length, map, get_or, Bool, true, false, not, refl, sym, ap, ◌∙◌, subst, inl, inr, Option, Some, None, arith}
use Rattle.std.specs.Prelude.{◌&&◌, ◌||◌, ◌==◌, Contains, if◌then◌else◌, nat_lt}
use Rattle.std.specs.List.{list_any, slice_get}
use Rattle.std.proofs.lemmas.Bool.{and_from, and_parts, eq-eqb, eqb-true, false≢true, lt-ltb}
use Rattle.std.proofs.lemmas.List.{length-map}
use Rattle.std.proofs.lemmas.List.Folds.{list_any_at}
use Rattle.std.proofs.lemmas.Option.{get_or_from_slice_get, none-some, same_Some, slice_get-get_or, slice_get_within}
use Rattle.elf_format.specs.declared.constants.TheConstants.{SHT_DYNSYM, SHT_SYMTAB}
use Rattle.elf_format.specs.declared.records.SectionHeader.{SectionHeader}
use Rattle.elf_format.specs.declared.section_data.SectionData.TheVariants as kinds
use Rattle.elf_format.specs.File.{Parts}
use Rattle.elf_format.specs.Image.{Image, ImageSection, counted}
use Rattle.elf_format.specs.Options.{first_there}
use Rattle.elf_format.specs.Records.{Relocation, relocations_in}
use Rattle.elf_format.specs.Rules.{data_of}
use Rattle.elf_format.proofs.ForCallers.Lengths.{length-counted}
use Rattle.elf_image.specs.Complete.{AreRelocated}
use Rattle.elf_image.specs.Kept.{KeptSection, kept_sections}
use Rattle.elf_image.specs.Names.{are_names_changed}
use Rattle.elf_image.specs.Relocated.{are_relocations, is_against, names_symbol}
use Rattle.elf_image.specs.Staying.{table_number}
use Rattle.elf_write_spec.specs.Renumbered.{are_symbols_below, is_symbol_below}
use Rattle.elf_write_spec.specs.Final.{is_static_renumbered, new_dynamic_symbols, new_static_symbol, new_static_symbols}
use Rattle.elf_write_spec.proofs.ForCallers.FinalSymbols.{all_symbols}
use Rattle.elf_write_spec.proofs.ForCallers.LinkedLists.{all-at_each}
use Rattle.elf_write_spec.proofs.ForCallers.NumberedSections.{kept_as}
use Rattle.elf_write_spec.proofs.ForCallers.OrderFacts.{length-new}
use Rattle.elf_write_spec.proofs.ForCallers.StaticSymbols.{static_below}
use Rattle.elf_write_spec.proofs.ForCallers.WholeEdits.{ReadFacts}
use Rattle.elf_write_symbols.specs.Fits.{numbers_for}
use Rattle.elf_write_symbols.proofs.ReadyFacts.{Here, sized}

-- ## Symbols that are named

module _ (read image : Image) (f : ReadFacts read image) (type : ℕ) (s : ImageSection) (r : Here read image f type s) where
  abbrev relocations : List Relocation
  relocations = relocations_in image.form s.sh_type s.content

  -- the symbols of a table, whose numbers at read are below a number
  module _ (table : Option ℕ) (numbers : List ℕ) (count : ℕ) (named : AreRelocated image table numbers)
      (below : (i n : ℕ) → slice_get numbers i ≡ Some n → n < count) (against : is_against table s ≡ true) where
    below_by : (n : ℕ) → (n ≡ 0) ⊎ Contains numbers n → is_symbol_below count n ≡ true
    below_by n (inl none) = ap (λ k. k == 0 || nat_lt k count) none
    below_by n (inr there) =
        let at : slice_get numbers there.0 ≡ Some n = slice_get-get_or numbers there.0 n there.1 ∙ ap (λ (k : ℕ). Some k) there.2 in
        ap (λ b. n == 0 || b) (lt-ltb n count (below there.0 n at)) ∙ or_true (n == 0)
      where
        or_true : (b : Bool) → (b || true) ≡ true
        or_true true = refl
        or_true false = refl

    one_below : (i : ℕ) (x : Relocation) → slice_get relocations i ≡ Some x → is_symbol_below count x.r_symbol ≡ true
    one_below i x at =
        let own : get_or relocations i x ≡ x = get_or_from_slice_get relocations i x x at in
        let some : list_any (λ (y : Relocation). y.r_symbol == x.r_symbol) relocations ≡ true =
        list_any_at (λ (y : Relocation). y.r_symbol == x.r_symbol) relocations i x (slice_get_within relocations i x at)
        (ap (λ (y : Relocation). y.r_symbol == x.r_symbol) own ∙ eq-eqb x.r_symbol x.r_symbol refl) in
        let names : names_symbol image.form table x.r_symbol s ≡ true = and_from (is_against table s) _ against some in
        let k : KeptSection = kept_as r.position r.at.number s in
        let here : slice_get (kept_sections image) r.position ≡ Some k =
        r.at.is_kept ∙ ap (λ (y : ImageSection). Some (kept_as r.position r.at.number y)) r.own in
        let there : Contains (kept_sections image) k =
        (r.position, slice_get_within (kept_sections image) r.position k here, get_or_from_slice_get (kept_sections image) r.position k k here) in
        below_by x.r_symbol (named k x.r_symbol there names)

    all_below : are_symbols_below image.form s.sh_type count s.content ≡ true
    all_below = all-at_each (λ (x : Relocation). is_symbol_below count x.r_symbol) relocations one_below

  length-static : length (new_static_symbols read image) ≡ length read.symbols
  length-static =
      length-map (counted (length read.symbols)) (new_static_symbol image) ∙ length-counted (length read.symbols)

  below_dynamic : is_against (table_number SHT_DYNSYM image) s ≡ true
      → are_symbols_below image.form s.sh_type (length (new_dynamic_symbols read image)) s.content ≡ true
  below_dynamic against =
      ap (λ n. are_symbols_below image.form s.sh_type n s.content) (length-new read image (all_symbols read image f))
      ∙ all_below (table_number SHT_DYNSYM image) image.dynamic_symbol_numbers (length read.dynamic_symbols)
      f.edit.complete.dynamic_relocated (all_symbols read image f).below against

  below_static : is_against (table_number SHT_SYMTAB image) s ≡ true
      → are_symbols_below image.form s.sh_type (length (new_static_symbols read image)) s.content ≡ true
  below_static against =
      ap (λ n. are_symbols_below image.form s.sh_type n s.content) length-static
      ∙ all_below (table_number SHT_SYMTAB image) image.symbol_numbers (length read.symbols)
      f.edit.complete.static_relocated (static_below read image f) against

  abbrev moved_dynamic : Bool
  moved_dynamic = are_names_changed read image && is_against (table_number SHT_DYNSYM image) s

  abbrev moved_static : Bool
  moved_static = is_static_renumbered read image && is_against (table_number SHT_SYMTAB image) s

  -- there is a new number for each symbol that relocations name
  pub named_below : (numbers : List ℕ) → numbers_for read image s ≡ Some numbers
      → are_symbols_below image.form s.sh_type (length numbers) s.content ≡ true
  named_below numbers told = by_tests moved_dynamic refl moved_static refl told
    where
      by_tests : (a : Bool) → moved_dynamic ≡ a → (b : Bool) → moved_static ≡ b
          → first_there (if a then Some (new_dynamic_symbols read image) else None) (if b then Some (new_static_symbols read image) else None)
          ≡ Some numbers
          → are_symbols_below image.form s.sh_type (length numbers) s.content ≡ true
      by_tests true dynamic b other h =
          ap (λ (l : List ℕ). are_symbols_below image.form s.sh_type (length l) s.content) (sym (same_Some (new_dynamic_symbols read image) numbers h))
          ∙ below_dynamic (and_parts (are_names_changed read image) (is_against (table_number SHT_DYNSYM image) s) dynamic).1
      by_tests false other true static h =
          ap (λ (l : List ℕ). are_symbols_below image.form s.sh_type (length l) s.content) (sym (same_Some (new_static_symbols read image) numbers h))
          ∙ below_static (and_parts (is_static_renumbered read image) (is_against (table_number SHT_SYMTAB image) s) static).1
      by_tests false other false neither h = absurd (none-some numbers h)

-- ## How long they are

-- a section of relocations has bytes in the file
stored : (p : Parts) (old : SectionHeader) → data_of p old ≡ kinds.Relocation → (not (old.sh_type == 0) && not (old.sh_type == 8)) ≡ true
stored p old is = by_tests (old.sh_type == 0) refl (old.sh_type == 8) refl
  where
    not_null : old.sh_type ≡ 0 → ⊥
    not_null typed = false≢true (sym (ap (λ n. are_relocations (data_of p (record old { sh_type = n }))) typed) ∙ ap are_relocations is)

    not_empty : old.sh_type ≡ 8 → ⊥
    not_empty typed = false≢true (sym (ap (λ n. are_relocations (data_of p (record old { sh_type = n }))) typed) ∙ ap are_relocations is)

    by_tests : (a : Bool) → (old.sh_type == 0) ≡ a → (b : Bool) → (old.sh_type == 8) ≡ b → (not a && not b) ≡ true
    by_tests true null b other = absurd (not_null (eqb-true old.sh_type 0 null))
    by_tests false null true empty = absurd (not_empty (eqb-true old.sh_type 8 empty))
    by_tests false null false empty = refl

pub relocations_sized : (read image : Image) → (f : ReadFacts read image) → (type : ℕ) (s : ImageSection) → Here read image f type s
    → s.kind ≡ kinds.Relocation → length s.content ≡ s.sh_size
relocations_sized read image f type s r kind =
    sized read image f type s r
    (ap (λ n. not (n == 0) && not (n == 8)) (sym r.was_typed)
    ∙ stored f.parts r.at.old (sym (ap (λ (x : ImageSection). x.kind) (sym r.own ∙ r.at.of_old.fields)) ∙ kind))
