-- What an edit deletes, and what stands against that.
use Rattle.std.proofs.Common.{◌≡◌, ℕ, Bool, true, false, List, [], ◌∷◌, length, filter, refl, sym, ap, subst, ◌∙◌, Option, arith}
use Rattle.std.specs.Prelude.{◌==◌, ◌&&◌, ◌||◌, not}
use Rattle.std.specs.List.{list_any}
use Rattle.std.specs.List.Sorted.{IsNonDecreasing}
use Rattle.std.proofs.lemmas.Bool.{ne_eqb}
use Rattle.elf_format.specs.declared.form.Form.{Form}
use Rattle.elf_format.specs.Image.{Image}
use Rattle.elf_edits.specs.Texts.{has_some, is_among}
use Rattle.elf_image.specs.Edited.{IsEdited}
use Rattle.elf_image.specs.Kept.{KeptSection, kept_sections}
use Rattle.elf_image.specs.Needed.{is_lasting, is_section_used}
use Rattle.elf_image.specs.Relocated.{is_symbol_used}
use Rattle.elf_image.specs.Staying.{staying}
use Rattle.elf_image.specs.Along.{goes_along, symbols_along}
use Rattle.elf_edits.proofs.ForCallers.{kept_firsts_rise}
use Rattle.elf_symbol_edits.specs.declared.deletion.Deletion.{Deletion as DeletionHeld}
use Rattle.elf_symbol_edits.specs.Deletion.{AreRising, Deletion, deletion_of}
use Rattle.elf_symbol_edits.specs.EditModel.{IsDeletionOf, deletion_model}
use Rattle.elf_symbol_edits.specs.SymbolEdit.{DeleteAllSymbols, DeleteDynamicSymbols, DeleteSections, DeleteSymbols, SymbolEdit}
use Rattle.elf_symbol_edits.specs.Named.{named_dynamic_symbols, named_sections, named_symbols, numbers_passing, section_name, symbol_name}
use Rattle.elf_symbol_edits.proofs.NumberSteps.{passing_rise}

pub none_rise : IsNonDecreasing []
none_rise i j d le within = absurd (omega (arith, within))

-- the list has an element
pub some_if_not_empty : {A : Type 0} (xs : List A) → not (length xs == 0) ≡ has_some xs
some_if_not_empty [] = refl
some_if_not_empty (x ∷ xs) = ap not (ne_eqb (length (x ∷ xs)) 0 (λ e. omega (arith, e)))

-- where some go, they can
pub renumbers_then : (some can : Bool) → some ≡ true → (some && not can) ≡ false → can ≡ true
renumbers_then true true is h = refl
renumbers_then true false is h = absurd (cc)
renumbers_then false can is h = absurd (cc)

never : {A : Type 0} (xs : List A) → list_any (λ x. false) xs ≡ false
never [] = refl
never (x ∷ xs) = never xs

none_kept : {A : Type 0} (xs : List A) → filter (λ x. false) xs ≡ []
none_kept [] = refl
none_kept (x ∷ xs) = none_kept xs

pub none_used : (form : Form) (table : Option ℕ) (numbers : List ℕ) (sections : List KeptSection) → has_some numbers ≡ false → is_symbol_used form table numbers sections ≡ false
none_used form table [] sections none = never sections
none_used form table (n ∷ ns) sections none = absurd (cc)

pub none_needed : (image : Image) (gone : List ℕ) → has_some gone ≡ false → is_section_used image gone ≡ false
none_needed image [] none =
    ap (λ (ss : List KeptSection). list_any (is_lasting image) ss || list_any (λ s. false) (staying [] image) || list_any (λ y. false) image.dynamic_symbols) (none_kept (kept_sections image))
    ∙ ap (λ b. b || list_any (λ y. false) image.dynamic_symbols) (never (staying [] image)) ∙ never image.dynamic_symbols
none_needed image (n ∷ ns) none = absurd (cc)

-- ## Numbers of an image rise

module _ (image : Image) (h : IsEdited image) (names : List (List ℕ)) where
  pub symbols_rise : IsNonDecreasing (named_symbols names image)
  symbols_rise = passing_rise (λ y. is_among names (symbol_name y)) image.symbol_numbers image.symbols h.is_edit.symbols.numbered h.is_edit.symbols.rising

  pub dynamic_symbols_rise : IsNonDecreasing (named_dynamic_symbols names image)
  dynamic_symbols_rise = passing_rise (λ y. is_among names (symbol_name y)) image.dynamic_symbol_numbers image.dynamic_symbols h.is_edit.dynamic_symbols.numbered h.is_edit.dynamic_symbols.rising

  pub sections_rise : IsNonDecreasing (named_sections names image)
  sections_rise = passing_rise (λ s. is_among names (section_name s)) image.section_numbers image.sections h.is_edit.sections.numbered h.is_edit.sections.rising

  along_rise : IsNonDecreasing (symbols_along image (named_sections names image))
  along_rise = kept_firsts_rise image.symbol_numbers image.symbols h.is_edit.symbols.numbered h.is_edit.symbols.rising (λ x. goes_along image (named_sections names image) x.0 x.1)

  pub rising_symbols : AreRising (deletion_of (DeleteSymbols names) image)
  rising_symbols = record { symbols = symbols_rise; dynamic_symbols = none_rise; sections = none_rise }

  pub rising_dynamic_symbols : AreRising (deletion_of (DeleteDynamicSymbols names) image)
  rising_dynamic_symbols = record { symbols = none_rise; dynamic_symbols = dynamic_symbols_rise; sections = none_rise }

  pub rising_all_symbols : AreRising (deletion_of (DeleteAllSymbols names) image)
  rising_all_symbols = record { symbols = symbols_rise; dynamic_symbols = dynamic_symbols_rise; sections = none_rise }

  pub rising_sections : AreRising (deletion_of (DeleteSections names) image)
  rising_sections = record { symbols = along_rise; dynamic_symbols = none_rise; sections = sections_rise }

-- ## What the code makes

abbrev deletion_with : List ℕ → List ℕ → List ℕ → Deletion
deletion_with x y z = record { symbols = x; dynamic_symbols = y; sections = z }

pub deletion_same : (x y z u v w : List ℕ) → x ≡ u → y ≡ v → z ≡ w → deletion_with x y z ≡ deletion_with u v w
deletion_same x y z u v w e f g = ap (λ (l : List ℕ). deletion_with l y z) e ∙ ap (λ (l : List ℕ). deletion_with u l z) f ∙ ap (λ (l : List ℕ). deletion_with u v l) g

pub is_deletion : (edit : SymbolEdit) (image : Image) (d : DeletionHeld) → deletion_model d ≡ deletion_of edit image → AreRising (deletion_of edit image) → IsDeletionOf edit image d
is_deletion edit image d is rising = record { is = is; rising = subst AreRising (sym is) rising }

-- numbers of lists that are lent
pub passing_of : {A : Type 0} (test : A → Bool) (ns ms : List ℕ) (xs ys : List A) → ns ≡ ms → xs ≡ ys → numbers_passing test ns xs ≡ numbers_passing test ms ys
passing_of {A} test ns ms xs ys e f = ap (λ (l : List ℕ). numbers_passing test l xs) e ∙ ap (λ (l : List A). numbers_passing test ms l) f
