-- The relocations of a written file name the symbols that they named, by their new numbers.
use Rattle.std.proofs.Common.{◌≡◌, ◌⊎◌, ℕ, suc, Bool, true, false, List, [], ◌∷◌, map, refl, sym, ap, ◌∙◌, inl, inr, Some}
use Rattle.std.specs.Prelude.{◌&&◌, ◌==◌, if◌then◌else◌, slice_index}
use Rattle.std.specs.List.{slice_get}
use Rattle.std.proofs.lemmas.Bool.{both_ways, eqb-true, false_from_ne_true}
use Rattle.elf_format.specs.declared.constants.TheConstants.{SHT_DYNSYM, SHT_REL, SHT_RELA, SHT_SYMTAB}
use Rattle.elf_format.specs.Image.{Image, ImageSection}
use Rattle.elf_format.specs.Records.{Relocation, relocations_in}
use Rattle.elf_format.specs.Rules.{is_opaque_relocation}
use Rattle.elf_image.specs.Kept.{image_at_read}
use Rattle.elf_image.specs.Names.{are_names_changed}
use Rattle.elf_image.specs.Relocated.{are_relocations, is_against}
use Rattle.elf_image.specs.Staying.{table_number}
use Rattle.elf_write_spec.specs.Renumbered.{new_symbol, renumbered}
use Rattle.elf_write_spec.specs.Final.{is_static_renumbered, new_dynamic_symbol, new_dynamic_symbols, new_static_symbol, new_static_symbols}
use Rattle.elf_write_spec.specs.KeptSymbols.{new_symbol_for}
use Rattle.elf_write_spec.specs.Output.{IsPlannedOutput, Output}
use Rattle.elf_write_spec.proofs.FinalSymbols.{all_symbols}
use Rattle.elf_write_spec.proofs.LinkedRelocations.{Dynamic, Moves, Static, Stay, are_moved, are_static_moved, moves, not_both, relocation_kind, relocation_types, symbol_named}
use Rattle.elf_write_spec.proofs.OrderFacts.{HasSymbols, new-at, new-same}
use Rattle.elf_write_spec.proofs.SectionKinds.{kind_is}
use Rattle.elf_write_spec.proofs.StaticSymbols.{static_at, static_below, static_same}
use Rattle.elf_write_spec.proofs.WholeFacts.{ReadFacts, SectionAt}
use Rattle.elf_write_spec.proofs.WholeLists.{map-same}

-- two ways to number symbols that agree on those that are named
numbered_alike : (f g : ℕ → ℕ) (rs : List Relocation) → ((k : ℕ) (r : Relocation) → slice_get rs k ≡ Some r → f r.r_symbol ≡ g r.r_symbol)
    → map (renumbered f) rs ≡ map (renumbered g) rs
numbered_alike f g [] alike = refl
numbered_alike f g (r ∷ rs) alike =
    ap (λ (n : ℕ). record r { r_symbol = n } ∷ map (renumbered f) rs) (alike 0 r refl)
    ∙ ap (λ (l : List Relocation). renumbered g r ∷ l) (numbered_alike f g rs (λ k x at. alike (suc k) x at))

-- each symbol by its own number
numbered_same : (rs : List Relocation) → map (renumbered (λ n. n)) rs ≡ rs
numbered_same rs = map-same (renumbered (λ n. n)) rs (λ i r at. refl)

module _ (w : Output) (is : IsPlannedOutput w) (f : ReadFacts w) (i : ℕ) (at : SectionAt w f.parts i) (kind : are_relocations at.section.kind ≡ true) where
  abbrev read : Image
  read = image_at_read w.image

  abbrev old_relocations : List Relocation
  old_relocations = relocations_in w.image.form at.section.sh_type at.section.content

  abbrev is_dynamic : Bool
  is_dynamic = is_against (table_number SHT_DYNSYM w.image) at.section

  abbrev is_static : Bool
  is_static = is_against (table_number SHT_SYMTAB w.image) at.section

  all : HasSymbols read w.image
  all = all_symbols read w.image f

  type : (at.old.sh_type ≡ SHT_REL) ⊎ (at.old.sh_type ≡ SHT_RELA)
  type = relocation_types at.old.sh_type (relocation_kind at.old.sh_type (is_opaque_relocation f.parts at.old)
      (ap are_relocations (sym (ap (λ (x : ImageSection). x.kind) at.of_old.fields ∙ kind_is f.parts at.old)) ∙ kind)).0

  abbrev new : ℕ → ℕ
  new = new_symbol_for (image_at_read w.image) w.image at.section

  new_by : (b c : Bool) → is_dynamic ≡ b → is_static ≡ c → (n : ℕ)
      → new n ≡ (if n == 0 then 0 else if b then new_dynamic_symbol read w.image n else if c then new_static_symbol w.image n else n)
  new_by b c e g n =
      ap (λ (d : Bool). if n == 0 then 0 else if d then new_dynamic_symbol read w.image n else if is_static then new_static_symbol w.image n else n) e
      ∙ ap (λ (d : Bool). if n == 0 then 0 else if b then new_dynamic_symbol read w.image n else if d then new_static_symbol w.image n else n) g

  -- numbers agree on a symbol that is none, or where they agree on one that is there
  agree : (g : ℕ → ℕ) (n m : ℕ) → g n ≡ m → (if n == 0 then 0 else g n) ≡ (if n == 0 then 0 else m)
  agree g n m same = ap (λ (k : ℕ). if n == 0 then 0 else k) same

  own : (n : ℕ) → n ≡ (if n == 0 then 0 else n)
  own n = by_test (n == 0) refl
    where
      by_test : (b : Bool) → (n == 0) ≡ b → n ≡ (if b then 0 else n)
      by_test true e = eqb-true n 0 e
      by_test false e = refl

  not_dynamic : is_static ≡ true → is_dynamic ≡ false
  not_dynamic static = false_from_ne_true is_dynamic (λ dynamic. both_ways is_static (not_both w is f i at dynamic) static)

  -- relocations against the dynamic symbols have the numbers that were written
  dynamic_same : is_dynamic ≡ true → (k : ℕ) (r : Relocation) → slice_get old_relocations k ≡ Some r
      → new_symbol (new_dynamic_symbols read w.image) r.r_symbol ≡ new r.r_symbol
  dynamic_same dynamic k r r_at = elim (symbol_named w is f i at (table_number SHT_DYNSYM w.image) w.image.dynamic_symbol_numbers
      f.edit.complete.dynamic_relocated dynamic k r r_at) [
        | inl none ↦ ap (new_symbol (new_dynamic_symbols read w.image)) none ∙ sym (ap new none)
        | inr (m, number) ↦
            agree (slice_index (new_dynamic_symbols read w.image)) r.r_symbol (new_dynamic_symbol read w.image r.r_symbol)
            (new-at read w.image all r.r_symbol (all.below m r.r_symbol number))
            ∙ sym (new_by true is_static dynamic refl r.r_symbol)
      ]

  -- relocations against the static symbols have the numbers that were written
  static_named : is_static ≡ true → (k : ℕ) (r : Relocation) → slice_get old_relocations k ≡ Some r
      → new_symbol (new_static_symbols read w.image) r.r_symbol ≡ new r.r_symbol
  static_named static k r r_at = elim (symbol_named w is f i at (table_number SHT_SYMTAB w.image) w.image.symbol_numbers
      f.edit.complete.static_relocated static k r r_at) [
        | inl none ↦ ap (new_symbol (new_static_symbols read w.image)) none ∙ sym (ap new none)
        | inr (m, number) ↦
            agree (slice_index (new_static_symbols read w.image)) r.r_symbol (new_static_symbol w.image r.r_symbol)
            (static_at read w.image f r.r_symbol (static_below read w.image f m r.r_symbol number))
            ∙ sym (new_by false true (not_dynamic static) static r.r_symbol)
      ]

  -- where nothing changed each symbol keeps its number
  test_false : (a b : Bool) → b ≡ true → (a && b) ≡ false → a ≡ false
  test_false true b is_b h = absurd (both_ways b h is_b)
  test_false false b is_b h = refl

  kept_same : are_moved w is f i at ≡ false → are_static_moved w is f i at ≡ false → (b c : Bool) → is_dynamic ≡ b → is_static ≡ c
      → (k : ℕ) (r : Relocation) → slice_get old_relocations k ≡ Some r → r.r_symbol ≡ new r.r_symbol
  kept_same stay apart true c e g k r r_at = elim (symbol_named w is f i at (table_number SHT_DYNSYM w.image) w.image.dynamic_symbol_numbers
      f.edit.complete.dynamic_relocated e k r r_at) [
        | inl none ↦ none ∙ sym (ap new none)
        | inr (m, number) ↦
            own r.r_symbol
            ∙ sym (agree (new_dynamic_symbol read w.image) r.r_symbol r.r_symbol
            (new-same read w.image all (test_false (are_names_changed read w.image) is_dynamic e stay) r.r_symbol (all.below m r.r_symbol number)))
            ∙ sym (new_by true c e g r.r_symbol)
      ]
  kept_same stay apart false true e g k r r_at = elim (symbol_named w is f i at (table_number SHT_SYMTAB w.image) w.image.symbol_numbers
      f.edit.complete.static_relocated g k r r_at) [
        | inl none ↦ none ∙ sym (ap new none)
        | inr (m, number) ↦
            own r.r_symbol
            ∙ sym (agree (new_static_symbol w.image) r.r_symbol r.r_symbol
            (static_same read w.image f (test_false (is_static_renumbered read w.image) is_static g apart) r.r_symbol
            (static_below read w.image f m r.r_symbol number)))
            ∙ sym (new_by false true e g r.r_symbol)
      ]
  kept_same stay apart false false e g k r r_at = own r.r_symbol ∙ sym (new_by false false e g r.r_symbol)

  by_moves : Moves w is f i at → relocations_in w.image.form at.section.sh_type at.bytes ≡ map (renumbered new) old_relocations
  by_moves (Dynamic changed dynamic renumber) =
      renumber.relocations ∙ numbered_alike (new_symbol (new_dynamic_symbols read w.image)) new old_relocations (dynamic_same dynamic)
  by_moves (Static went static renumber) =
      renumber.relocations ∙ numbered_alike (new_symbol (new_static_symbols read w.image)) new old_relocations (static_named static)
  by_moves (Stay stay apart bytes) =
      ap (relocations_in w.image.form at.section.sh_type) bytes ∙ sym (numbered_same old_relocations)
      ∙ numbered_alike (λ n. n) new old_relocations (kept_same stay apart is_dynamic is_static refl refl)

  -- as they were read, each symbol by its new number
  pub relocations_kept : relocations_in w.image.form at.section.sh_type at.bytes ≡ map (renumbered new) old_relocations
  relocations_kept = by_moves (moves w is f i at type)
