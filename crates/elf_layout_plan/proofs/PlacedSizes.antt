-- A section without bytes in the file keeps its size.
use Rattle.std.proofs.Common.{◌≡◌, ℕ, ◌*◌, Bool, true, false, List, ◌∷◌, map, length, refl, sym, ap, ◌∙◌, subst, inl, inr, Option, Some, None, arith, []}
use Rattle.std.specs.Prelude.{◌&&◌, ◌==◌, find, if◌then◌else◌}
use Rattle.std.specs.List.{slice_get}
use Rattle.std.proofs.lemmas.Bool.{cond-false, eqb-true, false_from_ne_true, false≢true}
use Rattle.std.proofs.lemmas.Option.{same_Some}
use Rattle.patch_bytes.specs.Memory.{◌>>=◌}
use Rattle.patch_bytes.proofs.MemoryLaws.{bind_some}
use Rattle.elf_format.specs.declared.constants.TheConstants.{PT_INTERP, SHT_DYNAMIC, SHT_DYNSYM, SHT_GNU_HASH, SHT_GNU_VERDEF, SHT_GNU_VERNEED, SHT_GNU_VERSYM, SHT_HASH, SHT_NOBITS, SHT_PROGBITS, SHT_STRTAB, SHT_SYMTAB}
use Rattle.elf_format.specs.File.{segment_of_type}
use Rattle.elf_format.specs.Image.{Image, ImageSection, counted, image_of}
use Rattle.elf_format.specs.Records.{symbol_size}
use Rattle.elf_tables.specs.Edited.{IsEditOf, IsEdited}
use Rattle.elf_tables.proofs.ForCallers.ReadImageLaws.{read_images_hold_parts}
use Rattle.elf_tables.specs.Kept.{KeptSection, image_at_read, interpreter_number, is_numbered, kept_sections, stands_as_interpreter}
use Rattle.elf_layout_plan.specs.Memory.{SizedSection, sized_from, sized_sections}
use Rattle.elf_layout_plan.specs.Needs.{written_needs}
use Rattle.elf_layout_plan.specs.Plan.{resized}
use Rattle.elf_layout_plan.specs.Sizes.{definitions_size, dynamic_size, hash_size, interpreter_size, needs_size, new_size, new_sizes, strings_size, table_size}
use Rattle.elf_layout_plan.proofs.PlacedLists.{Has, find-at, has_cases, has_none}
use Rattle.elf_layout_plan.proofs.PlacedRead.{at_read, kept_at, was_read}
use Rattle.elf_layout_plan.proofs.PlacedSections.{is_kept}
use Rattle.elf_format.proofs.ForCallers.Lengths.{counted_at}

-- ## Numbers at read

-- ## The interpreter's section

-- the interpreter's section is one with bytes
is_there : (o : Option ℕ) (k : KeptSection) → is_numbered o k ≡ true → o ≡ Some k.number
is_there None k h = absurd (false≢true h)
is_there (Some n) k h = ap (λ (m : ℕ). Some m) (eqb-true n k.number h)

module _ (read image : Image) (edit : IsEditOf read image) (numbers : read.section_numbers ≡ counted (length read.sections)) where
  interpreter_type : (k : KeptSection) → Has k (kept_sections image) → is_numbered (interpreter_number read) k ≡ true
      → k.section.sh_type ≡ SHT_PROGBITS
  interpreter_type k here h =
      let (p, _, more) = bind_some (segment_of_type PT_INTERP read.segments)
      (λ p. find (λ s. stands_as_interpreter p s.section) (kept_sections read) >>= λ s. Some s.number)
      k.number (is_there (interpreter_number read) k h) in
      let (s, found, made) = bind_some (find (λ x. stands_as_interpreter p x.section) (kept_sections read)) (λ x. Some x.number) k.number more in
      let number : s.number ≡ k.number = same_Some s.number k.number made in
      let at = find-at (λ x. stands_as_interpreter p x.section) (kept_sections read) s found in
      let type : s.section.sh_type ≡ SHT_PROGBITS = eqb-true s.section.sh_type SHT_PROGBITS
      (first (s.section.sh_type == SHT_PROGBITS) (s.section.sh_offset == p.p_offset)
      (s.section.sh_addr == p.p_vaddr) (s.section.sh_size == p.p_filesz) at.1) in
      let place = kept_at 0 read.section_numbers read.sections s at.0 in
      let index : s.number ≡ place.index = counted_at (length read.sections) place.index s.number
      (ap (λ (l : List ℕ). slice_get l place.index) (sym numbers) ∙ place.number) in
      let was = was_read read image edit.sections k here in
      let same : was.old ≡ s.section = same_Some was.old s.section
      (sym was.there ∙ ap (λ (i : ℕ). slice_get read.sections i) (sym number ∙ index) ∙ place.section) in
      ap (λ (x : ImageSection). x.sh_type) was.same ∙ ap (λ (x : ImageSection). x.sh_type) same ∙ type
    where
      first : (a b c d : Bool) → (a && b && c && d) ≡ true → a ≡ true
      first true b c d e = refl
      first false b c d e = absurd (false≢true e)

  not_interpreter : (k : KeptSection) → Has k (kept_sections image) → k.section.sh_type ≡ SHT_NOBITS
      → is_numbered (interpreter_number read) k ≡ false
  not_interpreter k here bare = false_from_ne_true (is_numbered (interpreter_number read) k) (λ h. other (sym bare ∙ interpreter_type k here h))
    where
      other : SHT_NOBITS ≡ SHT_PROGBITS → ⊥
      other e = omega (arith, e)

  -- ## New sizes

  chain : (a b c d e f g h i z n : ℕ) → n ≡ SHT_NOBITS
      → (if n == SHT_DYNAMIC then a else if n == SHT_STRTAB then b else if n == SHT_SYMTAB then c else if n == SHT_DYNSYM then d else if n == SHT_GNU_VERSYM then e
      else if n == SHT_GNU_VERDEF then f else if n == SHT_GNU_VERNEED then g else if n == SHT_HASH then h else if n == SHT_GNU_HASH then i else z) ≡ z
  chain a b c d e f g h i z n same =
      ap (λ (m : ℕ). if m == SHT_DYNAMIC then a else if m == SHT_STRTAB then b else if m == SHT_SYMTAB then c else if m == SHT_DYNSYM then d else if m == SHT_GNU_VERSYM then e
      else if m == SHT_GNU_VERDEF then f else if m == SHT_GNU_VERNEED then g else if m == SHT_HASH then h else if m == SHT_GNU_HASH then i else z) same

  table_same : (k : KeptSection) → k.section.sh_type ≡ SHT_NOBITS → table_size read image k ≡ k.section.sh_size
  table_same k bare =
      chain (dynamic_size read image k.section) (strings_size read image k) (length image.symbols * symbol_size image.form)
      (length image.dynamic_symbols * symbol_size image.form)
      (2 * length image.dynamic_symbols) (definitions_size image.definitions) (needs_size (written_needs read image))
      (hash_size read image k.section) (hash_size read image k.section)
      k.section.sh_size k.section.sh_type bare

  size_same : (k : KeptSection) → Has k (kept_sections image) → k.section.sh_type ≡ SHT_NOBITS → new_size read image k ≡ k.section.sh_size
  unfolding new_size
  size_same k here bare =
      cond-false (is_numbered (interpreter_number read) k) (interpreter_size image k.section) (table_size read image k)
      (not_interpreter k here bare) ∙ table_same k bare

sized_by : (f : KeptSection → ℕ) (ks : List KeptSection) (s : SizedSection) → Has s (sized_from ks (map f ks)) → s.size ≡ f s.kept
sized_by f [] s h = absurd (has_none s h)
sized_by f (k ∷ ks) s h = elim (has_cases s (record { kept = k; size = f k }) (sized_from ks (map f ks)) h) [
  | inl same ↦ subst (λ (x : SizedSection). x.size ≡ f x.kept) same refl
  | inr later ↦ sized_by f ks s later
]

sized_new : (image : Image) (s : SizedSection) → Has s (sized_sections (resized image)) → s.size ≡ new_size (image_at_read image) image s.kept
unfolding new_sizes
sized_new image s h = sized_by (new_size (image_at_read image) image) (kept_sections image) s h

-- uninitialized data is as large as it was
pub keeps_size : (image : Image) → IsEdited image → (s : SizedSection) → Has s (sized_sections (resized image))
    → s.kept.section.sh_type ≡ SHT_NOBITS
    → s.size ≡ s.kept.section.sh_size
keeps_size image e s here bare =
    let same : image_at_read image ≡ e.read = at_read (image_of image.source) e.read image e.is_read in
    let (p, _, parts, rules, holding) = read_images_hold_parts image.source e.read e.is_read in
    sized_new image s here
    ∙ size_same (image_at_read image) image (subst (λ (x : Image). IsEditOf x image) (sym same) e.is_edit)
    (subst (λ (x : Image). x.section_numbers ≡ counted (length x.sections)) (sym same) holding.section_numbers) s.kept
    (is_kept (resized image) s here) bare
