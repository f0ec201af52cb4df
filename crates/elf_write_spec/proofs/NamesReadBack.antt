-- The names of the sections of a written file are those of the image.
use Rattle.std.proofs.Common.{◌≡◌, ◌<◌, ℕ, true, List, length, map, sym, ap, ◌∙◌, subst, Some, arith}
use Rattle.std.specs.Prelude.{nat_lt, option_map}
use Rattle.std.specs.List.{slice_get}
use Rattle.std.proofs.lemmas.Bool.{and_parts, ltb-true}
use Rattle.std.proofs.lemmas.List.{length-map}
use Rattle.std.proofs.lemmas.Option.{slice_get-map}
use Rattle.patch_bytes.specs.Memory.{Memory, memory_of, text_at}
use Rattle.patch_bytes.proofs.MemoryLaws.{Keeps-refl}
use Rattle.elf_format.specs.declared.header.Header.{Header}
use Rattle.elf_format.specs.Image.{ImageSection, section_name}
use Rattle.elf_format.specs.Options.{each}
use Rattle.elf_format.specs.Rules.{texts_of}
use Rattle.elf_write_spec.specs.ReadBack.{HasWrittenParts, written_parts}
use Rattle.elf_write_spec.specs.Contents.{content_at_number}
use Rattle.elf_write_spec.specs.Final.{new_number}
use Rattle.elf_write_spec.specs.Headers.{Reads}
use Rattle.elf_write_spec.specs.Output.{IsPlannedOutput, Output, names_content, written_bytes}
use Rattle.elf_write_spec.proofs.ContentsReadBack.{bytes_are, bytes_fit}
use Rattle.elf_write_spec.proofs.TextsRead.{each-from, text_read_back}
use Rattle.elf_write_spec.proofs.WholeFacts.{ReadFacts, SectionAt, content_is, lengths, names_section_at, read_facts, section_at_header}
use Rattle.elf_format.proofs.ForCallers.Lengths.{length-sections}

module _ (w : Output) (is : IsPlannedOutput w) (f : ReadFacts w) where
  -- the number of the section of names is that of a section
  names_number : w.image.header.e_shstrndx ≡ f.parts.opened.header.e_shstrndx
  names_number = ap (λ (h : Header). h.e_shstrndx) f.edit.header ∙ ap (λ (h : Header). h.e_shstrndx) f.holds.header

  number_below : nat_lt f.parts.opened.header.e_shstrndx f.parts.opened.header.e_shnum ≡ true
  number_below = (and_parts _ _ (and_parts _ _ (and_parts _ _ f.rules.file_kind).0).0).1

  pub names_there : f.parts.opened.header.e_shstrndx < length f.parts.sections
  names_there =
      omega (
        arith,
        ltb-true f.parts.opened.header.e_shstrndx f.parts.opened.header.e_shnum number_below,
        length-sections f.parts.opened f.parts.sections f.are_parts.sections,
      )

module _ (w : Output) (is : IsPlannedOutput w) (has : HasWrittenParts w) where
  -- the section of names, as it was written
  pub names_found : (j : ℕ) × (at : SectionAt w (read_facts w is).parts j) × (at.number ≡ (read_facts w is).parts.opened.header.e_shstrndx)
      × (new_number w.image w.image.header.e_shstrndx ≡ j)
  names_found = names_section_at w is (read_facts w is) (names_there w is (read_facts w is))

  abbrev pub names_position : ℕ
  names_position = names_found.0

  abbrev pub names_at : SectionAt w (read_facts w is).parts names_position
  names_at = names_found.1

  names_new : new_number w.image w.image.header.e_shstrndx ≡ names_position
  names_new = names_found.3

  -- the bytes of the section of names
  pub names_are : names_content w ≡ names_at.bytes
  names_are =
      ap (content_at_number w.image w.contents) (names_number w is (read_facts w is) ∙ sym names_found.2)
      ∙ content_is w is (read_facts w is) names_found.0 names_found.1

  pub names_memory : texts_of (written_parts w) (slice_get w.headers (written_parts w).opened.header.e_shstrndx) ≡ memory_of names_at.bytes
  names_memory =
      ap (λ n. texts_of (written_parts w) (slice_get w.headers n)) names_new
      ∙ ap (texts_of (written_parts w)) names_at.is_header
      ∙ ap (λ (xs : List ℕ). memory_of xs) (bytes_are w is has (read_facts w is) names_position names_at)

  -- the name of a section
  pub name_read_back : (i : ℕ) (at : SectionAt w (read_facts w is).parts i) → section_name (written_parts w) at.header ≡ Some at.section.name
  name_read_back i at =
      let room : ℕ = length (written_bytes w) in
      let reads : Reads names_at.bytes at.header.sh_name at.section.name =
      subst (λ (xs : List ℕ). Reads xs at.header.sh_name at.section.name) names_are at.written.has_header.name in
      ap (λ (m : Memory). text_at room m at.header.sh_name) names_memory
      ∙ text_read_back names_at.bytes at.header.sh_name at.section.name reads room
      (bytes_fit w is has (read_facts w is) names_position names_at)
      (memory_of names_at.bytes) (Keeps-refl (memory_of names_at.bytes))

  -- the names of all sections
  pub names_read_back : each (section_name (written_parts w)) w.headers ≡ Some (map (λ s. s.name) w.image.sections)
  names_read_back =
      let f = read_facts w is in
      let long = lengths w is f in
      let named : List (List ℕ) = map (λ s. s.name) w.image.sections in
      each-from (section_name (written_parts w)) w.headers named
      (omega (arith, length-map w.image.sections (λ (s : ImageSection). s.name), long.headers))
      (λ i h name h_there name_there.
      let (at, same) = section_at_header w is f i h h_there in
      let is_name : Some at.section.name ≡ Some name =
      sym (slice_get-map (λ (s : ImageSection). s.name) w.image.sections i ∙ ap (option_map (λ (s : ImageSection). s.name)) at.is_section)
      ∙ name_there in
      ap (section_name (written_parts w)) (sym same) ∙ name_read_back i at ∙ is_name)
