-- The new numbers of sections, written one by one at the numbers that these had at read.
use Rattle.std.proofs.Common.{◌≡◌, ◌<◌, ◌≤◌, ℕ, Bool, true, false, not, List, [], ◌∷◌, length, refl, sym, ap, ◌∙◌, inl, inr, Option, Some, None, arith}
use Rattle.std.specs.Prelude.{◌&&◌, ◌==◌, if◌then◌else◌, nat_le, nat_lt, slice_index}
use Rattle.std.specs.List.{slice_get}
use Rattle.std.proofs.lemmas.Bool.{and_parts, cases_lt, false≢true, ltb-true}
use Rattle.std.proofs.lemmas.List.{ext_get_or, get_or-map, get_or_past, length-map}
use Rattle.std.proofs.lemmas.Option.{same_Some, slice_get-get_or, slice_get_within}
use Rattle.elf_format.specs.declared.constants.TheConstants.{ET_DYN, ET_EXEC, PN_XNUM, SHN_LORESERVE}
use Rattle.elf_format.specs.File.{Opened}
use Rattle.elf_format.specs.Image.{Image, counted}
use Rattle.elf_format.specs.Options.{is_one_of}
use Rattle.elf_format.specs.Records.{section_header_size, segment_header_size}
use Rattle.elf_format.specs.Rules.{is_file_kind, names_are_texts, no_extended_numbers}
use Rattle.elf_format.proofs.ForCallers.Lengths.{length-counted, length-sections, slice_index-counted}
use Rattle.elf_image.specs.Kept.{KeptSection, kept_at_number}
use Rattle.elf_write_spec.specs.Final.{new_number, new_symbol_section}
use Rattle.elf_write_spec.proofs.ForCallers.NumberedSections.{one_position}
use Rattle.elf_write_spec.proofs.ForCallers.OrderFacts.{keeps_first}
use Rattle.elf_write_spec.proofs.ForCallers.WholeEdits.{ReadFacts, kept_is, length-now, length-read, none_there, number_below, numbered, read_number, rising, section_read}
use Rattle.elf_write_spec.proofs.ForCallers.WholeLists.{first_at}
use Rattle.elf_write_symbols.specs.NewSections.{all_sections, new_section}
use Rattle.elf_write_symbols.proofs.NumberFacts.{AreApart, AreNumberedTo, there_is, there_is_none}

few : (o : Opened) → is_file_kind o ≡ true → o.header.e_shnum < 65280
few o kind =
    let a : Bool = is_one_of (ET_EXEC ∷ ET_DYN ∷ []) o.header.e_type in
    let b : Bool = not (o.header.e_shoff == 0) in
    let c : Bool = not (o.header.e_shnum == 0) in
    let d : Bool = nat_lt o.header.e_shnum SHN_LORESERVE in
    let e : Bool = nat_lt o.header.e_phnum PN_XNUM in
    let f : Bool = o.header.e_phentsize == segment_header_size o.form in
    let g : Bool = o.header.e_shentsize == section_header_size o.form in
    let h : Bool = nat_lt o.header.e_shstrndx o.header.e_shnum in
    let i : Bool = names_are_texts o in
    let nine = and_parts (a && b && c && d && e && f && g && h && i) (no_extended_numbers o) kind in
    let eight = and_parts (a && b && c && d && e && f && g && h) i nine.0 in
    let seven = and_parts (a && b && c && d && e && f && g) h eight.0 in
    let six = and_parts (a && b && c && d && e && f) g seven.0 in
    let five = and_parts (a && b && c && d && e) f six.0 in
    let four = and_parts (a && b && c && d) e five.0 in
    let three = and_parts (a && b && c) d four.0 in
    ltb-true o.header.e_shnum SHN_LORESERVE three.1

module _ (read image : Image) (f : ReadFacts read image) where
  pub sections_apart : AreApart image.section_numbers
  sections_apart = one_position image.section_numbers (rising read image f)

  -- the number that is asked for at a position
  pub number_here : (i n : ℕ) → i < length image.sections → n ≡ slice_index image.section_numbers i → slice_get image.section_numbers i ≡ Some n
  number_here i n less is =
      slice_get-get_or image.section_numbers i 0 (omega (arith, less, numbered read image f)) ∙ ap (λ (k : ℕ). Some k) (sym is)

  -- each number is that of a section that was read
  pub section_below : (i n : ℕ) → slice_get image.section_numbers i ≡ Some n → n < length read.sections
  section_below i n at =
      let within : i < length image.sections = omega (arith, slice_get_within image.section_numbers i n at, numbered read image f) in
      let here = section_read read image f i within in
      let same : here.number ≡ n = same_Some here.number n (sym here.is_number ∙ at) in
      omega (arith, number_below read image f i here, same, length-read read image f)

  -- there are fewer than special numbers begin with
  pub few_sections : length image.sections < 65280
  few_sections = omega (arith, length-now read image f, length-sections f.parts.opened f.parts.sections f.are_parts.sections, few f.parts.opened f.rules.file_kind)

  -- a section that is there with a number
  new_there : (i n : ℕ) → slice_get image.section_numbers i ≡ Some n → new_section image n ≡ i
  new_there i n at =
      let within : i < length image.sections = omega (arith, slice_get_within image.section_numbers i n at, numbered read image f) in
      let here = section_read read image f i within in
      let same : here.number ≡ n = same_Some here.number n (sym here.is_number ∙ at) in
      ap (new_section image) (sym same)
      ∙ ap (λ (o : Option KeptSection). elim o as (λ _. ℕ) [ Some s ↦ s.position | None ↦ 0 ]) (kept_is read image f i here)

  none_at : (n : ℕ) → ((i : ℕ) → slice_get image.section_numbers i ≡ Some n → ⊥) → kept_at_number n image ≡ None
  none_at n gone = by_kept (kept_at_number n image) refl
    where
      by_kept : (o : Option KeptSection) → kept_at_number n image ≡ o → o ≡ None
      by_kept None is = refl
      by_kept (Some k) is =
          let (at, _, number) = read_number read image f n k is in
          absurd (gone k.position (at.is_number ∙ ap (λ (m : ℕ). Some m) number))

  new_gone : (n : ℕ) → kept_at_number n image ≡ None → new_section image n ≡ 0
  new_gone n none = ap (λ (o : Option KeptSection). elim o as (λ _. ℕ) [ Some s ↦ s.position | None ↦ 0 ]) none

  length-all : length (all_sections read image) ≡ length read.sections
  length-all = length-map (counted (length read.sections)) (new_section image) ∙ length-counted (length read.sections)

  -- the table tells each
  pub told_at : (n : ℕ) → slice_index (all_sections read image) n ≡ new_section image n
  told_at n = elim (cases_lt n (length read.sections)) [
    | inl below ↦
        get_or-map (new_section image) (counted (length read.sections)) n 0 0 (omega (arith, below, length-counted (length read.sections)))
        ∙ ap (new_section image) (slice_index-counted (length read.sections) n below)
    | inr past ↦
        get_or_past (all_sections read image) n 0 (omega (arith, past, length-all))
        ∙ sym (new_gone n (none_there read image f n (omega (arith, past, length-read read image f))))
  ]

  section_number : (numbers : List ℕ) (i : ℕ) → length image.sections ≤ i → AreNumberedTo image.section_numbers i numbers → (n : ℕ)
      → slice_index numbers n ≡ new_section image n
  section_number numbers i past are n = elim (first_at (λ (k : ℕ). k == n) image.section_numbers) [
    | inl found ↦
        let number = there_is image.section_numbers n found in
        let within : found.index < i =
        omega (arith, slice_get_within image.section_numbers found.index n number, numbered read image f, past) in
        are.there found.index n within number ∙ sym (new_there found.index n number)
    | inr none ↦
        are.gone n (λ j less. there_is_none image.section_numbers n none j)
        ∙ sym (new_gone n (none_at n (there_is_none image.section_numbers n none)))
  ]

  pub sections_told : (numbers : List ℕ) (i : ℕ) → length numbers ≡ length read.sections → length image.sections ≤ i
      → AreNumberedTo image.section_numbers i numbers → numbers ≡ all_sections read image
  sections_told numbers i long past are =
      ext_get_or 0 numbers (all_sections read image) (long ∙ sym length-all) (λ n below. section_number numbers i past are n ∙ sym (told_at n))

  -- ## By a number

  -- where the table has 0 the number stays
  pub number_stays : (n : ℕ) → new_section image n ≡ 0 → n ≡ new_number image n
  number_stays n zero_is = by_kept (kept_at_number n image) refl zero_is
    where
      by_kept : (o : Option KeptSection) → kept_at_number n image ≡ o → (elim o as (λ _. ℕ) [ Some s ↦ s.position | None ↦ 0 ]) ≡ 0
          → n ≡ new_number image n
      by_kept None is h = sym (ap (λ (o : Option KeptSection). elim o as (λ _. ℕ) [ Some s ↦ s.position | None ↦ n ]) is)
      by_kept (Some s) is h =
          (keeps_first read image f n s is).0 h ∙ sym h
          ∙ sym (ap (λ (o : Option KeptSection). elim o as (λ _. ℕ) [ Some k ↦ k.position | None ↦ n ]) is)

  -- where the table doesn't have 0, the number is the new one
  pub number_moves : (n : ℕ) → (new_section image n == 0) ≡ false → new_section image n ≡ new_number image n
  number_moves n some = by_kept (kept_at_number n image) refl some
    where
      by_kept : (o : Option KeptSection) → kept_at_number n image ≡ o
          → ((elim o as (λ _. ℕ) [ Some s ↦ s.position | None ↦ 0 ]) == 0) ≡ false → new_section image n ≡ new_number image n
      by_kept None is h = absurd (false≢true (sym h))
      by_kept (Some s) is h =
          ap (λ (o : Option KeptSection). elim o as (λ _. ℕ) [ Some k ↦ k.position | None ↦ 0 ]) is
          ∙ sym (ap (λ (o : Option KeptSection). elim o as (λ _. ℕ) [ Some k ↦ k.position | None ↦ n ]) is)

  pub symbol_section : (n : ℕ) → nat_le SHN_LORESERVE n ≡ false → new_section image n ≡ new_symbol_section image n
  symbol_section n plain = sym (ap (λ (b : Bool). if b then n else new_section image n) plain)

  pub special_section : (n : ℕ) → nat_le SHN_LORESERVE n ≡ true → n ≡ new_symbol_section image n
  special_section n special = sym (ap (λ (b : Bool). if b then n else new_section image n) special)

  -- a new number fits where that of read did
  pub new_fits : (n : ℕ) → n < 65536 → new_number image n < 65536
  new_fits n fits = by_kept (kept_at_number n image) refl
    where
      by_kept : (o : Option KeptSection) → kept_at_number n image ≡ o → new_number image n < 65536
      by_kept None is =
          let same : new_number image n ≡ n = ap (λ (o : Option KeptSection). elim o as (λ _. ℕ) [ Some k ↦ k.position | None ↦ n ]) is in
          omega (arith, same, fits)
      by_kept (Some s) is =
          let now : new_number image n ≡ s.position = ap (λ (o : Option KeptSection). elim o as (λ _. ℕ) [ Some k ↦ k.position | None ↦ n ]) is in
          let (at, _, _) = read_number read image f n s is in
          omega (arith, now, slice_get_within image.sections s.position at.section at.is_section, few_sections)
