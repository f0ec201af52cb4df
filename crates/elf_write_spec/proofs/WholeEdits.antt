-- What is known of an edited image: the parts of the file that was read, and how they match the sections that are still there.
use Rattle.std.proofs.Common.{◌≡◌, ℕ, zero, suc, ◌<◌, ◌≤◌, List, length, map, Bool, true, false, refl, sym, ap, ◌∙◌, subst, inl, inr, Option, Some, None, Ok, arith}
use Rattle.std.specs.Prelude.{◌&&◌, ◌||◌, ◌==◌, Contains, find, slice_index, IsSome}
use Rattle.std.proofs.lemmas.Bool.{both_ways, eq-eqb, eqb-true, false_from_ne_true, false≢true}
use Rattle.std.proofs.lemmas.Option.{get_or_from_slice_get, none-some, same_Some, slice_get-get_or, slice_get_within}
use Rattle.patch_bytes.specs.Memory.{◌>>=◌}
use Rattle.patch_bytes.proofs.MemoryLaws.{bind_some}
use Rattle.std.specs.List.{slice_get}
use Rattle.elf_format.specs.declared.constants.TheConstants.{PT_INTERP, SHT_PROGBITS, SHT_SYMTAB}
use Rattle.elf_format.specs.declared.records.SectionHeader.{SectionHeader}
use Rattle.elf_format.specs.declared.records.SegmentHeader.{SegmentHeader}
use Rattle.elf_format.specs.File.{Parts, section_of_type, segment_of_type}
use Rattle.elf_format.specs.Image.{Image, ImageSection, image_of}
use Rattle.elf_format.specs.Options.{is_one_of}
use Rattle.elf_format.specs.Rules.{ArePartsOf, MeetsRules, accepted_parts}
use Rattle.elf_image.specs.Edited.{IsEdited, IsEditOf, IsName}
use Rattle.elf_image.specs.Needed.{is_lasting, lasting_types, names_section}
use Rattle.elf_image.specs.ReadImage.{HoldsParts, IsSectionOf, section_with}
use Rattle.elf_image.proofs.ForCallers.ReadImageLaws.{read_images_hold_parts}
use Rattle.elf_image.specs.Kept.{KeptSection, dynamic_strings_number, image_at_read, interpreter_number, is_numbered, kept_at_number, kept_of_type, kept_sections, stands_as_interpreter}
use Rattle.elf_layout_plan.specs.Needs.{written_entries, written_needs}
use Rattle.elf_layout_plan.proofs.ForCallers.ApartLists.{find-at}
use Rattle.elf_layout_plan.proofs.ForCallers.PlacedRead.{at_read}
use Rattle.elf_write_spec.specs.Base.{is_interpreter}
use Rattle.elf_write_spec.specs.Final.{final, final_symbol, new_number}
use Rattle.elf_write_spec.proofs.WholeLists.{FoundAt, NonePasses, find-is, find-no, first_at, some_there, there_at}
use Rattle.elf_write_spec.proofs.LinkedLists.{one_place}
use Rattle.elf_write_spec.proofs.SingleTypes.{one_section}
use Rattle.elf_format.proofs.ForCallers.Lengths.{length-counted, slice_get-counted}
use Rattle.elf_write_spec.proofs.NumberedSections.{AreRising, counted_rise, kept_as, new-there, number_behind}
use Rattle.elf_write_spec.proofs.NumberedSections as by_number

-- an edited image, with the image that was read from its source
pub record IsWholeEdit (read image : Image) : Type 0 where
  pub at_read : read ≡ image_at_read image
  pub edited : IsEdited image

-- ## The file that was read

pub record ReadFacts (read image : Image) : Type 0 where
  pub parts : Parts
  pub accepted : accepted_parts image.source ≡ Ok parts
  pub are_parts : ArePartsOf image.source parts
  pub rules : MeetsRules parts
  pub holds : HoldsParts parts read
  pub edit : IsEditOf read image

pub read_facts : (read image : Image) → IsWholeEdit read image → ReadFacts read image
read_facts read image is =
    let e = is.edited in
    let same : read ≡ e.read = is.at_read ∙ at_read (image_of image.source) e.read image e.is_read in
    let (p, there, parts, rules, holding) = read_images_hold_parts image.source e.read e.is_read in
    record {
      parts = p;
      accepted = there;
      are_parts = parts;
      rules = rules;
      holds = subst (λ (x : Image). HoldsParts p x) (sym same) holding;
      edit = subst (λ (x : Image). IsEditOf x image) (sym same) e.is_edit;
    }

-- ## Section by section

-- the section of a header, perhaps with another name
pub record IsOfHeader (p : Parts) (old : SectionHeader) (s : ImageSection) : Type 0 where
  pub fields : s ≡ section_with p old s.name

-- a section that is there, its number at read, and the header that it was read from
pub record SectionRead (read image : Image) (p : Parts) (i : ℕ) : Type 0 where
  pub number : ℕ
  pub old : SectionHeader
  pub section : ImageSection
  pub is_number : slice_get image.section_numbers i ≡ Some number
  pub is_old : slice_get p.sections number ≡ Some old
  pub is_section : slice_get image.sections i ≡ Some section
  pub is_kept : slice_get (kept_sections image) i ≡ Some (kept_as i number section)
  pub of_old : IsOfHeader p old section
  -- the section as it was read, perhaps with another name
  pub was : ImageSection
  pub is_was : slice_get read.sections number ≡ Some was
  pub was_old : IsSectionOf p old was
  pub renamed : section ≡ record was { name = section.name }
  pub named : IsName section.name

module _ (read image : Image) (f : ReadFacts read image) where
  -- an image has as many numbers as sections, and they rise
  pub numbered : length image.section_numbers ≡ length image.sections
  numbered = f.edit.sections.numbered

  pub rising : AreRising image.section_numbers
  rising = f.edit.sections.rising

  pub length-kept : length (kept_sections image) ≡ length image.sections
  length-kept = by_number.length-kept image numbered

  -- as many sections were read as headers
  pub length-read : length read.sections ≡ length f.parts.sections
  length-read = f.holds.sections.count

  pub section_read : (i : ℕ) → i < length image.sections → SectionRead read image f.parts i
  section_read i within =
      let (s, at) = there_at image.sections i within in
      let n : ℕ = slice_index image.section_numbers i in
      let n_at : slice_get image.section_numbers i ≡ Some n = slice_get-get_or image.section_numbers i 0 (omega (arith, within, numbered)) in
      let (was, was_at, (named, renamed)) = f.edit.sections.same i s at in
      let (old, old_at, of_old) = f.holds.sections.each n was was_at in
      record {
        number = n;
        old = old;
        section = s;
        is_number = n_at;
        is_old = old_at;
        is_section = at;
        is_kept = by_number.kept-at image numbered i n s n_at at;
        of_old = record { fields = renamed ∙ ap (λ (x : ImageSection). record x { name = s.name }) of_old.fields };
        was = was;
        is_was = was_at;
        was_old = of_old;
        renamed = renamed;
        named = named;
      }

  -- the section that is kept at a position
  pub kept_read : (i : ℕ) (k : KeptSection) → slice_get (kept_sections image) i ≡ Some k
      → (at : SectionRead read image f.parts i) × (kept_as i at.number at.section ≡ k)
  kept_read i k there =
      let within : i < length image.sections = omega (arith, slice_get_within (kept_sections image) i k there, length-kept) in
      let at : SectionRead read image f.parts i = section_read i within in
      (at, same_Some (kept_as i at.number at.section) k (sym at.is_kept ∙ there))

  -- no section is there before its number at read
  pub number_past : (i : ℕ) → (at : SectionRead read image f.parts i) → i ≤ at.number
  number_past i at =
      let within : i < length image.section_numbers = slice_get_within image.section_numbers i at.number at.is_number in
      omega (arith, number_behind image.section_numbers rising i within, get_or_from_slice_get image.section_numbers i at.number 0 at.is_number)

  pub number_below : (i : ℕ) → (at : SectionRead read image f.parts i) → at.number < length f.parts.sections
  number_below i at = slice_get_within f.parts.sections at.number at.old at.is_old

  -- there are no more sections than were read
  pub length-now : length image.sections ≤ length f.parts.sections
  length-now = no_more (length image.sections) refl
    where
      no_more : (n : ℕ) → length image.sections ≡ n → length image.sections ≤ length f.parts.sections
      no_more zero e = omega (arith, e)
      no_more (suc n) e =
          let at = section_read n (omega (arith, e)) in
          omega (arith, number_past n at, number_below n at, e)

  -- ## By number

  -- a section's position is its new number
  pub kept_is : (i : ℕ) → (at : SectionRead read image f.parts i) → kept_at_number at.number image ≡ Some (kept_as i at.number at.section)
  kept_is i at = by_number.kept_is image numbered rising i (kept_as i at.number at.section) at.is_kept

  pub new_number-at : (i : ℕ) → (at : SectionRead read image f.parts i) → new_number image at.number ≡ i
  new_number-at i at = new-there image at.number (kept_as i at.number at.section) (kept_is i at)

  -- the section that is there with a number
  pub read_number : (n : ℕ) (k : KeptSection) → kept_at_number n image ≡ Some k
      → (at : SectionRead read image f.parts k.position) × (kept_as k.position at.number at.section ≡ k) × (at.number ≡ n)
  read_number n k is =
      let (there, number) = by_number.kept_found image numbered rising n k is in
      let (at, same) = kept_read k.position k there in
      (at, same, ap (λ (x : KeptSection). x.number) same ∙ number)

  -- one section for each number
  pub one_number : (i j : ℕ) → (at : SectionRead read image f.parts i) → (other : SectionRead read image f.parts j) → at.number ≡ other.number → i ≡ j
  one_number i j at other same =
      by_number.one_position image.section_numbers rising i j other.number (at.is_number ∙ ap (λ (n : ℕ). Some n) same) other.is_number

  -- of two sections the one that was read first stands first
  pub numbers_rise : (i j : ℕ) → (at : SectionRead read image f.parts i) → (other : SectionRead read image f.parts j) → i < j → at.number < other.number
  numbers_rise i j at other less =
      omega (
        arith,
        rising i j less (slice_get_within image.section_numbers j other.number other.is_number),
        get_or_from_slice_get image.section_numbers i at.number 0 at.is_number,
        get_or_from_slice_get image.section_numbers j other.number 0 other.is_number,
      )

  -- ## Sections as they were read

  read_numbered : length read.section_numbers ≡ length read.sections
  read_numbered = ap length f.holds.section_numbers ∙ length-counted (length read.sections)

  pub read_kept : (n : ℕ) (was : ImageSection) → slice_get read.sections n ≡ Some was → slice_get (kept_sections read) n ≡ Some (kept_as n n was)
  read_kept n was at =
      by_number.kept-at read read_numbered n n was
      (ap (λ (l : List ℕ). slice_get l n) f.holds.section_numbers
      ∙ slice_get-counted (length read.sections) n (slice_get_within read.sections n was at)) at

  -- the section that was read at a number
  pub was_there : (n : ℕ) (old : SectionHeader) → slice_get f.parts.sections n ≡ Some old
      → (was : ImageSection) × (slice_get read.sections n ≡ Some was) × IsSectionOf f.parts old was
  was_there n old at =
      let (was, was_at) = there_at read.sections n (omega (arith, slice_get_within f.parts.sections n old at, length-read)) in
      let (header, header_at, of_header) = f.holds.sections.each n was was_at in
      (was, was_at, subst (λ (h : SectionHeader). IsSectionOf f.parts h was) (same_Some header old (sym header_at ∙ at)) of_header)

  read_has : (n : ℕ) (was : ImageSection) → slice_get read.sections n ≡ Some was → Contains (kept_sections read) (kept_as n n was)
  read_has n was at =
      let there = read_kept n was at in (
        n,
        slice_get_within (kept_sections read) n (kept_as n n was) there,
        get_or_from_slice_get (kept_sections read) n (kept_as n n was) (kept_as n n was) there,
      )

  now_has : (i : ℕ) → (at : SectionRead read image f.parts i) → Contains (kept_sections image) (kept_as i at.number at.section)
  now_has i at = (
    i,
    slice_get_within (kept_sections image) i (kept_as i at.number at.section) at.is_kept,
    get_or_from_slice_get (kept_sections image) i (kept_as i at.number at.section) (kept_as i at.number at.section) at.is_kept,
  )

  -- ## What can't have gone

  -- the section that has a number, by what says that one is there
  stands_by : (n : ℕ) → IsSome (kept_at_number n image) → (i : ℕ) × (at : SectionRead read image f.parts i) × (at.number ≡ n)
  stands_by n some =
      let (k, is) = some_there (kept_at_number n image) some in
      let (at, _, same) = read_number n k is in
      (k.position, at, same)

  -- a lasting section is there
  pub lasting_there : (n : ℕ) (was : ImageSection) → slice_get read.sections n ≡ Some was → is_lasting read (kept_as n n was) ≡ true
      → (i : ℕ) × (at : SectionRead read image f.parts i) × (at.number ≡ n)
  lasting_there n was at lasts = stands_by n (f.edit.complete.lasting (kept_as n n was) (read_has n was at) lasts)

  -- a section that another one names is there
  pub named_there : (i n : ℕ) → (at : SectionRead read image f.parts i) → n < length f.parts.sections → names_section at.section n ≡ true
      → (j : ℕ) × (to : SectionRead read image f.parts j) × (to.number ≡ n)
  named_there i n at below names =
      let (was, was_at) = there_at read.sections n (omega (arith, below, length-read)) in
      stands_by n (f.edit.complete.linked (kept_as i at.number at.section) (kept_as n n was) (now_has i at) (read_has n was was_at) names)

  -- a number that no section was read at stays, and no section is there at it
  pub none_there : (n : ℕ) → length f.parts.sections ≤ n → kept_at_number n image ≡ None
  none_there n past = by_kept (kept_at_number n image) refl
    where
      by_kept : (o : Option KeptSection) → kept_at_number n image ≡ o → o ≡ None
      by_kept None is = refl
      by_kept (Some k) is =
          let (at, _, same) = read_number n k is in
          absurd (omega (arith, number_below k.position at, same, past))

-- ## The interpreter's section

-- PT_INTERP stood where the section stood that was read at that number
pub record InterpreterRead (read : Image) (n : ℕ) : Type 0 where
  pub segment : SegmentHeader
  pub is_segment : segment_of_type PT_INTERP read.segments ≡ Some segment
  pub section : ImageSection
  pub is_section : slice_get read.sections n ≡ Some section
  pub stands : stands_as_interpreter segment section ≡ true

pub interpreter_read : (read image : Image) → (f : ReadFacts read image) → (n : ℕ) → interpreter_number read ≡ Some n → InterpreterRead read n
interpreter_read read image f n h =
    let (q, at_q, rest) = bind_some (segment_of_type PT_INTERP read.segments)
    (λ q. find (λ s. stands_as_interpreter q s.section) (kept_sections read) >>= λ s. Some s.number) n h in
    let (s, found, number) = bind_some (find (λ s. stands_as_interpreter q s.section) (kept_sections read)) (λ s. Some s.number) n rest in
    let (j, at_s, stands) = find-at (λ s. stands_as_interpreter q s.section) (kept_sections read) s found in
    let (_, s_number, section) = by_number.kept_has read (read_numbered read image f) j s at_s in
    let own : j ≡ s.number =
    same_Some j s.number (sym (ap (λ (l : List ℕ). slice_get l j) f.holds.section_numbers
    ∙ slice_get-counted (length read.sections) j (slice_get_within read.sections j s.section section)) ∙ s_number) in
    let index : j ≡ n = own ∙ same_Some s.number n number in
    record {
      segment = q;
      is_segment = at_q;
      section = s.section;
      is_section = ap (λ (k : ℕ). slice_get read.sections k) (sym index) ∙ section;
      stands = stands;
    }

-- the section where PT_INTERP stood is of PROGBITS
pub stands_typed : (q : SegmentHeader) (s : ImageSection) → stands_as_interpreter q s ≡ true → s.sh_type ≡ SHT_PROGBITS
stands_typed q s h =
    eqb-true s.sh_type SHT_PROGBITS
    (first (s.sh_type == SHT_PROGBITS) (s.sh_offset == q.p_offset) (s.sh_addr == q.p_vaddr) (s.sh_size == q.p_filesz) h)
  where
    first : (a b c d : Bool) → (a && b && c && d) ≡ true → a ≡ true
    first true b c d e = refl
    first false b c d e = absurd (false≢true e)

numbered_is : (o : Option ℕ) (k : KeptSection) → is_numbered o k ≡ true → o ≡ Some k.number
numbered_is None k h = absurd (false≢true h)
numbered_is (Some n) k h = ap (λ (m : ℕ). Some m) (eqb-true n k.number h)

module _ (read image : Image) (f : ReadFacts read image) (i : ℕ) (at : SectionRead read image f.parts i) where
  -- PT_INTERP stood at a section that is the interpreter's
  pub interpreter_stands : is_interpreter read (kept_as i at.number at.section) ≡ true
      → (q : SegmentHeader) × (segment_of_type PT_INTERP read.segments ≡ Some q) × (stands_as_interpreter q at.section ≡ true)
  interpreter_stands h =
      let there = interpreter_read read image f at.number (numbered_is (interpreter_number read) (kept_as i at.number at.section) h) in
      let same : there.section ≡ at.was = same_Some there.section at.was (sym there.is_section ∙ at.is_was) in (
        there.segment,
        there.is_segment,
        ap (stands_as_interpreter there.segment) at.renamed
            ∙ ap (stands_as_interpreter there.segment) (sym same) ∙ there.stands,
      )

  pub interpreter_type : is_interpreter read (kept_as i at.number at.section) ≡ true → at.section.sh_type ≡ SHT_PROGBITS
  interpreter_type h = let (q, _, stands) = interpreter_stands h in stands_typed q at.section stands

  -- a section of another type isn't the interpreter's
  pub not_interpreter : (at.section.sh_type == SHT_PROGBITS) ≡ false → is_interpreter read (kept_as i at.number at.section) ≡ false
  not_interpreter other = false_from_ne_true (is_interpreter read (kept_as i at.number at.section)) (λ h.
      both_ways (at.section.sh_type == SHT_PROGBITS) other (eq-eqb at.section.sh_type SHT_PROGBITS (interpreter_type h)))

-- ## The one section of a type

-- of a type either no section is there, before and after, or the first of the type that was read is the first that is there
pub data TypeAt (read image : Image) (p : Parts) (type : ℕ) : Type 0 where
  Nowhere : section_of_type type p.sections ≡ None → kept_of_type type image ≡ None → TypeAt read image p type
  There : (i : ℕ) → (at : SectionRead read image p i) → at.old.sh_type ≡ type → at.section.sh_type ≡ type
      → section_of_type type p.sections ≡ Some at.old → kept_of_type type image ≡ Some (kept_as i at.number at.section) → TypeAt read image p type

-- the section of the static symbols may have gone, too
pub data StaticAt (read image : Image) (p : Parts) : Type 0 where
  Stays : TypeAt read image p SHT_SYMTAB → StaticAt read image p
  Went : (old : SectionHeader) → section_of_type SHT_SYMTAB p.sections ≡ Some old → kept_of_type SHT_SYMTAB image ≡ None → StaticAt read image p

last_of_four : (a b c d : Bool) → d ≡ true → (a || b || c || d) ≡ true
last_of_four true b c d h = refl
last_of_four false true c d h = refl
last_of_four false false true d h = refl
last_of_four false false false d h = h

-- what is known of all headers that were read is known of the sections that are there
module _ (read image : Image) (f : ReadFacts read image) (type : ℕ) where
  abbrev pub was_of : SectionHeader → Bool
  was_of s = s.sh_type == type

  abbrev was_kept : KeptSection → Bool
  was_kept s = s.section.sh_type == type

  in_kept : (j : ℕ) (k : KeptSection) → slice_get (kept_sections image) j ≡ Some k
      → (at : SectionRead read image f.parts j) × (was_kept k ≡ was_of at.old)
  in_kept j k there =
      let (at, same) = kept_read read image f j k there in
      (at, ap (λ (x : KeptSection). x.section.sh_type == type) (sym same) ∙ ap (λ (x : ImageSection). x.sh_type == type) at.of_old.fields)

  -- the first that was read is the first that is there, where it is there
  pub kept_found : (found : FoundAt was_of f.parts.sections) → (i : ℕ) → (at : SectionRead read image f.parts i) → at.number ≡ found.index
      → at.section.sh_type ≡ type → kept_of_type type image ≡ Some (kept_as i at.number at.section)
  kept_found found i at same typed =
      find-is was_kept (kept_sections image) i (kept_as i at.number at.section) at.is_kept (eq-eqb at.section.sh_type type typed) (λ j k less k_at.
      let (other, tells) = in_kept j k k_at in
      tells ∙ found.before other.number other.old (omega (arith, numbers_rise read image f j i other at less, same)) other.is_old)

  pub kept_nowhere : NonePasses was_of f.parts.sections → kept_of_type type image ≡ None
  kept_nowhere none =
      find-no was_kept (kept_sections image) (λ j k k_at. let (at, tells) = in_kept j k k_at in tells ∙ none at.number at.old at.is_old)

  type_found : (found : FoundAt was_of f.parts.sections) → (i : ℕ) → (at : SectionRead read image f.parts i) → at.number ≡ found.index
      → TypeAt read image f.parts type
  type_found found i at number =
      let same : found.element ≡ at.old =
      same_Some found.element at.old (sym found.there ∙ ap (slice_get f.parts.sections) (sym number) ∙ at.is_old) in
      let passes : was_of at.old ≡ true = ap was_of (sym same) ∙ found.passes in
      let types : at.section.sh_type ≡ at.old.sh_type = ap (λ (x : ImageSection). x.sh_type) at.of_old.fields in
      let typed : at.old.sh_type ≡ type = eqb-true at.old.sh_type type passes in
      There i at typed (types ∙ typed) (found.is_first ∙ ap (λ (x : SectionHeader). Some x) same)
      (kept_found found i at number (types ∙ typed))

  type_nowhere : NonePasses was_of f.parts.sections → TypeAt read image f.parts type
  type_nowhere none =
      Nowhere (find-no was_of f.parts.sections none) (kept_nowhere none)

  -- the first of a lasting type is there
  pub first_lasts : is_one_of lasting_types type ≡ true → (found : FoundAt was_of f.parts.sections)
      → (i : ℕ) × (at : SectionRead read image f.parts i) × (at.number ≡ found.index)
  first_lasts lasting found =
      let (was, was_at, of_old) = was_there read image f found.index found.element found.there in
      let typed : was.sh_type ≡ type = ap (λ (x : ImageSection). x.sh_type) of_old.fields ∙ eqb-true found.element.sh_type type found.passes in
      lasting_there read image f found.index was was_at
      (last_of_four (found.index == 0) (found.index == read.header.e_shstrndx)
      (is_numbered (dynamic_strings_number read) (kept_as found.index found.index was)) (is_one_of lasting_types was.sh_type)
      (ap (is_one_of lasting_types) typed ∙ lasting))

  pub lasting_at : is_one_of lasting_types type ≡ true → TypeAt read image f.parts type
  lasting_at lasting = elim (first_at was_of f.parts.sections) [
    | inl found ↦ let (i, at, number) = first_lasts lasting found in type_found found i at number
    | inr none ↦ type_nowhere none
  ]

pub type_at : (read image : Image) → (f : ReadFacts read image) → (type : ℕ) → is_one_of lasting_types type ≡ true → TypeAt read image f.parts type
type_at read image f type lasting = lasting_at read image f type lasting

-- where the one that was read isn't there, none is
static_went : (read image : Image) → (f : ReadFacts read image) → (found : FoundAt (was_of read image f SHT_SYMTAB) f.parts.sections)
    → kept_at_number found.index image ≡ None → kept_of_type SHT_SYMTAB image ≡ None
static_went read image f found gone =
    find-no (λ (s : KeptSection). s.section.sh_type == SHT_SYMTAB) (kept_sections image) (λ j k k_at.
    let (at, tells) = in_kept read image f SHT_SYMTAB j k k_at in
    tells ∙ false_from_ne_true (at.old.sh_type == SHT_SYMTAB) (λ passes.
    let same : at.number ≡ found.index =
    one_place (λ (s : SectionHeader). s.sh_type == SHT_SYMTAB) f.parts.sections at.number found.index at.old found.element
    (one_section f.parts f.rules SHT_SYMTAB refl) at.is_old found.there passes found.passes in
    none-some (kept_as j at.number at.section) (sym gone ∙ ap (λ (n : ℕ). kept_at_number n image) (sym same) ∙ kept_is read image f j at)))

pub static_at : (read image : Image) → (f : ReadFacts read image) → StaticAt read image f.parts
static_at read image f = elim (first_at (was_of read image f SHT_SYMTAB) f.parts.sections) [
  | inl found ↦ by_kept found (kept_at_number found.index image) refl
  | inr none ↦ Stays (type_nowhere read image f SHT_SYMTAB none)
]
  where
    by_kept : (found : FoundAt (was_of read image f SHT_SYMTAB) f.parts.sections) → (o : Option KeptSection) → kept_at_number found.index image ≡ o
        → StaticAt read image f.parts
    by_kept found None is = Went found.element found.is_first (static_went read image f found is)
    by_kept found (Some k) is =
        let (at, _, number) = read_number read image f found.index k is in
        Stays (type_found read image f SHT_SYMTAB found k.position at number)

-- ## The final lists

pub needs_written : (read image : Image) → (final read image).needs ≡ written_needs read image
unfolding final
needs_written read image = refl

pub entries_written : (read image : Image) → (final read image).entries ≡ written_entries read image
unfolding final
entries_written read image = refl

-- each static symbol with the new number of its section
pub symbols_written : (read image : Image) → (final read image).symbols ≡ map (final_symbol image) image.symbols
unfolding final
symbols_written read image = refl
