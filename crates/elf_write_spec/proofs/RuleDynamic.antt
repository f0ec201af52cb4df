-- The dynamic section and the interpreter of a written file stand where program headers say.
use Rattle.std.proofs.Common.{◌≡◌, ℕ, Bool, true, false, cond, List, [], ◌∷◌, length, take, refl, sym, ap, ◌∙◌, Option, Some, None}
use Rattle.std.specs.Prelude.{◌==◌, ◌&&◌, IsTrue, find, if◌then◌else◌, is_some}
use Rattle.std.specs.List.{slice_get}
use Rattle.std.proofs.Math.Seq.{take-length}
use Rattle.std.proofs.lemmas.Bool.{and_from, and_parts, both_ways, eq-eqb, eqb-true, false≢true}
use Rattle.std.proofs.lemmas.Option.{same_Some}
use Rattle.patch_bytes.specs.Memory.{◌>>=◌, memory_of}
use Rattle.patch_bytes.proofs.MemoryLaws.{some_bind}
use Rattle.elf_format.specs.declared.form.Form.{Form}
use Rattle.elf_format.specs.declared.constants.TheConstants.{SHF_ALLOC, PT_DYNAMIC, PT_INTERP, PT_LOAD, PT_PHDR, SHT_DYNAMIC, SHT_PROGBITS}
use Rattle.elf_format.specs.declared.records.SectionHeader.{SectionHeader}
use Rattle.elf_format.specs.declared.records.SegmentHeader.{SegmentHeader}
use Rattle.elf_format.specs.Dynamic.{entries_at}
use Rattle.elf_format.specs.File.{is_allocated, section_bytes, section_of_type, segment_of_type}
use Rattle.elf_format.specs.Image.{ImageSection}
use Rattle.elf_format.specs.Options.{are_both_or_neither, is_none_or}
use Rattle.elf_format.specs.Places.{Place, is_set, occupies_memory}
use Rattle.elf_format.specs.Rules.{dynamic_section_agrees, file_of, is_dynamic_section_right, is_interpreter_right}
use Rattle.elf_format.specs.Views.{interpreter_section}
use Rattle.elf_image.specs.Edited.{kept_segment}
use Rattle.elf_layout_plan.specs.Anchors.{Itself, Anchor, OneSection, is_loaded_section, anchor_by_range, anchor_of, anchor_or_itself, does_relro_stay, section_or_table, section_under}
use Rattle.elf_image.specs.Kept.{KeptSection, image_at_read, interpreter_number, is_numbered, kept_at_number, kept_of_type, kept_sections, stands_as_interpreter}
use Rattle.elf_layout_plan.specs.Memory.{Resized}
use Rattle.elf_layout_plan.specs.Plan.{resized}
use Rattle.elf_layout_plan.specs.Written.{anchored_to, target_at}
use Rattle.elf_layout_plan.proofs.ForCallers.ApartLists.{find-at, find-misses, each-at}
use Rattle.elf_write_spec.specs.ReadBack.{HasWrittenParts, written_parts}
use Rattle.elf_write_spec.specs.Output.{IsPlannedOutput, Output, written_bytes}
use Rattle.elf_write_spec.proofs.InterpreterAt.{interpreter_is}
use Rattle.elf_write_spec.proofs.WholeEdits.{read_kept, was_there}
use Rattle.elf_write_spec.proofs.RawEntries.{entries_here, place_filled}
use Rattle.elf_write_spec.proofs.UnloadedStay.{unloaded_stays}
use Rattle.elf_write_spec.proofs.WholeFacts.{Nowhere, ReadFacts, SectionAt, There, TypeAt, kept_is, read_facts, type_at}
use Rattle.elf_write_spec.proofs.WrittenTypes.{ASegment, GoneSegment, NoSegment, SegmentAt, all_places_are, becomes, becomes-section, has_type, segment_at}
use Rattle.elf_write_spec.proofs.NumberedSections.{kept_as}

-- ## What a program header goes by

module _ (r : Resized) (p : SegmentHeader) where
  anchor_by : ℕ → Anchor
  anchor_by type =
      if type == PT_LOAD then Itself
      else if type == PT_PHDR then section_or_table (section_under r.image p)
      else if type == PT_DYNAMIC then anchor_or_itself (kept_of_type SHT_DYNAMIC r.image)
      else if type == PT_INTERP then anchor_or_itself (find (is_numbered (interpreter_number r.read)) (kept_sections r.image))
      else if does_relro_stay r.image.moves_dynamic type then Itself
      else anchor_by_range r.read r.image p

  anchor_is : anchor_of r.read r.image p ≡ anchor_by p.p_type
  unfolding anchor_of anchor_by
  anchor_is = refl

  dynamic_anchor : p.p_type ≡ PT_DYNAMIC → anchor_of r.read r.image p ≡ anchor_or_itself (kept_of_type SHT_DYNAMIC r.image)
  unfolding anchor_by
  dynamic_anchor type = anchor_is ∙ ap anchor_by type

  interpreter_anchor : p.p_type ≡ PT_INTERP
      → anchor_of r.read r.image p ≡ anchor_or_itself (find (is_numbered (interpreter_number r.read)) (kept_sections r.image))
  unfolding anchor_by
  interpreter_anchor type = anchor_is ∙ ap anchor_by type

first_typed : (type : ℕ) (ps : List SegmentHeader) (p : SegmentHeader) → segment_of_type type ps ≡ Some p → p.p_type ≡ type
first_typed type ps p h = let (_, _, passes) = find-at (has_type type) ps p h in eqb-true p.p_type type passes

-- where its section goes
becomes_at : (w : Output) (is : IsPlannedOutput w) (f : ReadFacts w) (i : ℕ) (at : SectionAt w f.parts i) (p : SegmentHeader)
    → anchor_of (image_at_read w.image) w.image p ≡ OneSection (kept_as i at.number at.section)
    → becomes (resized w.image) is.planned.moved p ≡ anchored_to w.image.form p (target_at at.place)
becomes_at w is f i at p anchor =
    becomes-section (resized w.image) is.planned.moved p (kept_as i at.number at.section) at.place anchor
    (ap (λ (l : List Place). slice_get l i) (sym (all_places_are w is)) ∙ at.is_place)

address_by : SegmentHeader → Place → Bool → ℕ
address_by p x b = elim (if b then Some x.sh_addr else None) as (λ _. ℕ) [ Some address ↦ address | None ↦ p.p_vaddr ]

address_is : (form : Form) (p : SegmentHeader) (x : Place) → (anchored_to form p (target_at x)).p_vaddr ≡ address_by p x (occupies_memory x)
unfolding address_by
address_is form p x = refl

-- the address of a section in memory, or its own
address_in : (form : Form) (p : SegmentHeader) (x : Place) → occupies_memory x ≡ true → (anchored_to form p (target_at x)).p_vaddr ≡ x.sh_addr
unfolding address_by
address_in form p x takes = address_is form p x ∙ ap (address_by p x) takes

address_out : (form : Form) (p : SegmentHeader) (x : Place) → occupies_memory x ≡ false → (anchored_to form p (target_at x)).p_vaddr ≡ p.p_vaddr
unfolding address_by
address_out form p x none = address_is form p x ∙ ap (address_by p x) none

both : {A B : Type 0} (test : A → B → Bool) (o : Option A) (u : Option B) (o2 : Option A) (u2 : Option B) → o ≡ o2 → u ≡ u2
    → are_both_or_neither test o u ≡ are_both_or_neither test o2 u2
both test o u o2 u2 e g = ap (λ v. are_both_or_neither test v u) e ∙ ap (are_both_or_neither test o2) g

-- ## The dynamic section

dynamic_agrees : (w : Output) → IsPlannedOutput w → HasWrittenParts w → (f : ReadFacts w) (i : ℕ) (at : SectionAt w f.parts i)
    → at.old.sh_type ≡ SHT_DYNAMIC
    → is_allocated at.old ≡ true → (p : SegmentHeader)
    → dynamic_section_agrees (written_parts w) (anchored_to w.image.form p (target_at at.place)) at.header ≡ true
dynamic_agrees w is has f i at type allocated p =
    let q : SegmentHeader = anchored_to w.image.form p (target_at at.place) in
    let file : List ℕ = written_bytes w in
    let here : List ℕ = section_bytes file at.header in
    let takes : occupies_memory at.place ≡ true = ap (λ n. is_set SHF_ALLOC n) at.place_flags ∙ allocated in
    let address : q.p_vaddr ≡ at.header.sh_addr = address_in w.image.form p at.place takes ∙ sym at.address in
    let bytes : here ≡ at.bytes = has.contents i at.header at.bytes at.is_header at.is_bytes in
    let size : q.p_filesz ≡ length here = sym (place_filled w is f i at type) ∙ ap length (sym bytes) in
    let whole : take q.p_filesz here ≡ here = ap (λ n. take n here) size ∙ take-length here in
    let ends : is_some (entries_at (length file) w.image.form (memory_of (take q.p_filesz here)) 0) ≡ true =
    ap (λ (l : List ℕ). is_some (entries_at (length file) w.image.form (memory_of l) 0)) whole
    ∙ ap is_some (entries_here w is f i at type has) in
    let a : (q.p_offset == at.header.sh_offset) ≡ true = eq-eqb q.p_offset at.header.sh_offset (sym at.offset) in
    let b : (q.p_vaddr == at.header.sh_addr) ≡ true = eq-eqb q.p_vaddr at.header.sh_addr address in
    let c : is_allocated at.header ≡ true = ap (λ n. is_set SHF_ALLOC n) at.flags ∙ allocated in
    and_from (q.p_offset == at.header.sh_offset && q.p_vaddr == at.header.sh_addr && is_allocated at.header)
    (is_some (entries_at (length file) w.image.form (memory_of (take q.p_filesz here)) 0))
    (and_from (q.p_offset == at.header.sh_offset && q.p_vaddr == at.header.sh_addr) (is_allocated at.header)
    (and_from (q.p_offset == at.header.sh_offset) (q.p_vaddr == at.header.sh_addr) a b) c) ends

dynamic_by : (w : Output) (is : IsPlannedOutput w) → HasWrittenParts w → (f : ReadFacts w) → SegmentAt w is f PT_DYNAMIC
    → TypeAt w f.parts SHT_DYNAMIC
    → are_both_or_neither (dynamic_section_agrees f.parts) (segment_of_type PT_DYNAMIC f.parts.segments)
    (section_of_type SHT_DYNAMIC f.parts.sections) ≡ true
    → are_both_or_neither (dynamic_section_agrees (written_parts w)) (segment_of_type PT_DYNAMIC w.plan.segments)
    (section_of_type SHT_DYNAMIC w.headers) ≡ true
dynamic_by w is has f (NoSegment no_old _ none) (Nowhere no_section none_section _) h =
    both (dynamic_section_agrees (written_parts w)) (segment_of_type PT_DYNAMIC w.plan.segments)
    (section_of_type SHT_DYNAMIC w.headers) None None none none_section
dynamic_by w is has f (NoSegment no_old _ none) (There i at type at_old at_header at_kept) h =
    absurd (false≢true (sym (both (dynamic_section_agrees f.parts) (segment_of_type PT_DYNAMIC f.parts.segments)
    (section_of_type SHT_DYNAMIC f.parts.sections) None (Some at.old) no_old at_old) ∙ h))
dynamic_by w is has f (ASegment old p is_old is_p like now) (Nowhere no_section none_section _) h =
    absurd (false≢true (sym (both (dynamic_section_agrees f.parts) (segment_of_type PT_DYNAMIC f.parts.segments)
    (section_of_type SHT_DYNAMIC f.parts.sections) (Some old) None is_old no_section) ∙ h))
dynamic_by w is has f (GoneSegment old is_old can none_now none) section h =
    absurd (can.1 (first_typed PT_DYNAMIC f.parts.segments old is_old))
dynamic_by w is has f (ASegment old p is_old is_p like now) (There i at type at_old at_header at_kept) h =
    let agreed : dynamic_section_agrees f.parts old at.old ≡ true =
    sym (both (dynamic_section_agrees f.parts) (segment_of_type PT_DYNAMIC f.parts.segments) (section_of_type SHT_DYNAMIC f.parts.sections)
    (Some old) (Some at.old) is_old at_old) ∙ h in
    let ends : Bool = is_some (entries_at (length (file_of f.parts)) f.parts.opened.form
    (memory_of (take old.p_filesz (section_bytes (file_of f.parts) at.old))) 0) in
    let allocated : is_allocated at.old ≡ true =
    (and_parts (old.p_offset == at.old.sh_offset && old.p_vaddr == at.old.sh_addr) (is_allocated at.old)
    (and_parts (old.p_offset == at.old.sh_offset && old.p_vaddr == at.old.sh_addr && is_allocated at.old) ends agreed).0).1 in
    let anchor : anchor_of (image_at_read w.image) w.image p ≡ OneSection (kept_as i at.number at.section) =
    dynamic_anchor (resized w.image) p (first_typed PT_DYNAMIC w.image.segments p is_p) ∙ ap anchor_or_itself at_kept in
    let goes = becomes_at w is f i at p anchor in
    both (dynamic_section_agrees (written_parts w)) (segment_of_type PT_DYNAMIC w.plan.segments) (section_of_type SHT_DYNAMIC w.headers)
    (Some (anchored_to w.image.form p (target_at at.place))) (Some at.header)
    (now ∙ ap (λ (q : SegmentHeader). Some q) goes) at_header
    ∙ dynamic_agrees w is has f i at type allocated p

pub dynamic_right : (w : Output) → IsPlannedOutput w → HasWrittenParts w → IsTrue (is_dynamic_section_right (written_parts w))
dynamic_right w is has =
    let f = read_facts w is in
    dynamic_by w is has f (segment_at w is f PT_DYNAMIC refl refl refl) (type_at w is f SHT_DYNAMIC refl) f.rules.dynamic

-- ## The interpreter

swap : (a b : ℕ) → (a == b) ≡ (b == a)
swap a b = by_tests (a == b) refl (b == a) refl
  where
    by_tests : (x : Bool) → (a == b) ≡ x → (y : Bool) → (b == a) ≡ y → x ≡ y
    by_tests true e true g = refl
    by_tests true e false g = absurd (both_ways (b == a) g (eq-eqb b a (sym (eqb-true a b e))))
    by_tests false e true g = absurd (both_ways (a == b) e (eq-eqb a b (sym (eqb-true b a g))))
    by_tests false e false g = refl

find-same : {A : Type 0} (p q : A → Bool) → ((x : A) → p x ≡ q x) → (xs : List A) → find p xs ≡ find q xs
find-same p q same [] = refl
find-same p q same (x ∷ xs) = ap (λ b. cond b (Some x) (find p xs)) (same x) ∙ ap (cond (q x) (Some x)) (find-same p q same xs)

find-some : {A : Type 0} (test : A → Bool) (xs : List A) (i : ℕ) (x : A) → slice_get xs i ≡ Some x → test x ≡ true
    → is_some (find test xs) ≡ true
find-some {A} test xs i x there passes = by_found (find test xs) refl
  where
    by_found : (o : Option A) → find test xs ≡ o → is_some (find test xs) ≡ true
    by_found None e = absurd (both_ways (test x) (each-at (λ y. test y ≡ false) xs (find-misses test xs e) i x there) passes)
    by_found (Some y) e = ap is_some e

-- the four numbers by which PT_INTERP names its section
record Stands (type offset address size : ℕ) (q : SegmentHeader) : Type 0 where
  is_type : type ≡ SHT_PROGBITS
  is_offset : offset ≡ q.p_offset
  is_address : address ≡ q.p_vaddr
  is_size : size ≡ q.p_filesz

stands-means : (type offset address size : ℕ) (q : SegmentHeader)
    → (type == SHT_PROGBITS && offset == q.p_offset && address == q.p_vaddr && size == q.p_filesz) ≡ true
    → Stands type offset address size q
stands-means type offset address size q h =
    let three = and_parts (type == SHT_PROGBITS && offset == q.p_offset && address == q.p_vaddr) (size == q.p_filesz) h in
    let two = and_parts (type == SHT_PROGBITS && offset == q.p_offset) (address == q.p_vaddr) three.0 in
    let one = and_parts (type == SHT_PROGBITS) (offset == q.p_offset) two.0 in
    record {
      is_type = eqb-true type SHT_PROGBITS one.0;
      is_offset = eqb-true offset q.p_offset one.1;
      is_address = eqb-true address q.p_vaddr two.1;
      is_size = eqb-true size q.p_filesz three.1;
    }

stands-test : (type offset address size : ℕ) (q : SegmentHeader) → Stands type offset address size q
    → (type == SHT_PROGBITS && offset == q.p_offset && address == q.p_vaddr && size == q.p_filesz) ≡ true
stands-test type offset address size q is =
    and_from (type == SHT_PROGBITS && offset == q.p_offset && address == q.p_vaddr) (size == q.p_filesz)
    (and_from (type == SHT_PROGBITS && offset == q.p_offset) (address == q.p_vaddr)
    (and_from (type == SHT_PROGBITS) (offset == q.p_offset) (eq-eqb type SHT_PROGBITS is.is_type) (eq-eqb offset q.p_offset is.is_offset))
    (eq-eqb address q.p_vaddr is.is_address)) (eq-eqb size q.p_filesz is.is_size)

module _ (w : Output) (is : IsPlannedOutput w) (f : ReadFacts w) where
  -- a section stood where PT_INTERP says
  stood_there : (old : SegmentHeader) → is_some (interpreter_section old f.parts.sections) ≡ true
      → (i : ℕ) × (was : ImageSection) × (slice_get (image_at_read w.image).sections i ≡ Some was) × (stands_as_interpreter old was ≡ true)
  stood_there old h = by_found (interpreter_section old f.parts.sections) refl h
    where
      by_found : (o : Option SectionHeader) → interpreter_section old f.parts.sections ≡ o → is_some o ≡ true
          → (i : ℕ) × (was : ImageSection) × (slice_get (image_at_read w.image).sections i ≡ Some was) × (stands_as_interpreter old was ≡ true)
      by_found None e there = absurd (false≢true there)
      by_found (Some x) e there =
          let (i, at_i, passes) = find-at (λ (s : SectionHeader). s.sh_type == SHT_PROGBITS && s.sh_offset == old.p_offset
          && s.sh_addr == old.p_vaddr && s.sh_size == old.p_filesz)
          f.parts.sections x e in
          let (was, was_at, of_old) = was_there (image_at_read w.image) w.image f i x at_i in
          (i, was, was_at, ap (stands_as_interpreter old) of_old.fields ∙ passes)

  -- there is a number of the section where PT_INTERP says
  pub number_there : (old : SegmentHeader) → segment_of_type PT_INTERP f.parts.segments ≡ Some old
      → is_some (interpreter_section old f.parts.sections) ≡ true
      → (n : ℕ) × (interpreter_number (image_at_read w.image) ≡ Some n)
  number_there old is_old h =
      let (i, was, was_at, stands) = stood_there old h in
      let among : slice_get (kept_sections (image_at_read w.image)) i ≡ Some (kept_as i i was) =
      read_kept (image_at_read w.image) w.image f i was was_at in
      by_found (find (λ s. stands_as_interpreter old s.section) (kept_sections (image_at_read w.image))) refl
      (find-some (λ s. stands_as_interpreter old s.section) (kept_sections (image_at_read w.image)) i (kept_as i i was) among stands)
    where
      first : segment_of_type PT_INTERP (image_at_read w.image).segments ≡ Some old
      first = ap (segment_of_type PT_INTERP) f.holds.segments ∙ is_old

      by_found : (o : Option KeptSection) → find (λ s. stands_as_interpreter old s.section) (kept_sections (image_at_read w.image)) ≡ o
          → is_some o ≡ true
          → (n : ℕ) × (interpreter_number (image_at_read w.image) ≡ Some n)
      by_found None e there = absurd (false≢true there)
      by_found (Some s) e there = (
        s.number,
        some_bind (segment_of_type PT_INTERP (image_at_read w.image).segments)
            (λ p. find (λ s. stands_as_interpreter p s.section) (kept_sections (image_at_read w.image)) >>= λ s. Some s.number) old first
            ∙ some_bind (find (λ s. stands_as_interpreter old s.section) (kept_sections (image_at_read w.image))) (λ s. Some s.number) s e,
      )

  -- PT_INTERP goes by it
  pub goes_by : (i n : ℕ) (at : SectionAt w f.parts i) (p : SegmentHeader) → interpreter_number (image_at_read w.image) ≡ Some n
      → at.number ≡ n → p.p_type ≡ PT_INTERP
      → anchor_of (image_at_read w.image) w.image p ≡ OneSection (kept_as i at.number at.section)
  goes_by i n at p number own type =
      interpreter_anchor (resized w.image) p type
      ∙ ap anchor_or_itself (ap (λ o. find (is_numbered o) (kept_sections w.image)) number
      ∙ find-same (is_numbered (Some n)) (λ s. s.number == n) (λ s. swap n s.number) (kept_sections w.image)
      ∙ ap (λ (m : ℕ). kept_at_number m w.image) (sym own) ∙ kept_is w is f i at)

  -- the header of the interpreter's section stands where PT_INTERP says
  header_stands : (n : ℕ) (at : SectionAt w f.parts n) (old p : SegmentHeader) → p ≡ kept_segment w.image.page_size p.p_flags old
      → stands_as_interpreter old at.section ≡ true
      → Stands at.header.sh_type at.header.sh_offset at.header.sh_addr at.header.sh_size (anchored_to w.image.form p (target_at at.place))
  header_stands n at old p like h = record {
    is_type = at.type ∙ ap (λ (s : ImageSection). s.sh_type) (sym at.of_old.fields) ∙ was.is_type;
    is_offset = at.offset;
    is_address = at.address ∙ by_memory (occupies_memory at.place) refl;
    is_size = at.size;
  }
    where
      was : Stands at.section.sh_type at.section.sh_offset at.section.sh_addr at.section.sh_size old
      was = stands-means at.section.sh_type at.section.sh_offset at.section.sh_addr at.section.sh_size old h

      -- the interpreter's section is loaded where its place is
      flags : at.section.sh_flags ≡ at.place.sh_flags
      flags = ap (λ (s : ImageSection). s.sh_flags) at.of_old.fields ∙ sym at.place_flags

      by_memory : (b : Bool) → occupies_memory at.place ≡ b → at.place.sh_addr ≡ (anchored_to w.image.form p (target_at at.place)).p_vaddr
      by_memory true takes = sym (address_in w.image.form p at.place takes)
      by_memory false none =
          let unloaded : is_loaded_section at.section ≡ false = ap (is_set SHF_ALLOC) flags ∙ none in
          unloaded_stays w.image w.plan is.planned n (kept_as n at.number at.section) at.is_kept unloaded at.place at.is_place
          ∙ was.is_address ∙ sym (ap (λ (q : SegmentHeader). q.p_vaddr) like) ∙ sym (address_out w.image.form p at.place none)

  interpreter_by : SegmentAt w is f PT_INTERP
      → is_none_or (λ q. is_some (interpreter_section q f.parts.sections)) (segment_of_type PT_INTERP f.parts.segments) ≡ true
      → is_none_or (λ q. is_some (interpreter_section q w.headers)) (segment_of_type PT_INTERP w.plan.segments) ≡ true
  interpreter_by (NoSegment no_old _ none) h = ap (is_none_or (λ q. is_some (interpreter_section q w.headers))) none
  interpreter_by (GoneSegment old is_old can none_now none) h = ap (is_none_or (λ q. is_some (interpreter_section q w.headers))) none
  interpreter_by (ASegment old p is_old is_p like now) h =
      let stood : is_some (interpreter_section old f.parts.sections) ≡ true =
      sym (ap (is_none_or (λ q. is_some (interpreter_section q f.parts.sections))) is_old) ∙ h in
      let (n, number) = number_there old is_old stood in
      let found = interpreter_is w is f n number (f.edit.complete.interpreter ∙ ap is_some is_p) in
      let at = found.at in
      let same : found.segment ≡ old = same_Some found.segment old (sym found.is_segment ∙ is_old) in
      let stands : stands_as_interpreter old at.section ≡ true = ap (λ q. stands_as_interpreter q at.section) (sym same) ∙ found.stands in
      let q : SegmentHeader = anchored_to w.image.form p (target_at at.place) in
      let goes = becomes_at w is f found.position at p (goes_by found.position n at p number found.number (first_typed PT_INTERP w.image.segments p is_p)) in
      let written : segment_of_type PT_INTERP w.plan.segments ≡ Some q = now ∙ ap (λ (x : SegmentHeader). Some x) goes in
      ap (is_none_or (λ x. is_some (interpreter_section x w.headers))) written
      ∙ find-some (λ (s : SectionHeader). s.sh_type == SHT_PROGBITS && s.sh_offset == q.p_offset && s.sh_addr == q.p_vaddr
      && s.sh_size == q.p_filesz)
      w.headers found.position at.header at.is_header (stands-test at.header.sh_type at.header.sh_offset at.header.sh_addr at.header.sh_size q
      (header_stands found.position at old p like stands))

pub interpreter_right : (w : Output) → IsPlannedOutput w → HasWrittenParts w → IsTrue (is_interpreter_right (written_parts w))
interpreter_right w is has = let f = read_facts w is in interpreter_by w is f (segment_at w is f PT_INTERP refl refl refl) f.rules.interpreter
