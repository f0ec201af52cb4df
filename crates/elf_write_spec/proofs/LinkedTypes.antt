-- The types, links and numbers of sections of a written file are those that were read.
use Rattle.std.proofs.Common.{◌≡◌, ◌≤◌, ◌<◌, ℕ, length, Bool, true, false, List, [], ◌∷◌, refl, sym, ap, ◌∙◌, subst, inl, inr, Option, arith}
use Rattle.std.specs.Prelude.{◌||◌, ◌==◌, count_by, filter, nat_le, nat_lt}
use Rattle.std.specs.List.{list_all, slice_get}
use Rattle.std.proofs.lemmas.Bool.{and_from, and_parts, both_ways, cond-true, eq-eqb, eqb-true, false≢true, le-leb, leb-true, lt-ltb, ltb-true, ne_eqb, not-true, or_cases, or_parts}
use Rattle.std.proofs.lemmas.Option.{slice_get_within}
use Rattle.elf_format.specs.declared.constants.TheConstants.{PT_DYNAMIC, PT_INTERP, PT_PHDR, SHF_INFO_LINK, SHT_DYNSYM, SHT_GNU_VERDEF, SHT_GNU_VERNEED, SHT_NULL, SHT_REL, SHT_RELA, SHT_STRTAB, SHT_SYMTAB}
use Rattle.elf_format.specs.declared.records.SectionHeader.{SectionHeader}
use Rattle.elf_format.specs.declared.records.SegmentHeader.{SegmentHeader}
use Rattle.elf_format.specs.Options.{is_one_of, is_some_and}
use Rattle.elf_format.specs.Places.{is_set}
use Rattle.elf_format.specs.Rules.{are_linked, has_section_info, infos_are_sections, is_one_of_each, links_to, single_section_types, single_segment_types, symbol_users, text_users}
use Rattle.elf_format.proofs.ForCallers.Placed.{passes_picked}
use Rattle.elf_layout_plan.specs.Plan.{resized}
use Rattle.elf_write_spec.specs.ReadBack.{written_parts}
use Rattle.elf_image.specs.Edited.{AreSegments}
use Rattle.elf_image.specs.Kept.{image_at_read}
use Rattle.elf_write_spec.specs.Final.{new_number}
use Rattle.elf_write_spec.specs.Output.{IsPlannedOutput, Output}
use Rattle.elf_write_spec.proofs.LinkedLists.{all-picked, count-once, one_place}
use Rattle.elf_write_spec.proofs.LinkedMatch.{Both, LinkAt, Neither, count_now, each-header, info_by, is_in, link_at, names_info, names_link, section_below}
use Rattle.elf_write_spec.proofs.LinkedSegments.{count_of, no_more_singles}
use Rattle.elf_write_spec.proofs.WholeFacts.{ReadFacts, SectionAt, moved_to, read_at, section_at_header}
use Rattle.elf_write_spec.proofs.WholeEdits.{one_number}
use Rattle.elf_write_spec.proofs.SingleTypes.{one_section}

-- ## One of each

-- what each of some numbers passes
all_of_them : (test : ℕ → Bool) (ns : List ℕ) → ((n : ℕ) → is_one_of ns n ≡ true → test n ≡ true) → list_all test ns ≡ true
all_of_them test [] each = refl
all_of_them test (m ∷ ns) each =
    and_from (test m) (list_all test ns) (each m (ap (λ b. b || is_one_of ns m) (eq-eqb m m refl)))
    (all_of_them test ns (λ n one. each n (ap (λ b. (m == n) || b) one ∙ either (m == n))))
  where
    either : (b : Bool) → (b || true) ≡ true
    either true = refl
    either false = refl

fewer : (m n : ℕ) → m ≤ n → nat_le n 1 ≡ true → nat_le m 1 ≡ true
fewer m n less few = le-leb m 1 (omega (arith, leb-true n 1 few, less))

module _ (w : Output) (is : IsPlannedOutput w) (f : ReadFacts w) where
  -- of types that come once there is still one at most
  section_once : (type : ℕ) → is_one_of single_section_types type ≡ true
      → nat_le (count_by (λ (s : SectionHeader). s.sh_type == type) w.headers) 1 ≡ true
  section_once type single =
      le-leb (count_by (λ (s : SectionHeader). s.sh_type == type) w.headers) 1
      (count-once (λ (s : SectionHeader). s.sh_type == type) w.headers (λ i j x y x_at y_at x_is y_is.
      let (at, at_is) = section_at_header w is f i x x_at in
      let (to, to_is) = section_at_header w is f j y y_at in
      let typed : (at.old.sh_type == type) ≡ true = ap (λ n. n == type) (sym at.type) ∙ ap (λ (s : SectionHeader). s.sh_type == type) at_is ∙ x_is in
      let also : (to.old.sh_type == type) ≡ true = ap (λ n. n == type) (sym to.type) ∙ ap (λ (s : SectionHeader). s.sh_type == type) to_is ∙ y_is in
      one_number (image_at_read w.image) w.image f i j (read_at at) (read_at to)
      (one_place (λ (s : SectionHeader). s.sh_type == type) f.parts.sections at.number to.number at.old to.old (one_section f.parts f.rules type single)
      at.is_old to.is_old typed also)))

  pub sections_single : list_all (λ type. nat_le (count_by (λ (s : SectionHeader). s.sh_type == type) w.headers) 1) single_section_types ≡ true
  sections_single =
      all_of_them (λ type. nat_le (count_by (λ (s : SectionHeader). s.sh_type == type) w.headers) 1) single_section_types section_once

  abbrev table : ℕ
  table = (image_at_read w.image).header.e_phoff

  kept_all : AreSegments table w.image.page_size f.parts.segments w.image.segments
  kept_all = subst (λ (l : List SegmentHeader). AreSegments table w.image.page_size l w.image.segments) f.holds.segments f.edit.segments

  pub segments_single : list_all (λ type. nat_le (count_of type f.parts.segments) 1) single_segment_types ≡ true
      → list_all (λ type. nat_le (count_of type w.plan.segments) 1) single_segment_types ≡ true
  segments_single h =
      let less = no_more_singles (resized w.image) w.plan is.planned table f.parts.segments kept_all in
      let first = and_parts (nat_le (count_of PT_DYNAMIC f.parts.segments) 1) _ h in
      let second = and_parts (nat_le (count_of PT_INTERP f.parts.segments) 1) _ first.1 in
      let third = and_parts (nat_le (count_of PT_PHDR f.parts.segments) 1) _ second.1 in
      and_from (nat_le (count_of PT_DYNAMIC w.plan.segments) 1) _
      (fewer (count_of PT_DYNAMIC w.plan.segments) (count_of PT_DYNAMIC f.parts.segments) less.dynamic first.0)
      (and_from (nat_le (count_of PT_INTERP w.plan.segments) 1) _
      (fewer (count_of PT_INTERP w.plan.segments) (count_of PT_INTERP f.parts.segments) less.interpreter second.0)
      (and_from (nat_le (count_of PT_PHDR w.plan.segments) 1) true
      (fewer (count_of PT_PHDR w.plan.segments) (count_of PT_PHDR f.parts.segments) less.table third.0) refl))

  pub one_of_each : is_one_of_each f.parts.segments f.parts.sections ≡ true → is_one_of_each w.plan.segments w.headers ≡ true
  one_of_each h =
      let both = and_parts (list_all (λ type. nat_le (count_of type f.parts.segments) 1) single_segment_types) _ h in
      and_from (list_all (λ type. nat_le (count_of type w.plan.segments) 1) single_segment_types) _ (segments_single both.0)
      sections_single

  -- ## Links

  -- the section that another links to has the type that it had
  links_read_back : (type : ℕ) (i : ℕ) (at : SectionAt w f.parts i) → (at.old.sh_type == SHT_NULL) ≡ false
      → links_to type f.parts.sections at.old ≡ true → links_to type w.headers at.header ≡ true
  links_read_back type i at some h =
      ap (λ n. is_some_and (λ (l : SectionHeader). l.sh_type == type) (slice_get w.headers n)) at.link
      ∙ by_link (link_at w is f i at.old.sh_link at (names_link at some))
    where
      by_link : LinkAt w f.parts at.old.sh_link
          → is_some_and (λ (l : SectionHeader). l.sh_type == type) (slice_get w.headers (new_number w.image at.old.sh_link)) ≡ true
      by_link (Neither old_none none) =
          absurd (false≢true (ap (λ (o : Option SectionHeader). is_some_and (λ (l : SectionHeader). l.sh_type == type) o) (sym old_none)
          ∙ h))
      by_link (Both j l there new number) =
          ap (λ n. is_some_and (λ (k : SectionHeader). k.sh_type == type) (slice_get w.headers n)) new
          ∙ ap (λ (o : Option SectionHeader). is_some_and (λ (k : SectionHeader). k.sh_type == type) o) l.is_header
          ∙ ap (λ n. n == type) l.type
          ∙ ap (λ (o : Option SectionHeader). is_some_and (λ (k : SectionHeader). k.sh_type == type) o) (sym there) ∙ h

  another_type : (users : List ℕ) (n : ℕ) → is_one_of users n ≡ true → is_one_of users SHT_NULL ≡ false → (n == SHT_NULL) ≡ false
  another_type users n one none = ne_eqb n SHT_NULL (λ e. both_ways (is_one_of users SHT_NULL) none (ap (is_one_of users) (sym e) ∙ one))

  users_linked : (type : ℕ) (users : List ℕ) → is_one_of users SHT_NULL ≡ false
      → list_all (λ s. links_to type f.parts.sections s) (filter (λ (s : SectionHeader). is_one_of users s.sh_type) f.parts.sections) ≡ true
      → list_all (λ s. links_to type w.headers s) (filter (λ (s : SectionHeader). is_one_of users s.sh_type) w.headers) ≡ true
  users_linked type users no_null all =
      all-picked (λ s. links_to type w.headers s) (λ (s : SectionHeader). is_one_of users s.sh_type) w.headers
      (each-header w is f (λ h. is_one_of users h.sh_type ≡ true → links_to type w.headers h ≡ true) (λ i at picked.
      links_read_back type i at (another_type users at.old.sh_type (ap (is_one_of users) (sym at.type) ∙ picked) no_null)
      (passes_picked at.old f.parts.sections (is_in w is f i at) (λ s. links_to type f.parts.sections s)
      (λ s. is_one_of users s.sh_type) all
      (ap (is_one_of users) (sym at.type) ∙ picked))))

  pub linked_read_back : are_linked f.parts.sections ≡ true → are_linked w.headers ≡ true
  linked_read_back h =
      let both =
      and_parts (list_all (λ s. links_to SHT_STRTAB f.parts.sections s)
      (filter (λ (s : SectionHeader). is_one_of text_users s.sh_type) f.parts.sections)) _ h in
      and_from (list_all (λ s. links_to SHT_STRTAB w.headers s)
      (filter (λ (s : SectionHeader). is_one_of text_users s.sh_type) w.headers)) _
      (users_linked SHT_STRTAB text_users refl both.0) (users_linked SHT_DYNSYM symbol_users refl both.1)

-- ## Numbers in sh_info

abbrev counts_own : ℕ → Bool
counts_own type = is_one_of (SHT_SYMTAB ∷ SHT_DYNSYM ∷ SHT_GNU_VERDEF ∷ SHT_GNU_VERNEED ∷ []) type

-- where sh_info is a section's number, the table doesn't count there what it has
info_apart : (type flags : ℕ) → info_by type flags ≡ true → counts_own type ≡ false
info_apart type flags h = elim (or_cases (is_one_of (SHT_REL ∷ SHT_RELA ∷ []) type) _ h) [
  | inl relocations ↦ elim (or_cases (SHT_REL == type) (SHT_RELA == type || false) relocations) [
    | inl rel ↦ ap counts_own (sym (eqb-true SHT_REL type rel))
    | inr more ↦ elim (or_cases (SHT_RELA == type) false more) [
      | inl rela ↦ ap counts_own (sym (eqb-true SHT_RELA type rela))
      | inr none ↦ absurd (false≢true none)
    ]
  ]
  | inr flagged ↦
      let other = (and_parts (is_set SHF_INFO_LINK flags) _ flagged).1 in
      (or_parts (SHT_NULL == type) (counts_own type)
      (not-true (is_one_of (SHT_NULL ∷ SHT_SYMTAB ∷ SHT_DYNSYM ∷ SHT_GNU_VERDEF ∷ SHT_GNU_VERNEED ∷ []) type) other)).1
]

module _ (w : Output) (is : IsPlannedOutput w) (f : ReadFacts w) where
  pub infos_read_back : infos_are_sections f.parts ≡ true → infos_are_sections (written_parts w) ≡ true
  infos_read_back all =
      all-picked (λ (s : SectionHeader). nat_lt s.sh_info (written_parts w).opened.header.e_shnum) has_section_info w.headers
      (each-header w is f (λ h. has_section_info h ≡ true → nat_lt h.sh_info (written_parts w).opened.header.e_shnum ≡ true) (λ i at picked.
      let had : has_section_info at.old ≡ true =
      ap (λ n. info_by n at.old.sh_flags) (sym at.type) ∙ ap (λ n. info_by at.header.sh_type n) (sym at.flags) ∙ picked in
      let right : nat_lt at.old.sh_info f.parts.opened.header.e_shnum ≡ true =
      passes_picked at.old f.parts.sections (is_in w is f i at)
      (λ (s : SectionHeader). nat_lt s.sh_info f.parts.opened.header.e_shnum) has_section_info all had in
      let below : at.old.sh_info < length f.parts.sections =
      section_below w is f at.old.sh_info (ltb-true at.old.sh_info f.parts.opened.header.e_shnum right) in
      let (j, to, _, new) = moved_to w is f i at.old.sh_info at below (names_info at had) in
      ap (λ n. nat_lt n (written_parts w).opened.header.e_shnum)
      (at.info (info_apart at.old.sh_type at.old.sh_flags had)
      ∙ cond-true (has_section_info at.old) (new_number w.image at.old.sh_info) at.old.sh_info had ∙ new)
      ∙ lt-ltb j (written_parts w).opened.header.e_shnum
      (omega (arith, slice_get_within w.headers j to.header to.is_header, count_now w is f))))
