-- A file that is written whole is one to which its image is written.
use Rattle.std.proofs.Common.{◌≡◌, ℕ, true, ◌&&◌, List, [], ◌∷◌, ◌++◌, map, length, refl, sym, ap, ◌∙◌, subst, Ok, Option, Some}
use Rattle.std.specs.Prelude.{◌*◌, ◌==◌, filter, if◌then◌else◌, not, unwrap_or}
use Rattle.std.specs.List.{list_all, list_any, slice_get}
use Rattle.std.proofs.lemmas.Bool.{and_parts, cond-false, cond-true, not-true}
use Rattle.std.proofs.lemmas.List.{length-map}
use Rattle.std.proofs.lemmas.Option.{none-some, same_Some, slice_get_within}
use Rattle.patch_bytes.specs.Memory.{memory_of}
use Rattle.patch_bytes.specs.Number.{field}
use Rattle.elf_format.specs.declared.constants.TheConstants.{SHT_DYNAMIC, SHT_GNU_VERSYM, SHT_NOBITS, SHT_NULL, SHT_STRTAB}
use Rattle.elf_format.specs.declared.records.EntryNumbers.{EntryNumbers}
use Rattle.elf_format.specs.declared.records.SectionHeader.{SectionHeader}
use Rattle.elf_format.specs.Dynamic.{entries_at}
use Rattle.elf_format.specs.File.{has_file_bytes, section_bytes}
use Rattle.elf_format.specs.Image.{Image, ImageSection, image_of}
use Rattle.elf_format.specs.Options.{is_one_of, is_some_and}
use Rattle.elf_format.specs.Rules.{text_users}
use Rattle.elf_format.specs.Places.{Place, file_range, occupies_file, occupies_memory, place_of, places_of}
use Rattle.elf_format.specs.Ranges.{all_apart, range}
use Rattle.elf_format.specs.Records.{section_header_size}
use Rattle.elf_hashes.specs.Versions.{AreVersionsOf}
use Rattle.elf_image.specs.Names.{are_names_changed}
use Rattle.elf_image.specs.Edited.{IsEdited}
use Rattle.elf_image.specs.Kept.{KeptSection, image_at_read, interpreter_number, is_numbered, kept_sections, place_at_read}
use Rattle.elf_layout_plan.specs.Anchors.{is_loaded_section}
use Rattle.elf_layout_plan.specs.Apart.{are_notes_shown, did_show_note, does_take_memory, header_addresses, is_loaded_note, is_memory_apart, is_note_shown, is_shown_by}
use Rattle.elf_layout_plan.specs.ApartLaws.{PlansAreApart, PlansShowNotes}
use Rattle.elf_layout_plan.specs.FilePlaced.{written_headers}
use Rattle.elf_layout_plan.specs.Memory.{Resized, is_movable, priority_of}
use Rattle.elf_layout_plan.specs.Plan.{resized}
use Rattle.elf_layout_plan.proofs.ForCallers.PlacedRead.{at_read}
use Rattle.elf_layout_plan.proofs.ForCallers.ApartFixed.{fixed_sections_stay}
use Rattle.elf_layout_plan.proofs.ForCallers.ApartLists.{at-map, map-at}
use Rattle.elf_layout_plan.proofs.ForCallers.ApartSections.{kept-at}
use Rattle.elf_layout_plan.proofs.ForCallers.PlacedLists.{all-at, filter-from, slice_get-at}
use Rattle.elf_write_spec.specs.ReadBack.{rewritten_section}
use Rattle.elf_write_spec.specs.Base.{has_position, is_interpreter}
use Rattle.elf_write_spec.specs.Contents.{AreDefinitionsSpelled, AreNeedsSpelled, IsContentByKind, IsStringTableOf, content_at_number}
use Rattle.elf_write_spec.specs.Final.{final, is_static_renumbered}
use Rattle.elf_write_spec.specs.KeptSymbols.{AreRelocationsKept}
use Rattle.elf_write_spec.specs.Laws.{section_table}
use Rattle.elf_write_spec.specs.Look.{AreNamesFound}
use Rattle.elf_write_spec.specs.Stays.{AreHashesSeen, IsSeenAt, written_places}
use Rattle.elf_write_spec.specs.Output.{IsPlannedOutput, Output, written_bytes}
use Rattle.elf_write_spec.specs.WrittenFile.{AreVersionsSpelled, EachSection, IsNumberedList, IsSectionKept, IsWrittenByPlan, IsWrittenOf, is_copied, is_fixed, is_kind_copied, is_loaded_with_bytes, places_in, unchanged_for}
use Rattle.elf_write_spec.proofs.ApartInFile.{plans_are_apart_in_file}
use Rattle.elf_write_spec.proofs.ContentFacts.{definitions_shown, needs_shown, strings_shown, versions_shown}
use Rattle.elf_write_spec.proofs.DataSeen.{written_files_keep_data, written_files_keep_hashes, written_files_keep_others}
use Rattle.elf_write_spec.proofs.FileParts.{other_than, written_files_have_parts}
use Rattle.elf_write_spec.proofs.NamesFound.{written_files_find_names}
use Rattle.elf_write_spec.proofs.NumberedSections.{kept_as}
use Rattle.elf_write_spec.proofs.RawEntries.{entries_here}
use Rattle.elf_write_spec.proofs.FilesReadBack.{rewritten_image, rewritten_is, image_read_back, written_files_show}
use Rattle.elf_write_spec.proofs.RelocationsKept.{relocations_kept}
use Rattle.elf_write_spec.proofs.SectionKinds.{IsTold, copied_by}
use Rattle.elf_write_spec.proofs.SectionsReadBack.{rewritten-at, length-sections}
use Rattle.elf_write_spec.proofs.SectionsSeen.{section_seen}
use Rattle.elf_write_spec.proofs.SegmentsKept.{segments_kept}
use Rattle.elf_write_spec.proofs.SymbolsKept.{written_files_keep_symbols}
use Rattle.elf_write_spec.proofs.ContentsReadBack.{linked_at}
use Rattle.elf_write_spec.proofs.WholeFacts.{Nowhere, ReadFacts, SectionAt, There, TypeAt, length-kept, lengths, places_are, read_facts, section_at, section_at_header, type_at}
use Rattle.elf_write_spec.proofs.WholeLists.{same_items}

-- ## A section, with what is read of it

module _ (w : Output) (is : IsPlannedOutput w) (f : ReadFacts w) (i : ℕ) (at : SectionAt w f.parts i) where
  abbrev k : KeptSection
  k = kept_as i at.number at.section

  abbrev now : ImageSection
  now = rewritten_section at.section at.header at.bytes

  section_kept : IsSectionKept (image_at_read w.image) w.image k now
  section_kept = ap (λ (h : SectionHeader). record at.section {
    sh_addr = at.header.sh_addr;
    sh_offset = at.header.sh_offset;
    sh_size = at.header.sh_size;
    sh_link = h.sh_link;
    sh_info = h.sh_info;
    content = at.bytes;
  }) at.written.has_header.fields

  same_type : at.header.sh_type ≡ at.section.sh_type
  same_type = ap (λ (h : SectionHeader). h.sh_type) at.written.has_header.fields

  same_flags : at.header.sh_flags ≡ at.section.sh_flags
  same_flags = ap (λ (h : SectionHeader). h.sh_flags) at.written.has_header.fields

  place_read : place_at_read now ≡ place_of at.header
  place_read =
      ap (λ (n : ℕ). record (place_of at.header) { sh_type = n; sh_flags = at.section.sh_flags }) (sym same_type)
      ∙ ap (λ (n : ℕ). record (place_of at.header) { sh_flags = n }) (sym same_flags)

  place_planned : place_at_read now ≡ at.place
  place_planned =
      place_read
      ∙ same_Some (place_of at.header) at.place
      (sym (at-map place_of w.headers i at.header at.is_header) ∙ ap (λ (ps : List Place). slice_get ps i) (places_are w is) ∙ at.is_place)

  -- what can't move stands at its address
  fixed_at : is_fixed (image_at_read w.image) w.image k ≡ true → at.header.sh_addr ≡ at.section.sh_addr
  fixed_at h =
      let r : Resized = resized w.image in
      let both = and_parts (not (is_interpreter r.read k)) (not (is_movable w.image k)) h in
      let never : priority_of r k ≡ 0 =
      cond-false (is_numbered (interpreter_number r.read) k) 1 (if is_movable r.image k then 2 else 0) (not-true (is_interpreter r.read k) both.0)
      ∙ cond-false (is_movable r.image k) 2 0 (not-true (is_movable w.image k) both.1) in
      let there = fixed_sections_stay w.image w.plan is.planned i k at.is_kept never in
      at.address
      ∙ ap (λ (x : Place). x.sh_addr) (same_Some at.place there.place (sym at.is_place ∙ there.is_there)) ∙ there.same_address

  loaded_at : is_loaded_with_bytes at.section ≡ true → IsSeenAt w.plan.segments (written_bytes w) at.header.sh_addr at.bytes
  loaded_at h =
      let both = and_parts (is_loaded_section at.section) (occupies_file (place_at_read at.section)) h in
      let was : place_at_read at.section ≡ place_of at.old = ap place_at_read at.of_old.fields in
      let seen = section_seen w is f i at (ap occupies_memory (sym was) ∙ both.0) (ap occupies_file (sym was) ∙ both.1) in
      subst (λ (a : ℕ). IsSeenAt w.plan.segments (written_bytes w) a at.bytes) (sym at.address) seen

  unchanged_told : IsTold (resized w.image) k (unchanged_for (image_at_read w.image) w.image k)
  unchanged_told = record {
    table = λ e. e;
    names = λ e. not-true (are_names_changed (image_at_read w.image) w.image) e;
    versions = λ e. e;
    against_dynamic = λ e. e;
    symbols = λ e. e;
    numbers = λ e. not-true (is_static_renumbered (image_at_read w.image) w.image) e;
    against_static = λ e. e;
  }

  copied_at : is_copied (image_at_read w.image) w.image k ≡ true → at.bytes ≡ at.section.content
  copied_at h =
      let r : Resized = resized w.image in
      let strings : List ℕ = content_at_number w.image w.contents at.section.sh_link in
      let both = and_parts (not (is_interpreter r.read k)) (is_kind_copied (unchanged_for (image_at_read w.image) w.image k) at.section.kind) h in
      copied_by r w.plan w.raw strings k at.bytes (unchanged_for (image_at_read w.image) w.image k) unchanged_told at.section.kind both.1
      (other_than (at.bytes ≡ unwrap_or w.image.interpreter at.section.content) (IsContentByKind r w.plan w.raw strings k at.bytes)
      (is_interpreter r.read k) (not-true (is_interpreter r.read k) both.0) at.written.content)

  stored_at : occupies_file (place_at_read at.section) ≡ true
      → field at.header.sh_size at.header.sh_offset (written_bytes w) ≡ at.bytes
  unfolding section_bytes
  stored_at h =
      let stored : has_file_bytes at.header ≡ true = ap (λ (n : ℕ). not (n == SHT_NULL) && not (n == SHT_NOBITS)) same_type ∙ h in
      sym (cond-true (has_file_bytes at.header) (field at.header.sh_size at.header.sh_offset (written_bytes w)) [] stored)
      ∙ (written_files_have_parts w is).contents i at.header at.bytes at.is_header at.is_bytes

  stay_at : (is_fixed (image_at_read w.image) w.image k && is_copied (image_at_read w.image) w.image k && is_loaded_with_bytes at.section) ≡ true
      → IsSeenAt w.plan.segments (written_bytes w) at.section.sh_addr at.section.content
  stay_at h =
      let outer = and_parts (is_fixed (image_at_read w.image) w.image k && is_copied (image_at_read w.image) w.image k) (is_loaded_with_bytes at.section) h in
      let inner = and_parts (is_fixed (image_at_read w.image) w.image k) (is_copied (image_at_read w.image) w.image k) outer.0 in
      subst (λ (bytes : List ℕ). IsSeenAt w.plan.segments (written_bytes w) at.section.sh_addr bytes) (copied_at inner.1)
      (subst (λ (a : ℕ). IsSeenAt w.plan.segments (written_bytes w) a at.bytes) (fixed_at inner.0) (loaded_at outer.1))

  note_at : PlansShowNotes → is_loaded_note k ≡ true
      → list_all (λ p. is_shown_by w.plan.segments p.p_type (place_at_read now)) (filter (did_show_note (image_at_read w.image) k) w.image.segments)
      ≡ true
  unfolding are_notes_shown
  note_at show_notes note =
      let r : Resized = resized w.image in
      let shown : is_note_shown r w.plan k ≡ true =
      all-at (is_note_shown r w.plan) (filter is_loaded_note (kept_sections w.image)) k
      (show_notes w.image w.plan is.edited is.planned)
      (filter-from is_loaded_note (kept_sections w.image) k (slice_get-at (kept_sections w.image) i k at.is_kept) note) in
      let there : Some (place_at_read now) ≡ slice_get w.plan.places i = ap (λ (x : Place). Some x) place_planned ∙ sym at.is_place in
      ap (λ (o : Option Place). list_all (λ p. is_some_and (is_shown_by w.plan.segments p.p_type) o)
      (filter (did_show_note r.read k) w.image.segments)) there
      ∙ shown

-- ## All of them

module _ (w : Output) (is : IsPlannedOutput w) (f : ReadFacts w) where
  each_section : (Holds : KeptSection → ImageSection → Type 0)
      → ((i : ℕ) (at : SectionAt w f.parts i) → Holds (kept_as i at.number at.section) (rewritten_section at.section at.header at.bytes))
      → EachSection w.image (rewritten_image w) Holds
  unfolding rewritten_image
  each_section Holds holds i s now at_s at_now =
      let below = slice_get_within w.image.sections i s.section (kept-at 0 w.image.section_numbers w.image.sections i s at_s).2 in
      let at : SectionAt w f.parts i = section_at w is f i below in
      let same : kept_as i at.number at.section ≡ s = same_Some (kept_as i at.number at.section) s (sym at.is_kept ∙ at_s) in
      let read : rewritten_section at.section at.header at.bytes ≡ now = same_Some (rewritten_section at.section at.header at.bytes) now
      (sym (rewritten-at w.image.sections w.headers w.contents i at.section at.header at.bytes at.is_section at.is_header at.is_bytes) ∙ at_now) in
      subst (λ (x : ImageSection). Holds s x) read
      (subst (λ (k : KeptSection). Holds k (rewritten_section at.section at.header at.bytes)) same (holds i at))

  count_read_back : length (rewritten_image w).sections ≡ length w.headers
  unfolding rewritten_image
  count_read_back =
      let long = lengths w is f in
      length-sections w.image.sections w.headers w.contents long.headers long.contents ∙ sym long.headers

  -- everything stands where the plan has it
  places_read_back : places_in (rewritten_image w) ≡ w.plan.places
  unfolding rewritten_image
  places_read_back =
      same_items (places_in (rewritten_image w)) (places_of w.headers)
      (length-map (rewritten_image w).sections place_at_read ∙ count_read_back ∙ sym (length-map w.headers place_of)) (λ i x y x_at y_at.
      let (s, s_at, made) = map-at place_at_read (rewritten_image w).sections i x x_at in
      let (h, h_at, made_of) = map-at place_of w.headers i y y_at in
      let (at, same) = section_at_header w is f i h h_at in
      let read : rewritten_section at.section at.header at.bytes ≡ s = same_Some (rewritten_section at.section at.header at.bytes) s
      (sym (rewritten-at w.image.sections w.headers w.contents i at.section at.header at.bytes at.is_section at.is_header at.is_bytes) ∙ s_at) in
      sym made ∙ ap place_at_read (sym read) ∙ place_read w is f i at ∙ ap place_of same ∙ made_of)
      ∙ places_are w is

  places_count : length (rewritten_image w).sections ≡ length w.plan.places
  places_count =
      sym (length-map (rewritten_image w).sections place_at_read) ∙ ap (λ (ps : List Place). length ps) places_read_back

  -- what is read at a position has the bytes that were written there
  bytes_read_back : (n : ℕ) (at : SectionAt w f.parts n) (s : ImageSection) → slice_get (rewritten_image w).sections n ≡ Some s → at.bytes ≡ s.content
  unfolding rewritten_image
  bytes_read_back n at s there =
      let read : rewritten_section at.section at.header at.bytes ≡ s = same_Some (rewritten_section at.section at.header at.bytes) s
      (sym (rewritten-at w.image.sections w.headers w.contents n at.section at.header at.bytes at.is_section at.is_header at.is_bytes) ∙ there) in
      ap (λ (x : ImageSection). x.content) read

  -- the records of versions, with the texts of the table that is read where their section links
  versions_at : (i : ℕ) (at : SectionAt w f.parts i)
      → AreVersionsSpelled (rewritten_image w) (kept_as i at.number at.section) (rewritten_section at.section at.header at.bytes)
  unfolding rewritten_image final
  versions_at i at =
      let type : at.section.sh_type ≡ at.old.sh_type = ap (λ (x : ImageSection). x.sh_type) at.of_old.fields in
      let strings = λ (user : is_one_of text_users at.old.sh_type ≡ true) (texts : ImageSection)
      (there : slice_get (rewritten_image w).sections at.header.sh_link ≡ Some texts).
      let l = linked_at w is f i at user in
      l.are_strings ∙ bytes_read_back l.position l.table texts (ap (slice_get (rewritten_image w).sections) (sym l.link) ∙ there) in
      record {
        definitions = λ is_type texts there.
            subst (λ (l : List ℕ). AreDefinitionsSpelled w.image.form.order w.image.definitions l at.bytes)
            (strings (ap (is_one_of text_users) (sym type ∙ is_type)) texts there)
            (definitions_shown w is f i at (sym type ∙ is_type)).spelled;
        needs = λ is_type texts there.
            subst (λ (l : List ℕ). AreNeedsSpelled w.image.form.order (final (image_at_read w.image) w.image).needs l at.bytes)
            (strings (ap (is_one_of text_users) (sym type ∙ is_type)) texts there)
            (needs_shown w is f i at (sym type ∙ is_type)).spelled;
      }

  -- the numbers of the dynamic list are those that were written
  raw_read_back : (raw : List EntryNumbers) → IsNumberedList w.image (rewritten_image w) raw → w.raw ≡ raw
  unfolding rewritten_image
  raw_read_back raw l = by_type (type_at w is f SHT_DYNAMIC refl)
    where
      by_type : TypeAt w f.parts SHT_DYNAMIC → w.raw ≡ raw
      by_type (Nowhere _ _ none) = absurd (none-some l.list (sym none ∙ l.is_list))
      by_type (There i at type _ _ is_kept) =
          let has = written_files_have_parts w is in
          let same : kept_as i at.number at.section ≡ l.list = same_Some (kept_as i at.number at.section) l.list (sym is_kept ∙ l.is_list) in
          let here : slice_get (rewritten_image w).sections i ≡ Some l.now =
          ap (λ (x : KeptSection). slice_get (rewritten_image w).sections x.position) same ∙ l.is_now in
          let read : rewritten_section at.section at.header at.bytes ≡ l.now = same_Some (rewritten_section at.section at.header at.bytes) l.now
          (sym (rewritten-at w.image.sections w.headers w.contents i at.section at.header at.bytes at.is_section at.is_header at.is_bytes) ∙ here) in
          let bytes : section_bytes (written_bytes w) at.header ≡ l.now.content =
          has.contents i at.header at.bytes at.is_header at.is_bytes ∙ ap (λ (x : ImageSection). x.content) read in
          same_Some w.raw raw
          (sym (entries_here w is f i at type has)
          ∙ ap (λ (b : List ℕ). entries_at (length (written_bytes w)) w.image.form (memory_of b) 0) bytes ∙ l.are)

-- The file is written by its plan.
pub files_by_plan : (w : Output) → IsPlannedOutput w → IsWrittenByPlan w.image w.plan (written_bytes w)
files_by_plan w is = record {
  output = w;
  of_image = refl;
  by_plan = refl;
  is_output = is.written;
  are_bytes = refl;
  parts = written_files_have_parts w is;
  read_back = record { again = rewritten_image w; is_read = image_read_back w is; is_rewritten_image = rewritten_is w };
  places = places_read_back w is (read_facts w is);
}

-- the source of an edited image was read
source_is_read : (image : Image) → IsEdited image → image_of image.source ≡ Ok (image_at_read image)
source_is_read image is =
    is.is_read ∙ ap (λ (r : Image). Ok r) (sym (at_read (image_of image.source) is.read image is.is_read))

pub files_are_written : PlansAreApart → PlansShowNotes → (w : Output) → IsPlannedOutput w → IsWrittenOf w.image (written_bytes w)
unfolding rewritten_image is_memory_apart
files_are_written are_apart show_notes w is =
    let f = read_facts w is in
    let r : Resized = resized w.image in
    let places : places_in (rewritten_image w) ≡ w.plan.places = places_read_back w is f in
    record {
      read = image_at_read w.image;
      was_read = source_is_read w.image is.edited;
      again = rewritten_image w;
      is_read = image_read_back w is;
      source = refl;
      by_sections = (written_files_show w is).by_sections;
      by_loader = (written_files_show w is).by_loader;
      form = refl;
      header = refl;
      sections = record {
        count = count_read_back w is f ∙ (lengths w is f).headers ∙ sym (length-kept w is);
        each = each_section w is f (IsSectionKept (image_at_read w.image) w.image) (section_kept w is f);
      };
      lists = record { symbols = refl; dynamic_symbols = refl; definitions = refl; needs = refl; entries = refl; interpreter = refl };
      segments = segments_kept w.image (rewritten_image w) w.plan is.edited is.planned refl refl places;
      kept_data = written_files_keep_data w is;
      fixed = each_section w is f (λ s now. is_fixed (image_at_read w.image) w.image s ≡ true → now.sh_addr ≡ s.section.sh_addr) (fixed_at w is f);
      loaded = each_section w is f
          (λ s now. is_loaded_with_bytes s.section ≡ true → IsSeenAt w.plan.segments (written_bytes w) now.sh_addr now.content)
          (loaded_at w is f);
      copied = each_section w is f (λ s now. is_copied (image_at_read w.image) w.image s ≡ true → now.content ≡ s.section.content) (copied_at w is f);
      in_file = each_section w is f
          (λ s now. occupies_file (place_at_read s.section) ≡ true → field now.sh_size now.sh_offset (written_bytes w) ≡ now.content)
          (stored_at w is f);
      stay = each_section w is f
          (λ s now. (is_fixed (image_at_read w.image) w.image s && is_copied (image_at_read w.image) w.image s && is_loaded_with_bytes s.section) ≡ true
          → IsSeenAt w.plan.segments (written_bytes w) s.section.sh_addr s.section.content)
          (stay_at w is f);
      others = λ i p position at inside other. written_files_keep_others w is i p position at inside
          (ap (λ (ps : List Place). list_any (has_position position) (written_places (image_at_read w.image) w.image (written_headers r w.plan) ps)) (sym places)
          ∙ other);
      notes = each_section w is f
          (λ s now. is_loaded_note s ≡ true → list_all (λ p. is_shown_by w.plan.segments p.p_type (place_at_read now))
          (filter (did_show_note r.read s) w.image.segments) ≡ true)
          (λ i at. note_at w is f i at show_notes);
      hashes = λ same raw list. subst (λ (numbers : List EntryNumbers). AreHashesSeen w.image w.plan.segments numbers (written_bytes w))
          (raw_read_back w is f raw list) (written_files_keep_hashes w is same);
      found = λ changed raw list lists.
          subst (λ (numbers : List EntryNumbers). AreNamesFound (rewritten_image w) numbers (written_bytes w))
          (raw_read_back w is f raw list)
          (written_files_find_names w is changed lists (rewritten_image w) (image_read_back w is));
      symbols = written_files_keep_symbols w is (rewritten_image w) (image_read_back w is);
      relocations = each_section w is f (λ s now. AreRelocationsKept (image_at_read w.image) w.image (rewritten_image w) s.section now)
          (λ i at kind. relocations_kept w is f i at kind);
      symbol_versions = each_section w is f
          (λ s now. s.section.sh_type ≡ SHT_GNU_VERSYM
          → AreVersionsOf w.image.form (final (image_at_read w.image) w.image).dynamic_symbols now.content)
          (λ i at type. versions_shown w is f i at (sym (ap (λ (x : ImageSection). x.sh_type) at.of_old.fields) ∙ type));
      versions = each_section w is f (AreVersionsSpelled (rewritten_image w)) (versions_at w is f);
      strings = each_section w is f
          (λ s now. s.section.sh_type ≡ SHT_STRTAB → IsStringTableOf (image_at_read w.image) w.image s now.content)
          (λ i at type. strings_shown w is f i at (sym (ap (λ (x : ImageSection). x.sh_type) at.of_old.fields) ∙ type));
      apart = record {
        memory =
            ap (λ (ps : List Place). all_apart (header_addresses r w.plan
            ++ map (λ s. range s.sh_addr s.sh_size) (filter does_take_memory ps))) places
            ∙ are_apart w.image w.plan is.edited is.planned;
        in_file =
            ap (λ (n : ℕ). all_apart (written_headers r w.plan ++ (range w.plan.e_shoff (n * section_header_size w.image.form) ∷ [])
            ++ map file_range (filter occupies_file (places_in (rewritten_image w))))) (places_count w is f)
            ∙ ap (λ (ps : List Place). all_apart (written_headers r w.plan ++ section_table r w.plan
            ++ map file_range (filter occupies_file ps))) places
            ∙ plans_are_apart_in_file w.image w.plan is.edited is.planned is.written.headers;
      };
      by_plan = (w.plan, is.planned, files_by_plan w is);
    }
