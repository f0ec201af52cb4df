-- Program headers for notes follow their notes.
use Rattle.std.proofs.Common.{◌≡◌, ℕ, zero, suc, ◌+◌, ◌<◌, ◌≤◌, Bool, true, false, not, ◌&&◌, ◌||◌, ◌⊎◌, List, [], ◌∷◌, ◌++◌, map, length, refl, sym, ap, ◌∙◌, subst, inl, inr, arith, Option, Some, None}
use Rattle.std.specs.Prelude.{◌==◌, filter, find, nat_le, if◌then◌else◌}
use Rattle.std.specs.List.{list_all, list_any, slice_get}
use Rattle.std.proofs.lemmas.Bool.{and_from, and_parts, cases_Bool, eq-eqb, eqb-false, eqb-true, false≢true, leb-true, ne_eqb, not-true, or_cases}
use Rattle.std.proofs.lemmas.Option.{same_Some}
use Rattle.elf_format.specs.declared.constants.TheConstants.{PF_X, PT_DYNAMIC, PT_GNU_PROPERTY, PT_INTERP, PT_LOAD, PT_NOTE, PT_PHDR, SHF_ALLOC, SHF_EXECINSTR, SHF_WRITE, SHT_DYNAMIC, SHT_NOBITS, SHT_NOTE}
use Rattle.elf_layout_plan.specs.declared.constants.TheConstants.{PF_R, PF_W}
use Rattle.elf_format.specs.declared.records.SegmentHeader.{SegmentHeader}
use Rattle.elf_format.specs.Image.{ImageSection}
use Rattle.elf_format.specs.Options.{first_there, is_one_of, is_some_and}
use Rattle.elf_format.specs.Placement.{file_part, is_stored, shows_at}
use Rattle.elf_format.specs.Places.{Place, file_range, is_set, occupies_file, occupies_memory}
use Rattle.elf_format.specs.Ranges.{apart, lies_in, range}
use Rattle.elf_layout_plan.specs.Added.{added_loads}
use Rattle.elf_layout_plan.specs.Apart.{are_notes_shown, did_show_note, is_for_notes, is_loaded_note, is_note_shown, is_shown_by, shows_its_notes, shows_place}
use Rattle.elf_layout_plan.specs.ApartLaws.{PlansShowNotes}
use Rattle.elf_layout_plan.specs.Anchors.{Itself, Anchor, Notes, OneSection, has_bytes, is_just_over, is_loaded_section, is_moved, is_note_in, is_over_notes, anchor_by_range, anchor_of, anchor_or_itself, does_relro_stay, moved_notes, notes_under, section_or_table, section_under, sharers, shares_bytes, staying_notes}
use Rattle.elf_tables.specs.Kept.{KeptSection, interpreter_number, is_numbered, kept_of_type, kept_sections, place_at_read}
use Rattle.elf_layout_plan.specs.Memory.{Resized, sized_sections}
use Rattle.elf_layout_plan.specs.Plan.{Plan, plan_for, resized}
use Rattle.elf_layout_plan.specs.Rounds.{flags_for}
use Rattle.elf_layout_plan.specs.Sizes.{new_size}
use Rattle.elf_layout_plan.specs.Standing.{place_in, places, stands_at}
use Rattle.elf_layout_plan.specs.Written.{anchored_to, places_of_kept, target_at, targets_over, written_from, written_segments}
use Rattle.elf_layout_plan.proofs.ApartBlocks.{apart-meet}
use Rattle.elf_layout_plan.proofs.ApartFacts.{AreFacts, IsOriginal, bytes_of, was_stored}
use Rattle.elf_layout_plan.proofs.ApartLists.{Each, Pairs, all-at, all-from, any-at, any-from, append-back_at, append-front_at, at-filter, at-filter_map, at-map, each-at, each-filter, each-filter_map, each-from, each-more, filter-at, find-at, find-misses, map-at, none-at, pairs-at, pairs-filter, pairs-less, same_at}
use Rattle.elf_layout_plan.proofs.ApartNotes.{HasFlags, IsAtDistance, distance_of, moves_with_slot, stays_where_it_was}
use Rattle.elf_layout_plan.proofs.ApartPlaces.{is_place, place_at_slot, slot_found}
use Rattle.elf_layout_plan.proofs.ApartRead.{edited_facts}
use Rattle.elf_layout_plan.proofs.ApartSections.{all_slots, at-sized, kept-at, sized_of}
use Rattle.elf_layout_plan.proofs.ApartShown.{IsAt, target_shows, targets_show}
use Rattle.elf_layout_plan.proofs.ApartStays.{shows}
use Rattle.elf_layout_plan.proofs.ApartWritten.{notes_stay, notes_targets, plan-at, section_targets, written-at}

module _ (r : Resized) (facts : AreFacts r) (moved : List ℕ) where
  -- ## A loaded note section

  -- a kept section that is a loaded note with something in it
  pub record IsNote (k : KeptSection) : Type 0 where
    pub place : ℕ
    pub is_there : slice_get (kept_sections r.image) place ≡ Some k
    pub type : k.section.sh_type ≡ SHT_NOTE
    pub loaded : is_loaded_section k.section ≡ true
    pub filled : has_bytes k.section ≡ true

  -- the place of a kept section in the plan
  abbrev pub planned : KeptSection → Place
  planned k = place_in r moved (sized_of r k)

  module _ (k : KeptSection) (note : IsNote k) where
    size_same : new_size r.read r.image k ≡ k.section.sh_size
    size_same =
        each-at (λ k. (k.section.sh_type ≡ SHT_NOBITS) ⊎ (k.section.sh_type ≡ SHT_NOTE) → new_size r.read r.image k ≡ k.section.sh_size) (kept_sections r.image) facts.keeps_size note.place k note.is_there (inr note.type)

    size_filled : (k.section.sh_size == 0) ≡ false
    size_filled = not-true (k.section.sh_size == 0) (and_parts (occupies_file (place_at_read k.section)) (not (k.section.sh_size == 0)) note.filled).1

    is_placed : slice_get (sized_sections r) k.position ≡ Some (sized_of r k)
    is_placed =
        let mine : k.position ≡ 0 + note.place = (kept-at 0 r.image.section_numbers r.image.sections note.place k note.is_there).0 in
        let position : note.place ≡ k.position = omega (arith, mine) in
        subst (λ (n : ℕ). slice_get (sized_sections r) n ≡ Some (sized_of r k)) position (at-sized r facts.sized note.place k note.is_there)

    pub place_there : slice_get (places r moved) k.position ≡ Some (planned k)
    unfolding places
    place_there = at-map (place_in r moved) (sized_sections r) k.position (sized_of r k) is_placed

    pub in_memory : occupies_memory (planned k) ≡ true
    in_memory = ap (λ flags. is_set SHF_ALLOC flags) (is_place r moved (sized_of r k)).flags ∙ note.loaded

    still : is_one_of moved k.position ≡ false → planned k ≡ stands_at (sized_of r k) k.section.sh_offset k.section.sh_addr
    still stays = stays_where_it_was r facts.sized moved (sized_of r k) is_placed note.loaded (ap (λ n. n == 0) size_same ∙ size_filled) stays

    -- where a note stays, a segment that showed it shows it
    pub still_shown : (p : SegmentHeader) → shows_place p (place_at_read k.section) ≡ true → is_one_of moved k.position ≡ false → shows_place p (planned k) ≡ true
    still_shown p shown stays =
        let s = k.section in
        ap (shows_place p) (still stays) ∙ ap (λ size. shows_at p (range s.sh_offset size) s.sh_addr) size_same ∙ shown

    pub still_at : (p : SegmentHeader) → shows_place p (place_at_read k.section) ≡ true → is_one_of moved k.position ≡ false → IsAt p.p_offset p.p_vaddr (planned k)
    still_at p shown stays =
        let s = k.section in
        let distance = (shows p s.sh_offset s.sh_size s.sh_addr shown).2 in
        let offset : (planned k).sh_offset ≡ s.sh_offset = ap (λ (x : Place). x.sh_offset) (still stays) in
        let address : (planned k).sh_addr ≡ s.sh_addr = ap (λ (x : Place). x.sh_addr) (still stays) in
        (in_memory, omega (arith, distance, offset, address))

    only_read : flags_for r.image.moves_dynamic k.section ≡ PF_R
    only_read =
        let s = k.section in
        ap (λ b. if b then PF_R else PF_R + (if r.image.moves_dynamic || is_set SHF_WRITE s.sh_flags then PF_W else 0) + (if is_set SHF_EXECINSTR s.sh_flags then PF_X else 0)) (eq-eqb s.sh_type SHT_NOTE note.type)

    -- where a note moves, it stands at the distance of all notes that move
    pub moved_at : is_one_of moved k.position ≡ true → IsAt (distance_of r facts.sized moved PF_R).0 (distance_of r facts.sized moved PF_R).1 (planned k)
    moved_at moves =
        let (offset, address, all) = distance_of r facts.sized moved PF_R in
        let (x, e) = moves_with_slot r facts.sized moved (sized_of r k) is_placed moves in
        let (j, at, same, _) = slot_found r facts.sized moved (sized_of r k) x e in
        let here : slice_get (sized_sections r) x.position ≡ Some (sized_of r k) = subst (λ (n : ℕ). slice_get (sized_sections r) n ≡ Some (sized_of r k)) (sym (eqb-true x.position k.position same)) is_placed in
        let distance : IsAtDistance offset address x.offset x.address =
        each-at (λ x. HasFlags r facts.sized PF_R x → IsAtDistance offset address x.offset x.address) (all_slots (added_loads r moved)) all j x at (sized_of r k, here, only_read) in
        let stands = place_at_slot r moved (sized_of r k) x e in
        (in_memory, subst (λ (s : Place). IsAtDistance offset address s.sh_offset s.sh_addr) (sym stands) distance)

  -- ## The anchor of a program header for notes

  note_types : (p : SegmentHeader) → is_for_notes p ≡ true → (p.p_type ≡ PT_NOTE) ⊎ (p.p_type ≡ PT_GNU_PROPERTY)
  note_types p h = elim (or_cases (PT_NOTE == p.p_type) (list_any (λ x. x == p.p_type) (PT_GNU_PROPERTY ∷ [])) h) [
    | inl e ↦ inl (sym (eqb-true PT_NOTE p.p_type e))
    | inr other ↦ elim (or_cases (PT_GNU_PROPERTY == p.p_type) false other) [
      | inl e ↦ inr (sym (eqb-true PT_GNU_PROPERTY p.p_type e))
      | inr never ↦ absurd (false≢true never)
    ]
  ]

  kind : SegmentHeader → ℕ → Anchor
  kind p type =
      if type == PT_LOAD then Itself
      else if type == PT_PHDR then section_or_table (section_under r.image p)
      else if type == PT_DYNAMIC then anchor_or_itself (kept_of_type SHT_DYNAMIC r.image)
      else if type == PT_INTERP then anchor_or_itself (find (is_numbered (interpreter_number r.read)) (kept_sections r.image))
      else if does_relro_stay r.image.moves_dynamic type then Itself
      else anchor_by_range r.read r.image p

  kind_is : (p : SegmentHeader) → anchor_of r.read r.image p ≡ kind p p.p_type
  unfolding anchor_of kind
  kind_is p = refl

  notes_by_range : (p : SegmentHeader) → is_for_notes p ≡ true → anchor_of r.read r.image p ≡ anchor_by_range r.read r.image p
  unfolding kind
  notes_by_range p h = elim (note_types p h) [
    | inl e ↦ kind_is p ∙ ap (kind p) e
    | inr e ↦ kind_is p ∙ ap (kind p) e
  ]

  -- of what shows a note the file part isn't empty
  filled_part : (p : SegmentHeader) (s : ImageSection) → has_bytes s ≡ true → shows_place p (place_at_read s) ≡ true → (p.p_filesz == 0) ≡ false
  filled_part p s filled shown =
      let (begins, ends, _) = shows p s.sh_offset s.sh_size s.sh_addr shown in
      let some : s.sh_size ≡ 0 → ⊥ = eqb-false s.sh_size 0 (not-true (s.sh_size == 0) (and_parts (occupies_file (place_at_read s)) (not (s.sh_size == 0)) filled).1) in
      ne_eqb p.p_filesz 0 (λ none. some (omega (arith, begins, ends, none)))

  -- one of the program headers that are written for a program header shows the note
  abbrev pub IsShownIn : SegmentHeader → KeptSection → Type 0
  IsShownIn p k = (j : ℕ) × (q : SegmentHeader) × (slice_get (written_from r moved p) j ≡ Some q) × (q.p_type ≡ p.p_type) × (shows_place q (planned k) ≡ true)

  -- ## A note among the sections that share bytes with a program header

  -- the note as it was read
  original_of : (k : KeptSection) → IsNote k → IsOriginal r.read k
  original_of k note = each-at (IsOriginal r.read) (kept_sections r.image) facts.originals note.place k note.is_there

  -- a note that the program header shows shares bytes with it
  is_sharer : (p : SegmentHeader) (k : KeptSection) (note : IsNote k) → shows_place p (place_at_read k.section) ≡ true → (j : ℕ) × (slice_get (sharers r.read p) j ≡ Some (original_of k note).old)
  is_sharer p k note shown =
      let original = original_of k note in
      let s = k.section in
      let as_read : place_at_read original.old.section ≡ place_at_read s = sym (ap place_at_read original.same) in
      let (begins, ends, _) = shows p s.sh_offset s.sh_size s.sh_addr shown in
      let some : s.sh_size ≡ 0 → ⊥ = eqb-false s.sh_size 0 (size_filled k note) in
      let meets : apart (file_range (place_at_read s)) (file_part p) ≡ false =
      elim (cases_Bool (apart (file_range (place_at_read s)) (file_part p))) [
        | inl e ↦ absurd (apart-meet (file_range (place_at_read s)) (file_part p) s.sh_offset e (omega arith) (omega (arith, some)) begins (omega (arith, some, ends)))
        | inr e ↦ e
      ] in
      let shares : shares_bytes p original.old ≡ true =
      ap (λ (x : Place). (occupies_file x && not (x.sh_size == 0)) && not (apart (file_range x) (file_part p))) as_read
      ∙ and_from (has_bytes s) (not (apart (file_range (place_at_read s)) (file_part p))) note.filled (ap (λ b. not b) meets) in
      at-filter (shares_bytes p) (kept_sections r.read) original.place original.old original.is_there shares

  -- ## Several notes

  module _ (p : SegmentHeader) (for_notes : is_for_notes p ≡ true) (over : is_over_notes r.read p ≡ true) (all_shown : Each (λ k. shows_place p (place_at_read k.section) ≡ true) (sharers r.read p)) where
    notes_in : Each (λ k. is_note_in p k ≡ true) (sharers r.read p)
    notes_in = all-at (is_note_in p) (sharers r.read p) (and_parts (is_one_of (PT_NOTE ∷ PT_GNU_PROPERTY ∷ []) p.p_type && nat_le 2 (length (sharers r.read p))) (list_all (is_note_in p) (sharers r.read p)) over).1

    -- what is known of each of them that is still there
    pub record IsFollowed (k : KeptSection) : Type 0 where
      pub note : IsNote k
      pub shown : shows_place p (place_at_read k.section) ≡ true

    followed : (i : ℕ) (k : KeptSection) → slice_get (kept_sections r.image) i ≡ Some k → is_one_of (map (λ n. n.number) (sharers r.read p)) k.number ≡ true → IsFollowed k
    followed i k at among =
        let original = each-at (IsOriginal r.read) (kept_sections r.image) facts.originals i k at in
        let (j, n, at_n, same) = any-at (λ x. x == k.number) (map (λ n. n.number) (sharers r.read p)) among in
        let (sharer, at_sharer, number) = map-at (λ (n : KeptSection). n.number) (sharers r.read p) j n at_n in
        let (m, at_m, shares) = filter-at (shares_bytes p) (kept_sections r.read) j sharer at_sharer in
        let index : original.place ≡ m =
        sym (facts.numbers original.place original.old original.is_there) ∙ original.same_number ∙ sym (eqb-true n k.number same) ∙ sym number ∙ facts.numbers m sharer at_m in
        let at_old : slice_get (kept_sections r.read) m ≡ Some original.old = subst (λ (x : ℕ). slice_get (kept_sections r.read) x ≡ Some original.old) index original.is_there in
        let is_sharer : original.old ≡ sharer = same_at (kept_sections r.read) m original.old sharer at_old at_m in
        let as_read : place_at_read k.section ≡ place_at_read sharer.section = ap place_at_read original.same ∙ ap (λ (x : KeptSection). place_at_read x.section) is_sharer in
        let s = sharer.section in
        let outer = and_parts (s.sh_type == SHT_NOTE && is_loaded_section s) (lies_in (file_range (place_at_read s)) (file_part p)) (each-at (λ k. is_note_in p k ≡ true) (sharers r.read p) notes_in j sharer at_sharer) in
        let inner = and_parts (s.sh_type == SHT_NOTE) (is_loaded_section s) outer.0 in
        let bytes = (and_parts (has_bytes s) (not (apart (file_range (place_at_read s)) (file_part p))) shares).0 in
        record {
          note = record {
            place = i;
            is_there = at;
            type = ap (λ (x : Place). x.sh_type) as_read ∙ eqb-true s.sh_type SHT_NOTE inner.0;
            loaded = ap occupies_memory as_read ∙ inner.1;
            filled = ap (λ (x : Place). occupies_file x && not (x.sh_size == 0)) as_read ∙ bytes;
          };
          shown = ap (shows_place p) as_read ∙ each-at (λ k. shows_place p (place_at_read k.section) ≡ true) (sharers r.read p) all_shown j sharer at_sharer;
        }

    all_followed : Each IsFollowed (notes_under r.read r.image p)
    all_followed =
        each-from IsFollowed (notes_under r.read r.image p) (λ j k at.
        let (i, at_i, among) = filter-at (λ s. is_one_of (map (λ n. n.number) (sharers r.read p)) s.number) (kept_sections r.image) j k at in
        followed i k at_i among)

    -- a note that it shows is one of them
    is_under : (k : KeptSection) → IsNote k → shows_place p (place_at_read k.section) ≡ true → (j : ℕ) × (slice_get (notes_under r.read r.image p) j ≡ Some k)
    is_under k note shown =
        let original = original_of k note in
        let (j, at_j) = is_sharer p k note shown in
        let among : is_one_of (map (λ n. n.number) (sharers r.read p)) k.number ≡ true =
        any-from (λ x. x == k.number) (map (λ n. n.number) (sharers r.read p)) j original.old.number (at-map (λ (n : KeptSection). n.number) (sharers r.read p) j original.old at_j) (eq-eqb original.old.number k.number original.same_number) in
        at-filter (λ s. is_one_of (map (λ n. n.number) (sharers r.read p)) s.number) (kept_sections r.image) note.place k note.is_there among

    anchor_notes : (k : KeptSection) → IsNote k → shows_place p (place_at_read k.section) ≡ true → anchor_of r.read r.image p ≡ Notes (notes_under r.read r.image p)
    anchor_notes k note shown =
        notes_by_range p for_notes ∙ ap (λ b. if b then Itself else if is_over_notes r.read p then Notes (notes_under r.read r.image p) else anchor_or_itself (section_under r.image p)) (filled_part p k.section note.filled shown)
        ∙ ap (λ b. if b then Notes (notes_under r.read r.image p) else anchor_or_itself (section_under r.image p)) over

    staying_at : Each (IsAt p.p_offset p.p_vaddr) (places_of_kept (places r moved) (staying_notes moved (notes_under r.read r.image p)))
    staying_at =
        each-filter_map (IsAt p.p_offset p.p_vaddr) (λ (s : KeptSection). slice_get (places r moved) s.position) (staying_notes moved (notes_under r.read r.image p))
        (each-more (λ k. (not (is_moved moved k) ≡ true) × IsFollowed k) (λ k. (x : Place) → slice_get (places r moved) k.position ≡ Some x → IsAt p.p_offset p.p_vaddr x)
        (λ k h x at. subst (IsAt p.p_offset p.p_vaddr) (same_Some (planned k) x (sym (place_there k h.1.note) ∙ at)) (still_at k h.1.note p h.1.shown (not-true (is_moved moved k) h.0)))
        (staying_notes moved (notes_under r.read r.image p)) (each-filter IsFollowed (λ s. not (is_moved moved s)) (notes_under r.read r.image p) all_followed))

    moving_at : Each (IsAt (distance_of r facts.sized moved PF_R).0 (distance_of r facts.sized moved PF_R).1) (places_of_kept (places r moved) (moved_notes moved (notes_under r.read r.image p)))
    moving_at =
        let At : Place → Type 0 = IsAt (distance_of r facts.sized moved PF_R).0 (distance_of r facts.sized moved PF_R).1 in
        each-filter_map At (λ (s : KeptSection). slice_get (places r moved) s.position) (moved_notes moved (notes_under r.read r.image p))
        (each-more (λ k. (is_moved moved k ≡ true) × IsFollowed k) (λ k. (x : Place) → slice_get (places r moved) k.position ≡ Some x → At x)
        (λ k h x at. subst At (same_Some (planned k) x (sym (place_there k h.1.note) ∙ at)) (moved_at k h.1.note h.0))
        (moved_notes moved (notes_under r.read r.image p)) (each-filter IsFollowed (is_moved moved) (notes_under r.read r.image p) all_followed))

    several_shown : (k : KeptSection) → IsNote k → shows_place p (place_at_read k.section) ≡ true → IsShownIn p k
    several_shown k note shown =
        let notes = notes_under r.read r.image p in
        let anchor = anchor_notes k note shown in
        let (i, at) = is_under k note shown in
        by_moved (list_any (is_moved moved) notes) refl (is_moved moved k) refl anchor i at
      where
        by_moved : (any : Bool) → list_any (is_moved moved) (notes_under r.read r.image p) ≡ any → (mine : Bool) → is_moved moved k ≡ mine → anchor_of r.read r.image p ≡ Notes (notes_under r.read r.image p)
            → (i : ℕ) → slice_get (notes_under r.read r.image p) i ≡ Some k → IsShownIn p k
        by_moved false none mine is anchor i at =
            let stays = each-at (λ s. is_moved moved s ≡ false) (notes_under r.read r.image p) (none-at (is_moved moved) (notes_under r.read r.image p) none) i k at in
            (0, p, ap (λ (l : List SegmentHeader). slice_get l 0) (notes_stay r moved p (notes_under r.read r.image p) anchor none), refl, still_shown k note p shown stays)
        by_moved true some false stays anchor i at =
            let staying = staying_notes moved (notes_under r.read r.image p) in
            let moving = moved_notes moved (notes_under r.read r.image p) in
            let (j, at_j) = at-filter (λ s. not (is_moved moved s)) (notes_under r.read r.image p) i k at (ap (λ b. not b) stays) in
            let (n, at_n) = at-filter_map (λ (s : KeptSection). slice_get (places r moved) s.position) staying j k (planned k) at_j (place_there k note) in
            let (m, t, at_t, shows_it) = targets_show r.image.form p p.p_offset p.p_vaddr (places_of_kept (places r moved) staying) staying_at n (planned k) at_n in
            let front = targets_over (places_of_kept (places r moved) staying) in
            let back = targets_over (places_of_kept (places r moved) moving) in
            let (l, at_l) = append-front_at front back m t at_t in
            (l, anchored_to r.image.form p t, written-at r moved p (front ++ back) (notes_targets r moved p (notes_under r.read r.image p) anchor some) l t at_l, refl, shows_it)
        by_moved true some true moves anchor i at =
            let staying = staying_notes moved (notes_under r.read r.image p) in
            let moving = moved_notes moved (notes_under r.read r.image p) in
            let (j, at_j) = at-filter (is_moved moved) (notes_under r.read r.image p) i k at moves in
            let (n, at_n) = at-filter_map (λ (s : KeptSection). slice_get (places r moved) s.position) moving j k (planned k) at_j (place_there k note) in
            let (offset, address, _) = distance_of r facts.sized moved PF_R in
            let (m, t, at_t, shows_it) = targets_show r.image.form p offset address (places_of_kept (places r moved) moving) moving_at n (planned k) at_n in
            let front = targets_over (places_of_kept (places r moved) staying) in
            let back = targets_over (places_of_kept (places r moved) moving) in
            let (l, at_l) = append-back_at front back m t at_t in
            (l, anchored_to r.image.form p t, written-at r moved p (front ++ back) (notes_targets r moved p (notes_under r.read r.image p) anchor some) l t at_l, refl, shows_it)

  -- ## One note

  -- what the program header is just over
  just_parts : (p : SegmentHeader) (s : KeptSection) → is_just_over p s ≡ true → (has_bytes s.section ≡ true) × (s.section.sh_offset ≡ p.p_offset) × (s.section.sh_size ≡ p.p_filesz)
  just_parts p s h =
      let outer = and_parts (has_bytes s.section && s.section.sh_offset == p.p_offset) (s.section.sh_size == p.p_filesz) h in
      let inner = and_parts (has_bytes s.section) (s.section.sh_offset == p.p_offset) outer.0 in
      (inner.0, eqb-true s.section.sh_offset p.p_offset inner.1, eqb-true s.section.sh_size p.p_filesz outer.1)

  stored_from : (s : KeptSection) → is_loaded_section s.section ≡ true → has_bytes s.section ≡ true → was_stored s ≡ true
  stored_from s loaded bytes =
      let x = place_at_read s.section in
      let parts = and_parts (occupies_file x) (not (x.sh_size == 0)) bytes in
      and_from (occupies_memory x && occupies_file x) (not (x.sh_size == 0)) (and_from (occupies_memory x) (occupies_file x) loaded parts.0) parts.1

  -- of two elements one is elsewhere
  elsewhere : (xs : List KeptSection) → 2 ≤ length xs → (j : ℕ) → (i : ℕ) × (x : KeptSection) × (slice_get xs i ≡ Some x) × ((i < j) ⊎ (j < i))
  elsewhere [] two j = absurd (omega (arith, two))
  elsewhere (x ∷ []) two j = absurd (omega (arith, two))
  elsewhere (x ∷ y ∷ xs) two zero = (1, y, refl, inr (omega arith))
  elsewhere (x ∷ y ∷ xs) two (suc j) = (0, x, refl, inl (omega arith))

  -- a program header that is just over a note isn't over several, since these would share bytes with each other
  module _ (p : SegmentHeader) (k : KeptSection) (note : IsNote k) (shown : shows_place p (place_at_read k.section) ≡ true) (just : is_just_over p k ≡ true) where
    AreApart : KeptSection → KeptSection → Type 0
    AreApart k l = was_stored k ≡ true → was_stored l ≡ true → apart (bytes_of k) (bytes_of l) ≡ true

    old : KeptSection
    old = (original_of k note).old

    sharers_apart : Pairs AreApart (sharers r.read p)
    unfolding AreApart
    sharers_apart = pairs-filter AreApart (shares_bytes p) (kept_sections r.read) facts.read_apart

    -- another note in the bytes of the program header meets the first
    meet : (x : KeptSection) → is_note_in p x ≡ true → shares_bytes p x ≡ true → AreApart x old ⊎ AreApart old x → ⊥
    unfolding AreApart old
    meet x within shares either =
        let s = x.section in
        let as_read : place_at_read k.section ≡ place_at_read (original_of k note).old.section = ap place_at_read (original_of k note).same in
        let offset_old : k.section.sh_offset ≡ (original_of k note).old.section.sh_offset = ap (λ (y : Place). y.sh_offset) as_read in
        let size_old : k.section.sh_size ≡ (original_of k note).old.section.sh_size = ap (λ (y : Place). y.sh_size) as_read in
        let (_, offset, size) = just_parts p k just in
        let outer = and_parts (s.sh_type == SHT_NOTE && is_loaded_section s) (lies_in (file_range (place_at_read s)) (file_part p)) within in
        let loaded = (and_parts (s.sh_type == SHT_NOTE) (is_loaded_section s) outer.0).1 in
        let bytes = (and_parts (has_bytes s) (not (apart (file_range (place_at_read s)) (file_part p))) shares).0 in
        let some : s.sh_size ≡ 0 → ⊥ = eqb-false s.sh_size 0 (not-true (s.sh_size == 0) (and_parts (occupies_file (place_at_read s)) (not (s.sh_size == 0)) bytes).1) in
        let lies = and_parts (nat_le p.p_offset s.sh_offset) (nat_le (s.sh_offset + s.sh_size) (p.p_offset + p.p_filesz)) outer.1 in
        let begins = leb-true p.p_offset s.sh_offset lies.0 in
        let ends = leb-true (s.sh_offset + s.sh_size) (p.p_offset + p.p_filesz) lies.1 in
        let stored = stored_from x loaded bytes in
        let stored_old : was_stored (original_of k note).old ≡ true = ap is_stored (sym as_read) ∙ stored_from k note.loaded note.filled in
        let begins_old : (original_of k note).old.section.sh_offset ≤ s.sh_offset = omega (arith, begins, offset, offset_old) in
        let ends_old : s.sh_offset < (original_of k note).old.section.sh_offset + (original_of k note).old.section.sh_size = omega (arith, some, ends, offset, size, offset_old, size_old) in
        elim either [
          | inl apart_so ↦ apart-meet (bytes_of x) (bytes_of (original_of k note).old) s.sh_offset (apart_so stored stored_old) (omega arith) (omega (arith, some)) begins_old ends_old
          | inr apart_so ↦ apart-meet (bytes_of (original_of k note).old) (bytes_of x) s.sh_offset (apart_so stored_old stored) begins_old ends_old (omega arith) (omega (arith, some))
        ]

    never_several : is_over_notes r.read p ≡ true → ⊥
    unfolding old
    never_several over =
        let outer = and_parts (is_one_of (PT_NOTE ∷ PT_GNU_PROPERTY ∷ []) p.p_type && nat_le 2 (length (sharers r.read p))) (list_all (is_note_in p) (sharers r.read p)) over in
        let two = leb-true 2 (length (sharers r.read p)) (and_parts (is_one_of (PT_NOTE ∷ PT_GNU_PROPERTY ∷ []) p.p_type) (nat_le 2 (length (sharers r.read p))) outer.0).1 in
        let (j, at_j) = is_sharer p k note shown in
        let (i, x, at_i, order) = elsewhere (sharers r.read p) two j in
        let (_, _, shares) = filter-at (shares_bytes p) (kept_sections r.read) i x at_i in
        let within = each-at (λ k. is_note_in p k ≡ true) (sharers r.read p) (all-at (is_note_in p) (sharers r.read p) outer.1) i x at_i in
        meet x within shares (elim order [
          | inl less ↦ inl (pairs-less AreApart (sharers r.read p) sharers_apart i j x old less at_i at_j)
          | inr less ↦ inr (pairs-less AreApart (sharers r.read p) sharers_apart j i old x less at_j at_i)
        ])

    pub not_several : is_over_notes r.read p ≡ false
    not_several = elim (cases_Bool (is_over_notes r.read p)) [
      | inl over ↦ absurd (never_several over)
      | inr e ↦ e
    ]

  module _ (p : SegmentHeader) (for_notes : is_for_notes p ≡ true) (k : KeptSection) (note : IsNote k) (shown : shows_place p (place_at_read k.section) ≡ true) (just : is_just_over p k ≡ true) where
    found_itself : (s : KeptSection) → find (λ x. is_loaded_section x.section) (filter (is_just_over p) (kept_sections r.image)) ≡ Some s → s ≡ k
    found_itself s e =
        let (j, at, loaded) = find-at (λ (x : KeptSection). is_loaded_section x.section) (filter (is_just_over p) (kept_sections r.image)) s e in
        let (i, at_i, just_s) = filter-at (is_just_over p) (kept_sections r.image) j s at in
        let (bytes, offset, size) = just_parts p s just_s in
        let (bytes_k, offset_k, size_k) = just_parts p k just in
        let some : k.section.sh_size ≡ 0 → ⊥ = eqb-false k.section.sh_size 0 (size_filled k note) in
        let stored = stored_from s loaded bytes in
        let stored_k = stored_from k note.loaded note.filled in
        elim (pairs-at (λ k l. was_stored k ≡ true → was_stored l ≡ true → apart (bytes_of k) (bytes_of l) ≡ true) (kept_sections r.image) facts.sections_apart i note.place s k at_i note.is_there) [
          | inl same ↦ same
          | inr (inl other) ↦ absurd (apart-meet (bytes_of s) (bytes_of k) p.p_offset (other stored stored_k) (omega (arith, offset)) (omega (arith, offset, size, size_k, some)) (omega (arith, offset_k)) (omega (arith, offset_k, some)))
          | inr (inr other) ↦ absurd (apart-meet (bytes_of k) (bytes_of s) p.p_offset (other stored_k stored) (omega (arith, offset_k)) (omega (arith, offset_k, some)) (omega (arith, offset)) (omega (arith, offset, size, size_k, some)))
        ]

    find_loaded : find (λ x. is_loaded_section x.section) (filter (is_just_over p) (kept_sections r.image)) ≡ Some k
    find_loaded = by_option (find (λ x. is_loaded_section x.section) (filter (is_just_over p) (kept_sections r.image))) refl
      where
        by_option : (o : Option KeptSection) → find (λ x. is_loaded_section x.section) (filter (is_just_over p) (kept_sections r.image)) ≡ o → o ≡ Some k
        by_option (Some s) e = ap (λ (x : KeptSection). Some x) (found_itself s e)
        by_option None e =
            let (j, at) = at-filter (is_just_over p) (kept_sections r.image) note.place k note.is_there just in
            absurd (false≢true (sym (each-at (λ (x : KeptSection). is_loaded_section x.section ≡ false) (filter (is_just_over p) (kept_sections r.image))
            (find-misses (λ (x : KeptSection). is_loaded_section x.section) (filter (is_just_over p) (kept_sections r.image)) e) j k at) ∙ note.loaded))

    under_is : section_under r.image p ≡ Some k
    under_is = ap (λ (o : Option KeptSection). first_there o (find (λ _. true) (filter (is_just_over p) (kept_sections r.image)))) find_loaded

    anchor_one : anchor_of r.read r.image p ≡ OneSection k
    anchor_one =
        notes_by_range p for_notes ∙ ap (λ b. if b then Itself else if is_over_notes r.read p then Notes (notes_under r.read r.image p) else anchor_or_itself (section_under r.image p)) (filled_part p k.section note.filled shown)
        ∙ ap (λ b. if b then Notes (notes_under r.read r.image p) else anchor_or_itself (section_under r.image p)) (not_several p k note shown just) ∙ ap anchor_or_itself under_is

    one_shown : IsShownIn p k
    one_shown = (
      0,
      anchored_to r.image.form p (target_at (planned k)),
      written-at r moved p (target_at (planned k) ∷ []) (section_targets r moved p k (planned k) anchor_one (place_there k note)) 0 (target_at (planned k)) refl,
      refl,
      target_shows r.image.form p (planned k) (in_memory k note),
    )

  -- ## The law

  -- each program header for notes of the image that showed a note shows it
  pub note_is_shown : (m : ℕ) (p : SegmentHeader) → slice_get r.image.segments m ≡ Some p → (k : KeptSection) → IsNote k → did_show_note r.read k p ≡ true
      → is_shown_by (written_segments r moved) p.p_type (planned k) ≡ true
  note_is_shown m p at k note did =
      let outer = and_parts (is_for_notes p && shows_place p (place_at_read k.section)) (is_just_over p k || is_over_notes r.read p && shows_its_notes r.read p) did in
      let inner = and_parts (is_for_notes p) (shows_place p (place_at_read k.section)) outer.0 in
      let (j, q, at_q, type, shows_it) = by_either (or_cases (is_just_over p k) (is_over_notes r.read p && shows_its_notes r.read p) outer.1) inner.0 inner.1 in
      let (n, at_n) = plan-at r moved m p j q at at_q in
      any-from (λ x. x.p_type == p.p_type && shows_place x (planned k)) (written_segments r moved) n q at_n
      (and_from (q.p_type == p.p_type) (shows_place q (planned k)) (eq-eqb q.p_type p.p_type type) shows_it)
    where
      by_either : (is_just_over p k ≡ true) ⊎ ((is_over_notes r.read p && shows_its_notes r.read p) ≡ true) → is_for_notes p ≡ true → shows_place p (place_at_read k.section) ≡ true → IsShownIn p k
      by_either (inl just) for_notes shown = one_shown p for_notes k note shown just
      by_either (inr several) for_notes shown =
          let (over, all) = and_parts (is_over_notes r.read p) (shows_its_notes r.read p) several in
          several_shown p for_notes over (all-at (λ (s : KeptSection). shows_place p (place_at_read s.section)) (sharers r.read p) all) k note shown

  note_of : (i : ℕ) (k : KeptSection) → slice_get (kept_sections r.image) i ≡ Some k → is_loaded_note k ≡ true → IsNote k
  note_of i k at passes =
      let outer = and_parts (k.section.sh_type == SHT_NOTE && is_loaded_section k.section) (has_bytes k.section) passes in
      let inner = and_parts (k.section.sh_type == SHT_NOTE) (is_loaded_section k.section) outer.0 in
      record { place = i; is_there = at; type = eqb-true k.section.sh_type SHT_NOTE inner.0; loaded = inner.1; filled = outer.1 }

  notes_shown : (rounds looked : ℕ) → are_notes_shown r (plan_for r rounds looked moved) ≡ true
  unfolding are_notes_shown plan_for
  notes_shown rounds looked =
      let plan = plan_for r rounds looked moved in
      all-from (is_note_shown r plan) (filter is_loaded_note (kept_sections r.image)) (each-from (λ s. is_note_shown r plan s ≡ true) (filter is_loaded_note (kept_sections r.image)) (λ j k at.
      let (i, at_i, passes) = filter-at is_loaded_note (kept_sections r.image) j k at in
      let note = note_of i k at_i passes in
      let shown : SegmentHeader → Bool = λ p. is_some_and (is_shown_by (written_segments r moved) p.p_type) (slice_get (places r moved) k.position) in
      all-from shown (filter (did_show_note r.read k) r.image.segments) (each-from (λ p. shown p ≡ true) (filter (did_show_note r.read k) r.image.segments) (λ n p at_p.
      let (m, at_m, did) = filter-at (did_show_note r.read k) r.image.segments n p at_p in
      ap (is_some_and (is_shown_by (written_segments r moved) p.p_type)) (place_there k note) ∙ note_is_shown m p at_m k note did))))

pub plans_show_notes : PlansShowNotes
plans_show_notes image plan edited is =
    let r = resized image in
    let P : Plan → Type 0 = λ l. are_notes_shown r l ≡ true in
    subst P (sym is.follows) (notes_shown r (edited_facts image edited) is.moved plan.rounds plan.looked)
