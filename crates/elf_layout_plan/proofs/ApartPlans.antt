-- In a plan headers and sections share no address.
use Rattle.std.proofs.Common.{◌≡◌, ℕ, ◌+◌, ◌-◌, ◌*◌, ◌≤◌, Bool, true, false, not, ◌&&◌, ◌⊎◌, List, [], ◌∷◌, ◌++◌, map, length, refl, sym, ap, ◌∙◌, subst, inl, inr, arith, Option, Some, None}
use Rattle.std.specs.Prelude.{◌==◌}
use Rattle.std.specs.List.{flat_map, slice_get}
use Rattle.std.proofs.lemmas.Bool.{and_parts, eqb-true, leb-true}
use Rattle.std.proofs.lemmas.Bool.Decides.{nat_tests}
use Rattle.std.proofs.lemmas.Option.{same_Some}
use Rattle.elf_format.specs.declared.constants.TheConstants.{SHF_ALLOC, SHF_TLS, SHT_NOBITS, SHT_NULL}
use Rattle.elf_format.specs.declared.range.Range.{Range}
use Rattle.elf_format.specs.declared.records.SegmentHeader.{SegmentHeader}
use Rattle.elf_format.specs.File.{loads_of}
use Rattle.elf_format.specs.Options.{is_one_of, is_some_and, list_at}
use Rattle.elf_format.specs.Places.{Place, is_set}
use Rattle.elf_format.specs.Ranges.{all_apart, apart, end_of, range}
use Rattle.elf_format.specs.Records.{file_header_size, segment_header_size}
use Rattle.elf_layout_plan.specs.Added.{Slot, added_loads, kept_end, load_alignment, memory_end}
use Rattle.elf_layout_plan.specs.Apart.{addresses_of, does_take_memory, is_memory_apart}
use Rattle.elf_layout_plan.specs.Blocks.{Block, have_causes, stay_apart}
use Rattle.elf_layout_plan.specs.Memory.{Resized, SizedSection, blocks_with, edge_blocks, header_blocks, loaded_over, section_block, sized_sections, takes_memory}
use Rattle.elf_layout_plan.specs.ApartLaws.{PlansAreApart}
use Rattle.elf_layout_plan.specs.Plan.{Plan, plan_for, resized}
use Rattle.elf_layout_plan.specs.Rounds.{added_flags, are_in_old_order, do_move, headers_needed, sections_at}
use Rattle.elf_layout_plan.specs.Standing.{place_in, places, slot_of, table_offset}
use Rattle.elf_layout_plan.specs.Written.{written_segments}
use Rattle.elf_layout_plan.proofs.ApartBlocks.{Neither, neither-apart, pairs_all_apart, stay_neither, stay_over}
use Rattle.elf_layout_plan.proofs.ApartFacts.{AreFacts}
use Rattle.elf_layout_plan.proofs.ApartFixed.{file_header_blocks, table_blocks}
use Rattle.elf_layout_plan.proofs.ApartHeaders.{IsUnder, headers_under}
use Rattle.elf_layout_plan.proofs.ApartLists.{Each, Pairs, each-append, each-at, each-back, each-from, each-front, each-map, each-more, filter-at, filter-map, pairs-append, pairs-at, pairs-back, pairs-both, pairs-cross, pairs-filter, pairs-front, pairs-from, pairs-map, pairs-more, pairs-unmap}
use Rattle.elf_layout_plan.proofs.ApartMemory.{IsBehind, loads_from-low, loads_from-pairs}
use Rattle.elf_layout_plan.proofs.ApartPlaces.{is_place, keeps_address, none_stays, place_at_slot, slot_found}
use Rattle.elf_layout_plan.proofs.ApartRead.{edited_facts}
use Rattle.elf_layout_plan.proofs.ApartSections.{all_slots, sized-at}
use Rattle.elf_layout_plan.proofs.ApartStays.{IsLow, block_clear, blocks_stay, is_low, taking}
use Rattle.elf_format.proofs.ForCallers.{apart-before, apart-behind, apart-empty}

range-same : (a b z y : ℕ) → a ≡ b → z ≡ y → range a z ≡ range b y
range-same a b z y e f = cc

-- whether a section takes memory, by its type and flags
taking_by : ℕ → ℕ → Bool
taking_by type flags = is_set SHF_ALLOC flags && not (type == SHT_NULL) && not (type == SHT_NOBITS && is_set SHF_TLS flags)

place_takes : (r : Resized) (moved : List ℕ) (t : SizedSection) → does_take_memory (place_in r moved t) ≡ takes_memory t.kept.section
unfolding taking_by
place_takes r moved t =
    let is = is_place r moved t in
    ap (λ type. taking_by type (place_in r moved t).sh_flags) is.type ∙ ap (λ flags. taking_by t.kept.section.sh_type flags) is.flags

-- a list of at most one range
one_alone : (part : Range) (segments : List SegmentHeader) → Pairs (λ a b. apart a b ≡ true) (addresses_of part segments)
one_alone part segments = by_option (loaded_over part segments)
  where
    by_option : (o : Option SegmentHeader) → Pairs (λ a b. apart a b ≡ true) (list_at (λ (p : SegmentHeader). range (p.p_vaddr + part.start - p.p_offset) part.size ∷ []) o)
    by_option None = tt
    by_option (Some p) = (tt, tt)

module _ (r : Resized) (facts : AreFacts r) (looked : ℕ) (moved : List ℕ) (move : do_move r looked moved ≡ true) (enough : headers_needed r moved ≤ looked) where
  stay : stay_apart moved (blocks_with r looked) ≡ true
  stay =
      (and_parts (have_causes (blocks_with r looked) moved) (stay_apart moved (blocks_with r looked))
      (and_parts (have_causes (blocks_with r looked) moved && stay_apart moved (blocks_with r looked)) (are_in_old_order (sections_at r moved)) move).0).1

  slots : List Slot
  slots = all_slots (added_loads r moved)

  slots_high : Each (λ x. memory_end r ≤ x.address) slots
  unfolding added_loads slots
  slots_high = loads_from-low r.image.moves_dynamic (load_alignment r.read r.image) (kept_end r moved) (memory_end r) (added_flags r moved) (sections_at r moved)

  slots_behind : Pairs IsBehind slots
  unfolding added_loads slots
  slots_behind = loads_from-pairs r.image.moves_dynamic (load_alignment r.read r.image) (kept_end r moved) (memory_end r) (added_flags r moved) (sections_at r moved)

  -- ## Where each section is

  -- the addresses of a section's place
  addresses : SizedSection → Range
  addresses t = range (place_in r moved t).sh_addr (place_in r moved t).sh_size

  -- in an added segment
  record IsHigh (t : SizedSection) : Type 0 where
    place : ℕ
    slot : Slot
    is_there : slice_get slots place ≡ Some slot
    position : slot.position ≡ t.kept.position
    stands : addresses t ≡ range slot.address slot.size

  -- a section stands where it was
  record IsStill (t : SizedSection) : Type 0 where
    stays : is_one_of moved t.kept.position ≡ false
    low : IsLow r facts moved looked stay t
    stands : addresses t ≡ range t.kept.section.sh_addr t.size

  found_high : (t : SizedSection) (x : Slot) → slice_get (sized_sections r) t.kept.position ≡ Some t → slot_of r moved t ≡ Some x → IsHigh t
  unfolding slots addresses
  found_high t x at e =
      let (j, at_j, same, (_, (u, at_u, size))) = slot_found r facts.sized moved t x e in
      let position : x.position ≡ t.kept.position = eqb-true x.position t.kept.position same in
      let at_t : slice_get (sized_sections r) t.kept.position ≡ Some u = subst (λ (n : ℕ). slice_get (sized_sections r) n ≡ Some u) position at_u in
      let same_size : t.size ≡ x.size = ap (λ (s : SizedSection). s.size) (same_Some t u (sym at ∙ at_t)) ∙ size in
      let placed : (place_in r moved t).sh_addr ≡ x.address = ap (λ (s : Place). s.sh_addr) (place_at_slot r moved t x e) in
      let sized : (place_in r moved t).sh_size ≡ x.size = (is_place r moved t).size ∙ same_size in
      record {
        place = j;
        slot = x;
        is_there = at_j;
        position = position;
        stands = range-same (place_in r moved t).sh_addr x.address (place_in r moved t).sh_size x.size placed sized;
      }

  stands_at_all : (k : ℕ) (t : SizedSection) → slice_get (taking r facts) k ≡ Some t → IsHigh t ⊎ IsStill t
  unfolding addresses
  stands_at_all k t at = by_slot (slot_of r moved t) refl (filter-at (λ t. takes_memory t.kept.section) (sized_sections r) k t at)
    where
      by_slot : (o : Option Slot) → slot_of r moved t ≡ o → ((i : ℕ) × (slice_get (sized_sections r) i ≡ Some t) × (takes_memory t.kept.section ≡ true)) → IsHigh t ⊎ IsStill t
      by_slot o e (i, at_i, takes) =
          let position : t.kept.position ≡ i = (sized-at r facts.sized i t at_i).0 in
          let at_position : slice_get (sized_sections r) t.kept.position ≡ Some t = subst (λ (n : ℕ). slice_get (sized_sections r) n ≡ Some t) (sym position) at_i in
          by_it o e at_position i at_i takes
        where
          by_it : (o : Option Slot) → slot_of r moved t ≡ o → slice_get (sized_sections r) t.kept.position ≡ Some t → (i : ℕ) → slice_get (sized_sections r) i ≡ Some t → takes_memory t.kept.section ≡ true → IsHigh t ⊎ IsStill t
          by_it (Some x) e at_position i at_i takes = inl (found_high t x at_position e)
          by_it None e at_position i at_i takes =
              let stays = none_stays r facts.sized moved t at_position e in
              inr (record {
                stays = stays;
                low = is_low r facts moved looked stay k i t at at_i takes stays;
                stands = range-same (place_in r moved t).sh_addr t.kept.section.sh_addr (place_in r moved t).sh_size t.size (keeps_address r moved t e) (is_place r moved t).size;
              })

  -- ## Two sections

  high_high : (t u : SizedSection) → IsHigh t → IsHigh u → (t.kept.position ≡ u.kept.position → ⊥) → apart (addresses t) (addresses u) ≡ true
  high_high t u ht hu differ =
      let P : Range → Type 0 = λ a. apart a (addresses u) ≡ true in
      let Q : Range → Type 0 = λ b. apart (range ht.slot.address ht.slot.size) b ≡ true in
      subst P (sym ht.stands) (subst Q (sym hu.stands) (elim (pairs-at IsBehind slots slots_behind ht.place hu.place ht.slot hu.slot ht.is_there hu.is_there) [
        | inl same ↦ absurd (differ (sym ht.position ∙ ap (λ (x : Slot). x.position) same ∙ hu.position))
        | inr (inl before) ↦ apart-before (range ht.slot.address ht.slot.size) (range hu.slot.address hu.slot.size) before
        | inr (inr behind) ↦ apart-behind (range ht.slot.address ht.slot.size) (range hu.slot.address hu.slot.size) behind
      ]))

  -- what ends where memory ended is in front of every slot
  below_slot : (a : Range) (t : SizedSection) → IsHigh t → end_of a ≤ memory_end r → apart a (addresses t) ≡ true
  below_slot a t h low =
      let Q : Range → Type 0 = λ b. apart a b ≡ true in
      let high : memory_end r ≤ h.slot.address = each-at (λ x. memory_end r ≤ x.address) slots slots_high h.place h.slot h.is_there in
      subst Q (sym h.stands) (apart-before a (range h.slot.address h.slot.size) (omega (arith, low, high)))

  apart-turned : (a b : Range) → apart a b ≡ true → apart b a ≡ true
  apart-turned a b h = grind (arith, nat_tests)

  still_high : (t u : SizedSection) → IsStill t → IsHigh u → apart (addresses t) (addresses u) ≡ true
  still_high t u ht hu =
      let P : Range → Type 0 = λ a. apart a (addresses u) ≡ true in
      subst P (sym ht.stands) (elim ht.low [
        | inl empty ↦ apart-empty (range t.kept.section.sh_addr t.size) (addresses u) empty
        | inr low ↦ below_slot (range t.kept.section.sh_addr t.size) u hu low
      ])

  still_still : (t u : SizedSection) → IsStill t → IsStill u → Neither (stay_over moved) (section_block r t) (section_block r u) → apart (addresses t) (addresses u) ≡ true
  still_still t u ht hu neither =
      let P : Range → Type 0 = λ a. apart a (addresses u) ≡ true in
      let Q : Range → Type 0 = λ b. apart (range t.kept.section.sh_addr t.size) b ≡ true in
      subst P (sym ht.stands) (subst Q (sym hu.stands)
      (neither-apart (section_block r t) (section_block r u) t.size u.size (stay_neither moved (section_block r t) (section_block r u) neither ht.stays hu.stays) (omega arith) (omega arith)))

  two_apart : (t u : SizedSection) → IsHigh t ⊎ IsStill t → IsHigh u ⊎ IsStill u → (t.kept.position ≡ u.kept.position → ⊥) → Neither (stay_over moved) (section_block r t) (section_block r u)
      → apart (addresses t) (addresses u) ≡ true
  two_apart t u (inl ht) (inl hu) differ neither = high_high t u ht hu differ
  two_apart t u (inl ht) (inr hu) differ neither = apart-turned (addresses u) (addresses t) (still_high u t hu ht)
  two_apart t u (inr ht) (inl hu) differ neither = still_high t u ht hu
  two_apart t u (inr ht) (inr hu) differ neither = still_still t u ht hu neither

  -- positions rise
  differ_all : Pairs (λ t u. t.kept.position ≡ u.kept.position → ⊥) (taking r facts)
  differ_all =
      pairs-filter (λ t u. t.kept.position ≡ u.kept.position → ⊥) (λ t. takes_memory t.kept.section) (sized_sections r)
      (pairs-from (λ t u. t.kept.position ≡ u.kept.position → ⊥) (sized_sections r) (λ i j t u less at_t at_u same.
      let here = (sized-at r facts.sized i t at_t).0 in
      let behind = (sized-at r facts.sized j u at_u).0 in
      omega (arith, here, behind, same, less)))

  blocks_neither : Pairs (λ t u. Neither (stay_over moved) (section_block r t) (section_block r u)) (taking r facts)
  blocks_neither =
      let front = header_blocks r looked ++ flat_map edge_blocks (loads_of r.image.segments) in
      pairs-unmap (Neither (stay_over moved)) (section_block r) (taking r facts) (pairs-back (Neither (stay_over moved)) front (map (section_block r) (taking r facts)) (blocks_stay r facts moved looked stay))

  sections_apart : Pairs (λ t u. apart (addresses t) (addresses u) ≡ true) (taking r facts)
  sections_apart =
      let State : SizedSection → Type 0 = λ t. IsHigh t ⊎ IsStill t in
      let differ : SizedSection → SizedSection → Type 0 = λ t u. t.kept.position ≡ u.kept.position → ⊥ in
      let neither : SizedSection → SizedSection → Type 0 = λ t u. Neither (stay_over moved) (section_block r t) (section_block r u) in
      let states = each-from State (taking r facts) stands_at_all in
      pairs-more (λ t u. differ t u × neither t u) State (λ t u. apart (addresses t) (addresses u) ≡ true) (λ t u st su h. two_apart t u st su h.0 h.1) (taking r facts) states
      (pairs-both differ neither (taking r facts) differ_all blocks_neither)

  -- ## A header and a section, two headers

  header_section : (b : Block) (a : Range) (k : ℕ) (t : SizedSection) → slice_get (taking r facts) k ≡ Some t → b.start ≡ a.start → a.size ≤ b.size → b.section ≡ None → end_of a ≤ memory_end r
      → Each (λ u. Neither (stay_over moved) b (section_block r u)) (taking r facts) → apart a (addresses t) ≡ true
  header_section b a k t at start less none low clear = elim (stands_at_all k t at) [
    | inl high ↦ below_slot a t high low
    | inr still ↦
        let Q : Range → Type 0 = λ c. apart a c ≡ true in
        let P : ℕ → Type 0 = λ n. apart (range n a.size) (range t.kept.section.sh_addr t.size) ≡ true in
        let over = each-at (λ u. Neither (stay_over moved) b (section_block r u)) (taking r facts) clear k t at in
        let neither = stay_neither moved b (section_block r t) over (ap (λ (o : Option ℕ). is_some_and (is_one_of moved) o) none) still.stays in
        subst Q (sym still.stands) (subst P start (neither-apart b (section_block r t) a.size t.size neither less (omega arith)))
  ]

  -- headers of some blocks, all clear of sections
  headers_sections : (blocks : List Block) (heads : List Range) → Each (IsUnder r facts moved blocks) heads → Each (λ b. Each (λ u. Neither (stay_over moved) b (section_block r u)) (taking r facts)) blocks
      → Each (λ a. Each (λ t. apart a (addresses t) ≡ true) (taking r facts)) heads
  headers_sections blocks heads under clear =
      each-more (IsUnder r facts moved blocks) (λ a. Each (λ t. apart a (addresses t) ≡ true) (taking r facts)) (λ a (i, b, at_b, start, less, none, low).
      each-from (λ t. apart a (addresses t) ≡ true) (taking r facts) (λ k t at.
      header_section b a k t at start less none low (each-at (λ c. Each (λ u. Neither (stay_over moved) c (section_block r u)) (taking r facts)) blocks clear i b at_b))) heads under

  headers_headers : (blocks others : List Block) (heads more : List Range) → Each (IsUnder r facts moved blocks) heads → Each (IsUnder r facts moved others) more
      → Each (λ b. Each (Neither (stay_over moved) b) others) blocks → Each (λ a. Each (λ c. apart a c ≡ true) more) heads
  headers_headers blocks others heads more under under_more clear =
      each-more (IsUnder r facts moved blocks) (λ a. Each (λ c. apart a c ≡ true) more) (λ a (i, b, at_b, start, less, none, low).
      each-more (IsUnder r facts moved others) (λ c. apart a c ≡ true) (λ c (j, d, at_d, start_c, less_c, none_c, low_c).
      let over = each-at (Neither (stay_over moved) b) others (each-at (λ b. Each (Neither (stay_over moved) b) others) blocks clear i b at_b) j d at_d in
      let neither = stay_neither moved b d over (ap (λ (o : Option ℕ). is_some_and (is_one_of moved) o) none) (ap (λ (o : Option ℕ). is_some_and (is_one_of moved) o) none_c) in
      let P : ℕ → Type 0 = λ n. apart (range n a.size) c ≡ true in
      let Q : ℕ → Type 0 = λ n. apart (range b.start a.size) (range n c.size) ≡ true in
      subst P start (subst Q start_c (neither-apart b d a.size c.size neither less less_c))) more under_more) heads under

  -- ## All of it

  plan_apart : (rounds : ℕ) → is_memory_apart r (plan_for r rounds looked moved) ≡ true
  unfolding is_memory_apart plan_for places addresses
  plan_apart rounds =
      let segments = written_segments r moved in
      let first = addresses_of (range 0 (file_header_size r.image.form)) segments in
      let second = addresses_of (range (table_offset r moved) (length segments * segment_header_size r.image.form)) segments in
      let blocks = file_header_blocks r in
      let others = table_blocks r looked in
      let edges = flat_map edge_blocks (loads_of r.image.segments) in
      let sections = map (section_block r) (taking r facts) in
      let under = headers_under r facts moved looked enough in
      let Apart : Range → Range → Type 0 = λ a b. apart a b ≡ true in
      let Clear : Block → Type 0 = λ b. Each (λ u. Neither (stay_over moved) b (section_block r u)) (taking r facts) in
      let clear = each-front Clear (blocks ++ others) edges (block_clear r facts moved looked stay) in
      let pairs = pairs-front (Neither (stay_over moved)) (blocks ++ others) edges (pairs-front (Neither (stay_over moved)) ((blocks ++ others) ++ edges) sections (blocks_stay r facts moved looked stay)) in
      let cross = headers_headers blocks others first second under.0 under.1 (pairs-cross (Neither (stay_over moved)) blocks others pairs) in
      let heads = pairs-append Apart first second (one_alone (range 0 (file_header_size r.image.form)) segments) (one_alone (range (table_offset r moved) (length segments * segment_header_size r.image.form)) segments) cross in
      let to_sections = each-append (λ a. Each (λ t. apart a (addresses t) ≡ true) (taking r facts)) first second
      (headers_sections blocks first under.0 (each-front Clear blocks others clear)) (headers_sections others second under.1 (each-back Clear blocks others clear)) in
      let ranges : List Range = map (λ (s : Place). range s.sh_addr s.sh_size) (map (place_in r moved) (taking r facts)) in
      let all : Pairs Apart ((first ++ second) ++ ranges) =
      pairs-append Apart (first ++ second) ranges heads
      (pairs-map Apart (λ (s : Place). range s.sh_addr s.sh_size) (map (place_in r moved) (taking r facts)) (pairs-map (λ (s u : Place). Apart (range s.sh_addr s.sh_size) (range u.sh_addr u.sh_size)) (place_in r moved) (taking r facts) sections_apart))
      (each-more (λ a. Each (λ t. apart a (addresses t) ≡ true) (taking r facts)) (λ a. Each (Apart a) ranges)
      (λ a h. each-map (Apart a) (λ (s : Place). range s.sh_addr s.sh_size) (map (place_in r moved) (taking r facts)) (each-map (λ (s : Place). Apart a (range s.sh_addr s.sh_size)) (place_in r moved) (taking r facts) h)) (first ++ second) to_sections) in
      let P : List Place → Type 0 = λ l. all_apart ((first ++ second) ++ map (λ (s : Place). range s.sh_addr s.sh_size) l) ≡ true in
      subst P (sym (filter-map (place_in r moved) does_take_memory (λ t. takes_memory t.kept.section) (place_takes r moved) (sized_sections r))) (pairs_all_apart ((first ++ second) ++ ranges) all)

pub plans_are_apart : PlansAreApart
plans_are_apart image plan edited is =
    let r = resized image in
    let P : Plan → Type 0 = λ l. is_memory_apart r l ≡ true in
    subst P (sym is.follows) (plan_apart r (edited_facts image edited) plan.looked is.moved is.ended.move (leb-true (headers_needed r is.moved) plan.looked is.ended.enough) plan.rounds)
