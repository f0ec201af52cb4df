-- Blocks that stay share no address.
use Rattle.std.proofs.Common.{◌≡◌, ◌≤◌, ◌<◌, ◌⊎◌, ℕ, ◌+◌, Bool, true, false, List, [], ◌∷◌, ◌++◌, map, refl, sym, inl, inr, arith}
use Rattle.std.specs.Prelude.{◌&&◌, ◌||◌, not, ◌==◌, nat_le, nat_lt, filter}
use Rattle.std.specs.List.{flat_map, list_any}
use Rattle.std.proofs.lemmas.Bool.{and_from, both_ways, cases_lt, cases_order, eq-eqb, false_from_ne_true, le-leb, lt-ltb, ltb-false, not-true, or_left, or_parts, or_right}
use Rattle.elf_format.specs.declared.records.SegmentHeader.{SegmentHeader}
use Rattle.elf_format.specs.File.{loads_of}
use Rattle.elf_layout_plan.specs.Blocks.{Block, is_block_of_some, is_earlier, is_kept_out, overlaps, rank, some_two, stay_apart}
use Rattle.elf_layout_plan.specs.Memory.{Resized, SizedSection, blocks_with, edge_blocks, header_blocks, section_block, sized_sections, takes_memory}
use Rattle.elf_layout_plan.proofs.PlacedLists.{Has, Pairs, any-from, append-left, append-right, filter-from, flat_map-from, map-from, pairs-across, pairs-left, pairs-more, pairs-none, pairs-right, pairs-two, pairs-unmap}

-- ## Two blocks

-- of two blocks neither overlaps the other
pub record KeepApart (a b : Block) : Type 0 where
  pub one : overlaps a b ≡ false
  pub other : overlaps b a ≡ false

swap : (a b : Block) → KeepApart a b → KeepApart b a
swap a b h = record { one = h.other; other = h.one }

same_start : (a b : Block) → a.start ≡ b.start
    → (nat_lt a.size b.size || a.size == b.size && nat_le (rank a) (rank b)) ≡ true → is_earlier a b ≡ true
same_start a b e h =
    or_right (nat_lt a.start b.start) (a.start == b.start && (nat_lt a.size b.size || a.size == b.size && nat_le (rank a)
    (rank b)))
    (and_from (a.start == b.start) (nat_lt a.size b.size || a.size == b.size && nat_le (rank a) (rank b))
    (eq-eqb a.start b.start e) h)

same_size : (a b : Block) → a.start ≡ b.start → a.size ≡ b.size → nat_le (rank a) (rank b) ≡ true
    → is_earlier a b ≡ true
same_size a b e f h = same_start a b e (or_right (nat_lt a.size b.size) (a.size == b.size && nat_le (rank a) (rank b))
    (and_from (a.size == b.size) (nat_le (rank a) (rank b)) (eq-eqb a.size b.size f) h))

starts_first : (a b : Block) → a.start < b.start → is_earlier a b ≡ true
starts_first a b less =
    or_left (nat_lt a.start b.start) (a.start == b.start && (nat_lt a.size b.size || a.size == b.size && nat_le (rank a)
    (rank b)))
    (lt-ltb a.start b.start less)

smaller_first : (a b : Block) → a.start ≡ b.start → a.size < b.size → is_earlier a b ≡ true
smaller_first a b e less = same_start a b e
    (or_left (nat_lt a.size b.size) (a.size == b.size && nat_le (rank a) (rank b)) (lt-ltb a.size b.size less))

-- one of two blocks is the earlier one
one_earlier : (a b : Block) → (is_earlier a b ≡ true) ⊎ (is_earlier b a ≡ true)
one_earlier a b = elim (cases_order a.start b.start) [
  | inr (inl less) ↦ inl (starts_first a b less)
  | inr (inr more) ↦ inr (starts_first b a more)
  | inl same ↦ elim (cases_order a.size b.size) [
    | inr (inl less) ↦ inl (smaller_first a b same less)
    | inr (inr more) ↦ inr (smaller_first b a (sym same) more)
    | inl size ↦ elim (cases_lt (rank b) (rank a)) [
      | inl less ↦ inr (same_size b a (sym same) (sym size) (le-leb (rank b) (rank a) (omega arith)))
      | inr more ↦ inl (same_size a b same size (le-leb (rank a) (rank b) more))
    ]
  ]
]

-- an earlier one that doesn't overlap
not_over : (a b : Block) → is_earlier a b ≡ true → overlaps a b ≡ false → (nat_lt b.start (a.start + a.size) ≡ false) × (is_kept_out a b ≡ false)
not_over a b earlier h = or_parts (nat_lt b.start (a.start + a.size)) (is_kept_out a b)
    (second (is_earlier a b) (nat_lt b.start (a.start + a.size) || is_kept_out a b) earlier h)
  where
    second : (x y : Bool) → x ≡ true → (x && y) ≡ false → y ≡ false
    second true y e f = f
    second false y e f = absurd (both_ways false refl e)

ends_first : (a b : Block) → is_earlier a b ≡ true → overlaps a b ≡ false → a.start + a.size ≤ b.start
ends_first a b earlier h = ltb-false b.start (a.start + a.size) (not_over a b earlier h).0

-- one ends where the other one begins, or before
pub one_ends : (a b : Block) → KeepApart a b → (a.start + a.size ≤ b.start) ⊎ (b.start + b.size ≤ a.start)
one_ends a b h = elim (one_earlier a b) [
  | inl first ↦ inl (ends_first a b first h.one)
  | inr first ↦ inr (ends_first b a first h.other)
]

pub ends_before : (a b : Block) → KeepApart a b → a.start < b.start → a.start + a.size ≤ b.start
ends_before a b h less = ends_first a b (starts_first a b less) h.one

-- a displaced one isn't apart from the start of a loaded segment
pub isnt_displaced : (a b : Block) → KeepApart a b → b.is_load_start ≡ true → a.is_displaced ≡ false
isnt_displaced a b h start = false_from_ne_true a.is_displaced (λ displaced. elim (one_earlier a b) [
  | inl first ↦ both_ways (is_kept_out a b) (not_over a b first h.one).1
      (or_left (a.is_displaced && b.is_load_start) (a.is_load_start && b.is_displaced) (and_from a.is_displaced b.is_load_start displaced start))
  | inr first ↦ both_ways (is_kept_out b a) (not_over b a first h.other).1
      (or_right (b.is_displaced && a.is_load_start) (b.is_load_start && a.is_displaced) (and_from b.is_load_start a.is_displaced start displaced))
])

-- ## Those of an image

record NoneOfTwo (test : Block → Block → Bool) (a b : Block) : Type 0 where
  one : test a b ≡ false
  other : test b a ≡ false

none_of_two : (test : Block → Block → Bool) (bs : List Block) → some_two test bs ≡ false → Pairs (NoneOfTwo test) bs
unfolding some_two
none_of_two test [] h = pairs-none (NoneOfTwo test)
none_of_two test (b ∷ bs) h =
    let both = or_parts (list_any (λ c. test b c || test c b) bs) (some_two test bs) h in
    pairs-more (NoneOfTwo test) b bs
    (λ c here.
    let none : (test b c || test c b) ≡ false = false_from_ne_true (test b c || test c b) (λ some.
    both_ways (list_any (λ d. test b d || test d b) bs) both.0 (any-from (λ d. test b d || test d b) bs c here some)) in
    let parts = or_parts (test b c) (test c b) none in
    record { one = parts.0; other = parts.1 })
    (none_of_two test bs both.1)

module _ (r : Resized) (moved : List ℕ) (looked : ℕ) (apart : stay_apart moved (blocks_with r looked) ≡ true) where
  abbrev two_stay : Block → Block → Bool
  two_stay a b = overlaps a b && not (is_block_of_some moved a) && not (is_block_of_some moved b)

  abbrev section_blocks : List Block
  section_blocks = map (section_block r) (filter (λ s. takes_memory s.kept.section) (sized_sections r))

  abbrev edges : List Block
  edges = flat_map edge_blocks (loads_of r.image.segments)

  all_pairs : Pairs (NoneOfTwo two_stay) ((header_blocks r looked ++ edges) ++ section_blocks)
  unfolding blocks_with
  all_pairs = none_of_two two_stay ((header_blocks r looked ++ edges) ++ section_blocks)
      (not-true (some_two two_stay ((header_blocks r looked ++ edges) ++ section_blocks)) apart)

  stay_by : (a b : Block) (x y z : Bool) → y ≡ false → z ≡ false → (x && not y && not z) ≡ false → x ≡ false
  stay_by a b x true z e f h = absurd (both_ways true e refl)
  stay_by a b x false true e f h = absurd (both_ways true f refl)
  stay_by a b true false false e f h = h
  stay_by a b false false false e f h = refl

  -- two that stay
  both_stay : (a b : Block) → is_block_of_some moved a ≡ false → is_block_of_some moved b ≡ false → NoneOfTwo two_stay a b → KeepApart a b
  both_stay a b a_stays b_stays h = record {
    one = stay_by a b (overlaps a b) (is_block_of_some moved a) (is_block_of_some moved b) a_stays b_stays h.one;
    other = stay_by b a (overlaps b a) (is_block_of_some moved b) (is_block_of_some moved a) b_stays a_stays h.other;
  }

  section_there : (s : SizedSection) → Has s (sized_sections r) → takes_memory s.kept.section ≡ true → Has (section_block r s) section_blocks
  section_there s h takes = map-from (section_block r) (filter (λ x. takes_memory x.kept.section) (sized_sections r)) s
      (filter-from (λ x. takes_memory x.kept.section) (sized_sections r) s h takes)

  -- a header and a section
  pub header_and_section : (a : Block) (s : SizedSection) → Has a (header_blocks r looked) → is_block_of_some moved a ≡ false
      → Has s (sized_sections r) → takes_memory s.kept.section ≡ true → is_block_of_some moved (section_block r s) ≡ false
      → KeepApart a (section_block r s)
  header_and_section a s a_here a_stays here takes s_stays =
      both_stay a (section_block r s) a_stays s_stays
      (pairs-across (NoneOfTwo two_stay) (header_blocks r looked ++ edges) section_blocks all_pairs a (section_block r s)
      (append-left (header_blocks r looked) edges a a_here) (section_there s here takes))

  -- a header and an edge
  pub header_and_edge : (a b : Block) (p : SegmentHeader) → Has a (header_blocks r looked) → is_block_of_some moved a ≡ false
      → Has p (loads_of r.image.segments) → Has b (edge_blocks p) → is_block_of_some moved b ≡ false → KeepApart a b
  header_and_edge a b p a_here a_stays here b_here b_stays =
      both_stay a b a_stays b_stays
      (pairs-across (NoneOfTwo two_stay) (header_blocks r looked) edges
      (pairs-left (NoneOfTwo two_stay) (header_blocks r looked ++ edges) section_blocks all_pairs) a b a_here
      (flat_map-from edge_blocks (loads_of r.image.segments) p b here b_here))

  -- a section and an edge
  pub section_and_edge : (s : SizedSection) (b : Block) (p : SegmentHeader) → Has s (sized_sections r) → takes_memory s.kept.section ≡ true
      → is_block_of_some moved (section_block r s) ≡ false → Has p (loads_of r.image.segments) → Has b (edge_blocks p)
      → is_block_of_some moved b ≡ false
      → KeepApart (section_block r s) b
  section_and_edge s b p here takes s_stays p_here b_here b_stays =
      swap b (section_block r s) (both_stay b (section_block r s) b_stays s_stays
      (pairs-across (NoneOfTwo two_stay) (header_blocks r looked ++ edges) section_blocks all_pairs b (section_block r s)
      (append-right (header_blocks r looked) edges b (flat_map-from edge_blocks (loads_of r.image.segments) p b p_here b_here))
      (section_there s here takes)))

  -- two sections
  pub two_sections : (s t : SizedSection) → Has s (sized_sections r) → Has t (sized_sections r) → takes_memory s.kept.section ≡ true
      → takes_memory t.kept.section ≡ true
      → is_block_of_some moved (section_block r s) ≡ false → is_block_of_some moved (section_block r t) ≡ false
      → (s ≡ t) ⊎ KeepApart (section_block r s) (section_block r t)
  two_sections s t s_here t_here s_takes t_takes s_stays t_stays =
      let sections = pairs-right (NoneOfTwo two_stay) (header_blocks r looked ++ edges) section_blocks all_pairs in
      let taking : List SizedSection = filter (λ x. takes_memory x.kept.section) (sized_sections r) in
      let unmapped = pairs-unmap (section_block r) (NoneOfTwo two_stay) taking sections in
      elim (pairs-two (λ x y. NoneOfTwo two_stay (section_block r x) (section_block r y)) taking unmapped s t
      (filter-from (λ x. takes_memory x.kept.section) (sized_sections r) s s_here s_takes)
      (filter-from (λ x. takes_memory x.kept.section) (sized_sections r) t t_here t_takes)) [
        | inl same ↦ inl same
        | inr (inl first) ↦ inr (both_stay (section_block r s) (section_block r t) s_stays t_stays first)
        | inr (inr last) ↦ inr (swap (section_block r t) (section_block r s)
            (both_stay (section_block r t) (section_block r s) t_stays s_stays last))
      ]
