-- The positions of sections that move are those of sections.
use Rattle.std.proofs.Common.{◌≡◌, ℕ, ◌+◌, ◌<◌, ◌≤◌, ◌⊎◌, zero, suc, List, [], ◌∷◌, ◌++◌, Bool, true, false, ◌&&◌, ◌||◌, Option, Some, None, length, map, get_or, sym, subst, inl, inr, cond, arith}
use Rattle.std.specs.Prelude.{All, filter}
use Rattle.std.specs.List.{flat_map, list_all, list_any}
use Rattle.std.proofs.lemmas.Bool.{and_parts, eqb-true, or_cases, true≢false}
use Rattle.elf_format.specs.File.{loads_of}
use Rattle.elf_format.specs.Image.{ImageSection}
use Rattle.elf_format.specs.declared.range.Range.{Range}
use Rattle.elf_format.specs.Ranges.{range}
use Rattle.elf_format.specs.Records.{file_header_size}
use Rattle.elf_format.specs.declared.records.SegmentHeader.{SegmentHeader}
use Rattle.elf_layout_plan.specs.Blocks.{Block, earlier_moves, has_cause, have_causes, is_block_of, later_moves, some_two, stay_apart}
use Rattle.elf_image.specs.Kept.{KeptSection, kept_from, kept_sections}
use Rattle.elf_layout_plan.specs.Memory.{Resized, SizedSection, block_in_load, blocks_with, edge_blocks, header_blocks, section_block, sized_from, sized_sections, table_at_read, table_size_with, takes_memory}
use Rattle.elf_layout_plan.specs.Rounds.{are_in_old_order, do_move, sections_at}

-- a fact of each element
Each : {A : Type 0} → (A → Type 0) → List A → Type 0
Each P [] = Unit {0}
Each P (x ∷ xs) = P x × Each P xs

each-append : {A : Type 0} (P : A → Type 0) (xs ys : List A) → Each P xs → Each P ys → Each P (xs ++ ys)
unfolding Each
each-append P [] ys h k = k
each-append P (x ∷ xs) ys h k = (h.0, each-append P xs ys h.1 k)

each-map : {A B : Type 0} (P : A → Type 0) (Q : B → Type 0) (f : A → B) → ((x : A) → P x → Q (f x)) → (xs : List A) → Each P xs → Each Q (map f xs)
unfolding Each
each-map P Q f h [] k = tt
each-map P Q f h (x ∷ xs) k = (h x k.0, each-map P Q f h xs k.1)

each-filter : {A : Type 0} (P : A → Type 0) (test : A → Bool) (xs : List A) → Each P xs → Each P (filter test xs)
unfolding Each
each-filter P test [] h = tt
each-filter {A} P test (x ∷ xs) h = by_test (test x) (filter test xs) (each-filter P test xs h.1)
  where
    by_test : (b : Bool) (rest : List A) → Each P rest → Each P (cond b (x ∷ rest) rest)
    by_test true rest k = (h.0, k)
    by_test false rest k = k

each-flat_map : {A B : Type 0} (Q : B → Type 0) (f : A → List B) → ((x : A) → Each Q (f x)) → (xs : List A) → Each Q (flat_map f xs)
unfolding Each
each-flat_map Q f h [] = tt
each-flat_map Q f h (x ∷ xs) = each-append Q (f x) (flat_map f xs) (h x) (each-flat_map Q f h xs)

-- ## Blocks

-- the block is of no section, or of one before that position
InRange : ℕ → Block → Type 0
InRange n b = (p : ℕ) → is_block_of p b ≡ true → p < n

-- of two blocks for which a test holds, one is the section's
module _ (n p : ℕ) (test : Block → Block → Bool) (names : (a b : Block) → test a b ≡ true → (is_block_of p a ≡ true) ⊎ (is_block_of p b ≡ true)) where
  one_of : (a b : Block) → InRange n a → InRange n b → (is_block_of p a ≡ true) ⊎ (is_block_of p b ≡ true) → p < n
  unfolding InRange
  one_of a b first second (inl e) = first p e
  one_of a b first second (inr e) = second p e

  with_one : (b : Block) (bs : List Block) → InRange n b → Each (InRange n) bs → list_any (λ c. test b c || test c b) bs ≡ true → p < n
  unfolding Each
  with_one b [] here rest h = absurd (true≢false (sym h))
  with_one b (c ∷ cs) here rest h =
      elim (or_cases (test b c || test c b) (list_any (λ d. test b d || test d b) cs) h) [
        | inl two ↦ elim (or_cases (test b c) (test c b) two) [
          | inl e ↦ one_of b c here rest.0 (names b c e)
          | inr e ↦ one_of c b rest.0 here (names c b e)
        ]
        | inr more ↦ with_one b cs here rest.1 more
      ]

  of_some_two : (bs : List Block) → Each (InRange n) bs → some_two test bs ≡ true → p < n
  unfolding Each some_two
  of_some_two [] all h = absurd (true≢false (sym h))
  of_some_two (b ∷ bs) all h =
      elim (or_cases (list_any (λ c. test b c || test c b) bs) (some_two test bs) h) [
        | inl one ↦ with_one b bs all.0 all.1 one
        | inr more ↦ of_some_two bs all.1 more
      ]

cause_names : (p : ℕ) (a b : Block) → (is_block_of p a && earlier_moves a b || is_block_of p b && later_moves a b) ≡ true
    → (is_block_of p a ≡ true) ⊎ (is_block_of p b ≡ true)
cause_names p a b h =
    elim (or_cases (is_block_of p a && earlier_moves a b) (is_block_of p b && later_moves a b) h) [
      | inl e ↦ inl (and_parts (is_block_of p a) (earlier_moves a b) e).0
      | inr e ↦ inr (and_parts (is_block_of p b) (later_moves a b) e).0
    ]

cause_within : (n p : ℕ) (bs : List Block) → Each (InRange n) bs → has_cause bs p ≡ true → p < n
cause_within n p bs all h = of_some_two n p (λ a b. is_block_of p a && earlier_moves a b || is_block_of p b && later_moves a b) (cause_names p) bs all h

-- ## The blocks of an image

AtBelow : ℕ → SizedSection → Type 0
AtBelow n s = s.kept.position < n

KeptBelow : ℕ → KeptSection → Type 0
KeptBelow n s = s.position < n

kept_within : (n at : ℕ) (numbers : List ℕ) (sections : List ImageSection) → at + length sections ≤ n → Each (KeptBelow n) (kept_from at numbers sections)
unfolding Each KeptBelow
kept_within n at [] sections le = tt
kept_within n at (m ∷ ms) [] le = tt
kept_within n at (m ∷ ms) (s ∷ ss) le = (omega arith, kept_within n (at + 1) ms ss (omega arith))

sized_within : (n : ℕ) (kept : List KeptSection) (sizes : List ℕ) → Each (KeptBelow n) kept → Each (AtBelow n) (sized_from kept sizes)
unfolding Each KeptBelow AtBelow
sized_within n [] sizes h = tt
sized_within n (s ∷ ss) [] h = tt
sized_within n (s ∷ ss) (size ∷ sizes) h = (h.0, sized_within n ss sizes h.1)

sections_within : (r : Resized) → Each (AtBelow (length r.image.sections)) (sized_sections r)
sections_within r = sized_within (length r.image.sections) (kept_sections r.image) r.sizes (kept_within _ 0 r.image.section_numbers r.image.sections (omega arith))

section_in_range : (r : Resized) (n : ℕ) (s : SizedSection) → AtBelow n s → InRange n (section_block r s)
unfolding AtBelow InRange
section_in_range r n s below p e = subst (λ k. k < n) (eqb-true s.kept.position p e) below

in_load : (n : ℕ) (part : Range) (size : ℕ) (load : Option SegmentHeader) → Each (InRange n) (block_in_load part size load)
unfolding Each InRange
in_load n part size None = tt
in_load n part size (Some p) = ((λ q e. absurd (true≢false (sym e))), tt)

edges_in_range : (n : ℕ) (p : SegmentHeader) → Each (InRange n) (edge_blocks p)
unfolding Each InRange
edges_in_range n p = ((λ q e. absurd (true≢false (sym e))), ((λ q e. absurd (true≢false (sym e))), ((λ q e. absurd (true≢false (sym e))), tt)))

blocks_in_range : (r : Resized) (added : ℕ) → Each (InRange (length r.image.sections)) (blocks_with r added)
unfolding blocks_with
blocks_in_range r added =
    let n : ℕ = length r.image.sections in
    let header : Range = range 0 (file_header_size r.read.form) in
    each-append (InRange n) (header_blocks r added ++ flat_map edge_blocks (loads_of r.image.segments)) _
    (each-append (InRange n) (header_blocks r added) (flat_map edge_blocks (loads_of r.image.segments))
    (each-append (InRange n) _ _ (in_load n header header.size _) (in_load n (table_at_read r) (table_size_with r added) _))
    (each-flat_map (InRange n) edge_blocks (edges_in_range n) (loads_of r.image.segments)))
    (each-map (AtBelow n) (InRange n) (section_block r) (section_in_range r n) _
    (each-filter (AtBelow n) (λ s. takes_memory s.kept.section) (sized_sections r) (sections_within r)))

-- ## Sections that move

causes_within : (n : ℕ) (bs : List Block) (moved : List ℕ) → Each (InRange n) bs → have_causes bs moved ≡ true
    → (i : ℕ) (d : ℕ) → i < length moved → get_or moved i d < n
causes_within n bs [] all h i d below = absurd (omega arith)
causes_within n bs (p ∷ ps) all h zero d below = cause_within n p bs all (and_parts (has_cause bs p) (list_all (has_cause bs) ps) h).0
causes_within n bs (p ∷ ps) all h (suc i) d below =
    causes_within n bs ps all (and_parts (has_cause bs p) (list_all (has_cause bs) ps) h).1 i d (omega arith)

-- each has a position of a section
pub moved_within : (r : Resized) (added : ℕ) (moved : List ℕ) → do_move r added moved ≡ true → All (λ p. p < length r.image.sections) moved
moved_within r added moved h =
    let blocks = blocks_with r added in
    let causes = (and_parts (have_causes blocks moved) (stay_apart moved blocks)
    (and_parts (have_causes blocks moved && stay_apart moved blocks) (are_in_old_order (sections_at r moved)) h).0).0 in
    causes_within (length r.image.sections) blocks moved (blocks_in_range r added) causes
