-- An image with a program header table that gets longer.
use Rattle.std.proofs.Common.{◌≡◌, ℕ, ◌+◌, ◌-◌, ◌<◌, ◌≤◌, List, [], ◌∷◌, ◌++◌, Bool, true, false, not, ◌&&◌, ◌||◌, append_assoc, map, length, refl, sym, ap, ◌∙◌, subst, arith}
use Rattle.std.specs.Prelude.{IsSome, None, Option, Some, filter, if◌then◌else◌, nat_le, nat_lt, ◌==◌}
use Rattle.std.specs.List.{flat_map, list_all, list_any}
use Rattle.std.specs.Option.{option_map}
use Rattle.std.proofs.Math.Nat.{mul-le-mul_right}
use Rattle.std.proofs.lemmas.Bool.{and_from, and_parts, and_right, eqb-true, false≢true}
use Rattle.std.proofs.lemmas.List.{append-nil}
use Rattle.elf_format.specs.File.{loads_of}
use Rattle.elf_format.specs.Options.{is_one_of, is_some_and}
use Rattle.elf_format.specs.Ranges.{range}
use Rattle.elf_format.specs.Records.{file_header_size, segment_header_size}
use Rattle.elf_format.specs.declared.records.SegmentHeader.{SegmentHeader}
use Rattle.elf_layout_plan.specs.Blocks.{Block, have_causes, is_block_of, is_stuck, movers, moving_sections, stay_apart}
use Rattle.elf_layout_plan.specs.Memory.{Resized, block_in_load, blocks_with, edge_blocks, fixed_block, is_movable, loaded_over, section_block, sized_sections, table_at_read, table_load, table_size_with, takes_memory}
use Rattle.elf_layout_plan.specs.Rounds.{are_in_old_order, do_move, sections_at}
use Rattle.elf_image.specs.Kept.{interpreter_number, is_numbered}
use Rattle.elf_layout_plan.proofs.ForCallers.ApartLists.{Each, all-at, each-more}
use Rattle.elf_layout_moves.specs.Growth.{IsGrowth, LongerTablesFit, LongerTablesMayMove, LongerTablesMove, does_swallow, other_blocks}
use Rattle.elf_layout_moves.proofs.BlocksTold.{each_block}
use Rattle.elf_layout_moves.proofs.GrowthCauses.{apart_on, causes_on}
use Rattle.elf_layout_moves.proofs.GrowthLists.{each-without, section-of}
use Rattle.elf_layout_moves.proofs.GrowthMoves.{movers_grow, short_first, still_free}
use Rattle.elf_layout_moves.proofs.MovedLaws.{same_apart, same_causes}

or_false : (b : Bool) → (b || false) ≡ b
or_false true = refl
or_false false = refl

-- ## The blocks

-- what is known of each: how readily it moves at most, and that only a section's moves
pub record IsUsual (b : Block) : Type 0 where
  pub below : b.priority ≤ 2
  pub owned : 0 < b.priority → IsSome b.section

at_most_two : (a b : Bool) → (if a then 1 else if b then 2 else 0) ≤ 2
at_most_two true b = omega arith
at_most_two false true = omega arith
at_most_two false false = omega arith

module _ (r : Resized) where
  abbrev pub front : List Block
  front =
      let header = range 0 (file_header_size r.read.form) in
      block_in_load header header.size (loaded_over header r.read.segments)

  abbrev edges : List Block
  edges = flat_map edge_blocks (loads_of r.image.segments)

  abbrev sections : List Block
  sections = map (section_block r) (filter (λ s. takes_memory s.kept.section) (sized_sections r))

  abbrev pub back : List Block
  back = edges ++ sections

  pub others_are : other_blocks r ≡ front ++ back
  others_are = append_assoc front edges sections

  shape : (fs es ss : List Block) (t : Block) → ((fs ++ t ∷ []) ++ es) ++ ss ≡ fs ++ t ∷ (es ++ ss)
  shape [] es ss t = refl
  shape (f ∷ fs) es ss t = ap (λ (l : List Block). f ∷ l) (shape fs es ss t)

  -- where the table stands in a loaded segment
  abbrev pub stands : SegmentHeader → ℕ
  stands p = p.p_vaddr + (table_at_read r).start - p.p_offset

  abbrev pub table_block : SegmentHeader → ℕ → Block
  table_block p added = fixed_block (stands p) (table_size_with r added)

  pub blocks_some : (p : SegmentHeader) (added : ℕ) → table_load r ≡ Some p → blocks_with r added ≡ front ++ table_block p added ∷ back
  unfolding blocks_with
  blocks_some p added load =
      ap (λ (o : Option SegmentHeader). ((front ++ block_in_load (table_at_read r) (table_size_with r added) o) ++ edges) ++ sections) load
      ∙ shape front edges sections (table_block p added)

  pub blocks_none : (added : ℕ) → table_load r ≡ None → blocks_with r added ≡ other_blocks r
  unfolding blocks_with
  blocks_none added load =
      ap (λ (o : Option SegmentHeader). ((front ++ block_in_load (table_at_read r) (table_size_with r added) o) ++ edges) ++ sections) load
      ∙ ap (λ (l : List Block). (l ++ edges) ++ sections) (append-nil front)

  pub front_fixed : Each (λ b. b ≡ fixed_block b.start b.size) front
  front_fixed = by_load (loaded_over (range 0 (file_header_size r.read.form)) r.read.segments)
    where
      by_load : (o : Option SegmentHeader) → Each (λ b. b ≡ fixed_block b.start b.size) (block_in_load (range 0 (file_header_size r.read.form)) (file_header_size r.read.form) o)
      by_load None = tt
      by_load (Some p) = (refl, tt)

  pub others_usual : (p : SegmentHeader) → table_load r ≡ Some p → Each IsUsual (front ++ back)
  others_usual p load = each-without IsUsual front back (table_block p 0) (subst (λ (bs : List Block). Each IsUsual bs) (blocks_some p 0 load)
      (each_block r 0 IsUsual (λ start size. record { below = omega arith; owned = λ can. absurd (omega (arith, can)) })
      (λ start. record { below = omega arith; owned = λ can. absurd (omega (arith, can)) })
      (λ i z at. record { below = at_most_two (is_numbered (interpreter_number r.read) z.kept) (is_movable r.image z.kept); owned = λ can. refl })))

  pub sizes_grow : (fewer more : ℕ) → fewer ≤ more → table_size_with r fewer ≤ table_size_with r more
  sizes_grow fewer more longer =
      let size : ℕ = segment_header_size r.image.form in
      let count : ℕ = length r.image.segments in
      mul-le-mul_right size (omega (arith, longer))

-- ## The laws

module _ (r : Resized) (fewer more : ℕ) where
  -- a block that a table swallows that stands in a loaded segment, or in none
  abbrev pub swallowed_at : Option SegmentHeader → Block → Bool
  swallowed_at o b = is_some_and (λ start. nat_le (start + table_size_with r fewer) b.start && nat_lt b.start (start + table_size_with r more)) (option_map (stands r) o)

  pub swallow_some : (p : SegmentHeader) (position : ℕ) → table_load r ≡ Some p → does_swallow r fewer more position ≡ list_any (λ b. is_block_of position b && swallowed_at (Some p) b) (front r ++ back r)
  swallow_some p position load =
      ap (λ (o : Option SegmentHeader). list_any (λ b. is_block_of position b && swallowed_at o b) (other_blocks r)) load
      ∙ ap (list_any (λ b. is_block_of position b && swallowed_at (Some p) b)) (others_are r)

  none_swallowed : (position : ℕ) (bs : List Block) → list_any (λ b. is_block_of position b && false) bs ≡ false
  none_swallowed position [] = refl
  none_swallowed position (b ∷ bs) = ap (λ (t : Bool). t || list_any (λ c. is_block_of position c && false) bs) (and_right (is_block_of position b) false refl) ∙ none_swallowed position bs

  pub swallow_none : (position : ℕ) → table_load r ≡ None → does_swallow r fewer more position ≡ false
  swallow_none position load =
      ap (λ (o : Option SegmentHeader). list_any (λ b. is_block_of position b && swallowed_at o b) (other_blocks r)) load ∙ none_swallowed position (other_blocks r)

module _ (r : Resized) (fewer more : ℕ) (g : IsGrowth r fewer more) where
  pub readily_some : (p : SegmentHeader) → table_load r ≡ Some p → Each (λ b. swallowed_at r fewer more (Some p) b ≡ true → b.priority ≡ 2) (front r ++ back r)
  readily_some p load =
      let test : Block → Bool = λ b. not (swallowed_at r fewer more (Some p) b) || b.priority == 2 in
      let all : list_all test (front r ++ back r) ≡ true =
      sym (ap (λ (o : Option SegmentHeader). list_all (λ b. not (swallowed_at r fewer more o b) || b.priority == 2) (other_blocks r)) load ∙ ap (list_all test) (others_are r)) ∙ g.readily in
      each-more (λ b. test b ≡ true) (λ b. swallowed_at r fewer more (Some p) b ≡ true → b.priority ≡ 2) (λ b passes is. eqb-true b.priority 2 (second (swallowed_at r fewer more (Some p) b) (b.priority == 2) passes is))
      (front r ++ back r) (all-at test (front r ++ back r) all)
    where
      second : (s t : Bool) → (not s || t) ≡ true → s ≡ true → t ≡ true
      second true t h is = h
      second false t h is = absurd (false≢true is)

  pub free_some : (p : SegmentHeader) → table_load r ≡ Some p → is_stuck (front r ++ table_block r p fewer ∷ back r) ≡ false
  free_some p load = ap is_stuck (sym (blocks_some r p fewer load)) ∙ g.free

  abbrev below_some : (p : SegmentHeader) → table_load r ≡ Some p → Each (λ b. b.priority ≤ 2) (front r ++ back r)
  below_some p load = each-more IsUsual (λ b. b.priority ≤ 2) (λ b u. u.below) (front r ++ back r) (others_usual r p load)

  moving : (position : ℕ) (o : Option SegmentHeader) → table_load r ≡ o
      → is_one_of (moving_sections (blocks_with r more)) position ≡ (is_one_of (moving_sections (blocks_with r fewer)) position || does_swallow r fewer more position)
  moving position None load =
      ap (λ (bs : List Block). is_one_of (moving_sections bs) position) (blocks_none r more load ∙ sym (blocks_none r fewer load))
      ∙ sym (ap (λ (t : Bool). is_one_of (moving_sections (blocks_with r fewer)) position || t) (swallow_none r fewer more position load) ∙ or_false (is_one_of (moving_sections (blocks_with r fewer)) position))
  moving position (Some p) load =
      let p_of : Block → Bool = is_block_of position in
      let longs : List Block = front r ++ table_block r p more ∷ back r in
      let shorts : List Block = front r ++ table_block r p fewer ∷ back r in
      ap (λ (bs : List Block). is_one_of (moving_sections bs) position) (blocks_some r p more load)
      ∙ section-of position (movers longs)
      ∙ movers_grow (front r) (back r) (front_fixed r) (stands r p) (table_size_with r fewer) (table_size_with r more) g.some (sizes_grow r fewer more g.longer)
      (below_some p load) (free_some p load) (readily_some p load) p_of refl refl
      ∙ ap (λ (t : Bool). list_any p_of (movers shorts) || t) (sym (swallow_some r fewer more p position load))
      ∙ ap (λ (t : Bool). t || does_swallow r fewer more position) (sym (ap (λ (bs : List Block). is_one_of (moving_sections bs) position) (blocks_some r p fewer load) ∙ section-of position (movers shorts)))

  fitting : (o : Option SegmentHeader) → table_load r ≡ o → is_stuck (blocks_with r more) ≡ false
  fitting None load = ap is_stuck (blocks_none r more load ∙ sym (blocks_none r fewer load)) ∙ g.free
  fitting (Some p) load =
      ap is_stuck (blocks_some r p more load)
      ∙ still_free (front r) (back r) (front_fixed r) (stands r p) (table_size_with r fewer) (table_size_with r more) g.some (sizes_grow r fewer more g.longer)
      (below_some p load) (free_some p load) (readily_some p load)

  may_move : (moved also : List ℕ) → do_move r fewer moved ≡ true → ((q : ℕ) → is_one_of also q ≡ (is_one_of moved q || does_swallow r fewer more q))
      → are_in_old_order (sections_at r also) ≡ true → (o : Option SegmentHeader) → table_load r ≡ o → do_move r more also ≡ true
  may_move moved also move all order o load =
      let parts = and_parts (have_causes (blocks_with r fewer) moved && stay_apart moved (blocks_with r fewer)) (are_in_old_order (sections_at r moved)) move in
      let both = and_parts (have_causes (blocks_with r fewer) moved) (stay_apart moved (blocks_with r fewer)) parts.0 in
      let (causes, apart) = both_on moved also both.0 both.1 all o load in
      and_from (have_causes (blocks_with r more) also && stay_apart also (blocks_with r more)) (are_in_old_order (sections_at r also))
      (and_from (have_causes (blocks_with r more) also) (stay_apart also (blocks_with r more)) causes apart) order
    where
      both_on : (moved also : List ℕ) → have_causes (blocks_with r fewer) moved ≡ true → stay_apart moved (blocks_with r fewer) ≡ true
          → ((q : ℕ) → is_one_of also q ≡ (is_one_of moved q || does_swallow r fewer more q)) → (o : Option SegmentHeader) → table_load r ≡ o
          → (have_causes (blocks_with r more) also ≡ true) × (stay_apart also (blocks_with r more) ≡ true)
      both_on moved also causes apart all None load =
          let blocks : blocks_with r fewer ≡ blocks_with r more = blocks_none r fewer load ∙ sym (blocks_none r more load) in
          let same : (q : ℕ) → is_one_of also q ≡ is_one_of moved q =
          λ q. all q ∙ ap (λ (t : Bool). is_one_of moved q || t) (swallow_none r fewer more q load) ∙ or_false (is_one_of moved q) in (
            same_causes (blocks_with r more) also moved same (subst (λ (bs : List Block). have_causes bs moved ≡ true) blocks causes),
            same_apart (blocks_with r more) also moved same (subst (λ (bs : List Block). stay_apart moved bs ≡ true) blocks apart),
          )
      both_on moved also causes apart all (Some p) load =
          let start : ℕ = stands r p in
          let size : ℕ = table_size_with r fewer in
          let long : ℕ = table_size_with r more in
          let grows : size ≤ long = sizes_grow r fewer more g.longer in
          let first = short_first (front r) (back r) (front_fixed r) start size long g.some grows (below_some p load) (free_some p load) in
          let told : (q : ℕ) → is_one_of also q ≡ (is_one_of moved q || list_any (λ b. is_block_of q b && swallowed_at r fewer more (Some p) b) (front r ++ back r)) =
          λ q. all q ∙ ap (λ (t : Bool). is_one_of moved q || t) (swallow_some r fewer more p q load) in
          let shorts = blocks_some r p fewer load in
          let longs = sym (blocks_some r p more load) in (
            subst (λ (bs : List Block). have_causes bs also ≡ true) longs
                (causes_on start size long g.some grows first (front r) (back r) (readily_some p load) moved also told (subst (λ (bs : List Block). have_causes bs moved ≡ true) shorts causes)),
            subst (λ (bs : List Block). stay_apart also bs ≡ true) longs
                (apart_on start size long g.some grows first (front r) (back r) (readily_some p load) moved also told
                (each-more IsUsual (λ b. 0 < b.priority → IsSome b.section) (λ b u. u.owned) (front r ++ back r) (others_usual r p load))
                (subst (λ (bs : List Block). stay_apart moved bs ≡ true) shorts apart)),
          )

pub longer_tables_move : LongerTablesMove
longer_tables_move r fewer more position g = moving r fewer more g position (table_load r) refl

pub longer_tables_fit : LongerTablesFit
longer_tables_fit r fewer more g = fitting r fewer more g (table_load r) refl

pub longer_tables_may_move : LongerTablesMayMove
longer_tables_may_move r fewer more moved also g move all order = may_move r fewer more g moved also move all order (table_load r) refl
