-- Where several sections come to stand: the first of them by offset and position, and the end of the last, joined in any order.
use Rattle.std.specs.Prelude.{ℕ, suc, zero, ◌≡◌, ◌+◌, ◌-◌, ◌*◌, ◌<◌, ◌≤◌, max, List, [], ◌∷◌, length, map, take, fold, Bool, true, false, ◌&&◌, ◌||◌, Option, Some, None, nat_lt, ◌==◌, if◌then◌else◌, slice_index_or}
use Rattle.std.specs.List.{AllWithin, slice_get}
use Rattle.std.specs.List.Sorted.{IsNonDecreasingBy}
use Rattle.elf_format.specs.Places.{Place, file_range}
use Rattle.elf_format.specs.Ranges.{end_of}
use Rattle.elf_format.specs.declared.range.Range.{Range}
use Rattle.elf_layout_segments.specs.declared.starts.Begin.{Begin}
use Rattle.elf_layout_segments.specs.InOrder.{is_in}
use Rattle.elf_layout.specs.declared.reaches.Reach.{Reach}
use Rattle.elf_layout.specs.declared.reaches.Reaches.{Reaches}

-- ## Joining

abbrev pub is_before : Reach → Reach → Bool
is_before a b = nat_lt a.offset b.offset || a.offset == b.offset && nat_lt a.position b.position

abbrev pub first_of : Reach → Reach → Reach
first_of a b = if is_before b a then b else a

-- the first of two, and the end of the last
abbrev pub joined : Option Reach → Option Reach → Option Reach
joined None o = o
joined (Some a) None = Some a
joined (Some a) (Some b) = let r : Reach = first_of a b in Some (record { offset = r.offset; position = r.position; end = max a.end b.end })

abbrev pub joined_all : List (Option Reach) → Option Reach
joined_all xs = fold joined None xs

-- what several reaches give together: those from one place on up to another
unfoldable pub over : List (Option Reach) → ℕ → ℕ → Option Reach
over [] low high = None
over (x ∷ xs) zero zero = None
over (x ∷ xs) zero (suc high) = joined x (over xs zero high)
over (x ∷ xs) (suc low) zero = None
over (x ∷ xs) (suc low) (suc high) = over xs low high

-- ## Sections

abbrev pub reach_of_place : ℕ → Place → Reach
reach_of_place position t = record { offset = t.sh_offset; position = position; end = end_of (file_range t) }

-- where the section at a position comes to stand
abbrev pub reach_at : List Place → ℕ → Option Reach
reach_at all position = elim (slice_get all position) [ Some t ↦ Some (reach_of_place position t) | None ↦ None ]

abbrev pub reach_of_begin : List Place → Begin → Option Reach
reach_of_begin all b = reach_at all b.position

-- where the section at a position comes to stand, if it begins in a range
abbrev pub reach_in : List Place → Range → Begin → Option Reach
reach_in all part b = if is_in part b.start then reach_at all b.position else None

abbrev pub start_of : Begin → ℕ
start_of b = b.start

-- the first so many begin before an offset, and the others don't
pub record BeginBefore (begins : List Begin) (offset count : ℕ) : Type 0 where
  pub within : count ≤ length begins
  pub before : AllWithin (λ (b : Begin). nat_lt b.start offset ≡ true) begins 0 count
  pub behind : AllWithin (λ (b : Begin). nat_lt b.start offset ≡ false) begins count (length begins)

-- ## A tree

-- behind so many entries each joins two, of which the first two are joined first
pub record JoinsTwo (count : ℕ) (tree : List (Option Reach)) : Type 0 where
  pub joins : (k : ℕ) → count + k < length tree → slice_index_or tree (count + k) None ≡ joined (slice_index_or tree (2 * k) None) (slice_index_or tree (2 * k + 1) None)

-- a tree over so many entries
pub record IsTree (count : ℕ) (tree : List (Option Reach)) : Type 0 where
  pub long : length tree ≡ count + (count - 1)
  pub two : JoinsTwo count tree

-- a tree over where sections come to stand
pub record IsTreeOver (all : List Place) (begins : List Begin) (tree : List (Option Reach)) : Type 0 where
  pub front : take (length begins) tree ≡ map (reach_of_begin all) begins
  pub is_tree : IsTree (length begins) tree

-- sections in the order in which they begin, and the tree over where they come to stand
pub record AreJoined (all : List Place) (reaches : Reaches) : Type 0 where
  pub rise : IsNonDecreasingBy start_of reaches.begins.items
  pub tree : IsTreeOver all reaches.begins.items reaches.tree.items
