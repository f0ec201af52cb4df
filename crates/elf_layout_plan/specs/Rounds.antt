-- Which sections move, and how many program headers more that takes. Each further program header makes the table longer, which
-- may push more sections away: so it is looked in rounds.
use Rattle.std.specs.Prelude.{ℕ, ◌+◌, ◌<◌, ◌≡◌, ◌⊎◌, List, [], ◌∷◌, length, map, Bool, true, ◌&&◌, ◌||◌, not, IsTrue, count_by, filter, nat_le, nat_lt, ◌==◌, if◌then◌else◌, slice_get}
use Rattle.std.specs.List.{filter_map}
use Rattle.elf_format.specs.declared.constants.TheConstants.{PF_X, SHF_EXECINSTR, SHF_WRITE, SHT_NOTE}
use Rattle.elf_format.specs.Places.{is_set}
use Rattle.elf_layout_plan.specs.declared.constants.TheConstants.{PF_R, PF_W}
use Rattle.elf_format.specs.Image.{ImageSection}
use Rattle.elf_layout_plan.specs.Blocks.{are_moving, have_causes, is_stuck, stay_apart}
use Rattle.elf_layout_plan.specs.Anchors.{is_split}
use Rattle.elf_layout_plan.specs.Memory.{Resized, SizedSection, blocks_with, sized_sections}

-- ## The sections that move, with so many entries more in the program header table

-- the sections at these positions
abbrev pub sections_at : Resized → List ℕ → List SizedSection
sections_at r positions = filter_map (λ position. slice_get (sized_sections r) position) positions

-- one section stands before another in memory: by its address at read, its size at read and its position
abbrev pub comes_before : SizedSection → SizedSection → Bool
comes_before a b =
    let x = a.kept.section in
    let y = b.kept.section in
    nat_lt x.sh_addr y.sh_addr
    || x.sh_addr == y.sh_addr && (nat_lt x.sh_size y.sh_size || x.sh_size == y.sh_size && nat_lt a.kept.position b.kept.position)

-- each stands before the next one
unfoldable pub are_in_old_order : List SizedSection → Bool
are_in_old_order [] = true
are_in_old_order (s ∷ []) = true
are_in_old_order (s ∷ t ∷ ss) = comes_before s t && are_in_old_order (t ∷ ss)

-- These sections move: each overlaps a block against which it moves, all that stays is apart, and they are told in the order in
-- which they stood in memory.
abbrev pub do_move : Resized → ℕ → List ℕ → Bool
do_move r added moved =
    have_causes (blocks_with r added) moved && stay_apart moved (blocks_with r added) && are_in_old_order (sections_at r moved)

-- Of all lists of sections that may move it is this one: the sections whose blocks move when all are looked through in their order.
abbrev pub are_chosen : Resized → ℕ → List ℕ → Bool
are_chosen r added moved = are_moving (blocks_with r added) moved

-- two blocks overlap, and neither can move
abbrev pub is_stuck_with : Resized → ℕ → Bool
is_stuck_with r added = is_stuck (blocks_with r added)

-- ## How many program headers more they need

-- what a loaded segment lets a program do with a section: notes are only read (gABI, Program Header, Segment Permissions). Where the
-- dynamic section may move, all others may be written, so that one segment has all of them.
abbrev pub flags_for : Bool → ImageSection → ℕ
flags_for leave s =
    if s.sh_type == SHT_NOTE then PF_R
    else PF_R + (if leave || is_set SHF_WRITE s.sh_flags then PF_W else 0) + (if is_set SHF_EXECINSTR s.sh_flags then PF_X else 0)

-- each number once, where it comes first
unfoldable pub each_once : List ℕ → List ℕ
each_once [] = []
each_once (n ∷ ns) = n ∷ filter (λ m. not (m == n)) (each_once ns)

-- the sets of flags of loaded segments that are added: one for each that a moved section needs, in the order of their first
-- sections
abbrev pub added_flags : Resized → List ℕ → List ℕ
added_flags r moved = each_once (map (λ s. flags_for r.image.moves_dynamic s.kept.section) (sections_at r moved))

-- one program header for each set of flags that is added, and one for each program header that is split
unfoldable pub headers_needed : Resized → List ℕ → ℕ
headers_needed r moved = length (added_flags r moved) + count_by (is_split r moved) r.image.segments

-- ## Rounds

-- Each round looks with the number of entries that the sections of the round before it need, the first with none; each needs more
-- than it looked with. The next round looks with this number.
unfoldable pub leads_to : Resized → ℕ → List (List ℕ) → ℕ → Bool
leads_to r looked [] next = looked == next
leads_to r looked (moved ∷ rounds) next =
    do_move r looked moved && are_chosen r looked moved && nat_lt looked (headers_needed r moved)
    && leads_to r (headers_needed r moved) rounds next

-- Rounds that came to an end: those before the last, and the sections that move in it, for which the number of entries that it
-- looked with is enough.
pub record AreRounds (r : Resized) (before : List (List ℕ)) (looked : ℕ) (moved : List ℕ) : Type 0 where
  pub lead : IsTrue (leads_to r 0 before looked)
  pub move : IsTrue (do_move r looked moved)
  pub chosen : IsTrue (are_chosen r looked moved)
  pub enough : IsTrue (nat_le (headers_needed r moved) looked)

-- A number that a round may look with: none, or what some sections need that have to move where fewer are looked with.
pub record AreAskedBy (r : Resized) (asked fewer : ℕ) (sections : List ℕ) : Type 0 where
  pub less : fewer < asked
  pub cause : IsTrue (have_causes (blocks_with r fewer) sections)
  pub need : asked ≡ headers_needed r sections

abbrev pub IsAsked : Resized → ℕ → Type 0
IsAsked r asked = (asked ≡ 0) ⊎ ((fewer : ℕ) × (sections : List ℕ) × AreAskedBy r asked fewer sections)
