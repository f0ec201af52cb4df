-- Which elements of a list in order move, by which of two moves that meet.
use Rattle.std.specs.Prelude.{List, [], ◌∷◌, Bool, true, false, if◌then◌else◌}

-- marks behind the last one that stays so far, and its own: the next one moves
abbrev pub past_mover : Bool × List Bool → Bool × List Bool
past_mover marked = (marked.0, true ∷ marked.1)

-- the next one is now the last that stays so far
abbrev pub past_last : Bool → Bool × List Bool → Bool × List Bool
past_last moves marked = (moves, marked.0 ∷ marked.1)

-- Whether the last one that stays so far moves after all, and which of those behind it do. It meets the next one: where the later
-- of the two moves, it meets the one behind that; else the later one is now the last that stays so far.
unfoldable pub marks_behind : {A : Type 0} → (A → A → Bool) → (A → A → Bool) → A → List A → Bool × List Bool
marks_behind earlier_moves later_moves last [] = (false, [])
marks_behind earlier_moves later_moves last (b ∷ bs) =
    if later_moves last b then past_mover (marks_behind earlier_moves later_moves last bs)
    else past_last (earlier_moves last b) (marks_behind earlier_moves later_moves b bs)

-- the mark of the first one, and those behind it
abbrev pub all_marks : Bool × List Bool → List Bool
all_marks marked = marked.0 ∷ marked.1

-- One mark for each element: the first one stays so far, and those behind it are looked at in their order.
abbrev pub marks : {A : Type 0} → (A → A → Bool) → (A → A → Bool) → List A → List Bool
marks earlier_moves later_moves [] = []
marks earlier_moves later_moves (b ∷ bs) = all_marks (marks_behind earlier_moves later_moves b bs)

-- the elements that are marked
abbrev pub marked_of : {A : Type 0} → List A → List Bool → List A
marked_of [] ms = []
marked_of (b ∷ bs) [] = []
marked_of (b ∷ bs) (m ∷ ms) = if m then b ∷ marked_of bs ms else marked_of bs ms
