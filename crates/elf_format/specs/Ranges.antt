-- Ranges of places, of a file or of memory.
use Rattle.std.specs.Prelude.{ℕ, ◌+◌, List, [], ◌∷◌, Bool, true, ◌&&◌, ◌||◌, nat_le, ◌==◌}
use Rattle.std.specs.List.{list_all}
pub use Rattle.elf_format.specs.declared.range.Range.{Range}

abbrev pub range : ℕ → ℕ → Range
range start size = record { start = start; size = size }

abbrev pub end_of : Range → ℕ
end_of r = r.start + r.size

-- the first lies in the second, an empty range too
abbrev pub lies_in : Range → Range → Bool
lies_in r outer = nat_le outer.start r.start && nat_le (end_of r) (end_of outer)

-- two ranges share no place, as with every range an empty one doesn't
abbrev pub apart : Range → Range → Bool
apart r s = r.size == 0 || s.size == 0 || nat_le (end_of r) s.start || nat_le (end_of s) r.start

-- no two of the ranges share a place
abbrev pub all_apart : List Range → Bool
all_apart [] = true
all_apart (r ∷ rs) = list_all (λ s. apart r s) rs && all_apart rs
