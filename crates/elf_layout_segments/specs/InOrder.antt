-- Numbers in rising order, and ranges that are asked for among them.
use Rattle.std.specs.Prelude.{ℕ, List, Bool, ◌&&◌, nat_le, nat_lt, IsPermutation}
use Rattle.std.specs.List.Sorted.{IsNonDecreasing}
use Rattle.elf_format.specs.declared.range.Range.{Range}
use Rattle.elf_format.specs.Ranges.{end_of}

-- the number lies in the range
abbrev pub is_in : Range → ℕ → Bool
is_in part n = nat_le part.start n && nat_lt n (end_of part)

-- the numbers of a list, put in order
pub record AreInOrder (numbers sorted : List ℕ) : Type 0 where
  pub rise : IsNonDecreasing sorted
  pub same : IsPermutation numbers sorted
