-- What is asked of numbers in rising order.
use Rattle.std.specs.Prelude.{ℕ, Bool, count_by, nat_lt}
use Rattle.std.specs.List.{list_any}
use Rattle.elf_format.specs.declared.range.Range.{Range}
use Rattle.elf_layout_segments.specs.declared.rising.Rising.{Rising}
use Rattle.elf_layout_segments.specs.InOrder.{is_in}

-- how many of the numbers are below another one
abbrev pub below : Rising → ℕ → ℕ
below numbers n = count_by (λ x. nat_lt x n) numbers.numbers.items

-- one of the numbers lies in a range
abbrev pub is_some_in : Rising → Range → Bool
is_some_in numbers part = list_any (is_in part) numbers.numbers.items
