-- Numbers that rise.
use Rattle.std.specs.Prelude.{ℕ, ◌+◌, ◌<◌, ◌≤◌, List, [], ◌∷◌, Bool, if◌then◌else◌}
use Rattle.elf_format.specs.Image.{counted}

-- the numbers rise; none is below the first bound, and all are below the second
abbrev pub AreRising : ℕ → ℕ → List ℕ → Type 0
AreRising low high [] = Unit {0}
AreRising low high (n ∷ ns) = (low ≤ n) × (n < high) × AreRising (n + 1) high ns

-- the numbers of so many things that are there: all, or those that are told
abbrev pub numbers_there : Bool → ℕ → List ℕ → List ℕ
numbers_there are_all count kept = if are_all then counted count else kept
