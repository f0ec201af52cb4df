-- What sections are looked up by that have just the bytes of a program header: offset, size and position, in order.
use Rattle.std.specs.Prelude.{ℕ, ◌<◌, List, [], ◌∷◌, map, filter, Bool, ◌&&◌, ◌||◌, not, ◌==◌, Option, Some, None, if◌then◌else◌, IsPermutation, IsSorted}
use Rattle.std.specs.List.{AllByRecursion}
use Rattle.elf_format.specs.Places.{occupies_memory}
use Rattle.elf_format.specs.declared.range.Range.{Range}
use Rattle.std.specs.Ordering.{nat_cmp, ordering_then}
use Rattle.std.specs.declared.cmp.Ordering.{Ordering}
use Rattle.elf_layout_segments.specs.declared.sections.SectionAt.{SectionAt}
use Rattle.elf_layout_segments.specs.Sections.{has_bytes_at, place_at}

abbrev pub Key : Type 0
Key = ℕ × ℕ × ℕ

-- the first number counts most
abbrev pub key_cmp : Key → Key → Ordering
key_cmp x y = ordering_then (ordering_then (nat_cmp x.0 y.0) (nat_cmp x.1 y.1)) (nat_cmp x.2 y.2)

-- the section has bytes and, where that is asked for, is loaded
abbrev pub is_keyed : Bool → SectionAt → Bool
is_keyed loaded s = has_bytes_at s && (not loaded || occupies_memory (place_at s))

abbrev pub key_of : SectionAt → Key
key_of s = (s.sh_offset, s.sh_size, s.position)

abbrev pub keys_at : Bool → List SectionAt → List Key
keys_at loaded sections = map key_of (filter (is_keyed loaded) sections)

-- the keys of sections, in order
pub record AreKeys (loaded : Bool) (sections : List SectionAt) (keys : List Key) : Type 0 where
  pub sorted : IsSorted key_cmp keys
  pub same : IsPermutation (keys_at loaded sections) keys

-- a key's position, if it is that of a range
abbrev pub position_if : Range → Key → Option ℕ
position_if part key = if key.0 == part.start && key.1 == part.size then Some key.2 else None

-- each section stands behind those before it
abbrev pub Rise : List SectionAt → Type 0
Rise [] = Unit {0}
Rise (s ∷ ss) = AllByRecursion (λ (t : SectionAt). s.position < t.position) ss × Rise ss

-- the section's bytes are just those of the range
abbrev pub is_just : Bool → Range → SectionAt → Bool
is_just loaded part s = is_keyed loaded s && (s.sh_offset == part.start && s.sh_size == part.size)
