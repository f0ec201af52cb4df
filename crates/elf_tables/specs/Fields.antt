-- Numbers end to end, as the records of a file have them.
use Rattle.std.specs.Prelude.{ℕ, ◌+◌, ◌^◌, List, [], ◌∷◌, ◌++◌, map, nat_lt, Bool}
use Rattle.std.specs.List.{list_all}
use Rattle.patch_bytes.specs.declared.number.ByteOrder2.{ByteOrder2}
use Rattle.patch_bytes.specs.Number.{bytes_of}
use Rattle.elf_tables.specs.declared.fields.Field.{Field}
use Rattle.elf_tables.specs.declared.fields.Field.TheVariants.{Byte, Half, Long, Word}

-- numbers end to end, each told with how many bytes it takes
abbrev pub fields : ByteOrder2 → List (ℕ × ℕ) → List ℕ
fields order [] = []
fields order (f ∷ fs) = bytes_of order f.0 f.1 ++ fields order fs

-- numbers of two bytes, and of four
abbrev pub halves : List ℕ → List (ℕ × ℕ)
halves numbers = map (λ number. (2, number)) numbers

abbrev pub words : List ℕ → List (ℕ × ℕ)
words numbers = map (λ number. (4, number)) numbers

-- how many bytes numbers of these widths take
abbrev pub widths : List (ℕ × ℕ) → ℕ
widths [] = 0
widths (f ∷ fs) = f.0 + widths fs

-- a number is below the first one that takes more bytes
abbrev pub does_field_fit : ℕ × ℕ → Bool
does_field_fit f = nat_lt f.1 (256 ^ f.0)

-- each number fits the bytes that it takes
abbrev pub do_fields_fit : List (ℕ × ℕ) → Bool
do_fields_fit fs = list_all does_field_fit fs

-- a number with how many bytes it takes
abbrev pub field_model : Field → ℕ × ℕ
field_model (Byte x) = (1, x)
field_model (Half x) = (2, x)
field_model (Word x) = (4, x)
field_model (Long x) = (8, x)
