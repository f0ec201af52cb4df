-- Words of lines, and the numbers that they are.
use Rattle.std.specs.Prelude.{ℕ, ◌==◌, ◌≡◌, ◌⊎◌, ◌<◌, ◌/◌, ◌%◌, ◌^◌, List, [], ◌∷◌, All, codes, false, if◌then◌else◌, length, nat_lt}
use Rattle.std.specs.Fmt.{digit_glyph}
use Rattle.std.specs.List.{after_first, before_first, position_or_len, slice_split}
use Rattle.std.specs.Str.Parse.{IsNumeral, digits_value, without_leading_plus}

-- what stands before the first blank and what behind it; all words where there is none
abbrev pub cut_at_blank : List ℕ → List ℕ × List ℕ
cut_at_blank words =
    if nat_lt (position_or_len (λ byte. byte == 32) words) (length words)
    then (before_first (λ byte. byte == 32) words, after_first (λ byte. byte == 32) words)
    else (words, [])

-- the words between blanks
abbrev pub words_of : List ℕ → List (List ℕ)
words_of words = slice_split (λ byte. byte == 32) words

-- ## Numbers

-- a word is a number of so many bits
abbrev pub IsNumber : ℕ → List ℕ → Type 0
IsNumber bits word = IsNumeral 10 (without_leading_plus word) × (digits_value 10 (without_leading_plus word) < 2 ^ bits)

-- the number that a word is, 0 for other words
abbrev pub IsNumberOrZero : ℕ → List ℕ → ℕ → Type 0
IsNumberOrZero bits word number =
    (IsNumber bits word × (number ≡ digits_value 10 (without_leading_plus word)))
    ⊎ ((IsNumber bits word → ⊥) × (number ≡ 0))

-- ## Bytes in hex

-- each number is one of eight bits
abbrev pub AreBytes : List ℕ → Type 0
AreBytes bytes = All (λ byte. byte < 256) bytes

-- bytes in base 16, two digits for each
abbrev pub hex_digits : List ℕ → List ℕ
hex_digits [] = []
hex_digits (byte ∷ bytes) = digit_glyph false (byte / 16) ∷ (digit_glyph false (byte % 16) ∷ hex_digits bytes)

-- the word that bytes are in hex, `-` where there are none
abbrev pub hex_of : List ℕ → List ℕ
hex_of [] = codes "-"
hex_of (byte ∷ bytes) = hex_digits (byte ∷ bytes)
