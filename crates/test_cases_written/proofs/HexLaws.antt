-- Bytes in hex, two digits for each.
use Rattle.std.proofs.Common.{◌≡◌, ◌*◌, ◌/◌, ◌%◌, ◌∙◌, ℕ, List, [], ◌∷◌, ap, arith, codes, false, length, map, refl, true}
use Rattle.std.specs.Fmt.{digit_glyph}
use Rattle.std.specs.Simd.{first_chunks}
use Rattle.std.specs.Str.{bytes_eq}
use Rattle.test_cases_written.specs.Words.{AreBytes, hex_digits, hex_of}

-- the two digits of a byte
abbrev pub spelled : ℕ → List ℕ
spelled byte = digit_glyph false (byte / 16) ∷ (digit_glyph false (byte % 16) ∷ [])

length-hex_digits : (bytes : List ℕ) → length (hex_digits bytes) ≡ length bytes * 2
length-hex_digits [] = refl
length-hex_digits (byte ∷ bytes) = let rest = length-hex_digits bytes in omega arith

pairs_of : (bytes : List ℕ) → first_chunks 2 (length bytes) (hex_digits bytes) ≡ map spelled bytes
pairs_of [] = refl
pairs_of (byte ∷ bytes) = ap (λ (rest : List (List ℕ)). spelled byte ∷ rest) (pairs_of bytes)

-- the digits of bytes, two and two, are those of each
pub pairs_spelled : (bytes : List ℕ) → first_chunks 2 (length (hex_digits bytes) / 2) (hex_digits bytes) ≡ map spelled bytes
pairs_spelled bytes =
    let long = length-hex_digits bytes in
    let half : length (hex_digits bytes) / 2 ≡ length bytes = omega arith in
    ap (λ (count : ℕ). first_chunks 2 count (hex_digits bytes)) half ∙ pairs_of bytes

-- the bytes that are made are those that digits, or a word, spell
abbrev pub ReadsDigits : List ℕ → List ℕ → Type 0
ReadsDigits digits made = (bytes : List ℕ) → AreBytes bytes → digits ≡ hex_digits bytes → made ≡ bytes

abbrev pub ReadsWord : List ℕ → List ℕ → Type 0
ReadsWord word made = (bytes : List ℕ) → AreBytes bytes → word ≡ hex_of bytes → made ≡ bytes

-- where a word isn't `-`, the bytes that its digits spell are those that it spells
pub read_digits : (word made : List ℕ) → bytes_eq word (codes "-") ≡ false → ReadsDigits word made → ReadsWord word made
read_digits word made other read [] are spells =
    let same : bytes_eq word (codes "-") ≡ true = ap (λ (w : List ℕ). bytes_eq w (codes "-")) spells in
    cc
read_digits word made other read (byte ∷ bytes) are spells = read (byte ∷ bytes) are spells
