-- Words KEY=value, and decimal numbers.
use Rattle.std.specs.Prelude.{◌≡◌, ◌&&◌, ◌==◌, ◌^◌, ℕ, Bool, length, nat_lt, Option, Some, None}
use Rattle.std.specs.Prelude.{if◌then◌else◌, string_bytes}
use Rattle.std.specs.List.{after_first, before_first, position_or_len}
use Rattle.std.specs.Str.{all_ascii_digits}
use Rattle.std.specs.Str.Parse.{digits_value}
use Rattle.command_words.specs.Rows.{Text}
use Rattle.command_words.specs.declared.key_value.KeyValueError.{KeyValueError}
use Rattle.command_words.specs.declared.key_value.KeyValueError.TheVariants.{Memory, NoEquals}

-- whether a byte is the `=` between a key and its value
abbrev pub is_equals : ℕ → Bool
is_equals byte = byte == 61

-- whether a `=` stands in a word
abbrev pub has_equals : Text → Bool
has_equals word = nat_lt (position_or_len is_equals word) (length word)

-- the key before the first `=` of a word, and the value behind it; none without a `=`
abbrev pub key_value : Text → Option (Text × Text)
key_value word =
    if has_equals word then Some (before_first is_equals word, after_first is_equals word)
    else None

-- the error is that of a word without a `=`, which it holds, or want of memory
abbrev pub TellsNoEquals : Text → KeyValueError → Type 0
TellsNoEquals word (NoEquals told) = (key_value word ≡ None) × (string_bytes told ≡ word)
TellsNoEquals word Memory = Unit {0}

-- whether a word is one decimal digit or more, and nothing else
abbrev pub is_decimal : Text → Bool
is_decimal word = nat_lt 0 (length word) && all_ascii_digits word

-- the number that a word writes, where it is a decimal number of 32 bits
abbrev pub decimal_number : Text → Option ℕ
decimal_number word =
    if is_decimal word && nat_lt (digits_value 10 word) (2 ^ 32) then Some (digits_value 10 word)
    else None
