-- Decimal numbers.
use Rattle.std.proofs.Common.{◌≡◌, ◌&&◌, ◌<◌, ◌^◌, List, Some, None, Result, Ok, Err, Bool, true, false, cond, ℕ, nat_lt, length, refl, sym, ap, ◌∙◌}
use Rattle.std.specs.Result.{OkIff, result_ok}
use Rattle.std.specs.Str.{all_ascii_digits}
use Rattle.std.specs.Str.Parse.{ParsesUnsigned, digits_value}
use Rattle.std.proofs.lemmas.Bool.{lt-ltb, ltb-true}
use Rattle.std.proofs.lemmas.Str.Parse.{IsNumeralModel, numerals_by_value, parse_digits, tells_all_ascii_digits}
use Rattle.command_words.specs.KeyValue.{decimal_number, is_decimal}

digits : IsNumeralModel (λ ds. all_ascii_digits ds ≡ true) (digits_value 10)
digits = numerals_by_value (λ ds. all_ascii_digits ds ≡ true) tells_all_ascii_digits

both : (a b : Bool) → (a && b) ≡ true → (a ≡ true) × (b ≡ true)
both true true e = (refl, refl)
both true false e = (refl, e)
both false b e = absurd (cc)

bounded : {E : Type 0} (len n most : ℕ) (r : Result ℕ E) → 0 < len → OkIff r ((0 < len) × (n < most)) n → result_ok r ≡ cond (nat_lt n most) (Some n) None
bounded len n most (Ok x) some h = rw (lt-ltb n most h.0.1) (ap Some h.1)
bounded len n most (Err e) some h = go (nat_lt n most) refl
  where
    go : (b : Bool) → nat_lt n most ≡ b → None ≡ cond b (Some n) None
    go false e = refl
    go true e = absurd (h (some, ltb-true n most e))

pub number_parsed : {E : Type 0} (word : List ℕ) (r : Result ℕ E) → ParsesUnsigned 32 10 word r → is_decimal word ≡ true → result_ok r ≡ decimal_number word
number_parsed word r h is =
    let parts = both (nat_lt 0 (length word)) (all_ascii_digits word) is in
    let some : 0 < length word = ltb-true 0 (length word) parts.0 in
    bounded (length word) (digits_value 10 word) (2 ^ 32) r some (parse_digits digits 32 word r h parts.1)
    ∙ ap (λ b. cond (b && nat_lt (digits_value 10 word) (2 ^ 32)) (Some (digits_value 10 word)) None) (sym is)
