-- The text at the front of bytes: byte by byte, and where a text stands there.
use Rattle.std.proofs.Common.{◌≡◌, ◌≢◌, ℕ, zero, suc, false, List, [], ◌∷◌, length, refl, sym, ap, ◌∙◌, Option, Some, None, arith}
use Rattle.std.specs.Prelude.{◌==◌, unwrap_or}
use Rattle.std.specs.List.{list_any}
use Rattle.std.proofs.lemmas.Bool.{eqb-false, or_parts}
use Rattle.elf_format.specs.Memory.{◌>>=◌, memory_of, text_at}
use Rattle.elf_format.proofs.ForCallers.ReadingSteps.{text_at-in, text_in, text_missing}
use Rattle.elf_image_symbols.specs.FrontText.{front_text}
use Rattle.elf_image_symbols.proofs.NameSteps.{text_stands}

of_text : (xs : List ℕ) → front_text xs ≡ unwrap_or (text_in xs) xs
unfolding front_text
of_text xs = ap (λ (o : Option (List ℕ)). unwrap_or o xs) (text_at-in (length xs) 0 xs (omega arith))

-- ## Byte by byte

pub front_text-none : front_text [] ≡ []
unfolding text_in
front_text-none = of_text []

pub front_text-nul : (xs : List ℕ) → front_text (0 ∷ xs) ≡ []
unfolding text_in
front_text-nul xs = of_text (0 ∷ xs)

with_byte : (b : ℕ) (xs : List ℕ) (o : Option (List ℕ)) → unwrap_or (o >>= (λ rest. Some (b ∷ rest))) (b ∷ xs) ≡ b ∷ unwrap_or o xs
with_byte b xs None = refl
with_byte b xs (Some rest) = refl

pub front_text-byte : (b : ℕ) (xs : List ℕ) → b ≢ 0 → front_text (b ∷ xs) ≡ b ∷ front_text xs
unfolding text_in
front_text-byte zero xs other = absurd (other refl)
front_text-byte (suc b) xs other = of_text (suc b ∷ xs) ∙ with_byte (suc b) xs (text_in xs) ∙ ap (λ l. suc b ∷ l) (sym (of_text xs))

-- ## Where a text stands

module _ (xs name : List ℕ) (stands : text_at (length xs) (memory_of xs) 0 ≡ Some name) where
  -- the text that stands is the one at the front
  pub front_text-stands : front_text xs ≡ name
  unfolding front_text
  front_text-stands = ap (λ (o : Option (List ℕ)). unwrap_or o xs) stands

  -- the text at the front has no NUL
  pub front_text-again : front_text name ≡ name
  front_text-again =
      of_text name ∙ ap (λ (o : Option (List ℕ)). unwrap_or o name)
      (text_missing name (text_stands xs name (sym (text_at-in (length xs) 0 xs (omega arith)) ∙ stands)).before)

-- bytes without a NUL are their text
pub front_text-whole : (xs : List ℕ) → list_any (λ byte. byte == 0) xs ≡ false → front_text xs ≡ xs
front_text-whole [] none = front_text-none
front_text-whole (b ∷ xs) none =
    let parts = or_parts (b == 0) (list_any (λ byte. byte == 0) xs) none in
    front_text-byte b xs (eqb-false b 0 parts.0) ∙ ap (λ l. b ∷ l) (front_text-whole xs parts.1)
