-- A name is hashed byte by byte.
use Rattle.std.proofs.Common.{◌≡◌, ◌≢◌, ◌≤◌, ◌<◌, ℕ, ◌+◌, ◌*◌, ◌%◌, ◌^◌, List, ◌∷◌, length, drop, sym, ap, ◌∙◌}
use Rattle.std.specs.Prelude.{fold, slice_index}
use Rattle.std.proofs.lemmas.List.{drop_all, drop_more}
use Rattle.elf_image.specs.FrontText.{front_text}
use Rattle.elf_image.proofs.ForCallers.FrontLaws.{front_text-byte, front_text-none, front_text-nul}

-- the GNU hash of what was hashed so far and one byte more
abbrev pub gnu_step : ℕ → ℕ → ℕ
gnu_step hash byte = (hash * 33 + byte) % 2 ^ 32

module _ (step : ℕ → ℕ → ℕ) (bytes : List ℕ) (i hash whole : ℕ) (so_far : fold step hash (front_text (drop i bytes)) ≡ whole) where
  -- a NUL is next
  pub nul_next : i < length bytes → slice_index bytes i ≡ 0 → hash ≡ whole
  nul_next less is =
      sym (ap (fold step hash) (ap front_text (drop_more bytes i 0 less ∙ ap (λ (b : ℕ). b ∷ drop (i + 1) bytes) is) ∙ front_text-nul (drop (i + 1) bytes))) ∙ so_far

  -- another byte than a NUL is next
  pub byte_next : i < length bytes → slice_index bytes i ≢ 0 → fold step (step hash (slice_index bytes i)) (front_text (drop (i + 1) bytes)) ≡ whole
  byte_next less other =
      sym (ap (fold step hash) (ap front_text (drop_more bytes i 0 less) ∙ front_text-byte (slice_index bytes i) (drop (i + 1) bytes) other)) ∙ so_far

  -- no byte is next
  pub none_next : length bytes ≤ i → hash ≡ whole
  none_next past = sym (ap (fold step hash) (ap front_text (drop_all i bytes past) ∙ front_text-none)) ∙ so_far
