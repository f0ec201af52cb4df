-- Steps of joining texts by colons.
use Rattle.std.proofs.Common.{◌≡◌, ℕ, ◌+◌, ◌<◌, ◌≤◌, false, List, [], ◌∷◌, ◌++◌, length, drop, get_or, suc, sym, ap, ◌∙◌, add-one, drop-cons, arith}
use Rattle.std.specs.Prelude.{◌==◌}
use Rattle.std.proofs.lemmas.Bool.{eqb-false}
use Rattle.std.proofs.lemmas.List.{append_assoc, append-nil, drop_all}
use Rattle.elf_edits.specs.declared.constants.TheConstants.{COLON}
use Rattle.elf_edits.specs.TextModel.{Bytes, texts_model}
use Rattle.elf_edits.specs.Entries.{with_directories, with_each_added}
use Rattle.elf_edits.specs.Texts.{behind_colons, joined_by_colons}

module _ (texts : List Bytes) (i : ℕ) where
  next_text : (x : Bytes) → i < length texts → x ≡ get_or texts i x → drop i texts ≡ x ∷ drop (i + 1) texts
  next_text x here e = rw (add-one, drop-cons texts i x) (ap (λ (y : Bytes). y ∷ drop (suc i) texts) (sym e))

  pub added_more : (x : Bytes) → i < length texts → x ≡ get_or texts i x → (made whole : List ℕ) → with_each_added (texts_model (drop i texts)) made ≡ whole
      → with_each_added (texts_model (drop (i + 1) texts)) (with_directories made x.items) ≡ whole
  added_more x here e made whole h = sym (ap (λ (l : List Bytes). with_each_added (texts_model l) made) (next_text x here e)) ∙ h

  pub added_all : length texts ≤ i → (made whole : List ℕ) → with_each_added (texts_model (drop i texts)) made ≡ whole → made ≡ whole
  added_all past made whole h = sym (ap (λ (l : List Bytes). with_each_added (texts_model l) made) (drop_all i texts past)) ∙ h

  pub behind_more : (x : Bytes) → i < length texts → x ≡ get_or texts i x → (made whole : List ℕ) → made ++ behind_colons (texts_model (drop i texts)) ≡ whole
      → ((made ++ COLON ∷ []) ++ x.items) ++ behind_colons (texts_model (drop (i + 1) texts)) ≡ whole
  behind_more x here e made whole h =
      append_assoc (made ++ COLON ∷ []) x.items (behind_colons (texts_model (drop (i + 1) texts)))
      ∙ append_assoc made (COLON ∷ []) (x.items ++ behind_colons (texts_model (drop (i + 1) texts)))
      ∙ sym (ap (λ (l : List Bytes). made ++ behind_colons (texts_model l)) (next_text x here e)) ∙ h

  pub behind_all : length texts ≤ i → (made whole : List ℕ) → made ++ behind_colons (texts_model (drop i texts)) ≡ whole → made ≡ whole
  behind_all past made whole h = sym (append-nil made) ∙ sym (ap (λ (l : List Bytes). made ++ behind_colons (texts_model l)) (drop_all i texts past)) ∙ h

pub not_empty : (n : ℕ) → (n == 0) ≡ false → 0 < n
not_empty n h = let apart : n ≡ 0 → ⊥ = eqb-false n 0 h in omega arith

joined_behind : (text : List ℕ) (texts : List (List ℕ)) → joined_by_colons (text ∷ texts) ≡ text ++ behind_colons texts
joined_behind text [] = sym (append-nil text)
joined_behind text (next ∷ texts) = ap (λ l. text ++ COLON ∷ l) (joined_behind next texts)

pub joined_first : (texts : List Bytes) (first : Bytes) → 0 < length texts → first ≡ get_or texts 0 first → first.items ++ behind_colons (texts_model (drop 1 texts)) ≡ joined_by_colons (texts_model texts)
joined_first [] first some e = absurd (omega arith)
joined_first (x ∷ texts) first some e = ap (λ (y : Bytes). y.items ++ behind_colons (texts_model texts)) e ∙ sym (joined_behind x.items (texts_model texts))
