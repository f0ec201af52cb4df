-- The steps of putting numbers, names and versions of symbols together.
use Rattle.std.proofs.Common.{◌≡◌, ◌≤◌, ◌<◌, ℕ, ◌+◌, List, [], ◌∷◌, ◌++◌, length, drop, get_or, refl, sym, ap, ◌∙◌, Option}
use Rattle.std.proofs.lemmas.List.{append-nil, append_assoc, drop_all, drop_more}
use Rattle.elf_format.specs.declared.version_id.VersionId.{VersionId}
use Rattle.elf_format.specs.declared.records.SymbolNumbers.{SymbolNumbers}
use Rattle.elf_format.specs.Views.{NamedSymbol, named_symbols}

no_names : (ys : List SymbolNumbers) (vs : List (Option VersionId)) → named_symbols ys [] vs ≡ []
unfolding named_symbols
no_names [] vs = refl
no_names (y ∷ ys) vs = refl

no_versions : (ys : List SymbolNumbers) (ns : List (List ℕ)) → named_symbols ys ns [] ≡ []
unfolding named_symbols
no_versions [] ns = refl
no_versions (y ∷ ys) [] = refl
no_versions (y ∷ ys) (n ∷ ns) = refl

-- a symbol with its name and its version
abbrev pub joined : SymbolNumbers → List ℕ → Option VersionId → NamedSymbol
joined y name version = record { name = name; st_info = y.st_info; st_other = y.st_other; st_shndx = y.st_shndx; st_value = y.st_value; st_size = y.st_size; version = version }

module _ (ys : List SymbolNumbers) (ns : List (List ℕ)) (vs : List (Option VersionId)) (made : List NamedSymbol) (i : ℕ) (whole : List NamedSymbol) (so_far : made ++ named_symbols (drop i ys) (drop i ns) (drop i vs) ≡ whole) where
  pub join_goes : (y : SymbolNumbers) (n : List ℕ) (v : Option VersionId) → i < length ys → i < length ns → i < length vs
      → (made ++ joined (get_or ys i y) (get_or ns i n) (get_or vs i v) ∷ []) ++ named_symbols (drop (i + 1) ys) (drop (i + 1) ns) (drop (i + 1) vs) ≡ whole
  unfolding named_symbols
  join_goes y n v ly ln lv =
      append_assoc made (joined (get_or ys i y) (get_or ns i n) (get_or vs i v) ∷ []) (named_symbols (drop (i + 1) ys) (drop (i + 1) ns) (drop (i + 1) vs))
      ∙ sym (ap (λ l. made ++ named_symbols l (drop i ns) (drop i vs)) (drop_more ys i y ly)
      ∙ ap (λ l. made ++ named_symbols (get_or ys i y ∷ drop (i + 1) ys) l (drop i vs)) (drop_more ns i n ln)
      ∙ ap (λ l. made ++ named_symbols (get_or ys i y ∷ drop (i + 1) ys) (get_or ns i n ∷ drop (i + 1) ns) l) (drop_more vs i v lv))
      ∙ so_far

  pub join_ends_symbols : length ys ≤ i → made ≡ whole
  unfolding named_symbols
  join_ends_symbols past = sym (append-nil made) ∙ sym (ap (λ l. made ++ named_symbols l (drop i ns) (drop i vs)) (drop_all i ys past)) ∙ so_far

  pub join_ends_names : length ns ≤ i → made ≡ whole
  join_ends_names past =
      sym (append-nil made) ∙ sym (ap (λ l. made ++ named_symbols (drop i ys) l (drop i vs)) (drop_all i ns past) ∙ ap (λ l. made ++ l) (no_names (drop i ys) (drop i vs))) ∙ so_far

  pub join_ends_versions : length vs ≤ i → made ≡ whole
  join_ends_versions past =
      sym (append-nil made) ∙ sym (ap (λ l. made ++ named_symbols (drop i ys) (drop i ns) l) (drop_all i vs past) ∙ ap (λ l. made ++ l) (no_versions (drop i ys) (drop i ns))) ∙ so_far
