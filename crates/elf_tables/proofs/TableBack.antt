-- Records end to end are read back.
use Rattle.std.proofs.Common.{◌≡◌, ℕ, true, List, [], ◌∷◌, ◌++◌, length, drop, take, refl, sym, ap, ◌∙◌}
use Rattle.std.specs.List.{flat_map, list_all}
use Rattle.std.proofs.lemmas.Bool.{and_parts}
use Rattle.std.proofs.lemmas.List.{append_assoc, append-nil, drop_at, take_at}
use Rattle.elf_format.specs.Form.{records}
use Rattle.elf_tables.specs.Fields.{do_fields_fit}
use Rattle.elf_tables.specs.ReadBack.{AreReadBack, TablesAreReadBack}
use Rattle.elf_tables.proofs.EntryBack.{entries_are_read_back}
use Rattle.elf_tables.proofs.SectionHeaderBack.{section_headers_are_read_back}
use Rattle.elf_tables.proofs.SegmentHeaderBack.{segment_headers_are_read_back}
use Rattle.elf_tables.proofs.SymbolBack.{symbols_are_read_back}

module _ {A : Type 0} (size : ℕ) (numbers : A → List (ℕ × ℕ)) (spelled : A → List ℕ) (decoded : List ℕ → A) (are : AreReadBack size numbers spelled decoded) where
  -- a record is read from its own bytes alone
  alone : (x : A) → do_fields_fit (numbers x) ≡ true → decoded (spelled x) ≡ x
  alone x fit = ap decoded (sym (append-nil (spelled x))) ∙ are.back x [] fit

  pub table : (xs : List A) (rest : List ℕ) → list_all (λ x. do_fields_fit (numbers x)) xs ≡ true
      → records decoded size (length xs) (flat_map spelled xs ++ rest) ≡ xs
  unfolding records
  table [] rest fit = refl
  table (x ∷ xs) rest fit =
      let fits = and_parts (do_fields_fit (numbers x)) (list_all (λ y. do_fields_fit (numbers y)) xs) fit in
      let more = flat_map spelled xs ++ rest in
      let bytes : flat_map spelled (x ∷ xs) ++ rest ≡ spelled x ++ more = append_assoc (spelled x) (flat_map spelled xs) rest in
      let first : decoded (take size (flat_map spelled (x ∷ xs) ++ rest)) ≡ x =
      ap (λ l. decoded (take size l)) bytes ∙ ap decoded (take_at (spelled x) more size (are.long x)) ∙ alone x fits.0 in
      let others : records decoded size (length xs) (drop size (flat_map spelled (x ∷ xs) ++ rest)) ≡ xs =
      ap (λ l. records decoded size (length xs) (drop size l)) bytes ∙ ap (records decoded size (length xs)) (drop_at (spelled x) more size (are.long x)) ∙ table xs rest fits.1 in
      ap (λ y. y ∷ records decoded size (length xs) (drop size (flat_map spelled (x ∷ xs) ++ rest))) first ∙ ap (λ ys. x ∷ ys) others

pub tables_are_read_back : TablesAreReadBack
tables_are_read_back form = record {
  segments = table _ _ _ _ (segment_headers_are_read_back form);
  sections = table _ _ _ _ (section_headers_are_read_back form);
  symbols = table _ _ _ _ (symbols_are_read_back form);
  entries = table _ _ _ _ (entries_are_read_back form);
}
