-- The dynamic list that is written: that of the image, perhaps without the tags of needed versions.
use Rattle.std.proofs.Common.{◌≡◌, ℕ, Bool, true, false, cond, not, List, [], ◌∷◌, refl, sym, ap, ◌∙◌, inl, inr, Option, Some, None, All}
use Rattle.std.specs.Prelude.{filter, if◌then◌else◌}
use Rattle.std.specs.Option.{option_map}
use Rattle.std.proofs.lemmas.List.Elements.{All-cons, All-head, All-nil, All-tail}
use Rattle.elf_format.specs.declared.constants.TheConstants.{DT_VERNEED, DT_VERNEEDNUM}
use Rattle.elf_format.specs.Dynamic.{Auto, Entry, Integer, Text}
use Rattle.elf_format.specs.Image.{Image, entry_tag}
use Rattle.elf_format.specs.Options.{is_one_of, list_at}
use Rattle.elf_image.specs.DynamicList.{IsListed, tables_of}
use Rattle.elf_layout_plan.specs.Needs.{are_needs_gone, written_entries}
use Rattle.elf_write_spec.proofs.TableTags.{AreTagsLeft, is_lasting_tag}

All-filter : {A : Type 0} (P : A → Type 0) (test : A → Bool) (xs : List A) → All P xs → All P (filter test xs)
All-filter P test [] all = All-nil P
All-filter {A} P test (x ∷ xs) all = by_test (test x) (All-filter P test xs (All-tail P x xs all))
  where
    by_test : (b : Bool) → All P (filter test xs) → All P (cond b (x ∷ filter test xs) (filter test xs))
    by_test true rest = All-cons P x (filter test xs) (All-head P x xs all) rest
    by_test false rest = rest

-- the entry isn't one of needed versions
abbrev is_lasting : Entry → Bool
is_lasting e = not (is_one_of (DT_VERNEED ∷ DT_VERNEEDNUM ∷ []) (entry_tag e))

abbrev lasting_entries : Option (List Entry) → Option (List Entry)
lasting_entries entries = option_map (λ es. filter is_lasting es) entries

-- the tables of a list without needed versions are those of the list, without the tags of these
tables-filtered : (es : List Entry) → tables_of (filter is_lasting es) ≡ filter is_lasting_tag (tables_of es)
tables-filtered [] = refl
tables-filtered (Auto tag ∷ es) = by_test (is_lasting_tag tag) (tables-filtered es)
  where
    by_test : (b : Bool) → tables_of (filter is_lasting es) ≡ filter is_lasting_tag (tables_of es)
        → tables_of (cond b (Auto tag ∷ filter is_lasting es) (filter is_lasting es))
        ≡ cond b (tag ∷ filter is_lasting_tag (tables_of es)) (filter is_lasting_tag (tables_of es))
    by_test true rest = ap (λ (l : List ℕ). tag ∷ l) rest
    by_test false rest = rest
tables-filtered (Integer tag value ∷ es) = by_test (is_lasting_tag tag) ∙ tables-filtered es
  where
    by_test : (b : Bool)
        → tables_of (cond b (Integer tag value ∷ filter is_lasting es) (filter is_lasting es)) ≡ tables_of (filter is_lasting es)
    by_test true = refl
    by_test false = refl
tables-filtered (Text tag text ∷ es) = by_test (is_lasting_tag tag) ∙ tables-filtered es
  where
    by_test : (b : Bool)
        → tables_of (cond b (Text tag text ∷ filter is_lasting es) (filter is_lasting es)) ≡ tables_of (filter is_lasting es)
    by_test true = refl
    by_test false = refl

lasting_listed : (entries : Option (List Entry)) → All IsListed (list_at (λ es. es) entries)
    → All IsListed (list_at (λ es. es) (lasting_entries entries))
lasting_listed None all = All-nil IsListed
lasting_listed (Some es) all = All-filter IsListed is_lasting es all

lasting_tables : (entries : Option (List Entry))
    → tables_of (list_at (λ es. es) (lasting_entries entries)) ≡ filter is_lasting_tag (tables_of (list_at (λ es. es) entries))
lasting_tables None = refl
lasting_tables (Some es) = tables-filtered es

module _ (read image : Image) where
  pub written_listed : All IsListed (list_at (λ es. es) image.entries) → All IsListed (list_at (λ es. es) (written_entries read image))
  unfolding written_entries
  written_listed all = by_test (are_needs_gone read image)
    where
      by_test : (b : Bool) → All IsListed (list_at (λ es. es) (if b then lasting_entries image.entries else image.entries))
      by_test true = lasting_listed image.entries all
      by_test false = all

  pub written_tables : AreTagsLeft (tables_of (list_at (λ es. es) image.entries))
      (tables_of (list_at (λ es. es) (written_entries read image)))
  unfolding written_entries
  written_tables = by_test (are_needs_gone read image)
    where
      by_test : (b : Bool) → AreTagsLeft (tables_of (list_at (λ es. es) image.entries))
          (tables_of (list_at (λ es. es) (if b then lasting_entries image.entries else image.entries)))
      by_test true = inr (lasting_tables image.entries)
      by_test false = inl refl

  -- there is a list where the image has one
  pub written_some : (es : List Entry) → image.entries ≡ Some es
      → written_entries read image ≡ Some (list_at (λ l. l) (written_entries read image))
  unfolding written_entries
  written_some es is =
      ap (λ (o : Option (List Entry)). if are_needs_gone read image then lasting_entries o else o) is
      ∙ by_test (are_needs_gone read image)
      ∙ sym (ap (λ (o : Option (List Entry)). Some (list_at (λ l. l) (if are_needs_gone read image then lasting_entries o else o))) is)
    where
      by_test : (b : Bool) → (if b then lasting_entries (Some es) else Some es)
          ≡ Some (list_at (λ l. l) (if b then lasting_entries (Some es) else Some es))
      by_test true = refl
      by_test false = refl

  pub written_none : image.entries ≡ None → written_entries read image ≡ None
  unfolding written_entries
  written_none is =
      ap (λ (o : Option (List Entry)). if are_needs_gone read image then lasting_entries o else o) is ∙ by_test (are_needs_gone read image)
    where
      by_test : (b : Bool) → (if b then lasting_entries None else None) ≡ None
      by_test true = refl
      by_test false = refl
