-- The dynamic symbols of a written file are those of the image in its final form, with their versions.
use Rattle.std.proofs.Common.{◌≡◌, ℕ, zero, suc, List, ◌∷◌, length, map, replicate, refl, sym, ap, ◌∙◌, subst, inl, inr, Option, Some, None, []}
use Rattle.std.specs.Prelude.{option_map}
use Rattle.std.specs.List.{slice_get}
use Rattle.std.proofs.lemmas.Option.{none-some, slice_get-map}
use Rattle.elf_format.specs.declared.constants.TheConstants.{SHT_DYNSYM, SHT_GNU_VERSYM}
use Rattle.elf_format.specs.declared.records.SectionHeader.{SectionHeader}
use Rattle.elf_format.specs.declared.version_id.VersionId.{VersionId}
use Rattle.elf_format.specs.File.{section_of_type}
use Rattle.elf_format.specs.Form.{records}
use Rattle.elf_format.specs.Image.{Image, dynamic_symbols_read, symbols_of, versions_read}
use Rattle.elf_format.specs.Options.{is_one_of}
use Rattle.elf_format.specs.Records.{symbols_in}
use Rattle.elf_format.specs.Rules.{linked_texts, text_users}
use Rattle.elf_format.specs.Versions.{version_id}
use Rattle.elf_format.specs.Views.{NamedSymbol}
use Rattle.elf_image.specs.Edited.{IsVersionOf}
use Rattle.elf_image.specs.ReadImage.{AreDynamicSymbols, AreSymbolsOf}
use Rattle.elf_image.specs.EditedList.{as_global}
use Rattle.elf_image.specs.Kept.{image_at_read}
use Rattle.elf_write_spec.specs.ReadBack.{HasWrittenParts, written_parts}
use Rattle.elf_write_spec.specs.Contents.{AreSymbolsOf as AreWrittenSymbols}
use Rattle.elf_write_spec.specs.Final.{final}
use Rattle.elf_write_spec.specs.Output.{IsPlannedOutput, Output, written_bytes}
use Rattle.elf_write_spec.proofs.ContentsReadBack.{Linked, bytes_are, dynamic_content, linked_at, texts_fit, versym_content}
use Rattle.elf_write_spec.proofs.FinalSymbols.{final_at, final_none}
use Rattle.elf_write_spec.proofs.StringsReadBack.{symbols_shared, texts_kept}
use Rattle.elf_write_spec.proofs.SymbolsReadBack.{in_replicate, length-written, symbol_is, symbols_made, written_at}
use Rattle.elf_write_spec.proofs.TextsRead.{text_read_back}
use Rattle.elf_write_spec.proofs.WholeFacts.{ReadFacts, SectionAt, There, Nowhere, read_facts, type_at}
use Rattle.elf_format.proofs.ForCallers.Lengths.{length-versions_read}

-- a value for each of a list that gives nothing else
replicate-map : {A B : Type 0} (f : A → B) (b : B) (xs : List A) → ((i : ℕ) (x : A) → slice_get xs i ≡ Some x → f x ≡ b)
    → replicate (length xs) b ≡ map f xs
replicate-map f b [] same = refl
replicate-map {A} {B} f b (x ∷ xs) same =
    ap (λ (l : List B). b ∷ l) (replicate-map f b xs (λ i y. same (suc i) y)) ∙ ap (λ (y : B). y ∷ map f xs) (sym (same zero x refl))

-- a version that wasn't there isn't there after an edit
no_version : (old now : Option VersionId) → IsVersionOf old now → old ≡ None → now ≡ None
no_version old now (inl same) none = same ∙ none
no_version old now (inr cleared) none = cleared ∙ ap as_global none

module _ (w : Output) (is : IsPlannedOutput w) (has : HasWrittenParts w) (f : ReadFacts w) where
  abbrev read : Image
  read = image_at_read w.image

  abbrev symbols : List NamedSymbol
  symbols = (final read w.image).dynamic_symbols

  -- the versions that are written are those of the symbols
  versions_there : (j : ℕ) (at : SectionAt w f.parts j) → at.old.sh_type ≡ SHT_GNU_VERSYM
      → versions_read (written_parts w) (Some at.header) (length symbols) ≡ map (λ y. y.version) symbols
  unfolding versions_read
  versions_there j at e =
      ap (λ (bytes : List ℕ). records (λ b. Some (version_id w.image.form b)) 2 (length symbols) bytes) (bytes_are w is has f j at)
      ∙ (versym_content w is f j at e).versions

  -- without a section of versions no symbol had one, and so none has
  versions_nowhere : section_of_type SHT_GNU_VERSYM f.parts.sections ≡ None
      → versions_read (written_parts w) None (length symbols) ≡ map (λ y. y.version) symbols
  unfolding versions_read
  versions_nowhere none = replicate-map (λ (y : NamedSymbol). y.version) None symbols (λ i y at.
      let (x, was, made) = final_at read w.image f i y at in
      ap (λ (z : NamedSymbol). z.version) made
      ∙ no_version was.old.version x.version was.same.1 (old_version none was.number was.old was.is_old))
    where
      old_version : section_of_type SHT_GNU_VERSYM f.parts.sections ≡ None → (k : ℕ) (y : NamedSymbol)
          → slice_get read.dynamic_symbols k ≡ Some y → y.version ≡ None
      old_version none k y at = by_section (section_of_type SHT_DYNSYM f.parts.sections) f.holds.dynamic_symbols
        where
          by_section : (o : Option SectionHeader)
              → AreDynamicSymbols f.parts (section_of_type SHT_GNU_VERSYM f.parts.sections) o read.dynamic_symbols → y.version ≡ None
          by_section None empty = absurd (none-some y (ap (λ (l : List NamedSymbol). slice_get l k) (sym empty) ∙ at))
          by_section (Some s) are =
              let (n, version, _, version_at, is_y) = are.each k y at in
              ap (λ (z : NamedSymbol). z.version) is_y.fields
              ∙ in_replicate None (length (symbols_of f.parts s)) k version
              (ap (λ (o : Option SectionHeader). slice_get (versions_read f.parts o (length (symbols_of f.parts s))) k) (sym none)
              ∙ version_at)

  pub versions_are : versions_read (written_parts w) (section_of_type SHT_GNU_VERSYM w.headers) (length symbols)
      ≡ map (λ y. y.version) symbols
  versions_are = elim (type_at w is f SHT_GNU_VERSYM refl) [
    | Nowhere was now none ↦
        ap (λ (o : Option SectionHeader). versions_read (written_parts w) o (length symbols)) now ∙ versions_nowhere was
    | There j at e was now there ↦
        ap (λ (o : Option SectionHeader). versions_read (written_parts w) o (length symbols)) now ∙ versions_there j at e
  ]

  module _ (i : ℕ) (at : SectionAt w f.parts i) (e : at.old.sh_type ≡ SHT_DYNSYM)
      (was : section_of_type SHT_DYNSYM f.parts.sections ≡ Some at.old) where
    -- the records, with the strings that they link to
    linked : Linked w is f i at
    linked = linked_at w is f i at (ap (is_one_of text_users) e)

    written : AreWrittenSymbols linked.table.bytes symbols (symbols_of (written_parts w) at.header)
    written =
        subst (λ (bytes : List ℕ). AreWrittenSymbols linked.table.bytes symbols (symbols_in w.image.form bytes))
        (sym (bytes_are w is has f i at))
        (subst (λ (xs : List ℕ). AreWrittenSymbols xs symbols (symbols_in w.image.form at.bytes)) linked.are_strings
        (dynamic_content w is f i at e))

    -- one for each symbol
    pub dynamic_count : length (symbols_of (written_parts w) at.header) ≡ length symbols
    dynamic_count = sym (length-written linked.table.bytes symbols (symbols_of (written_parts w) at.header) written)

    new_versions : List (Option VersionId)
    new_versions = versions_read (written_parts w) (section_of_type SHT_GNU_VERSYM w.headers)
        (length (symbols_of (written_parts w) at.header))

    new_are : new_versions ≡ map (λ y. y.version) symbols
    unfolding new_versions
    new_are = ap (versions_read (written_parts w) (section_of_type SHT_GNU_VERSYM w.headers)) dynamic_count ∙ versions_are

    symbols_are : AreSymbolsOf (length (written_bytes w)) (linked_texts (written_parts w) at.header)
        (symbols_of (written_parts w) at.header) new_versions symbols
    symbols_are = record {
      count = sym dynamic_count;
      each = λ j x there.
          let (n, n_there, is_written) = written_at linked.table.bytes symbols
          (symbols_of (written_parts w) at.header) written j x there in (
            n,
            x.version,
            n_there,
            ap (λ (vs : List (Option VersionId)). slice_get vs j) new_are ∙ slice_get-map (λ (y : NamedSymbol). y.version) symbols j
                ∙ ap (option_map (λ (y : NamedSymbol). y.version)) there,
            record {
              name = text_read_back linked.table.bytes n.st_name x.name is_written.name (length (written_bytes w))
                  (texts_fit w is has f i at linked)
                  (linked_texts (written_parts w) at.header) (texts_kept w is has f i at linked (symbols_shared w is has f at.old was));
              fields = symbol_is linked.table.bytes x n x.version is_written refl;
            },
          );
    }

    pub dynamic_there : dynamic_symbols_read (written_parts w) (Some at.header) ≡ Some symbols
    unfolding dynamic_symbols_read new_versions
    dynamic_there =
        symbols_made (length (written_bytes w)) (linked_texts (written_parts w) at.header)
        (symbols_of (written_parts w) at.header) new_versions symbols
        (length-versions_read (written_parts w) (section_of_type SHT_GNU_VERSYM w.headers) (length (symbols_of (written_parts w) at.header)))
        symbols_are

  pub dynamic_nowhere : section_of_type SHT_DYNSYM f.parts.sections ≡ None
      → dynamic_symbols_read (written_parts w) None ≡ Some symbols
  unfolding dynamic_symbols_read
  dynamic_nowhere was =
      let empty : read.dynamic_symbols ≡ [] =
      subst (λ o. AreDynamicSymbols f.parts (section_of_type SHT_GNU_VERSYM f.parts.sections) o read.dynamic_symbols) was
      f.holds.dynamic_symbols in
      ap (λ (ys : List NamedSymbol). Some ys) (sym (final_none read w.image f empty))

-- the dynamic symbols
pub dynamic_read_back : (w : Output) → IsPlannedOutput w → HasWrittenParts w
    → dynamic_symbols_read (written_parts w) (section_of_type SHT_DYNSYM w.headers)
    ≡ Some (final (image_at_read w.image) w.image).dynamic_symbols
dynamic_read_back w is has =
    let f = read_facts w is in
    elim (type_at w is f SHT_DYNSYM refl) [
      | Nowhere was now none ↦ ap (dynamic_symbols_read (written_parts w)) now ∙ dynamic_nowhere w is has f was
      | There i at e was now there ↦ ap (dynamic_symbols_read (written_parts w)) now ∙ dynamic_there w is has f i at e was
    ]
