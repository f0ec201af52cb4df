-- Each string table of which no text may change is copied: neither the dynamic list nor symbols nor sections have their texts in it.
use Rattle.std.proofs.Common.{◌≡◌, ℕ, Bool, true, false, List, [], ◌∷◌, ◌++◌, refl, sym, ap, ◌∙◌, inl, inr, Option, Some, None}
use Rattle.std.specs.Prelude.{◌==◌, if◌then◌else◌, map}
use Rattle.std.specs.Str.{bytes_eq}
use Rattle.std.proofs.lemmas.Bool.{eqb-true, false≢true}
use Rattle.std.proofs.lemmas.List.{append-nil}
use Rattle.elf_format.specs.declared.constants.TheConstants.{SHT_DYNAMIC, SHT_DYNSYM, SHT_GNU_VERDEF, SHT_GNU_VERNEED, SHT_SYMTAB}
use Rattle.elf_format.specs.declared.records.SectionHeader.{SectionHeader}
use Rattle.elf_format.specs.Dynamic.{Entry}
use Rattle.elf_format.specs.Image.{Image, ImageSection}
use Rattle.elf_format.specs.Options.{first_there, is_one_of, is_some_and, list_at}
use Rattle.elf_format.specs.Rules.{shares_texts, texts_are_shared}
use Rattle.elf_format.specs.Versions.{VersionDefinition, VersionNeeds}
use Rattle.elf_image.specs.Kept.{dynamic_strings_number, link_of_type}
use Rattle.elf_image.specs.Needed.{lasting_types}
use Rattle.elf_layout_plan.specs.Needs.{lists_needs, staying_needs, written_entries, written_needs}
use Rattle.elf_layout_plan.specs.Texts.{if_linked, if_names, is_subsequence, is_table_copied, texts_in_use, texts_of_definitions, texts_of_entries, texts_of_needs, texts_of_symbols}
use Rattle.elf_layout_plan.proofs.ForCallers.SameTexts.{subsequence_of_itself}
use Rattle.elf_write_spec.specs.Ready.{IsEditedReady}
use Rattle.elf_write_spec.proofs.ForCallers.WholeEdits.{ReadFacts, read_facts}
use Rattle.elf_write_symbol_tables.specs.WrittenStrings.{IsEditedTable, has_names_in, has_texts_in}
use Rattle.elf_write_symbol_tables.proofs.ForCallers.ReadTables.{linked_to, ready_edit, same_link}
use Rattle.elf_write_symbol_tables.proofs.ForCallers.TextsShared.{list_linked, needs_share, no_entries_read, none_edited, shared_link, symbols_share}

-- ## Lists of texts

none_before : (all : List (List ℕ)) → is_subsequence [] all ≡ true
unfolding is_subsequence
none_before all = refl

one_before : (t : List ℕ) (ts us more : List (List ℕ)) (b : Bool) → (is_subsequence ts us ≡ true → is_subsequence ts (us ++ more) ≡ true)
    → (is_subsequence (t ∷ ts) us ≡ true → is_subsequence (t ∷ ts) (us ++ more) ≡ true)
    → (elim b as (λ _. Bool) [ true ↦ is_subsequence ts us | _ ↦ is_subsequence (t ∷ ts) us ]) ≡ true
    → (elim b as (λ _. Bool) [ true ↦ is_subsequence ts (us ++ more) | _ ↦ is_subsequence (t ∷ ts) (us ++ more) ]) ≡ true
one_before t ts us more true taken left h = taken h
one_before t ts us more false taken left h = left h

-- texts that are a part of others are one of these and more
part_of_more : (ts us more : List (List ℕ)) → is_subsequence ts us ≡ true → is_subsequence ts (us ++ more) ≡ true
unfolding is_subsequence
part_of_more [] us more h = none_before (us ++ more)
part_of_more (t ∷ ts) [] more h = absurd (false≢true h)
part_of_more (t ∷ ts) (u ∷ us) more h =
    one_before t ts us more (bytes_eq t u) (part_of_more ts us more) (part_of_more (t ∷ ts) us more) h

-- all texts of a table, user by user
abbrev all_texts : List (List ℕ) → List (List ℕ) → List (List ℕ) → List (List ℕ) → List (List ℕ) → List (List ℕ) → List (List ℕ)
all_texts a b c d e g = a ++ b ++ c ++ d ++ e ++ g

-- the texts of two users alone, which had them, are a part of all
two_left : (a b c d e g was_a was_b was_c was_d was_e was_g : List (List ℕ)) → a ≡ [] → b ≡ [] → e ≡ [] → g ≡ [] → was_a ≡ [] → was_b ≡ []
    → c ≡ was_c → d ≡ was_d → is_subsequence (all_texts a b c d e g) (all_texts was_a was_b was_c was_d was_e was_g) ≡ true
two_left a b c d e g was_a was_b was_c was_d was_e was_g ha hb he hg wa wb hc hd =
    ap (λ (x : List (List ℕ)). is_subsequence (all_texts x b c d e g) (all_texts was_a was_b was_c was_d was_e was_g)) ha
    ∙ ap (λ (x : List (List ℕ)). is_subsequence (all_texts [] x c d e g) (all_texts was_a was_b was_c was_d was_e was_g)) hb
    ∙ ap (λ (x : List (List ℕ)). is_subsequence (all_texts [] [] x d e g) (all_texts was_a was_b was_c was_d was_e was_g)) hc
    ∙ ap (λ (x : List (List ℕ)). is_subsequence (all_texts [] [] was_c x e g) (all_texts was_a was_b was_c was_d was_e was_g)) hd
    ∙ ap (λ (x : List (List ℕ)). is_subsequence (all_texts [] [] was_c was_d x g) (all_texts was_a was_b was_c was_d was_e was_g)) he
    ∙ ap (λ (x : List (List ℕ)). is_subsequence (all_texts [] [] was_c was_d [] x) (all_texts was_a was_b was_c was_d was_e was_g)) hg
    ∙ ap (λ (x : List (List ℕ)). is_subsequence (all_texts [] [] was_c was_d [] []) (all_texts x was_b was_c was_d was_e was_g)) wa
    ∙ ap (λ (x : List (List ℕ)). is_subsequence (all_texts [] [] was_c was_d [] []) (all_texts [] x was_c was_d was_e was_g)) wb
    ∙ ap (λ (x : List (List ℕ)). is_subsequence (x ++ []) (was_c ++ was_d ++ was_e ++ was_g)) (append-nil (was_c ++ was_d))
    ∙ ap (λ (x : List (List ℕ)). is_subsequence x (was_c ++ was_d ++ was_e ++ was_g)) (append-nil (was_c ++ was_d))
    ∙ part_of_more (was_c ++ was_d) (was_c ++ was_d ++ was_e) was_g
    (part_of_more (was_c ++ was_d) (was_c ++ was_d) was_e (subsequence_of_itself (was_c ++ was_d)))

-- one user's texts, by the number that it links to
abbrev texts_by : Option ℕ → ℕ → List (List ℕ) → List (List ℕ)
texts_by linked number texts = if is_some_and (λ link. link == number) linked then texts else []

not_linked : (linked : Option ℕ) (number : ℕ) (texts : List (List ℕ)) → is_some_and (λ link. link == number) linked ≡ false
    → texts_by linked number texts ≡ []
not_linked linked number texts h = ap (λ b. if b then texts else []) h

module _ {read image : Image} (is : IsEditedReady read image) where
  facts : ReadFacts read image
  facts = read_facts read image (ready_edit is)

  needs_stay : read.entries ≡ None → image.entries ≡ None → written_needs read image ≡ written_needs read read
  unfolding written_needs
  needs_stay none_read none =
      ap (λ (o : Option (List Entry)). if is_some_and lists_needs o then staying_needs read image else image.needs) none
      ∙ facts.edit.needs.unlisted none_read
      ∙ sym (ap (λ (o : Option (List Entry)). if is_some_and lists_needs o then staying_needs read read else read.needs) none_read)

  -- ## A table

  module _ (number : ℕ) (apart : is_some_and (λ link. link == number) (dynamic_strings_number image) ≡ false) where
    list_apart : is_some_and (λ link. link == number) (link_of_type SHT_DYNAMIC image) ≡ false
    list_apart = by_list (link_of_type SHT_DYNAMIC image) refl
      where
        by_list : (o : Option ℕ) → link_of_type SHT_DYNAMIC image ≡ o → is_some_and (λ link. link == number) o ≡ false
        by_list None o_is = refl
        by_list (Some l) o_is = ap (is_some_and (λ link. link == number)) (sym (list_linked image l o_is)) ∙ apart

    -- a user that shares the texts of the list links elsewhere, too
    user_apart : (l : ℕ) → link_of_type SHT_DYNAMIC image ≡ Some l → (type : ℕ) → is_one_of lasting_types type ≡ true
        → ((list : SectionHeader) → texts_are_shared facts.parts list ≡ true → shares_texts facts.parts list type ≡ true)
        → is_some_and (λ link. link == number) (link_of_type type image) ≡ false
    user_apart l list_link type lasting shares = by_link (link_of_type type image) refl
      where
        by_link : (o : Option ℕ) → link_of_type type image ≡ o → is_some_and (λ link. link == number) o ≡ false
        by_link None o_is = refl
        by_link (Some m) o_is =
            ap (λ (n : ℕ). n == number) (shared_link read image facts l list_link type lasting shares m o_is)
            ∙ ap (is_some_and (λ link. link == number)) (sym (list_linked image l list_link)) ∙ apart

    symbols_apart : is_some_and (λ link. link == number) (link_of_type SHT_DYNSYM image) ≡ false
    symbols_apart = by_list (link_of_type SHT_DYNAMIC image) refl
      where
        by_list : (o : Option ℕ) → link_of_type SHT_DYNAMIC image ≡ o → is_some_and (λ link. link == number) (link_of_type SHT_DYNSYM image) ≡ false
        by_list None o_is =
            ap (λ (o : Option ℕ). is_some_and (λ link. link == number) (first_there o (link_of_type SHT_DYNSYM image))) (sym o_is) ∙ apart
        by_list (Some l) o_is = user_apart l o_is SHT_DYNSYM refl (symbols_share read image facts)

    needs_same : if_linked image SHT_GNU_VERNEED number (texts_of_needs (written_needs read image))
        ≡ if_linked read SHT_GNU_VERNEED number (texts_of_needs (written_needs read read))
    needs_same = by_list (link_of_type SHT_DYNAMIC image) refl
      where
        by_list : (o : Option ℕ) → link_of_type SHT_DYNAMIC image ≡ o
            → if_linked image SHT_GNU_VERNEED number (texts_of_needs (written_needs read image))
            ≡ if_linked read SHT_GNU_VERNEED number (texts_of_needs (written_needs read read))
        by_list None o_is =
            let none_read : read.entries ≡ None = no_entries_read read image facts o_is in
            ap (λ (o : Option ℕ). texts_by o number (texts_of_needs (written_needs read image))) (same_link is SHT_GNU_VERNEED refl)
            ∙ ap (λ (ns : List VersionNeeds). if_linked read SHT_GNU_VERNEED number (texts_of_needs ns))
            (needs_stay none_read (none_edited read.entries image.entries facts.edit.entries none_read))
        by_list (Some l) o_is =
            let other = user_apart l o_is SHT_GNU_VERNEED refl (needs_share read image facts) in
            not_linked (link_of_type SHT_GNU_VERNEED image) number (texts_of_needs (written_needs read image)) other
            ∙ sym (not_linked (link_of_type SHT_GNU_VERNEED read) number (texts_of_needs (written_needs read read))
            (ap (is_some_and (λ link. link == number)) (sym (same_link is SHT_GNU_VERNEED refl)) ∙ other))

    definitions_same : if_linked image SHT_GNU_VERDEF number (texts_of_definitions image.definitions)
        ≡ if_linked read SHT_GNU_VERDEF number (texts_of_definitions read.definitions)
    definitions_same =
        ap (λ (o : Option ℕ). texts_by o number (texts_of_definitions image.definitions)) (same_link is SHT_GNU_VERDEF refl)
        ∙ ap (λ (ds : List VersionDefinition). if_linked read SHT_GNU_VERDEF number (texts_of_definitions ds)) facts.edit.definitions

    apart_copied : has_texts_in image SHT_SYMTAB number ≡ false → has_names_in image number ≡ false → is_table_copied read image number ≡ true
    unfolding texts_in_use
    apart_copied no_symbols no_names =
        two_left
        (if_linked image SHT_DYNAMIC number (list_at texts_of_entries (written_entries read image)))
        (if_linked image SHT_DYNSYM number (texts_of_symbols image.dynamic_symbols))
        (if_linked image SHT_GNU_VERDEF number (texts_of_definitions image.definitions))
        (if_linked image SHT_GNU_VERNEED number (texts_of_needs (written_needs read image)))
        (if_linked image SHT_SYMTAB number (texts_of_symbols image.symbols))
        (if_names image number)
        (if_linked read SHT_DYNAMIC number (list_at texts_of_entries (written_entries read read)))
        (if_linked read SHT_DYNSYM number (texts_of_symbols read.dynamic_symbols))
        (if_linked read SHT_GNU_VERDEF number (texts_of_definitions read.definitions))
        (if_linked read SHT_GNU_VERNEED number (texts_of_needs (written_needs read read)))
        (if_linked read SHT_SYMTAB number (texts_of_symbols read.symbols))
        (if_names read number)
        (not_linked (link_of_type SHT_DYNAMIC image) number (list_at texts_of_entries (written_entries read image)) list_apart)
        (not_linked (link_of_type SHT_DYNSYM image) number (texts_of_symbols image.dynamic_symbols) symbols_apart)
        (not_linked (link_of_type SHT_SYMTAB image) number (texts_of_symbols image.symbols) no_symbols)
        (ap (λ b. if b then map (λ (s : ImageSection). s.name) image.sections else []) no_names)
        (not_linked (link_of_type SHT_DYNAMIC read) number (list_at texts_of_entries (written_entries read read))
        (ap (is_some_and (λ link. link == number)) (sym (same_link is SHT_DYNAMIC refl)) ∙ list_apart))
        (not_linked (link_of_type SHT_DYNSYM read) number (texts_of_symbols read.dynamic_symbols)
        (ap (is_some_and (λ link. link == number)) (sym (same_link is SHT_DYNSYM refl)) ∙ symbols_apart))
        definitions_same needs_same

  -- a table that isn't one of those of which texts may change is copied
  pub others_copied : (number : ℕ) → (IsEditedTable image number → is_table_copied read image number ≡ true)
      → is_table_copied read image number ≡ true
  others_copied number edited = by_dynamic (is_some_and (λ link. link == number) (dynamic_strings_number image)) refl
    where
      by_names : is_some_and (λ link. link == number) (dynamic_strings_number image) ≡ false → has_texts_in image SHT_SYMTAB number ≡ false
          → (b : Bool) → has_names_in image number ≡ b → is_table_copied read image number ≡ true
      by_names dynamic symbols true h = edited (inr (inr (eqb-true image.header.e_shstrndx number h)))
      by_names dynamic symbols false h = apart_copied number dynamic symbols h

      by_symbols : is_some_and (λ link. link == number) (dynamic_strings_number image) ≡ false
          → (b : Bool) → has_texts_in image SHT_SYMTAB number ≡ b → is_table_copied read image number ≡ true
      by_symbols dynamic true h = edited (inr (inl (linked_to (link_of_type SHT_SYMTAB image) number h)))
      by_symbols dynamic false h = by_names dynamic h (has_names_in image number) refl

      by_dynamic : (b : Bool) → is_some_and (λ link. link == number) (dynamic_strings_number image) ≡ b → is_table_copied read image number ≡ true
      by_dynamic true h = edited (inl (linked_to (dynamic_strings_number image) number h))
      by_dynamic false h = by_symbols h (has_texts_in image SHT_SYMTAB number) refl
