-- The sizes of written sections: tables have whole entries, one for each symbol; relocations keep theirs.
use Rattle.std.proofs.Common.{◌≡◌, ◌≤◌, ◌⊎◌, ℕ, ◌+◌, ◌*◌, ◌%◌, Bool, true, false, List, [], ◌∷◌, length, drop, refl, sym, ap, ◌∙◌, inl, inr, Option, Some, None, arith}
use Rattle.std.specs.Prelude.{◌==◌, count_by, if◌then◌else◌, max, nat_le, not, unwrap_or}
use Rattle.std.specs.List.{list_all, slice_get}
use Rattle.std.proofs.Math.Nat.{max-eq_left, max-eq_right, mul-mod_left}
use Rattle.std.proofs.lemmas.Bool.{and_parts, cases_lt, cond-false, cond-true, eqb-true, eq-eqb, leb-true, not-true}
use Rattle.std.proofs.lemmas.Option.{none-some, same_Some}
use Rattle.patch_bytes.specs.declared.number.Wide.{Wide}
use Rattle.patch_bytes.specs.declared.number.Wide.TheVariants.{W32, W64}
use Rattle.patch_bytes.specs.Memory.{memory_of}
use Rattle.patch_bytes.specs.Number.{word_size}
use Rattle.elf_format.specs.declared.constants.TheConstants.{SHT_DYNAMIC, SHT_DYNSYM, SHT_GNU_HASH, SHT_GNU_VERDEF, SHT_GNU_VERNEED, SHT_GNU_VERSYM, SHT_HASH, SHT_PROGBITS, SHT_REL, SHT_RELA, SHT_STRTAB, SHT_SYMTAB}
use Rattle.elf_format.specs.declared.form.Form.{Form}
use Rattle.elf_format.specs.declared.records.SectionHeader.{SectionHeader}
use Rattle.elf_format.specs.File.{Parts, section_of_type}
use Rattle.elf_format.specs.Hashes.{GnuHeader, gnu_header, word_of_table}
use Rattle.elf_format.specs.Image.{ImageSection}
use Rattle.elf_format.specs.Options.{is_none_or, is_one_of, list_at}
use Rattle.elf_format.specs.Records.{entry_size, symbol_size}
use Rattle.elf_format.specs.Rules.{are_whole, single_section_types, unit_of}
use Rattle.elf_format.specs.Views.{NamedSymbol}
use Rattle.elf_format.proofs.ForCallers.ViewsAgree.{whole_entries}
use Rattle.elf_image.specs.Kept.{KeptSection, image_at_read, interpreter_number, is_numbered}
use Rattle.elf_image.specs.Renumbering.{can_make_gabi, can_renumber}
use Rattle.elf_layout_plan.specs.Needs.{written_entries, written_needs}
use Rattle.elf_layout_plan.specs.Sizes.{definitions_size, gabi_table_size, gnu_size, gnu_table_size, hash_size, interpreter_size, is_found, needs_size, new_size, strings_size, table_size}
use Rattle.elf_layout_plan.specs.Texts.{are_names_changed}
use Rattle.elf_write_spec.specs.Output.{IsPlannedOutput, Output}
use Rattle.elf_write_spec.proofs.LinkedContents.{interpreter_type, not_interpreter, section_type}
use Rattle.elf_write_spec.proofs.LinkedLists.{all-at_each, found_only}
use Rattle.elf_write_spec.proofs.LinkedMatch.{each-header, form_kept, is_in}
use Rattle.elf_write_spec.proofs.WholeFacts.{Nowhere, ReadFacts, SectionAt, There, type_at}
use Rattle.elf_write_spec.proofs.WholeLists.{passes_one}
use Rattle.elf_write_spec.proofs.NumberedSections.{kept_as}

-- ## By type

-- one of several sizes, by a section's type
abbrev by_type : ℕ → ℕ → ℕ → ℕ → ℕ → ℕ → ℕ → ℕ → ℕ → ℕ → ℕ → ℕ
by_type n dynamic strings symbols dynamic_symbols versions definitions needs hash gnu_hash other =
    if n == SHT_DYNAMIC then dynamic
    else if n == SHT_STRTAB then strings
    else if n == SHT_SYMTAB then symbols
    else if n == SHT_DYNSYM then dynamic_symbols
    else if n == SHT_GNU_VERSYM then versions
    else if n == SHT_GNU_VERDEF then definitions
    else if n == SHT_GNU_VERNEED then needs
    else if n == SHT_HASH then hash
    else if n == SHT_GNU_HASH then gnu_hash
    else other

-- the size of an entry, by a section's type and what its header says of entries
abbrev unit_by : Form → ℕ → ℕ → ℕ
unit_by form n entsize =
    if is_one_of (SHT_SYMTAB ∷ SHT_DYNSYM ∷ []) n then symbol_size form
    else if n == SHT_DYNAMIC then entry_size form
    else if n == SHT_GNU_VERSYM then 2
    else if n == SHT_GNU_HASH then 4
    else if n == SHT_HASH then (if entsize == 8 then 8 else 4)
    else 1

one_way : (b : Bool) (x y : ℕ) (Q : ℕ → Type 0) → (b ≡ true → Q x) → (b ≡ false → Q y) → Q (if b then x else y)
one_way true x y Q passes fails = passes refl
one_way false x y Q passes fails = fails refl

max_whole : (a b unit : ℕ) → a % unit ≡ 0 → b % unit ≡ 0 → max a b % unit ≡ 0
max_whole a b unit left right = elim (cases_lt a b) [
  | inl less ↦ ap (λ n. n % unit) (max-eq_right {n = a} {m = b} (omega arith)) ∙ right
  | inr more ↦ ap (λ n. n % unit) (max-eq_left {n = a} {m = b} more) ∙ left
]

one_whole : (n : ℕ) → n % 1 ≡ 0
one_whole n = omega arith

module _ (form : Form) (entsize size : ℕ) where
  -- each of these sizes has whole entries of the type that it is of
  whole_by : (n entries strings symbols dynamic_symbols versions definitions needs hash gnu_hash : ℕ)
      → size % unit_by form n entsize ≡ 0
      → ((n == SHT_HASH) ≡ true → hash % unit_by form n entsize ≡ 0)
      → ((n == SHT_GNU_HASH) ≡ true → gnu_hash % unit_by form n entsize ≡ 0)
      → by_type n (max size (entries * entry_size form)) strings (symbols * symbol_size form) (dynamic_symbols * symbol_size form)
      (2 * versions) definitions needs hash gnu_hash size
      % unit_by form n entsize ≡ 0
  whole_by n entries strings symbols dynamic_symbols versions definitions needs hash gnu_hash had hash_whole gnu_hash_whole =
      let Q : ℕ → Type 0 = λ x. x % unit_by form n entsize ≡ 0 in
      let at_type : (type x : ℕ) → (n == type) ≡ true → x % unit_by form type entsize ≡ 0 → Q x =
      λ type x e h. ap (λ m. x % unit_by form m entsize) (eqb-true n type e) ∙ h in
      one_way (n == SHT_DYNAMIC) _ _ Q (λ e. at_type SHT_DYNAMIC _ e (max_whole size (entries * entry_size form) (entry_size form)
      (ap (λ m. size % unit_by form m entsize) (sym (eqb-true n SHT_DYNAMIC e)) ∙ had) (mul-mod_left entries (entry_size form)))) (λ _.
      one_way (n == SHT_STRTAB) _ _ Q (λ e. at_type SHT_STRTAB strings e (one_whole strings)) (λ _.
      one_way (n == SHT_SYMTAB) _ _ Q (λ e. at_type SHT_SYMTAB _ e (mul-mod_left symbols (symbol_size form))) (λ _.
      one_way (n == SHT_DYNSYM) _ _ Q (λ e. at_type SHT_DYNSYM _ e (mul-mod_left dynamic_symbols (symbol_size form))) (λ _.
      one_way (n == SHT_GNU_VERSYM) _ _ Q (λ e. at_type SHT_GNU_VERSYM (2 * versions) e (omega arith)) (λ _.
      one_way (n == SHT_GNU_VERDEF) _ _ Q (λ e. at_type SHT_GNU_VERDEF definitions e (one_whole definitions)) (λ _.
      one_way (n == SHT_GNU_VERNEED) _ _ Q (λ e. at_type SHT_GNU_VERNEED needs e (one_whole needs)) (λ _.
      one_way (n == SHT_HASH) _ _ Q hash_whole (λ _.
      one_way (n == SHT_GNU_HASH) _ _ Q gnu_hash_whole (λ _. had)))))))))

-- the sizes of hash tables that are made have whole entries of four bytes
gabi_whole : (form : Form) (content : List ℕ) (symbols : ℕ) → gabi_table_size form content symbols % 4 ≡ 0
gabi_whole form content symbols = quarter (2 + unwrap_or (word_of_table form (memory_of content) 0) 0 + symbols)
  where
    quarter : (n : ℕ) → (4 * n) % 4 ≡ 0
    quarter n = omega arith

gnu_whole : (form : Form) (h : GnuHeader) (symbols : List NamedSymbol) → gnu_table_size form h symbols % 4 ≡ 0
gnu_whole form h symbols = by_width form.wide h.filter_words h.buckets (count_by is_found (drop 1 symbols))
  where
    by_width : (wide : Wide) (words buckets found : ℕ) → (16 + words * word_size wide + 4 * buckets + 4 * found) % 4 ≡ 0
    by_width W32 words buckets found = omega arith
    by_width W64 words buckets found = omega arith

-- there is no more than one section of each single type
abbrev pub are_single : Parts → Bool
are_single p = list_all (λ type. nat_le (count_by (λ (s : SectionHeader). s.sh_type == type) p.sections) 1) single_section_types

-- the only section of its type is the one that is found
pub only_one : (p : Parts) → are_single p ≡ true → (type : ℕ) → is_one_of single_section_types type ≡ true → (i : ℕ) (s : SectionHeader)
    → slice_get p.sections i ≡ Some s → s.sh_type ≡ type → section_of_type type p.sections ≡ Some s
only_one p single type is_single i s at is_type =
    let few : count_by (λ (t : SectionHeader). t.sh_type == type) p.sections ≤ 1 =
    leb-true (count_by (λ (t : SectionHeader). t.sh_type == type) p.sections) 1
    (passes_one (λ n. nat_le (count_by (λ (t : SectionHeader). t.sh_type == n) p.sections) 1) single_section_types type single is_single) in
    found_only (λ (t : SectionHeader). t.sh_type == type) p.sections i s few at (eq-eqb s.sh_type type is_type)

-- how large the section at a position is, were it of a type
abbrev size_by : Output → KeptSection → ℕ → ℕ
size_by w s type = by_type type
    (max s.section.sh_size ((length (list_at (λ es. es) (written_entries (image_at_read w.image) w.image)) + 1) * entry_size w.image.form))
    (strings_size (image_at_read w.image) w.image s) (length w.image.symbols * symbol_size w.image.form)
    (length w.image.dynamic_symbols * symbol_size w.image.form) (2 * length w.image.dynamic_symbols)
    (definitions_size w.image.definitions)
    (needs_size (written_needs (image_at_read w.image) w.image)) (hash_size (image_at_read w.image) w.image s.section)
    (hash_size (image_at_read w.image) w.image s.section) s.section.sh_size

module _ (w : Output) (is : IsPlannedOutput w) (f : ReadFacts w) where
  pub section_size : (i : ℕ) (at : SectionAt w f.parts i) → at.section.sh_size ≡ at.old.sh_size
  section_size i at = ap (λ (x : ImageSection). x.sh_size) at.of_old.fields

  section_entsize : (i : ℕ) (at : SectionAt w f.parts i) → at.section.sh_entsize ≡ at.old.sh_entsize
  section_entsize i at = ap (λ (x : ImageSection). x.sh_entsize) at.of_old.fields

  -- the size by the type
  table_is : (s : KeptSection) → table_size (image_at_read w.image) w.image s ≡ size_by w s s.section.sh_type
  table_is s = refl

  plain_size : (i : ℕ) (at : SectionAt w f.parts i) → is_numbered (interpreter_number (image_at_read w.image)) (kept_as i at.number at.section) ≡ false
      → at.header.sh_size ≡ table_size (image_at_read w.image) w.image (kept_as i at.number at.section)
  unfolding new_size
  plain_size i at other =
      at.size ∙ at.place_size
      ∙ cond-false (is_numbered (interpreter_number (image_at_read w.image)) (kept_as i at.number at.section))
      (interpreter_size w.image at.section) _ other

  -- ## Whole entries

  unit_is : (i : ℕ) (at : SectionAt w f.parts i)
      → unit_of w.image.form at.header ≡ unit_by w.image.form at.section.sh_type at.section.sh_entsize
  unit_is i at =
      ap (λ n. unit_by w.image.form n at.header.sh_entsize) (at.type ∙ sym (section_type w is f i at))
      ∙ ap (λ n. unit_by w.image.form at.section.sh_type n) (at.entsize ∙ sym (section_entsize i at))

  was_whole : (i : ℕ) (at : SectionAt w f.parts i) → at.section.sh_size % unit_by w.image.form at.section.sh_type at.section.sh_entsize ≡ 0
  was_whole i at =
      ap (λ n. n % unit_by w.image.form at.section.sh_type at.section.sh_entsize) (section_size i at)
      ∙ ap (λ n. at.old.sh_size % unit_by w.image.form n at.section.sh_entsize) (section_type w is f i at)
      ∙ ap (λ n. at.old.sh_size % unit_by w.image.form at.old.sh_type n) (section_entsize i at)
      ∙ ap (λ (form : Form). at.old.sh_size % unit_of form at.old) (form_kept w is f)
      ∙ whole_entries f.parts f.rules at.old (is_in w is f i at)

  -- the entries of a gABI table that is made aren't of eight bytes
  gabi_entries : are_single f.parts ≡ true → are_names_changed (image_at_read w.image) w.image ≡ true
      → (i : ℕ) (at : SectionAt w f.parts i) → at.old.sh_type ≡ SHT_HASH → (at.section.sh_entsize == 8) ≡ false
  gabi_entries single changed i at type =
      let found = only_one f.parts single SHT_HASH refl at.number at.old at.is_old type in
      elim (type_at w is f SHT_HASH refl) [
        | Nowhere was now none ↦ absurd (none-some at.old (sym was ∙ found))
        | There j a typed was now there ↦
            let same : a.old ≡ at.old = same_Some a.old at.old (sym was ∙ found) in
            let entsize : at.section.sh_entsize ≡ a.section.sh_entsize =
            section_entsize i at ∙ ap (λ (h : SectionHeader). h.sh_entsize) (sym same) ∙ sym (section_entsize j a) in
            let renumber : can_renumber w.image ≡ true = f.edit.complete.tables changed in
            let can_make : can_make_gabi w.image.form a.section ≡ true =
            ap (is_none_or (λ (s : KeptSection). can_make_gabi w.image.form s.section)) (sym there)
            ∙ (and_parts _ _ (and_parts _ _ renumber).0).0 in
            ap (λ n. n == 8) entsize ∙ not-true (a.section.sh_entsize == 8) (and_parts (not (a.section.sh_entsize == 8)) _ can_make).0
      ]

  hash_whole : are_single f.parts ≡ true → (i : ℕ) (at : SectionAt w f.parts i) → (at.section.sh_type == SHT_HASH) ≡ true
      → hash_size (image_at_read w.image) w.image at.section % unit_by w.image.form at.section.sh_type at.section.sh_entsize ≡ 0
  hash_whole single i at is_hash = by_names (are_names_changed (image_at_read w.image) w.image) refl
    where
      type : at.section.sh_type ≡ SHT_HASH
      type = eqb-true at.section.sh_type SHT_HASH is_hash

      by_names : (b : Bool) → are_names_changed (image_at_read w.image) w.image ≡ b
          → hash_size (image_at_read w.image) w.image at.section % unit_by w.image.form at.section.sh_type at.section.sh_entsize ≡ 0
      by_names false e =
          ap (λ n. n % unit_by w.image.form at.section.sh_type at.section.sh_entsize)
          (cond-true (not (are_names_changed (image_at_read w.image) w.image)) at.section.sh_size _ (ap not e))
          ∙ was_whole i at
      by_names true e =
          let made : hash_size (image_at_read w.image) w.image at.section
          ≡ gabi_table_size w.image.form at.section.content (length w.image.dynamic_symbols) =
          cond-false (not (are_names_changed (image_at_read w.image) w.image)) at.section.sh_size _ (ap not e)
          ∙ cond-true (at.section.sh_type == SHT_HASH) _ (gnu_size w.image at.section) is_hash in
          let unit : unit_by w.image.form at.section.sh_type at.section.sh_entsize ≡ 4 =
          ap (λ n. unit_by w.image.form n at.section.sh_entsize) type
          ∙ cond-false (at.section.sh_entsize == 8) 8 4 (gabi_entries single e i at (sym (section_type w is f i at) ∙ type)) in
          ap (λ n. n % unit_by w.image.form at.section.sh_type at.section.sh_entsize) made
          ∙ ap (λ n. gabi_table_size w.image.form at.section.content (length w.image.dynamic_symbols) % n) unit
          ∙ gabi_whole w.image.form at.section.content (length w.image.dynamic_symbols)

  gnu_hash_whole : (i : ℕ) (at : SectionAt w f.parts i) → (at.section.sh_type == SHT_GNU_HASH) ≡ true
      → hash_size (image_at_read w.image) w.image at.section % unit_by w.image.form at.section.sh_type at.section.sh_entsize ≡ 0
  gnu_hash_whole i at is_hash = by_names (are_names_changed (image_at_read w.image) w.image) refl
    where
      type : at.section.sh_type ≡ SHT_GNU_HASH
      type = eqb-true at.section.sh_type SHT_GNU_HASH is_hash

      had : at.section.sh_size % 4 ≡ 0
      had = ap (λ n. at.section.sh_size % unit_by w.image.form n at.section.sh_entsize) (sym type) ∙ was_whole i at

      by_header : (o : Option GnuHeader)
          → (elim o as (λ _. ℕ) [ Some h ↦ gnu_table_size w.image.form h w.image.dynamic_symbols | None ↦ at.section.sh_size ]) % 4 ≡ 0
      by_header None = had
      by_header (Some h) = gnu_whole w.image.form h w.image.dynamic_symbols

      by_names : (b : Bool) → are_names_changed (image_at_read w.image) w.image ≡ b
          → hash_size (image_at_read w.image) w.image at.section % unit_by w.image.form at.section.sh_type at.section.sh_entsize ≡ 0
      by_names false e =
          ap (λ n. n % unit_by w.image.form at.section.sh_type at.section.sh_entsize)
          (cond-true (not (are_names_changed (image_at_read w.image) w.image)) at.section.sh_size _ (ap not e))
          ∙ was_whole i at
      by_names true e =
          let made : hash_size (image_at_read w.image) w.image at.section ≡ gnu_size w.image at.section =
          cond-false (not (are_names_changed (image_at_read w.image) w.image)) at.section.sh_size _ (ap not e)
          ∙ cond-false (at.section.sh_type == SHT_HASH) _ (gnu_size w.image at.section) (ap (λ n. n == SHT_HASH) type) in
          ap (λ n. n % unit_by w.image.form at.section.sh_type at.section.sh_entsize) made
          ∙ ap (λ n. gnu_size w.image at.section % unit_by w.image.form n at.section.sh_entsize) type
          ∙ by_header (gnu_header w.image.form (memory_of at.section.content))

  whole_size : are_single f.parts ≡ true → (i : ℕ) (at : SectionAt w f.parts i) (b : Bool)
      → is_numbered (interpreter_number (image_at_read w.image)) (kept_as i at.number at.section) ≡ b
      → at.header.sh_size % unit_by w.image.form at.section.sh_type at.section.sh_entsize ≡ 0
  whole_size single i at true e =
      ap (λ n. at.header.sh_size % unit_by w.image.form n at.section.sh_entsize) (interpreter_type w is f i at e)
      ∙ one_whole at.header.sh_size
  whole_size single i at false e =
      ap (λ n. n % unit_by w.image.form at.section.sh_type at.section.sh_entsize) (plain_size i at e ∙ table_is (kept_as i at.number at.section))
      ∙ whole_by w.image.form at.section.sh_entsize at.section.sh_size at.section.sh_type
      (length (list_at (λ es. es) (written_entries (image_at_read w.image) w.image)) + 1)
      (strings_size (image_at_read w.image) w.image (kept_as i at.number at.section)) (length w.image.symbols)
      (length w.image.dynamic_symbols) (length w.image.dynamic_symbols) (definitions_size w.image.definitions)
      (needs_size (written_needs (image_at_read w.image) w.image)) (hash_size (image_at_read w.image) w.image at.section)
      (hash_size (image_at_read w.image) w.image at.section) (was_whole i at) (hash_whole single i at) (gnu_hash_whole i at)

  pub whole_read_back : are_single f.parts ≡ true → are_whole w.image.form w.headers ≡ true
  whole_read_back single =
      all-at_each (λ (s : SectionHeader). s.sh_size % unit_of w.image.form s == 0) w.headers
      (each-header w is f (λ h. (h.sh_size % unit_of w.image.form h == 0) ≡ true) (λ i at.
      eq-eqb (at.header.sh_size % unit_of w.image.form at.header) 0
      (ap (λ n. at.header.sh_size % n) (unit_is i at)
      ∙ whole_size single i at (is_numbered (interpreter_number (image_at_read w.image)) (kept_as i at.number at.section)) refl)))

  -- ## Tables of symbols, and relocations

  -- a section of another type has the size that its type gives
  typed_size : (i : ℕ) (at : SectionAt w f.parts i) (type : ℕ) → at.old.sh_type ≡ type → (type == SHT_PROGBITS) ≡ false
      → at.header.sh_size ≡ size_by w (kept_as i at.number at.section) type
  typed_size i at type is_type other =
      plain_size i at (not_interpreter w is f i at (ap (λ n. n == SHT_PROGBITS) is_type ∙ other)) ∙ table_is (kept_as i at.number at.section)
      ∙ ap (size_by w (kept_as i at.number at.section)) (section_type w is f i at ∙ is_type)

  pub symbol_sizes : (i : ℕ) (at : SectionAt w f.parts i) → at.old.sh_type ≡ SHT_SYMTAB
      → at.header.sh_size ≡ length w.image.symbols * symbol_size w.image.form
  symbol_sizes i at is_type = typed_size i at SHT_SYMTAB is_type refl

  pub dynamic_symbol_sizes : (i : ℕ) (at : SectionAt w f.parts i) → at.old.sh_type ≡ SHT_DYNSYM
      → at.header.sh_size ≡ length w.image.dynamic_symbols * symbol_size w.image.form
  dynamic_symbol_sizes i at is_type = typed_size i at SHT_DYNSYM is_type refl

  pub relocation_sizes : (i : ℕ) (at : SectionAt w f.parts i) → (at.old.sh_type ≡ SHT_REL) ⊎ (at.old.sh_type ≡ SHT_RELA)
      → at.header.sh_size ≡ at.old.sh_size
  relocation_sizes i at (inl is_type) = typed_size i at SHT_REL is_type refl ∙ section_size i at
  relocation_sizes i at (inr is_type) = typed_size i at SHT_RELA is_type refl ∙ section_size i at
