-- For every accepted file both views are there, and are equal.
use Rattle.std.proofs.Common.{◌≡◌, ◌≤◌, ◌<◌, ℕ, ◌+◌, ◌*◌, ◌/◌, ◌%◌, Bool, true, false, cond, eqb, leb, List, [], ◌∷◌, length, take, drop, replicate, refl, sym, ap, ◌∙◌, subst, Option, Some, None, Ok, arith, zero-add}
use Rattle.std.specs.Prelude.{◌&&◌, not, filter, is_some, unwrap_or}
use Rattle.std.specs.List.{list_all, slice_get}
use Rattle.std.proofs.lemmas.List.{length-drop, length-take-le, take_all}
use Rattle.std.proofs.lemmas.Option.{none-some, same_Some}
use Rattle.std.proofs.lemmas.Bool.{and_parts, cond-true, eqb-true, false≢true, le-leb, leb-true}
use Rattle.patch_bytes.specs.declared.number.Wide.{Wide}
use Rattle.patch_bytes.specs.declared.number.Wide.TheVariants.{W32, W64}
use Rattle.patch_bytes.specs.Number.{field}
use Rattle.patch_bytes.specs.Memory.{◌>>=◌, Agrees, Keeps, Memory, bytes_at, from, memory_of, nowhere}
use Rattle.patch_bytes.proofs.MemoryLaws.{Keeps-first_places, Keeps-refl, bytes_at-memory_of, first_places-keeps, some_bind}
use Rattle.elf_format.specs.declared.constants.TheConstants.{DT_STRSZ, DT_STRTAB, DT_SYMENT, DT_SYMTAB, DT_VERDEF, DT_VERDEFNUM, DT_VERNEED, DT_VERNEEDNUM, DT_VERSYM, PT_DYNAMIC, PT_INTERP, SHT_DYNAMIC, SHT_DYNSYM, SHT_GNU_VERDEF, SHT_GNU_VERNEED, SHT_GNU_VERSYM, SHT_PROGBITS, SHT_STRTAB, SHT_SYMTAB}
use Rattle.elf_format.specs.declared.version_id.VersionId.{VersionId}
use Rattle.elf_format.specs.Dynamic.{Entry, entries_at, has_tag, shown_entry, value_of_tag}
use Rattle.elf_format.specs.File.{Parts, bytes_in, has_file_bytes, is_allocated, linked_section, loads_of, section_bytes, section_of_type, segment_of_type}
use Rattle.elf_format.specs.Form.{Form, by_class, records}
use Rattle.elf_format.specs.Options.{are_both_or_neither, each, is_none_or, is_one_of, is_some_and, when_wanted}
use Rattle.elf_format.specs.Placement.{ends_by, file_part}
use Rattle.elf_format.specs.Places.{file_range, occupies_file, place_of, places_of}
use Rattle.elf_format.specs.Records.{EntryNumbers, SectionHeader, SegmentHeader, SymbolNumbers, symbol_numbers, symbol_size, symbols_in}
use Rattle.elf_format.specs.Rules.{ArePartsOf, ViewsAgree, accepted_parts, MeetsRules, are_linked, are_whole, definition_steps, definition_texts_end, dynamic_tables_agree, dynamic_texts_of, entry_texts_end, need_texts_end, records_agree, shares_texts, tag_fits, symbols_agree, symbols_are_named, texts_are_shared, version_symbols_agree, versions_agree, dynamic_section_agrees, file_of, is_symbol_table, linked_texts, links_to, need_steps, raw_entries, strings_agree, symbol_users, tag_is_address, text_users, unit_of}
use Rattle.elf_format.specs.Versions.{VersionDefinition, VersionNeeds, is_whole_walk, shown_definition, shown_need, values_of, version_id}
use Rattle.elf_format.specs.Views.{NamedSymbol, Table, Tables, View, byte_at, count_by_tag, defined_versions, dynamic_symbol_count, dynamic_symbols, first_by_tag, interpreter_section, loaded_strings, loader_view_within, memory_at_tag, named_symbols, names_of, needed_versions, outline_of, section_memory, section_table, section_view, symbol_versions, tables_by_sections, tables_by_tags, view_of, whole_chain}
use Rattle.elf_format.proofs.Accepted.{accepted, no_fault}
use Rattle.elf_format.proofs.Agreement.{defined_versions-keeps, dynamic_symbols-keeps, each-agrees, entries_at-keeps, needed_versions-keeps, shown_entry-keeps}
use Rattle.elf_format.proofs.Placed.{IsIn, IsIn-map, IsIn-slice_get, find_some, passes_picked, section-Keeps, section_bytes-is, slice_get-field}

-- ## Options

pub there_if : {A : Type 0} → (o : Option A) → is_some o ≡ true → (x : A) × (o ≡ Some x)
there_if (Some x) h = (x, refl)
there_if None h = absurd (false≢true h)

pub test_at : {A : Type 0} → (test : A → Bool) (o : Option A) (x : A) → is_none_or test o ≡ true → o ≡ Some x → test x ≡ true
test_at test o x h e = subst (λ v. is_none_or test v ≡ true) e h

pub there_and : {A : Type 0} → (test : A → Bool) (o : Option A) → is_some_and test o ≡ true → (x : A) × (o ≡ Some x) × (test x ≡ true)
there_and test (Some x) h = (x, refl, h)
there_and test None h = absurd (false≢true h)

-- two that are there and equal
abbrev Both : {A : Type 0} → Option A → Option A → Type 0
Both {A} o q = (x : A) × (o ≡ Some x) × (q ≡ Some x)

when_wanted-both : {A : Type 0} → (b : Bool) (o q : Option A) → (b ≡ true → Both o q) → Both (when_wanted b o) (when_wanted b q)
when_wanted-both false o q h = (None, refl, refl)
when_wanted-both true o q h =
    let (x, left, right) = h refl in
    (Some x, some_bind o (λ y. Some (Some y)) x left, some_bind q (λ y. Some (Some y)) x right)

-- two that are both there or both missing
pub both_there : {A B : Type 0} → (test : A → B → Bool) (o : Option A) (q : Option B) (y : B) → are_both_or_neither test o q ≡ true → q ≡ Some y → (x : A) × (o ≡ Some x) × (test x y ≡ true)
both_there test o None y h e = absurd (none-some y e)
both_there test None (Some z) y h e = absurd (false≢true h)
both_there test (Some x) (Some z) y h e = (x, refl, subst (λ w. test x w ≡ true) (same_Some z y e) h)

pub both_missing : {A B : Type 0} → (test : A → B → Bool) (o : Option A) (q : Option B) → are_both_or_neither test o q ≡ true → q ≡ None → o ≡ None
both_missing test None q h e = refl
both_missing test (Some x) None h e = absurd (false≢true h)
both_missing test (Some x) (Some z) h e = absurd (none-some z (sym e))

-- a test of a number that is made against a section too
test_alone : {A : Type 0} → (test : ℕ → Bool) (section : Option A) (o : Option ℕ) → is_none_or (λ v. is_some_and (λ _. test v) section) o ≡ true → is_none_or test o ≡ true
test_alone test section None h = refl
test_alone test section (Some v) h = (there_and (λ _. test v) section h).2

-- ## Memories

pub first_by_tag-Keeps : (o : Option ℕ) (f : Memory) → Keeps (first_by_tag o f) f
first_by_tag-Keeps None f = Keeps-refl f
first_by_tag-Keeps (Some n) f = Keeps-first_places n f

first_by_tag-keeps : (o : Option ℕ) (f g : Memory) → Keeps f g → Keeps (first_by_tag o f) (first_by_tag o g)
first_by_tag-keeps None f g h = h
first_by_tag-keeps (Some n) f g h = first_places-keeps n f g h

-- the front of a list is kept by the list
front-Keeps : (n : ℕ) (xs : List ℕ) → Keeps (memory_of (take n xs)) (memory_of xs)
front-Keeps n xs a x h = ap (slice_get xs) (sym (zero-add a)) ∙ slice_get-field n 0 a x xs h

pub nat_le_refl : (n : ℕ) → n ≤ n
nat_le_refl n = omega arith

-- ## A view by its parts

-- a view is there where each of its parts is
pub view_of-parts : (form : Form) (room : ℕ) (outline : View) (raw : List EntryNumbers) (tables : Tables) (entries : List Entry) (symbols : Option (List NamedSymbol)) (definitions : Option (List VersionDefinition)) (needs : Option (List VersionNeeds))
    → each (shown_entry room tables.entry_texts) raw ≡ Some entries
    → when_wanted (has_tag DT_SYMTAB raw) (dynamic_symbols form room (has_tag DT_VERSYM raw) tables.symbols tables.versions) ≡ Some symbols
    → when_wanted (has_tag DT_VERDEF raw && has_tag DT_VERDEFNUM raw) (defined_versions form room tables.definitions) ≡ Some definitions
    → when_wanted (has_tag DT_VERNEED raw && has_tag DT_VERNEEDNUM raw) (needed_versions form room tables.needs) ≡ Some needs
    → view_of form room outline raw tables ≡ Some (record outline { entries = Some entries; symbols = symbols; definitions = definitions; needs = needs })
unfolding view_of
view_of-parts form room outline raw tables entries symbols definitions needs e y d n =
    let asked_symbols : Option (Option (List NamedSymbol)) = when_wanted (has_tag DT_SYMTAB raw) (dynamic_symbols form room (has_tag DT_VERSYM raw) tables.symbols tables.versions) in
    let asked_definitions : Option (Option (List VersionDefinition)) = when_wanted (has_tag DT_VERDEF raw && has_tag DT_VERDEFNUM raw) (defined_versions form room tables.definitions) in
    let asked_needs : Option (Option (List VersionNeeds)) = when_wanted (has_tag DT_VERNEED raw && has_tag DT_VERNEEDNUM raw) (needed_versions form room tables.needs) in
    let made : List Entry → Option (List NamedSymbol) → Option (List VersionDefinition) → Option (List VersionNeeds) → Option View =
    λ es ys ds ns. Some (record outline { entries = Some es; symbols = ys; definitions = ds; needs = ns }) in
    some_bind (each (shown_entry room tables.entry_texts) raw) (λ es. asked_symbols >>= (λ ys. asked_definitions >>= (λ ds. asked_needs >>= (λ ns. made es ys ds ns)))) entries e
    ∙ some_bind asked_symbols (λ ys. asked_definitions >>= (λ ds. asked_needs >>= (λ ns. made entries ys ds ns))) symbols y
    ∙ some_bind asked_definitions (λ ds. asked_needs >>= (λ ns. made entries symbols ds ns)) definitions d
    ∙ some_bind asked_needs (λ ns. made entries symbols definitions ns) needs n

-- ## Sizes

symbol_size-pos : (w : Wide) → 0 < by_class w 16 24
symbol_size-pos W32 = omega arith
symbol_size-pos W64 = omega arith

pub whole_count : (x n : ℕ) → 0 < n → x % n ≡ 0 → (x / n) * n ≡ x
whole_count x n pos h = omega arith

half_count : (x : ℕ) → (x / 2) * 2 ≤ x
half_count x = omega arith

-- ## The facts of one accepted file

module _ (p : Parts) (rules : MeetsRules p) where
  -- a section with bytes lies in the file
  pub lies_in_file : (s : SectionHeader) → IsIn s p.sections → has_file_bytes s ≡ true → s.sh_offset + s.sh_size ≤ length (file_of p)
  lies_in_file s here bytes =
      let size : ℕ = length (file_of p) in
      let in_file = and_parts (list_all (λ t. ends_by size (file_range t)) (filter occupies_file (places_of p.sections))) (list_all (λ q. ends_by size (file_part q)) (loads_of p.segments)) rules.in_file in
      leb-true (s.sh_offset + s.sh_size) size (passes_picked (place_of s) (places_of p.sections) (IsIn-map place_of s p.sections here) (λ t. ends_by size (file_range t)) occupies_file in_file.0 bytes)

  pub length-bytes : (s : SectionHeader) → IsIn s p.sections → has_file_bytes s ≡ true → length (section_bytes (file_of p) s) ≡ s.sh_size
  length-bytes s here bytes =
      let inside : s.sh_offset + s.sh_size ≤ length (file_of p) = lies_in_file s here bytes in
      ap length (section_bytes-is (file_of p) s bytes)
      ∙ length-take-le s.sh_size (drop s.sh_offset (file_of p)) (omega (arith, length-drop s.sh_offset (file_of p)))

  -- an allocated section with bytes is seen at its address
  seen : (s : SectionHeader) → IsIn s p.sections → is_allocated s ≡ true → has_file_bytes s ≡ true → Keeps (memory_of (section_bytes (file_of p) s)) (from (byte_at p.segments (file_of p)) s.sh_addr)
  seen s here allocated bytes =
      let held = (and_parts _ _ (and_parts _ _ rules.loaded).0).0 in
      section-Keeps (file_of p) p.segments p.sections rules.fit rules.segments held s here allocated bytes

  -- what a section's type tells of it
  has_bytes_by_type : (s : SectionHeader) (type : ℕ) → eqb s.sh_type type ≡ true → (not (eqb type 0) && not (eqb type 8)) ≡ true → has_file_bytes s ≡ true
  has_bytes_by_type s type e h = ap (λ t. not (eqb t 0) && not (eqb t 8)) (eqb-true s.sh_type type e) ∙ h

  -- the section of a table tag that is there is seen from the tag's value on
  tag_keeps : (tag : ℕ) (section : Option SectionHeader) → ((s : SectionHeader) → section ≡ Some s → IsIn s p.sections × (has_file_bytes s ≡ true))
      → tag_is_address (raw_entries p) tag section ≡ true → has_tag tag (raw_entries p) ≡ true
      → Keeps (section_memory (file_of p) section) (memory_at_tag (byte_at p.segments (file_of p)) (value_of_tag tag (raw_entries p)))
  tag_keeps tag section known agrees has =
      let memory : Memory = byte_at p.segments (file_of p) in
      let (value, value_there) = there_if (value_of_tag tag (raw_entries p)) has in
      let (s, s_there, both) = there_and (λ t. is_allocated t && eqb t.sh_addr value) section (test_at (λ v. is_some_and (λ t. is_allocated t && eqb t.sh_addr v) section) (value_of_tag tag (raw_entries p)) value agrees value_there) in
      let (here, bytes) = known s s_there in
      let (allocated, at_value) = and_parts (is_allocated s) (eqb s.sh_addr value) both in
      let at_address : Keeps (memory_of (section_bytes (file_of p) s)) (from memory value) =
      subst (λ a. Keeps (memory_of (section_bytes (file_of p) s)) (from memory a)) (eqb-true s.sh_addr value at_value) (seen s here allocated bytes) in
      subst (λ o. Keeps (section_memory (file_of p) o) (memory_at_tag memory (value_of_tag tag (raw_entries p)))) (sym s_there)
      (subst (λ v. Keeps (memory_of (section_bytes (file_of p) s)) (memory_at_tag memory v)) (sym value_there) at_address)

  -- the section of a type that is found is one of the sections, with bytes
  pub found_by_type : (type : ℕ) → (not (eqb type 0) && not (eqb type 8)) ≡ true → (s : SectionHeader) → section_of_type type p.sections ≡ Some s → IsIn s p.sections × (has_file_bytes s ≡ true)
  found_by_type type h s e =
      let (here, typed) = find_some (λ t. eqb t.sh_type type) p.sections s e in
      (here, has_bytes_by_type s type typed h)

  pub links_right : are_linked p.sections ≡ true
  links_right = (and_parts _ _ (and_parts _ _ (and_parts _ _ (and_parts _ _ (and_parts _ _ rules.linked).0).0).0).0).1

  whole_right : are_whole p.opened.form p.sections ≡ true
  whole_right = (and_parts _ _ (and_parts _ _ (and_parts _ _ (and_parts _ _ rules.linked).0).0).0).1

  -- a section that links to a string table: what it links to is one of the sections, with bytes
  pub linked_known : (s : SectionHeader) → IsIn s p.sections → is_one_of text_users s.sh_type ≡ true → (l : SectionHeader) → linked_section p.sections s ≡ Some l → IsIn l p.sections × (has_file_bytes l ≡ true)
  linked_known s here user l e =
      let linked = and_parts (list_all (λ t. links_to SHT_STRTAB p.sections t) (filter (λ t. is_one_of text_users t.sh_type) p.sections)) (list_all (λ t. links_to SHT_DYNSYM p.sections t) (filter (λ t. is_one_of symbol_users t.sh_type) p.sections)) (links_right) in
      let links : is_some_and (λ t. eqb t.sh_type SHT_STRTAB) (linked_section p.sections s) ≡ true = passes_picked s p.sections here (λ t. links_to SHT_STRTAB p.sections t) (λ t. is_one_of text_users t.sh_type) linked.0 user in
      let typed : eqb l.sh_type SHT_STRTAB ≡ true = subst (λ o. is_some_and (λ t. eqb t.sh_type SHT_STRTAB) o ≡ true) e links in
      (IsIn-slice_get p.sections s.sh_link l e, has_bytes_by_type l SHT_STRTAB typed refl)

  -- a section's size is a whole number of its entries
  pub whole_entries : (s : SectionHeader) → IsIn s p.sections → s.sh_size % unit_of p.opened.form s ≡ 0
  whole_entries s here = eqb-true (s.sh_size % unit_of p.opened.form s) 0 (here.passes (λ t. eqb (t.sh_size % unit_of p.opened.form t) 0) whole_right)

  -- a table by the section of its type
  pub table_there : (count : SectionHeader → ℕ) (type : ℕ) (s : SectionHeader) → section_of_type type p.sections ≡ Some s
      → section_table (file_of p) p.sections count type ≡ record { bytes = memory_of (section_bytes (file_of p) s); texts = section_memory (file_of p) (linked_section p.sections s); count = count s }
  table_there count type s e = ap (λ o. table_by count o) e
    where
      table_by : (SectionHeader → ℕ) → Option SectionHeader → Table
      table_by count o = elim o [ None ↦ record { bytes = nowhere; texts = nowhere; count = 0 } | Some t ↦ record { bytes = section_memory (file_of p) (Some t); texts = section_memory (file_of p) (linked_section p.sections t); count = count t } ]

  -- ## What is there by the sections, with texts as far as DT_STRSZ says

  -- each part of the rule on texts
  dynamic_named : symbols_are_named p (dynamic_texts_of p) SHT_DYNSYM ≡ true
  dynamic_named = (and_parts _ _ (and_parts _ _ (and_parts _ _ (and_parts _ _ rules.texts).0).0).0).1

  entries_texted : entry_texts_end p ≡ true
  entries_texted = (and_parts _ _ (and_parts _ _ (and_parts _ _ rules.texts).0).0).1

  definitions_texted : definition_texts_end p ≡ true
  definitions_texted = (and_parts _ _ (and_parts _ _ rules.texts).0).1

  needs_texted : need_texts_end p ≡ true
  needs_texted = (and_parts _ _ rules.texts).1

  -- each part of the rule on versions
  pub definitions_whole : is_none_or (λ s. is_whole_walk s.sh_info (definition_steps p s)) (section_of_type SHT_GNU_VERDEF p.sections) ≡ true
  definitions_whole = (and_parts _ _ (and_parts _ _ (and_parts _ _ rules.versions).0).0).0

  pub needs_whole : is_none_or (λ s. is_whole_walk s.sh_info (need_steps p s)) (section_of_type SHT_GNU_VERNEED p.sections) ≡ true
  needs_whole = (and_parts _ _ (and_parts _ _ (and_parts _ _ rules.versions).0).0).1

  pub version_symbols_right : is_none_or (λ s. version_symbols_agree p s) (section_of_type SHT_GNU_VERSYM p.sections) ≡ true
  version_symbols_right = (and_parts _ _ (and_parts _ _ rules.versions).0).1

  -- the bytes of all symbols
  pub symbols_bytes : (s : SectionHeader) → IsIn s p.sections → eqb s.sh_type SHT_DYNSYM ≡ true
      → bytes_at ((s.sh_size / symbol_size p.opened.form) * symbol_size p.opened.form) (memory_of (section_bytes (file_of p) s)) 0 ≡ Some (section_bytes (file_of p) s)
  symbols_bytes s here typed =
      let size : ℕ = symbol_size p.opened.form in
      let body : List ℕ = section_bytes (file_of p) s in
      let is_table : is_symbol_table s ≡ true = ap (is_one_of (SHT_SYMTAB ∷ SHT_DYNSYM ∷ [])) (eqb-true s.sh_type SHT_DYNSYM typed) in
      let unit_is : unit_of p.opened.form s ≡ size = cond-true (is_symbol_table s) size _ is_table in
      let whole : s.sh_size % size ≡ 0 = ap (λ u. s.sh_size % u) (sym unit_is) ∙ whole_entries s here in
      let counted : (s.sh_size / size) * size ≡ s.sh_size = whole_count s.sh_size size (symbol_size-pos p.opened.form.wide) whole in
      let long : length body ≡ s.sh_size = length-bytes s here (has_bytes_by_type s SHT_DYNSYM typed refl) in
      bytes_at-memory_of ((s.sh_size / size) * size) 0 body (omega arith)
      ∙ ap Some (take_all ((s.sh_size / size) * size) body (omega arith))

  -- the names of all symbols
  symbols_names : (s : SectionHeader) → section_of_type SHT_DYNSYM p.sections ≡ Some s
      → (names : List (List ℕ)) × (names_of (length (file_of p)) (linked_texts p s) (records (symbol_numbers p.opened.form) (symbol_size p.opened.form) (s.sh_size / symbol_size p.opened.form) (section_bytes (file_of p) s)) ≡ Some names)
  symbols_names s e =
      let size : ℕ = symbol_size p.opened.form in
      let body : List ℕ = section_bytes (file_of p) s in
      let known = found_by_type SHT_DYNSYM refl s e in
      let named = test_at (λ t. is_some (names_of (length (file_of p)) (linked_texts p t) (symbols_in p.opened.form (section_bytes (file_of p) t)))) (section_of_type SHT_DYNSYM p.sections) s dynamic_named e in
      let long : length body ≡ s.sh_size = length-bytes s known.0 known.1 in
      there_if (names_of (length (file_of p)) (linked_texts p s) (records (symbol_numbers p.opened.form) size (s.sh_size / size) body))
      (ap (λ k. is_some (names_of (length (file_of p)) (linked_texts p s) (records (symbol_numbers p.opened.form) size (k / size) body))) (sym long) ∙ named)

  -- the versions of all symbols
  versions_there : (s : SectionHeader) → section_of_type SHT_DYNSYM p.sections ≡ Some s → (b : Bool)
      → (b ≡ true → is_some (section_of_type SHT_GNU_VERSYM p.sections) ≡ true)
      → (ids : List (Option VersionId)) × (symbol_versions p.opened.form b (s.sh_size / symbol_size p.opened.form) (section_memory (file_of p) (section_of_type SHT_GNU_VERSYM p.sections)) ≡ Some ids)
  unfolding symbol_versions
  versions_there s e false asked = (replicate (s.sh_size / symbol_size p.opened.form) None, refl)
  versions_there s e true asked =
      let count : ℕ = s.sh_size / symbol_size p.opened.form in
      let (vs, vs_there) = there_if (section_of_type SHT_GNU_VERSYM p.sections) (asked refl) in
      let known = found_by_type SHT_GNU_VERSYM refl vs vs_there in
      let body : List ℕ = section_bytes (file_of p) vs in
      let right = test_at (λ t. version_symbols_agree p t) (section_of_type SHT_GNU_VERSYM p.sections) vs version_symbols_right vs_there in
      let counted = (and_parts (is_some_and (λ y. eqb (vs.sh_size / 2) (y.sh_size / symbol_size p.opened.form)) (section_of_type SHT_DYNSYM p.sections)) _ right).0 in
      let same : vs.sh_size / 2 ≡ count = eqb-true (vs.sh_size / 2) count (subst (λ o. is_some_and (λ y. eqb (vs.sh_size / 2) (y.sh_size / symbol_size p.opened.form)) o ≡ true) e counted) in
      let long : length body ≡ vs.sh_size = length-bytes vs known.0 known.1 in
      let halves : (vs.sh_size / 2) * 2 ≤ vs.sh_size = half_count vs.sh_size in
      let fits : 0 + count * 2 ≤ length body = omega (arith, ap (λ k. k * 2) same) in
      let read : List ℕ → Option (List (Option VersionId)) = λ c. Some (records (λ d. Some (version_id p.opened.form d)) 2 count c) in (
        records (λ d. Some (version_id p.opened.form d)) 2 count (field (count * 2) 0 body),
        ap (λ o. bytes_at (count * 2) (section_memory (file_of p) o) 0 >>= read) vs_there
            ∙ some_bind (bytes_at (count * 2) (memory_of body) 0) read (field (count * 2) 0 body) (bytes_at-memory_of (count * 2) 0 body fits),
      )

  -- the dynamic symbols
  symbols_there : (s : SectionHeader) → section_of_type SHT_DYNSYM p.sections ≡ Some s → (b : Bool)
      → (b ≡ true → is_some (section_of_type SHT_GNU_VERSYM p.sections) ≡ true)
      → (ys : List NamedSymbol) × (dynamic_symbols p.opened.form (length (file_of p)) b
      (record { bytes = memory_of (section_bytes (file_of p) s); texts = linked_texts p s; count = s.sh_size / symbol_size p.opened.form })
      (section_memory (file_of p) (section_of_type SHT_GNU_VERSYM p.sections)) ≡ Some ys)
  unfolding dynamic_symbols
  symbols_there s e b asked =
      let form : Form = p.opened.form in
      let count : ℕ = s.sh_size / symbol_size form in
      let body : List ℕ = section_bytes (file_of p) s in
      let versions : Memory = section_memory (file_of p) (section_of_type SHT_GNU_VERSYM p.sections) in
      let rows : List ℕ → List SymbolNumbers = λ c. records (symbol_numbers form) (symbol_size form) count c in
      let (here, typed) = find_some (λ t. eqb t.sh_type SHT_DYNSYM) p.sections s e in
      let (names, names_there) = symbols_names s e in
      let (ids, ids_there) = versions_there s e b asked in
      let named : List (List ℕ) → Option (List NamedSymbol) = λ ns. symbol_versions form b count versions >>= (λ is. Some (named_symbols (rows body) ns is)) in (
        named_symbols (rows body) names ids,
        some_bind (bytes_at (count * symbol_size form) (memory_of body) 0)
            (λ c. names_of (length (file_of p)) (linked_texts p s) (rows c) >>= (λ ns. symbol_versions form b count versions >>= (λ is. Some (named_symbols (rows c) ns is)))) body (symbols_bytes s here typed)
            ∙ some_bind (names_of (length (file_of p)) (linked_texts p s) (rows body)) named names names_there
            ∙ some_bind (symbol_versions form b count versions) (λ is. Some (named_symbols (rows body) names is)) ids ids_there,
      )

  -- the defined versions
  definitions_there : (s : SectionHeader) → section_of_type SHT_GNU_VERDEF p.sections ≡ Some s
      → (ds : List VersionDefinition) × (defined_versions p.opened.form (length (file_of p)) (record { bytes = memory_of (section_bytes (file_of p) s); texts = linked_texts p s; count = s.sh_info }) ≡ Some ds)
  unfolding defined_versions whole_chain
  definitions_there s e =
      let steps = definition_steps p s in
      let whole : is_whole_walk s.sh_info steps ≡ true = test_at (λ t. is_whole_walk t.sh_info (definition_steps p t)) (section_of_type SHT_GNU_VERDEF p.sections) s definitions_whole e in
      let texted = test_at (λ t. is_some (each (shown_definition (length (file_of p)) (linked_texts p t)) (values_of (definition_steps p t)))) (section_of_type SHT_GNU_VERDEF p.sections) s definitions_texted e in
      let (ds, there) = there_if (each (shown_definition (length (file_of p)) (linked_texts p s)) (values_of steps)) texted in (
        ds,
        some_bind (cond (is_whole_walk s.sh_info steps) (Some (values_of steps)) None) (each (shown_definition (length (file_of p)) (linked_texts p s))) (values_of steps)
            (cond-true (is_whole_walk s.sh_info steps) (Some (values_of steps)) None whole) ∙ there,
      )

  -- the needed versions
  needs_there : (s : SectionHeader) → section_of_type SHT_GNU_VERNEED p.sections ≡ Some s
      → (ns : List VersionNeeds) × (needed_versions p.opened.form (length (file_of p)) (record { bytes = memory_of (section_bytes (file_of p) s); texts = linked_texts p s; count = s.sh_info }) ≡ Some ns)
  unfolding needed_versions whole_chain
  needs_there s e =
      let steps = need_steps p s in
      let whole : is_whole_walk s.sh_info steps ≡ true = test_at (λ t. is_whole_walk t.sh_info (need_steps p t)) (section_of_type SHT_GNU_VERNEED p.sections) s needs_whole e in
      let texted = test_at (λ t. is_some (each (shown_need (length (file_of p)) (linked_texts p t)) (values_of (need_steps p t)))) (section_of_type SHT_GNU_VERNEED p.sections) s needs_texted e in
      let (ns, there) = there_if (each (shown_need (length (file_of p)) (linked_texts p s)) (values_of steps)) texted in (
        ns,
        some_bind (cond (is_whole_walk s.sh_info steps) (Some (values_of steps)) None) (each (shown_need (length (file_of p)) (linked_texts p s))) (values_of steps)
            (cond-true (is_whole_walk s.sh_info steps) (Some (values_of steps)) None whole) ∙ there,
      )

-- ## The facts of an accepted file with a dynamic section

module _ (p : Parts) (rules : MeetsRules p) (list : SectionHeader) (is_list : section_of_type SHT_DYNAMIC p.sections ≡ Some list) where
  pub list_known : IsIn list p.sections × (has_file_bytes list ≡ true)
  list_known = found_by_type p rules SHT_DYNAMIC refl list is_list

  pub agrees : dynamic_tables_agree p list ≡ true
  agrees = test_at (λ t. dynamic_tables_agree p t) (section_of_type SHT_DYNAMIC p.sections) list rules.tables is_list

  pub strings_right : strings_agree p list ≡ true
  strings_right = (and_parts _ _ (and_parts _ _ (and_parts _ _ (and_parts _ _ (and_parts _ _ agrees).0).0).0).0).1

  pub symbols_right : symbols_agree p ≡ true
  symbols_right = (and_parts _ _ (and_parts _ _ (and_parts _ _ (and_parts _ _ agrees).0).0).0).1

  pub versions_right : versions_agree p ≡ true
  versions_right = (and_parts _ _ (and_parts _ _ agrees).0).1

  shared_right : texts_are_shared p list ≡ true
  shared_right = (and_parts _ _ agrees).1

  -- a loader sees the texts of the list
  texts_kept : Keeps (linked_texts p list) (loaded_strings (byte_at p.segments (file_of p)) (raw_entries p))
  texts_kept =
      let raw = raw_entries p in
      let strings : Option SectionHeader = linked_section p.sections list in
      let user : is_one_of text_users list.sh_type ≡ true = ap (is_one_of text_users) (eqb-true list.sh_type SHT_DYNAMIC (find_some (λ t. eqb t.sh_type SHT_DYNAMIC) p.sections list is_list).1) in
      let named = and_parts (has_tag DT_STRTAB raw) (tag_is_address raw DT_STRTAB strings) (and_parts _ _ strings_right).0 in
      first_by_tag-keeps (value_of_tag DT_STRSZ raw) (section_memory (file_of p) strings) (memory_at_tag (byte_at p.segments (file_of p)) (value_of_tag DT_STRTAB raw))
      (tag_keeps p rules DT_STRTAB strings (linked_known p rules list list_known.0 user) named.1 named.0)

  -- a loader sees the texts of each section that shares those of the list
  shared_kept : (type : ℕ) (s : SectionHeader) → shares_texts p list type ≡ true → section_of_type type p.sections ≡ Some s
      → Keeps (linked_texts p s) (loaded_strings (byte_at p.segments (file_of p)) (raw_entries p))
  shared_kept type s shared e =
      let same : s.sh_link ≡ list.sh_link = eqb-true s.sh_link list.sh_link (test_at (λ t. eqb t.sh_link list.sh_link) (section_of_type type p.sections) s shared e) in
      subst (λ l. Keeps (dynamic_texts_of p (slice_get p.sections l)) (loaded_strings (byte_at p.segments (file_of p)) (raw_entries p))) (sym same) texts_kept

  -- records of versions, by their section and by their tags
  records_both : {A : Type 0} → (decode : ℕ → Table → Option (List A)) (room tag count_tag type : ℕ)
      → ((count : ℕ) (f g t u : Memory) → Keeps f g → Keeps t u → Agrees (decode (length (file_of p)) (record { bytes = f; texts = t; count = count })) (decode (length (file_of p)) (record { bytes = g; texts = u; count = count })))
      → ((count : ℕ) (f g t u : Memory) → Keeps f g → Keeps t u → Agrees (decode (length (file_of p)) (record { bytes = f; texts = t; count = count })) (decode room (record { bytes = g; texts = u; count = count })))
      → ((s : SectionHeader) → section_of_type type p.sections ≡ Some s → (xs : List A) × (decode (length (file_of p)) (record { bytes = memory_of (section_bytes (file_of p) s); texts = linked_texts p s; count = s.sh_info }) ≡ Some xs))
      → (not (eqb type 0) && not (eqb type 8)) ≡ true → records_agree p tag count_tag type ≡ true → shares_texts p list type ≡ true
      → Both (when_wanted (has_tag tag (raw_entries p) && has_tag count_tag (raw_entries p)) (decode (length (file_of p)) (section_table (file_of p) p.sections (λ s. s.sh_info) type)))
      (when_wanted (has_tag tag (raw_entries p) && has_tag count_tag (raw_entries p)) (decode room (record {
        bytes = memory_at_tag (byte_at p.segments (file_of p)) (value_of_tag tag (raw_entries p));
        texts = loaded_strings (byte_at p.segments (file_of p)) (raw_entries p);
        count = count_by_tag (value_of_tag count_tag (raw_entries p));
      })))
  records_both decode room tag count_tag type here_same there_same shown bytes_known right shared =
      let raw = raw_entries p in
      let file : List ℕ = file_of p in
      let memory : Memory = byte_at p.segments file in
      let section : Option SectionHeader = section_of_type type p.sections in
      let parts = and_parts (tag_is_address raw tag section) (tag_fits raw count_tag section (λ value s. eqb s.sh_info value)) right in
      when_wanted-both (has_tag tag raw && has_tag count_tag raw) _ _ (λ asked.
      let tags = and_parts (has_tag tag raw) (has_tag count_tag raw) asked in
      let (count, count_there) = there_if (value_of_tag count_tag raw) tags.1 in
      let (s, s_there, s_count) = there_and (λ t. eqb t.sh_info count) section (test_at (λ v. is_some_and (λ t. eqb t.sh_info v) section) (value_of_tag count_tag raw) count parts.1 count_there) in
      let (xs, xs_there) = shown s s_there in
      let body : Memory = memory_of (section_bytes file s) in
      let kept : Keeps body (memory_at_tag memory (value_of_tag tag raw)) =
      subst (λ o. Keeps (section_memory file o) (memory_at_tag memory (value_of_tag tag raw))) s_there (tag_keeps p rules tag section (found_by_type p rules type bytes_known) parts.0 tags.0) in
      let counted : s.sh_info ≡ count_by_tag (value_of_tag count_tag raw) = eqb-true s.sh_info count s_count ∙ sym (ap count_by_tag count_there) in (
        xs,
        ap (decode (length file)) (table_there p rules (λ t. t.sh_info) type s s_there)
            ∙ here_same s.sh_info body body (linked_texts p s) (section_memory file (linked_section p.sections s)) (Keeps-refl body) (first_by_tag-Keeps (value_of_tag DT_STRSZ raw) (section_memory file (linked_section p.sections s))) xs xs_there,
        ap (λ k. decode room (record { bytes = memory_at_tag memory (value_of_tag tag raw); texts = loaded_strings memory raw; count = k })) (sym counted)
            ∙ there_same s.sh_info body (memory_at_tag memory (value_of_tag tag raw)) (linked_texts p s) (loaded_strings memory raw) kept (shared_kept type s shared s_there) xs xs_there,
      ))

  -- the dynamic symbols, by their section and by their tag
  symbols_both : (room : ℕ) → length (file_of p) ≤ room
      → Both (when_wanted (has_tag DT_SYMTAB (raw_entries p)) (dynamic_symbols p.opened.form (length (file_of p)) (has_tag DT_VERSYM (raw_entries p))
      (section_table (file_of p) p.sections (λ s. s.sh_size / symbol_size p.opened.form) SHT_DYNSYM) (section_memory (file_of p) (section_of_type SHT_GNU_VERSYM p.sections))))
      (when_wanted (has_tag DT_SYMTAB (raw_entries p)) (dynamic_symbols p.opened.form room (has_tag DT_VERSYM (raw_entries p))
      (record {
        bytes = memory_at_tag (byte_at p.segments (file_of p)) (value_of_tag DT_SYMTAB (raw_entries p));
        texts = loaded_strings (byte_at p.segments (file_of p)) (raw_entries p);
        count = (section_table (file_of p) p.sections (λ s. s.sh_size / symbol_size p.opened.form) SHT_DYNSYM).count;
      })
      (memory_at_tag (byte_at p.segments (file_of p)) (value_of_tag DT_VERSYM (raw_entries p)))))
  symbols_both room le =
      let raw = raw_entries p in
      let file : List ℕ = file_of p in
      let form : Form = p.opened.form in
      let memory : Memory = byte_at p.segments file in
      let section : Option SectionHeader = section_of_type SHT_DYNSYM p.sections in
      let versioned : Option SectionHeader = section_of_type SHT_GNU_VERSYM p.sections in
      let count : SectionHeader → ℕ = λ s. s.sh_size / symbol_size form in
      let address = (and_parts (tag_is_address raw DT_SYMTAB section) (tag_fits raw DT_SYMENT section (λ value _. eqb value (symbol_size form))) symbols_right).0 in
      let versym_address = (and_parts (tag_is_address raw DT_VERSYM versioned) (records_agree p DT_VERDEF DT_VERDEFNUM SHT_GNU_VERDEF) (and_parts _ _ versions_right).0).0 in
      let asked_versions = λ (asked : has_tag DT_VERSYM raw ≡ true).
      let (v, v_there) = there_if (value_of_tag DT_VERSYM raw) asked in
      let (vs, vs_there, _) = there_and (λ t. is_allocated t && eqb t.sh_addr v) versioned (test_at (λ w. is_some_and (λ t. is_allocated t && eqb t.sh_addr w) versioned) (value_of_tag DT_VERSYM raw) v versym_address v_there) in
      ap is_some vs_there in
      when_wanted-both (has_tag DT_SYMTAB raw) _ _ (λ asked.
      let (value, value_there) = there_if (value_of_tag DT_SYMTAB raw) asked in
      let (s, s_there, _) = there_and (λ t. is_allocated t && eqb t.sh_addr value) section (test_at (λ w. is_some_and (λ t. is_allocated t && eqb t.sh_addr w) section) (value_of_tag DT_SYMTAB raw) value address value_there) in
      let (ys, ys_there) = symbols_there p rules s s_there (has_tag DT_VERSYM raw) asked_versions in
      let body : Memory = memory_of (section_bytes file s) in
      let versions : Memory = section_memory file versioned in
      let loaded_versions : Memory = memory_at_tag memory (value_of_tag DT_VERSYM raw) in
      let kept : Keeps body (memory_at_tag memory (value_of_tag DT_SYMTAB raw)) =
      subst (λ o. Keeps (section_memory file o) (memory_at_tag memory (value_of_tag DT_SYMTAB raw))) s_there (tag_keeps p rules DT_SYMTAB section (found_by_type p rules SHT_DYNSYM refl) address asked) in
      let table = table_there p rules count SHT_DYNSYM s s_there in
      let shared = (and_parts _ _ (and_parts _ _ shared_right).0).0 in (
        ys,
        ap (λ t. dynamic_symbols form (length file) (has_tag DT_VERSYM raw) t versions) table
            ∙ dynamic_symbols-keeps form (length file) (length file) (omega arith) (has_tag DT_VERSYM raw) (count s) body body (linked_texts p s) (section_memory file (linked_section p.sections s)) versions versions
            (Keeps-refl body) (first_by_tag-Keeps (value_of_tag DT_STRSZ raw) (section_memory file (linked_section p.sections s))) (λ _. Keeps-refl versions) ys ys_there,
        ap (λ (t : Table). dynamic_symbols form room (has_tag DT_VERSYM raw) (record { bytes = memory_at_tag memory (value_of_tag DT_SYMTAB raw); texts = loaded_strings memory raw; count = t.count }) loaded_versions) table
            ∙ dynamic_symbols-keeps form (length file) room le (has_tag DT_VERSYM raw) (count s) body (memory_at_tag memory (value_of_tag DT_SYMTAB raw)) (linked_texts p s) (loaded_strings memory raw) versions loaded_versions
            kept (shared_kept SHT_DYNSYM s shared s_there) (λ b. tag_keeps p rules DT_VERSYM versioned (found_by_type p rules SHT_GNU_VERSYM refl) versym_address b) ys ys_there,
      ))

  -- the entries of the list, by its section and by its address
  pub raw_both : (room : ℕ) → length (file_of p) ≤ room → (segment : SegmentHeader) × (segment_of_type PT_DYNAMIC p.segments ≡ Some segment)
      × (entries_at (length (file_of p)) p.opened.form (memory_of (section_bytes (file_of p) list)) 0 ≡ Some (raw_entries p))
      × (entries_at room p.opened.form (from (byte_at p.segments (file_of p)) segment.p_vaddr) 0 ≡ Some (raw_entries p))
  raw_both room le =
      let size : ℕ = length (file_of p) in
      let form : Form = p.opened.form in
      let body : List ℕ = section_bytes (file_of p) list in
      let memory : Memory = byte_at p.segments (file_of p) in
      let (segment, segment_there, right) = both_there (dynamic_section_agrees p) (segment_of_type PT_DYNAMIC p.segments) (section_of_type SHT_DYNAMIC p.sections) list rules.dynamic is_list in
      let front : List ℕ = take segment.p_filesz body in
      let places = and_parts (eqb segment.p_offset list.sh_offset && eqb segment.p_vaddr list.sh_addr && is_allocated list) (is_some (entries_at size form (memory_of front) 0)) right in
      let placed = and_parts (eqb segment.p_offset list.sh_offset && eqb segment.p_vaddr list.sh_addr) (is_allocated list) places.0 in
      let address : segment.p_vaddr ≡ list.sh_addr = eqb-true segment.p_vaddr list.sh_addr (and_parts (eqb segment.p_offset list.sh_offset) (eqb segment.p_vaddr list.sh_addr) placed.0).1 in
      let (raw, raw_there) = there_if (entries_at size form (memory_of front) 0) places.1 in
      let by_section : entries_at size form (memory_of body) 0 ≡ Some raw = entries_at-keeps form size size (omega arith) (memory_of front) (memory_of body) (front-Keeps segment.p_filesz body) 0 raw raw_there in
      let is_raw : raw_entries p ≡ raw = ap (λ o. unwrap_or (entries_at size form (section_memory (file_of p) o) 0) []) is_list ∙ ap (λ o. unwrap_or o []) by_section in
      let by_address : entries_at room form (from memory list.sh_addr) 0 ≡ Some raw =
      entries_at-keeps form size room le (memory_of body) (from memory list.sh_addr) (seen p rules list list_known.0 placed.1 list_known.1) 0 raw by_section in
      (segment, segment_there, by_section ∙ ap Some (sym is_raw), ap (λ a. entries_at room form (from memory a) 0) address ∙ by_address ∙ ap Some (sym is_raw))

  entries_both : (room : ℕ) → length (file_of p) ≤ room
      → Both (each (shown_entry (length (file_of p)) (section_memory (file_of p) (linked_section p.sections list))) (raw_entries p))
      (each (shown_entry room (loaded_strings (byte_at p.segments (file_of p)) (raw_entries p))) (raw_entries p))
  entries_both room le =
      let raw = raw_entries p in
      let size : ℕ = length (file_of p) in
      let strings : Memory = section_memory (file_of p) (linked_section p.sections list) in
      let loaded : Memory = loaded_strings (byte_at p.segments (file_of p)) raw in
      let texted = test_at (λ t. is_some (each (shown_entry size (linked_texts p t)) raw)) (section_of_type SHT_DYNAMIC p.sections) list (entries_texted p rules) is_list in
      let (es, es_there) = there_if (each (shown_entry size (linked_texts p list)) raw) texted in (
        es,
        each-agrees (shown_entry size (linked_texts p list)) (shown_entry size strings) (shown_entry-keeps size size (omega arith) (linked_texts p list) strings (first_by_tag-Keeps (value_of_tag DT_STRSZ raw) strings)) raw es es_there,
        each-agrees (shown_entry size (linked_texts p list)) (shown_entry room loaded) (shown_entry-keeps size room le (linked_texts p list) loaded texts_kept) raw es es_there,
      )

  -- a loader finds no symbols of another size
  symbol_sizes : is_none_or (λ size. eqb size (symbol_size p.opened.form)) (value_of_tag DT_SYMENT (raw_entries p)) ≡ true
  symbol_sizes =
      let section : Option SectionHeader = section_of_type SHT_DYNSYM p.sections in
      test_alone (λ v. eqb v (symbol_size p.opened.form)) section (value_of_tag DT_SYMENT (raw_entries p)) (and_parts (tag_is_address (raw_entries p) DT_SYMTAB section) _ symbols_right).1

  -- both views, by what each reads
  tables_both : (room : ℕ) → length (file_of p) ≤ room → (outline : View)
      → Both (view_of p.opened.form (length (file_of p)) outline (raw_entries p) (tables_by_sections p.opened.form (file_of p) p.sections list))
      (view_of p.opened.form room outline (raw_entries p) (tables_by_tags (byte_at p.segments (file_of p)) (section_table (file_of p) p.sections (λ s. s.sh_size / symbol_size p.opened.form) SHT_DYNSYM).count (raw_entries p)))
  tables_both room le outline =
      let raw = raw_entries p in
      let file : List ℕ = file_of p in
      let form : Form = p.opened.form in
      let by_sections : Tables = tables_by_sections form file p.sections list in
      let by_tags : Tables = tables_by_tags (byte_at p.segments file) (section_table file p.sections (λ s. s.sh_size / symbol_size form) SHT_DYNSYM).count raw in
      let definitions_right = (and_parts _ _ (and_parts _ _ versions_right).0).1 in
      let needs_right = (and_parts _ _ versions_right).1 in
      let definitions_shared = (and_parts _ _ (and_parts _ _ shared_right).0).1 in
      let needs_shared = (and_parts _ _ shared_right).1 in
      let same_room : length file ≤ length file = nat_le_refl (length file) in
      let (es, es_left, es_right) = entries_both room le in
      let (ys, ys_left, ys_right) = symbols_both room le in
      let (ds, ds_left, ds_right) = records_both (defined_versions form) room DT_VERDEF DT_VERDEFNUM SHT_GNU_VERDEF
      (defined_versions-keeps form (length file) (length file) same_room) (defined_versions-keeps form (length file) room le) (definitions_there p rules) refl definitions_right definitions_shared in
      let (ns, ns_left, ns_right) = records_both (needed_versions form) room DT_VERNEED DT_VERNEEDNUM SHT_GNU_VERNEED
      (needed_versions-keeps form (length file) (length file) same_room) (needed_versions-keeps form (length file) room le) (needs_there p rules) refl needs_right needs_shared in (
        record outline { entries = Some es; symbols = ys; definitions = ds; needs = ns },
        view_of-parts form (length file) outline raw by_sections es ys ds ns es_left ys_left ds_left ns_left,
        view_of-parts form room outline raw by_tags es ys ds ns es_right ys_right ds_right ns_right,
      )

-- ## The interpreter

interpreter_by_section : Parts → Option SegmentHeader → Option (List ℕ)
interpreter_by_section p segment = segment >>= (λ q. interpreter_section q p.sections >>= (λ s. Some (section_bytes (file_of p) s)))

interpreter_by_segment : Parts → Option SegmentHeader → Option (Option (List ℕ))
interpreter_by_segment p segment = when_wanted (is_some segment) (segment >>= (λ q. bytes_in (file_of p) q.p_offset q.p_filesz))

interpreters_agree : (p : Parts) → MeetsRules p → (segment : Option SegmentHeader) → is_none_or (λ q. is_some (interpreter_section q p.sections)) segment ≡ true
    → interpreter_by_segment p segment ≡ Some (interpreter_by_section p segment)
unfolding interpreter_by_section interpreter_by_segment
interpreters_agree p rules None right = refl
interpreters_agree p rules (Some q) right =
    let file : List ℕ = file_of p in
    let (s, s_there) = there_if (interpreter_section q p.sections) right in
    let (here, found) = find_some (λ t. eqb t.sh_type SHT_PROGBITS && eqb t.sh_offset q.p_offset && eqb t.sh_addr q.p_vaddr && eqb t.sh_size q.p_filesz) p.sections s s_there in
    let (placed, sized) = and_parts (eqb s.sh_type SHT_PROGBITS && eqb s.sh_offset q.p_offset && eqb s.sh_addr q.p_vaddr) (eqb s.sh_size q.p_filesz) found in
    let (typed, offset) = and_parts (eqb s.sh_type SHT_PROGBITS) (eqb s.sh_offset q.p_offset) (and_parts (eqb s.sh_type SHT_PROGBITS && eqb s.sh_offset q.p_offset) (eqb s.sh_addr q.p_vaddr) placed).0 in
    let same_offset : s.sh_offset ≡ q.p_offset = eqb-true s.sh_offset q.p_offset offset in
    let same_size : s.sh_size ≡ q.p_filesz = eqb-true s.sh_size q.p_filesz sized in
    let bytes : has_file_bytes s ≡ true = has_bytes_by_type p rules s SHT_PROGBITS typed refl in
    let inside : leb (q.p_offset + q.p_filesz) (length file) ≡ true = le-leb (q.p_offset + q.p_filesz) (length file) (omega (arith, lies_in_file p rules s here bytes)) in
    let by_segment : bytes_in file q.p_offset q.p_filesz ≡ Some (field q.p_filesz q.p_offset file) = cond-true (leb (q.p_offset + q.p_filesz) (length file)) (Some (field q.p_filesz q.p_offset file)) None inside in
    let same_bytes : section_bytes file s ≡ field q.p_filesz q.p_offset file = section_bytes-is file s bytes ∙ ap (λ k. field k s.sh_offset file) same_size ∙ ap (λ k. field q.p_filesz k file) same_offset in
    some_bind (bytes_in file q.p_offset q.p_filesz) (λ x. Some (Some x)) (field q.p_filesz q.p_offset file) by_segment
    ∙ ap (λ x. Some (Some x)) (sym same_bytes)
    ∙ ap Some (sym (some_bind (interpreter_section q p.sections) (λ t. Some (section_bytes file t)) s s_there))

-- ## Both views

-- the section view of opened tables, by their dynamic section
section_rest : Parts → View → Option SectionHeader → Option View
section_rest p outline o = elim o [
  | None ↦ Some outline
  | Some list ↦ (entries_at (length (file_of p)) p.opened.form (memory_of (section_bytes (file_of p) list)) 0
      >>= λ raw. view_of p.opened.form (length (file_of p)) outline raw (tables_by_sections p.opened.form (file_of p) p.sections list))
]

-- the loader's view of opened segments, by their PT_DYNAMIC
loader_rest : Parts → ℕ → ℕ → View → Option SegmentHeader → Option View
loader_rest p room symbol_count outline o = elim o [
  | None ↦ Some outline
  | Some list ↦ (entries_at room p.opened.form (from (byte_at p.segments (file_of p)) list.p_vaddr) 0
      >>= λ raw. cond (is_none_or (λ size. eqb size (symbol_size p.opened.form)) (value_of_tag DT_SYMENT raw))
      (view_of p.opened.form room outline raw (tables_by_tags (byte_at p.segments (file_of p)) symbol_count raw)) None)
]

rests_agree : (p : Parts) → MeetsRules p → (room : ℕ) → length (file_of p) ≤ room → (outline : View) (o : Option SectionHeader) → section_of_type SHT_DYNAMIC p.sections ≡ o
    → Both (section_rest p outline o) (loader_rest p room (section_table (file_of p) p.sections (λ s. s.sh_size / symbol_size p.opened.form) SHT_DYNSYM).count outline (segment_of_type PT_DYNAMIC p.segments))
unfolding section_rest loader_rest
rests_agree p rules room le outline None e =
    let count : ℕ = (section_table (file_of p) p.sections (λ s. s.sh_size / symbol_size p.opened.form) SHT_DYNSYM).count in
    (outline, refl, ap (loader_rest p room count outline) (both_missing (dynamic_section_agrees p) (segment_of_type PT_DYNAMIC p.segments) (section_of_type SHT_DYNAMIC p.sections) rules.dynamic e))
rests_agree p rules room le outline (Some list) e =
    let form : Form = p.opened.form in
    let file : List ℕ = file_of p in
    let raw = raw_entries p in
    let count : ℕ = (section_table file p.sections (λ s. s.sh_size / symbol_size form) SHT_DYNSYM).count in
    let (segment, segment_there, by_section, by_address) = raw_both p rules list e room le in
    let (view, left, right) = tables_both p rules list e room le outline in
    let sized = λ (es : List EntryNumbers). is_none_or (λ size. eqb size (symbol_size form)) (value_of_tag DT_SYMENT es) in
    let loaded : List EntryNumbers → Option View = λ es. view_of form room outline es (tables_by_tags (byte_at p.segments file) count es) in (
      view,
      some_bind (entries_at (length file) form (memory_of (section_bytes file list)) 0) (λ es. view_of form (length file) outline es (tables_by_sections form file p.sections list)) raw by_section ∙ left,
      ap (loader_rest p room count outline) segment_there
          ∙ some_bind (entries_at room form (from (byte_at p.segments file) segment.p_vaddr) 0) (λ es. cond (sized es) (loaded es) None) raw by_address
          ∙ cond-true (sized raw) (loaded raw) None (symbol_sizes p rules list e) ∙ right,
    )

-- the section view of parts
section_view-parts : (p : Parts) → ArePartsOf (file_of p) p
    → section_view (file_of p) ≡ section_rest p (outline_of p.opened p.segments (interpreter_by_section p (segment_of_type PT_INTERP p.segments))) (section_of_type SHT_DYNAMIC p.sections)
unfolding section_view section_rest interpreter_by_section
section_view-parts p parts = rw parts.opened (rw parts.segments (rw parts.sections refl))

-- the loader's view of parts
loader_view-parts : (p : Parts) → ArePartsOf (file_of p) p → (room symbol_count : ℕ) (interpreter : Option (List ℕ)) → interpreter_by_segment p (segment_of_type PT_INTERP p.segments) ≡ Some interpreter
    → loader_view_within room (file_of p) symbol_count ≡ loader_rest p room symbol_count (outline_of p.opened p.segments interpreter) (segment_of_type PT_DYNAMIC p.segments)
unfolding loader_view_within loader_rest interpreter_by_segment
loader_view-parts p parts room symbol_count interpreter e = rw parts.opened (rw parts.segments (rw e refl))

-- how many symbols the section headers of parts tell
symbol_count-parts : (p : Parts) → ArePartsOf (file_of p) p → dynamic_symbol_count (file_of p) ≡ (section_table (file_of p) p.sections (λ s. s.sh_size / symbol_size p.opened.form) SHT_DYNSYM).count
unfolding dynamic_symbol_count
symbol_count-parts p parts = rw parts.opened (rw parts.sections refl)

-- both views of accepted parts, with any room from the file's length on
views_of_parts : (p : Parts) → ArePartsOf (file_of p) p → MeetsRules p → (room : ℕ) → length (file_of p) ≤ room
    → Both (section_view (file_of p)) (loader_view_within room (file_of p) (dynamic_symbol_count (file_of p)))
views_of_parts p parts rules room le =
    let interpreter : Option (List ℕ) = interpreter_by_section p (segment_of_type PT_INTERP p.segments) in
    let outline : View = outline_of p.opened p.segments interpreter in
    let count : ℕ = (section_table (file_of p) p.sections (λ s. s.sh_size / symbol_size p.opened.form) SHT_DYNSYM).count in
    let (view, left, right) = rests_agree p rules room le outline (section_of_type SHT_DYNAMIC p.sections) refl in (
      view,
      section_view-parts p parts ∙ left,
      ap (loader_view_within room (file_of p)) (symbol_count-parts p parts)
          ∙ loader_view-parts p parts room count interpreter (interpreters_agree p rules (segment_of_type PT_INTERP p.segments) rules.interpreter) ∙ right,
    )

-- both views of an accepted file, with any room from its length on
views_of_file : (file : List ℕ) (p : Parts) → accepted_parts file ≡ Ok p → (room : ℕ) → length file ≤ room
    → Both (section_view file) (loader_view_within room file (dynamic_symbol_count file))
views_of_file file p h room le =
    let (parts, rules) = accepted file p h in
    let P : List ℕ → Type 0 = λ f. ArePartsOf f p in
    let Q : List ℕ → Type 0 = λ f. Both (section_view f) (loader_view_within room f (dynamic_symbol_count f)) in
    let own : ArePartsOf (file_of p) p = subst P (sym parts.same_file) parts in
    subst Q parts.same_file (views_of_parts p own rules room (subst (λ f. length f ≤ room) (sym parts.same_file) le))

-- For every accepted file both views are there and are equal, with any room from the file's length on.
pub views_agree : ViewsAgree
views_agree file h =
    let (p, parts) = no_fault file h in
    let (view, left, right) = views_of_file file p parts (length file) (nat_le_refl (length file)) in (
      view,
      left,
      right,
      λ room le.
          let (other, other_left, other_right) = views_of_file file p parts room le in
          other_right ∙ sym other_left ∙ left,
    )
