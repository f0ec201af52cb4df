-- What an image has of the dynamic tables is what the section headers show of them.
use Rattle.std.proofs.Common.{◌≡◌, ℕ, ◌*◌, ◌/◌, ◌%◌, Bool, true, false, cond, eqb, List, ◌∷◌, length, map, replicate, refl, sym, ap, ◌∙◌, subst, Option, Some, None, arith, []}
use Rattle.std.specs.Prelude.{◌&&◌, ◌||◌, find, is_some}
use Rattle.std.proofs.lemmas.List.{map-id, take_all}
use Rattle.std.proofs.lemmas.Option.{same_Some}
use Rattle.std.proofs.lemmas.Bool.{and_parts, cond-true, cond_both, eqb-true}
use Rattle.patch_bytes.specs.Number.{field}
use Rattle.patch_bytes.specs.Memory.{◌>>=◌, Agrees, Keeps, Memory, bytes_at, memory_of, text_at}
use Rattle.patch_bytes.proofs.MemoryLaws.{Keeps-refl, bind_some, bytes_at-memory_of, some_bind}
use Rattle.elf_format.specs.declared.constants.TheConstants.{DT_STRSZ, DT_SYMTAB, DT_VERDEF, DT_VERDEFNUM, DT_VERNEED, DT_VERNEEDNUM, DT_VERSYM, SHT_DYNAMIC, SHT_DYNSYM, SHT_GNU_VERDEF, SHT_GNU_VERNEED, SHT_GNU_VERSYM}
use Rattle.elf_format.specs.declared.version_id.VersionId.{VersionId}
use Rattle.elf_format.specs.Dynamic.{Auto, Entry, Integer, Text, has_tag, shown_entry, table_tags, text_tags, value_of_tag}
use Rattle.elf_format.specs.File.{Parts, is_allocated, linked_section, section_bytes, section_of_type}
use Rattle.elf_format.specs.Form.{Form, records}
use Rattle.elf_format.specs.Image.{definitions_read, dynamic_symbols_read, entry_tag, lists_tag, needs_read, seen_symbol, shown_if, symbols_of, versions_read}
use Rattle.elf_format.specs.Options.{each, is_one_of, is_some_and, when_wanted}
use Rattle.elf_format.specs.Records.{EntryNumbers, SectionHeader, SymbolNumbers, symbol_numbers, symbol_size}
use Rattle.elf_format.specs.Rules.{MeetsRules, definition_steps, file_of, linked_texts, need_steps, raw_entries, records_agree, tag_fits, tag_is_address, unit_of, version_symbols_agree}
use Rattle.elf_format.specs.Versions.{VersionDefinition, VersionNeeds, is_whole_walk, shown_definition, shown_need, values_of, version_id}
use Rattle.elf_format.specs.Views.{NamedSymbol, Table, defined_versions, dynamic_symbols, named_symbols, names_of, needed_versions, section_memory, section_table, symbol_versions, whole_chain}
use Rattle.elf_format.proofs.Agreement.{defined_versions-keeps, dynamic_symbols-keeps, each-agrees, needed_versions-keeps, shown_entry-keeps}
use Rattle.elf_format.proofs.Placed.{find_some}
use Rattle.elf_format.proofs.ViewsAgree.{definitions_whole, first_by_tag-Keeps, found_by_type, length-bytes, nat_le_refl, needs_whole, symbols_bytes, symbols_right, table_there, test_at, there_and, there_if, version_symbols_right, versions_right, whole_count, whole_entries}
use Rattle.elf_format.proofs.Lengths.{length-records, length-versions_read}

-- ## Tags

-- an entry keeps its tag
entry_tag_kept : (room : ℕ) (texts : Memory) (e : EntryNumbers) (shown : Entry) → shown_entry room texts e ≡ Some shown → entry_tag shown ≡ e.d_tag
unfolding shown_entry
entry_tag_kept room texts e shown =
    let text : Option Entry = text_at room texts e.d_value >>= λ t. Some (Text e.d_tag t) in
    let auto : Option Entry = Some (Auto e.d_tag) in
    let number : Option Entry = Some (Integer e.d_tag e.d_value) in
    let P : Option Entry → Type 0 = λ o. o ≡ Some shown → entry_tag shown ≡ e.d_tag in
    cond_both (is_one_of text_tags e.d_tag) text (cond (is_one_of table_tags e.d_tag) auto number) P
    (λ _ h. let (t, _, made) = bind_some (text_at room texts e.d_value) (λ u. Some (Text e.d_tag u)) shown h in ap entry_tag (sym (same_Some (Text e.d_tag t) shown made)))
    (λ _. cond_both (is_one_of table_tags e.d_tag) auto number P
    (λ _ h. ap entry_tag (sym (same_Some (Auto e.d_tag) shown h)))
    (λ _ h. ap entry_tag (sym (same_Some (Integer e.d_tag e.d_value) shown h))))

-- the first of a list, or one of the rest
one_more_tag : (tag : ℕ) (e : EntryNumbers) (rest : List EntryNumbers) (b : Bool) → is_some (cond b (Some e) (find (λ x. eqb x.d_tag tag) rest) >>= λ x. Some x.d_value) ≡ (b || has_tag tag rest)
one_more_tag tag e rest true = refl
one_more_tag tag e rest false = refl

-- shown entries list the tags that the numbers have
pub tags_listed : (room : ℕ) (texts : Memory) (tag : ℕ) (raw : List EntryNumbers) (shown : List Entry) → each (shown_entry room texts) raw ≡ Some shown → has_tag tag raw ≡ lists_tag tag shown
unfolding each
tags_listed room texts tag [] shown h = ap (lists_tag tag) (same_Some [] shown h)
tags_listed room texts tag (e ∷ raw) shown h =
    let (x, x_there, more) = bind_some (shown_entry room texts e) (λ y. each (shown_entry room texts) raw >>= λ ys. Some (y ∷ ys)) shown h in
    let (xs, xs_there, made) = bind_some (each (shown_entry room texts) raw) (λ ys. Some (x ∷ ys)) shown more in
    one_more_tag tag e raw (eqb e.d_tag tag)
    ∙ ap (λ t. eqb t tag || has_tag tag raw) (sym (entry_tag_kept room texts e x x_there))
    ∙ ap (λ b. eqb (entry_tag x) tag || b) (tags_listed room texts tag raw xs xs_there)
    ∙ ap (lists_tag tag) (same_Some (x ∷ xs) shown made)

-- what is asked for is there
pub asked_shown : {A : Type 0} → (b : Bool) (o : Option A) (x : A) → (b ≡ true → o ≡ Some x) → when_wanted b o ≡ Some (shown_if b x)
asked_shown true o x h = some_bind o (λ y. Some (Some y)) x (h refl)
asked_shown false o x h = refl

-- ## Symbols

-- the versions that a loader sees
seen_versions : Bool → ℕ → List (Option VersionId) → List (Option VersionId)
seen_versions true count versions = versions
seen_versions false count versions = replicate count None

-- symbols as a loader sees them are numbers, names and the versions that it sees
unversioned : (ys : List SymbolNumbers) (names : List (List ℕ)) (versions : List (Option VersionId)) → length versions ≡ length ys
    → map (seen_symbol false) (named_symbols ys names versions) ≡ named_symbols ys names (replicate (length ys) None)
unfolding named_symbols
unversioned [] names versions h = refl
unversioned (y ∷ ys) [] versions h = refl
unversioned (y ∷ ys) (name ∷ names) [] h = absurd (omega arith)
unversioned (y ∷ ys) (name ∷ names) (v ∷ versions) h =
    ap (λ l. record { name = name; st_info = y.st_info; st_other = y.st_other; st_shndx = y.st_shndx; st_value = y.st_value; st_size = y.st_size; version = None } ∷ l)
    (unversioned ys names versions (omega arith))

seen_named : (b : Bool) (ys : List SymbolNumbers) (names : List (List ℕ)) (versions : List (Option VersionId)) → length versions ≡ length ys
    → named_symbols ys names (seen_versions b (length ys) versions) ≡ map (seen_symbol b) (named_symbols ys names versions)
unfolding seen_versions
seen_named true ys names versions h = sym (map-id (named_symbols ys names versions))
seen_named false ys names versions h = sym (unversioned ys names versions h)

module _ (p : Parts) (rules : MeetsRules p) where
  -- the versions of all symbols
  versions_seen : (s : SectionHeader) → section_of_type SHT_DYNSYM p.sections ≡ Some s → (b : Bool) → (b ≡ true → is_some (section_of_type SHT_GNU_VERSYM p.sections) ≡ true)
      → symbol_versions p.opened.form b (s.sh_size / symbol_size p.opened.form) (section_memory (file_of p) (section_of_type SHT_GNU_VERSYM p.sections))
      ≡ Some (seen_versions b (s.sh_size / symbol_size p.opened.form) (versions_read p (section_of_type SHT_GNU_VERSYM p.sections) (s.sh_size / symbol_size p.opened.form)))
  unfolding symbol_versions seen_versions versions_read
  versions_seen s e false asked = refl
  versions_seen s e true asked =
      let count : ℕ = s.sh_size / symbol_size p.opened.form in
      let section : Option SectionHeader = section_of_type SHT_GNU_VERSYM p.sections in
      let (vs, vs_there) = there_if section (asked refl) in
      let body : List ℕ = section_bytes (file_of p) vs in
      let (here, bytes) = found_by_type p rules SHT_GNU_VERSYM refl vs vs_there in
      let (_, typed) = find_some (λ t. eqb t.sh_type SHT_GNU_VERSYM) p.sections vs vs_there in
      let right = test_at (λ t. version_symbols_agree p t) section vs (version_symbols_right p rules) vs_there in
      let counted = (and_parts (is_some_and (λ y. eqb (vs.sh_size / 2) (y.sh_size / symbol_size p.opened.form)) (section_of_type SHT_DYNSYM p.sections)) _ right).0 in
      let same : vs.sh_size / 2 ≡ count = eqb-true (vs.sh_size / 2) count (subst (λ o. is_some_and (λ y. eqb (vs.sh_size / 2) (y.sh_size / symbol_size p.opened.form)) o ≡ true) e counted) in
      let unit_is : unit_of p.opened.form vs ≡ 2 = unit_by_type vs (eqb-true vs.sh_type SHT_GNU_VERSYM typed) in
      let whole : vs.sh_size % 2 ≡ 0 = ap (λ u. vs.sh_size % u) (sym unit_is) ∙ whole_entries p rules vs here in
      let long : length body ≡ vs.sh_size = length-bytes p rules vs here bytes in
      let halves : (vs.sh_size / 2) * 2 ≡ vs.sh_size = whole_count vs.sh_size 2 (omega arith) whole in
      let all : count * 2 ≡ length body = ap (λ k. k * 2) (sym same) ∙ halves ∙ sym long in
      let read : List ℕ → Option (List (Option VersionId)) = λ c. Some (records (λ d. Some (version_id p.opened.form d)) 2 count c) in
      ap (λ o. bytes_at (count * 2) (section_memory (file_of p) o) 0 >>= read) vs_there
      ∙ some_bind (bytes_at (count * 2) (memory_of body) 0) read (field (count * 2) 0 body) (bytes_at-memory_of (count * 2) 0 body (omega arith))
      ∙ ap read (take_all (count * 2) body (omega arith))
      ∙ ap (λ o. Some (versions_read p o count)) (sym vs_there)
    where
      unit_by_type : (t : SectionHeader) → t.sh_type ≡ SHT_GNU_VERSYM → unit_of p.opened.form t ≡ 2
      unit_by_type t is = rw is refl

  -- the dynamic symbols, with names as far as DT_STRSZ says
  symbols_model : (s : SectionHeader) → section_of_type SHT_DYNSYM p.sections ≡ Some s → (b : Bool) → (b ≡ true → is_some (section_of_type SHT_GNU_VERSYM p.sections) ≡ true)
      → (ys : List NamedSymbol) → dynamic_symbols_read p (section_of_type SHT_DYNSYM p.sections) ≡ Some ys
      → dynamic_symbols p.opened.form (length (file_of p)) b (record { bytes = memory_of (section_bytes (file_of p) s); texts = linked_texts p s; count = s.sh_size / symbol_size p.opened.form })
      (section_memory (file_of p) (section_of_type SHT_GNU_VERSYM p.sections)) ≡ Some (map (seen_symbol b) ys)
  unfolding dynamic_symbols dynamic_symbols_read
  symbols_model s e b asked ys read =
      let form : Form = p.opened.form in
      let room : ℕ = length (file_of p) in
      let count : ℕ = s.sh_size / symbol_size form in
      let body : List ℕ = section_bytes (file_of p) s in
      let versioned : Option SectionHeader = section_of_type SHT_GNU_VERSYM p.sections in
      let versions : Memory = section_memory (file_of p) versioned in
      let texts : Memory = linked_texts p s in
      let rows : List ℕ → List SymbolNumbers = λ c. records (symbol_numbers form) (symbol_size form) count c in
      let numbers : List SymbolNumbers = symbols_of p s in
      let (here, typed) = find_some (λ t. eqb t.sh_type SHT_DYNSYM) p.sections s e in
      let long : length body ≡ s.sh_size = length-bytes p rules s here (found_by_type p rules SHT_DYNSYM refl s e).1 in
      let same : rows body ≡ numbers = ap (λ k. records (symbol_numbers form) (symbol_size form) (k / symbol_size form) body) (sym long) in
      let counted : length numbers ≡ count = ap length (sym same) ∙ length-records (symbol_numbers form) (symbol_size form) count body in
      let of_section : dynamic_symbols_read p (Some s) ≡ Some ys = ap (dynamic_symbols_read p) (sym e) ∙ read in
      let ids : List (Option VersionId) = versions_read p versioned (length numbers) in
      let (names, names_there, made) = bind_some (names_of room texts numbers) (λ ns. Some (named_symbols numbers ns ids)) ys of_section in
      let with_ids : symbol_versions form b count versions ≡ Some (seen_versions b (length numbers) ids) =
      versions_seen s e b asked ∙ ap (λ k. Some (seen_versions b k (versions_read p versioned k))) (sym counted) in
      let named : List SymbolNumbers → Option (List NamedSymbol) = λ ns. names_of room texts ns >>= (λ l. symbol_versions form b count versions >>= (λ is. Some (named_symbols ns l is))) in
      some_bind (bytes_at (count * symbol_size form) (memory_of body) 0) (λ c. named (rows c)) body (symbols_bytes p rules s here typed)
      ∙ ap named same
      ∙ some_bind (names_of room texts numbers) (λ l. symbol_versions form b count versions >>= (λ is. Some (named_symbols numbers l is))) names names_there
      ∙ some_bind (symbol_versions form b count versions) (λ is. Some (named_symbols numbers names is)) (seen_versions b (length numbers) ids) with_ids
      ∙ ap Some (seen_named b numbers names ids (length-versions_read p versioned (length numbers)) ∙ ap (map (seen_symbol b)) (same_Some (named_symbols numbers names ids) ys made))

  -- the defined versions, with names as far as DT_STRSZ says
  definitions_model : (s : SectionHeader) → section_of_type SHT_GNU_VERDEF p.sections ≡ Some s → (ds : List VersionDefinition) → definitions_read p (section_of_type SHT_GNU_VERDEF p.sections) ≡ Some ds
      → defined_versions p.opened.form (length (file_of p)) (record { bytes = memory_of (section_bytes (file_of p) s); texts = linked_texts p s; count = s.sh_info }) ≡ Some ds
  unfolding defined_versions whole_chain definitions_read
  definitions_model s e ds read =
      let steps = definition_steps p s in
      let whole : is_whole_walk s.sh_info steps ≡ true = test_at (λ t. is_whole_walk t.sh_info (definition_steps p t)) (section_of_type SHT_GNU_VERDEF p.sections) s (definitions_whole p rules) e in
      let of_section : definitions_read p (Some s) ≡ Some ds = ap (definitions_read p) (sym e) ∙ read in
      some_bind (cond (is_whole_walk s.sh_info steps) (Some (values_of steps)) None) (each (shown_definition (length (file_of p)) (linked_texts p s))) (values_of steps)
      (cond-true (is_whole_walk s.sh_info steps) (Some (values_of steps)) None whole)
      ∙ of_section

  -- the needed versions, with names as far as DT_STRSZ says
  needs_model : (s : SectionHeader) → section_of_type SHT_GNU_VERNEED p.sections ≡ Some s → (ns : List VersionNeeds) → needs_read p (section_of_type SHT_GNU_VERNEED p.sections) ≡ Some ns
      → needed_versions p.opened.form (length (file_of p)) (record { bytes = memory_of (section_bytes (file_of p) s); texts = linked_texts p s; count = s.sh_info }) ≡ Some ns
  unfolding needed_versions whole_chain needs_read
  needs_model s e ns read =
      let steps = need_steps p s in
      let whole : is_whole_walk s.sh_info steps ≡ true = test_at (λ t. is_whole_walk t.sh_info (need_steps p t)) (section_of_type SHT_GNU_VERNEED p.sections) s (needs_whole p rules) e in
      let of_section : needs_read p (Some s) ≡ Some ns = ap (needs_read p) (sym e) ∙ read in
      some_bind (cond (is_whole_walk s.sh_info steps) (Some (values_of steps)) None) (each (shown_need (length (file_of p)) (linked_texts p s))) (values_of steps)
      (cond-true (is_whole_walk s.sh_info steps) (Some (values_of steps)) None whole)
      ∙ of_section

-- ## With a dynamic list

module _ (p : Parts) (rules : MeetsRules p) (list : SectionHeader) (is_list : section_of_type SHT_DYNAMIC p.sections ≡ Some list) where
  -- the texts that a section links to keep those that end within DT_STRSZ
  texts_whole : (s : SectionHeader) → Keeps (linked_texts p s) (section_memory (file_of p) (linked_section p.sections s))
  texts_whole s = first_by_tag-Keeps (value_of_tag DT_STRSZ (raw_entries p)) (section_memory (file_of p) (linked_section p.sections s))

  -- the entries of the list
  pub entries_shown : (es : List Entry) → each (shown_entry (length (file_of p)) (linked_texts p list)) (raw_entries p) ≡ Some es
      → each (shown_entry (length (file_of p)) (section_memory (file_of p) (linked_section p.sections list))) (raw_entries p) ≡ Some es
  entries_shown es read =
      let room : ℕ = length (file_of p) in
      let texts : Memory = section_memory (file_of p) (linked_section p.sections list) in
      each-agrees (shown_entry room (linked_texts p list)) (shown_entry room texts) (shown_entry-keeps room room (nat_le_refl room) (linked_texts p list) texts (texts_whole list)) (raw_entries p) es read

  -- the section of a tag that holds its address is there
  tag_section : (tag : ℕ) (section : Option SectionHeader) → tag_is_address (raw_entries p) tag section ≡ true → has_tag tag (raw_entries p) ≡ true → (s : SectionHeader) × (section ≡ Some s)
  tag_section tag section right asked =
      let (value, value_there) = there_if (value_of_tag tag (raw_entries p)) asked in
      let (s, s_there, _) = there_and (λ t. is_allocated t && eqb t.sh_addr value) section (test_at (λ v. is_some_and (λ t. is_allocated t && eqb t.sh_addr v) section) (value_of_tag tag (raw_entries p)) value right value_there) in
      (s, s_there)

  -- the dynamic symbols
  pub symbols_shown : (ys : List NamedSymbol) → dynamic_symbols_read p (section_of_type SHT_DYNSYM p.sections) ≡ Some ys
      → when_wanted (has_tag DT_SYMTAB (raw_entries p)) (dynamic_symbols p.opened.form (length (file_of p)) (has_tag DT_VERSYM (raw_entries p))
      (section_table (file_of p) p.sections (λ s. s.sh_size / symbol_size p.opened.form) SHT_DYNSYM) (section_memory (file_of p) (section_of_type SHT_GNU_VERSYM p.sections)))
      ≡ Some (shown_if (has_tag DT_SYMTAB (raw_entries p)) (map (seen_symbol (has_tag DT_VERSYM (raw_entries p))) ys))
  symbols_shown ys read =
      let raw = raw_entries p in
      let file : List ℕ = file_of p in
      let form : Form = p.opened.form in
      let room : ℕ = length file in
      let b : Bool = has_tag DT_VERSYM raw in
      let section : Option SectionHeader = section_of_type SHT_DYNSYM p.sections in
      let versioned : Option SectionHeader = section_of_type SHT_GNU_VERSYM p.sections in
      let versions : Memory = section_memory file versioned in
      let count : SectionHeader → ℕ = λ s. s.sh_size / symbol_size form in
      let address = (and_parts (tag_is_address raw DT_SYMTAB section) _ (symbols_right p rules list is_list)).0 in
      let versions_address = (and_parts (tag_is_address raw DT_VERSYM versioned) (records_agree p DT_VERDEF DT_VERDEFNUM SHT_GNU_VERDEF) (and_parts _ _ (versions_right p rules list is_list)).0).0 in
      let versions_there = λ (asked : has_tag DT_VERSYM raw ≡ true). let (vs, vs_there) = tag_section DT_VERSYM versioned versions_address asked in ap is_some vs_there in
      asked_shown (has_tag DT_SYMTAB raw) _ (map (seen_symbol b) ys) (λ asked.
      let (s, s_there) = tag_section DT_SYMTAB section address asked in
      let body : Memory = memory_of (section_bytes file s) in
      ap (λ t. dynamic_symbols form room b t versions) (table_there p rules count SHT_DYNSYM s s_there)
      ∙ dynamic_symbols-keeps form room room (nat_le_refl room) b (count s) body body (linked_texts p s) (section_memory file (linked_section p.sections s)) versions versions
      (Keeps-refl body) (texts_whole s) (λ _. Keeps-refl versions) (map (seen_symbol b) ys) (symbols_model p rules s s_there b versions_there ys read))

  -- records of versions
  records_shown : {A : Type 0} → (decode : ℕ → Table → Option (List A)) (tag count_tag type : ℕ) (xs : List A)
      → ((count : ℕ) (f g t u : Memory) → Keeps f g → Keeps t u → Agrees (decode (length (file_of p)) (record { bytes = f; texts = t; count = count })) (decode (length (file_of p)) (record { bytes = g; texts = u; count = count })))
      → ((s : SectionHeader) → section_of_type type p.sections ≡ Some s → decode (length (file_of p)) (record { bytes = memory_of (section_bytes (file_of p) s); texts = linked_texts p s; count = s.sh_info }) ≡ Some xs)
      → records_agree p tag count_tag type ≡ true
      → when_wanted (has_tag tag (raw_entries p) && has_tag count_tag (raw_entries p)) (decode (length (file_of p)) (section_table (file_of p) p.sections (λ s. s.sh_info) type))
      ≡ Some (shown_if (has_tag tag (raw_entries p) && has_tag count_tag (raw_entries p)) xs)
  records_shown decode tag count_tag type xs keeps seen right =
      let raw = raw_entries p in
      let file : List ℕ = file_of p in
      let section : Option SectionHeader = section_of_type type p.sections in
      let address = (and_parts (tag_is_address raw tag section) (tag_fits raw count_tag section (λ value s. eqb s.sh_info value)) right).0 in
      asked_shown (has_tag tag raw && has_tag count_tag raw) _ xs (λ asked.
      let (s, s_there) = tag_section tag section address (and_parts (has_tag tag raw) (has_tag count_tag raw) asked).0 in
      let body : Memory = memory_of (section_bytes file s) in
      ap (decode (length file)) (table_there p rules (λ t. t.sh_info) type s s_there)
      ∙ keeps s.sh_info body body (linked_texts p s) (section_memory file (linked_section p.sections s)) (Keeps-refl body) (texts_whole s) xs (seen s s_there))

  -- the defined versions
  pub definitions_shown : (ds : List VersionDefinition) → definitions_read p (section_of_type SHT_GNU_VERDEF p.sections) ≡ Some ds
      → when_wanted (has_tag DT_VERDEF (raw_entries p) && has_tag DT_VERDEFNUM (raw_entries p)) (defined_versions p.opened.form (length (file_of p)) (section_table (file_of p) p.sections (λ s. s.sh_info) SHT_GNU_VERDEF))
      ≡ Some (shown_if (has_tag DT_VERDEF (raw_entries p) && has_tag DT_VERDEFNUM (raw_entries p)) ds)
  definitions_shown ds read =
      let room : ℕ = length (file_of p) in
      records_shown (defined_versions p.opened.form) DT_VERDEF DT_VERDEFNUM SHT_GNU_VERDEF ds (defined_versions-keeps p.opened.form room room (nat_le_refl room))
      (λ s e. definitions_model p rules s e ds read) (and_parts _ _ (and_parts _ _ (versions_right p rules list is_list)).0).1

  -- the needed versions
  pub needs_shown : (ns : List VersionNeeds) → needs_read p (section_of_type SHT_GNU_VERNEED p.sections) ≡ Some ns
      → when_wanted (has_tag DT_VERNEED (raw_entries p) && has_tag DT_VERNEEDNUM (raw_entries p)) (needed_versions p.opened.form (length (file_of p)) (section_table (file_of p) p.sections (λ s. s.sh_info) SHT_GNU_VERNEED))
      ≡ Some (shown_if (has_tag DT_VERNEED (raw_entries p) && has_tag DT_VERNEEDNUM (raw_entries p)) ns)
  needs_shown ns read =
      let room : ℕ = length (file_of p) in
      records_shown (needed_versions p.opened.form) DT_VERNEED DT_VERNEEDNUM SHT_GNU_VERNEED ns (needed_versions-keeps p.opened.form room room (nat_le_refl room))
      (λ s e. needs_model p rules s e ns read) (and_parts _ _ (versions_right p rules list is_list)).1
