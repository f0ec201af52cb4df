-- The versions of a written file agree.
use Rattle.std.proofs.Common.{◌≡◌, ◌⊎◌, ℕ, zero, suc, ◌*◌, ◌/◌, Bool, true, false, eqb, List, [], ◌∷◌, ◌++◌, length, map, take, drop, refl, sym, ap, ◌∙◌, subst, inl, inr, Option, Some, None, arith}
use Rattle.std.specs.Prelude.{IsTrue, ◌&&◌, ◌||◌, not, nat_lt, ◌==◌, option_map}
use Rattle.std.specs.List.{flat_map, list_all, slice_get}
use Rattle.std.proofs.lemmas.Bool.{and_from, and_parts, both_ways, eq-eqb, eqb-true, false≢true, ne_eqb, not-true, or_cases}
use Rattle.std.proofs.lemmas.Option.{none-some, same_Some, slice_get-map}
use Rattle.patch_bytes.specs.Memory.{◌>>=◌, Memory, text_at}
use Rattle.patch_bytes.proofs.MemoryLaws.{bind_some}
use Rattle.elf_format.specs.declared.constants.TheConstants.{SHT_DYNAMIC, SHT_DYNSYM, SHT_GNU_VERDEF, SHT_GNU_VERNEED, SHT_GNU_VERSYM, SHT_NULL, VER_NDX_FIRST}
use Rattle.elf_format.specs.declared.form.Form.{Form}
use Rattle.elf_format.specs.declared.records.NeedNameNumbers.{NeedNameNumbers}
use Rattle.elf_format.specs.declared.records.SectionHeader.{SectionHeader}
use Rattle.elf_format.specs.declared.version_id.VersionId.{VersionId}
use Rattle.elf_format.specs.File.{Parts, section_bytes, section_of_type}
use Rattle.elf_format.specs.Form.{records}
use Rattle.elf_format.specs.Image.{Image, definitions_read, needs_read, symbols_of, versions_read}
use Rattle.elf_format.specs.Options.{each, first_there, is_none_or, is_one_of, is_some_and, list_at}
use Rattle.elf_format.specs.Records.{symbol_numbers, symbol_size}
use Rattle.elf_format.specs.Rules.{are_dynamic_strings_own, are_versions_right, definition_steps, dynamic_strings_user, file_of, known_versions, linked_texts, need_steps, text_users, version_symbols_agree}
use Rattle.elf_format.specs.Versions.{DefinitionNumbers, NeedNumbers, VersionDefinition, VersionName, VersionNeeds, is_whole_walk, shown_definition, shown_need, shown_need_name, values_of, version_id}
use Rattle.elf_format.proofs.ForCallers.Placed.{IsIn-slice_get}
use Rattle.elf_format.proofs.ForCallers.ViewsAgree.{length-bytes, test_at, there_and, version_symbols_right}
use Rattle.elf_format.specs.Views.{NamedSymbol}
use Rattle.elf_image.specs.Edited.{AreSameNeeds}
use Rattle.elf_image.specs.Kept.{image_at_read}
use Rattle.elf_image.specs.ReadImage.{AreDynamicSymbols}
use Rattle.elf_image.proofs.ForCallers.NeedsKept.{versions_same}
use Rattle.elf_image.specs.EditedList.{as_global, global_version}
use Rattle.elf_layout_plan.specs.Needs.{is_version_used, written_needs}
use Rattle.elf_write_spec.specs.Final.{final}
use Rattle.elf_write_spec.specs.ReadBack.{HasWrittenParts, written_parts}
use Rattle.elf_write_spec.specs.Output.{IsPlannedOutput, Output, written_bytes}
use Rattle.elf_write_spec.proofs.ContentsReadBack.{bytes_are, linked_at, size_is, versym_content}
use Rattle.elf_write_spec.proofs.LinkedMatch.{Both, LinkAt, Neither, link_at, names_link}
use Rattle.elf_write_spec.proofs.DynamicReadBack.{dynamic_count}
use Rattle.elf_write_spec.proofs.FinalSymbols.{SymbolRead, final_at}
use Rattle.elf_write_spec.proofs.RecordsReadBack.{definitions_read_back, definitions_at, needs_read_back, needs_at}
use Rattle.elf_write_spec.proofs.StayingVersions.{one_left, one_of_both, one_right, version_used, written_stays}
use Rattle.elf_write_spec.proofs.WholeEdits.{needs_written}
use Rattle.elf_write_spec.proofs.WholeFacts.{ReadFacts, SectionAt, There, Nowhere, TypeAt, read_facts, section_at_header, type_at}
use Rattle.elf_write_spec.proofs.WholeLists.{all-each, mapped_at}
use Rattle.elf_format.proofs.ForCallers.Lengths.{length-records}

-- ## Indices

-- a defined version keeps its index
definition_index : (room : ℕ) (texts : Memory) (d : DefinitionNumbers) (v : VersionDefinition) → shown_definition room texts d ≡ Some v
    → d.index ≡ v.index
unfolding shown_definition
definition_index room texts d v h =
    let (names, _, made) = bind_some (each (text_at room texts) d.names)
    (λ ns. Some (record { index = d.index; flags = d.flags; names = ns })) v h in
    ap (λ (x : VersionDefinition). x.index) (same_Some (record { index = d.index; flags = d.flags; names = names }) v made)

name_index : (room : ℕ) (texts : Memory) (n : NeedNameNumbers) (v : VersionName) → shown_need_name room texts n ≡ Some v → n.index ≡ v.index
unfolding shown_need_name
name_index room texts n v h =
    let (name, _, made) = bind_some (text_at room texts n.name) (λ x. Some (record { index = n.index; name = x; flags = n.flags })) v h in
    ap (λ (x : VersionName). x.index) (same_Some (record { index = n.index; name = name; flags = n.flags }) v made)

-- what is kept of each is kept of all
mapped : {A B C : Type 0} (show : A → Option B) (f : A → C) (g : B → C) → ((x : A) (y : B) → show x ≡ Some y → f x ≡ g y)
    → (xs : List A) (ys : List B) → each show xs ≡ Some ys → map f xs ≡ map g ys
unfolding each
mapped {A} {B} {C} show f g same [] ys h = ap (λ (l : List B). map g l) (same_Some [] ys h)
mapped {A} {B} {C} show f g same (x ∷ xs) ys h =
    let (y, y_there, more) = bind_some (show x) (λ z. each show xs >>= λ zs. Some (z ∷ zs)) ys h in
    let (zs, zs_there, made) = bind_some (each show xs) (λ zs. Some (y ∷ zs)) ys more in
    ap (λ (c : C). c ∷ map f xs) (same x y y_there) ∙ ap (λ (l : List C). g y ∷ l) (mapped show f g same xs zs zs_there)
    ∙ ap (λ (l : List B). map g l) (same_Some (y ∷ zs) ys made)

joined : {A B C : Type 0} (show : A → Option B) (f : A → List C) (g : B → List C) → ((x : A) (y : B) → show x ≡ Some y → f x ≡ g y)
    → (xs : List A) (ys : List B) → each show xs ≡ Some ys → flat_map f xs ≡ flat_map g ys
unfolding each
joined {A} {B} {C} show f g same [] ys h = ap (λ (l : List B). flat_map g l) (same_Some [] ys h)
joined {A} {B} {C} show f g same (x ∷ xs) ys h =
    let (y, y_there, more) = bind_some (show x) (λ z. each show xs >>= λ zs. Some (z ∷ zs)) ys h in
    let (zs, zs_there, made) = bind_some (each show xs) (λ zs. Some (y ∷ zs)) ys more in
    ap (λ (l : List C). l ++ flat_map f xs) (same x y y_there) ∙ ap (λ (l : List C). g y ++ l) (joined show f g same xs zs zs_there)
    ∙ ap (λ (l : List B). flat_map g l) (same_Some (y ∷ zs) ys made)

need_indices : (room : ℕ) (texts : Memory) (n : NeedNumbers) (v : VersionNeeds) → shown_need room texts n ≡ Some v
    → map (λ x. x.index) n.versions ≡ map (λ x. x.index) v.versions
unfolding shown_need
need_indices room texts n v h =
    let shown : List ℕ → List VersionName → Option VersionNeeds = λ file versions. Some (record { file = file; versions = versions }) in
    let (file, _, more) = bind_some (text_at room texts n.file)
    (λ file. each (shown_need_name room texts) n.versions >>= (shown file)) v h in
    let (versions, there, made) = bind_some (each (shown_need_name room texts) n.versions) (shown file) v more in
    mapped (shown_need_name room texts) (λ (x : NeedNameNumbers). x.index) (λ (x : VersionName). x.index)
    (name_index room texts) n.versions versions there
    ∙ ap (λ (y : VersionNeeds). map (λ (x : VersionName). x.index) y.versions)
    (same_Some (record { file = file; versions = versions }) v made)

-- the indices of all versions, by what is shown of these
shown_indices : List VersionDefinition → List VersionNeeds → List ℕ
shown_indices ds ns = map (λ d. d.index) ds ++ flat_map (λ n. map (λ v. v.index) n.versions) ns

module _ (p : Parts) where
  definition_indices : (o : Option SectionHeader) (ds : List VersionDefinition) → definitions_read p o ≡ Some ds
      → list_at (λ s. map (λ d. d.index) (values_of (definition_steps p s))) o ≡ map (λ d. d.index) ds
  unfolding definitions_read
  definition_indices None ds h = ap (λ (l : List VersionDefinition). map (λ (d : VersionDefinition). d.index) l) (same_Some [] ds h)
  definition_indices (Some s) ds h =
      mapped (shown_definition (length (file_of p)) (linked_texts p s)) (λ (d : DefinitionNumbers). d.index)
      (λ (d : VersionDefinition). d.index)
      (definition_index (length (file_of p)) (linked_texts p s)) (values_of (definition_steps p s)) ds h

  all_need_indices : (o : Option SectionHeader) (ns : List VersionNeeds) → needs_read p o ≡ Some ns
      → list_at (λ s. flat_map (λ n. map (λ v. v.index) n.versions) (values_of (need_steps p s))) o
      ≡ flat_map (λ n. map (λ v. v.index) n.versions) ns
  unfolding needs_read
  all_need_indices None ns h =
      ap (λ (l : List VersionNeeds). flat_map (λ (n : VersionNeeds). map (λ (v : VersionName). v.index) n.versions) l) (same_Some [] ns h)
  all_need_indices (Some s) ns h =
      joined (shown_need (length (file_of p)) (linked_texts p s)) (λ (n : NeedNumbers). map (λ (v : NeedNameNumbers). v.index) n.versions)
      (λ (n : VersionNeeds). map (λ (v : VersionName). v.index) n.versions)
      (need_indices (length (file_of p)) (linked_texts p s)) (values_of (need_steps p s)) ns h

  known_are : (ds : List VersionDefinition) (ns : List VersionNeeds)
      → definitions_read p (section_of_type SHT_GNU_VERDEF p.sections) ≡ Some ds
      → needs_read p (section_of_type SHT_GNU_VERNEED p.sections) ≡ Some ns → known_versions p ≡ shown_indices ds ns
  unfolding shown_indices
  known_are ds ns d n =
      ap (λ (l : List ℕ). l ++ list_at (λ s. flat_map (λ n. map (λ v. v.index) n.versions) (values_of (need_steps p s)))
      (section_of_type SHT_GNU_VERNEED p.sections))
      (definition_indices (section_of_type SHT_GNU_VERDEF p.sections) ds d)
      ∙ ap (λ (l : List ℕ). map (λ (x : VersionDefinition). x.index) ds ++ l)
      (all_need_indices (section_of_type SHT_GNU_VERNEED p.sections) ns n)

-- the indices of needed versions are those of each library, one after the other
by_library : (ns : List VersionNeeds)
    → flat_map (λ n. map (λ v. v.index) n.versions) ns ≡ flat_map (λ l. l) (map (λ n. map (λ v. v.index) n.versions) ns)
by_library [] = refl
by_library (n ∷ ns) = ap (λ (l : List ℕ). map (λ (v : VersionName). v.index) n.versions ++ l) (by_library ns)

-- the indices of versions stay where libraries have other names
renamed_indices : (ds : List VersionDefinition) (read now : List VersionNeeds) → AreSameNeeds read now → shown_indices ds now ≡ shown_indices ds read
unfolding shown_indices
renamed_indices ds read now same =
    ap (λ (l : List ℕ). map (λ (d : VersionDefinition). d.index) ds ++ l)
    (by_library now
    ∙ ap (λ (ls : List (List ℕ)). flat_map (λ l. l) ls) (versions_same (λ (vs : List VersionName). map (λ (v : VersionName). v.index) vs) read now same)
    ∙ sym (by_library read))

-- of which those of definitions stay, and so do those of needed versions that still are there
indices_stay : (ds : List VersionDefinition) (ns now : List VersionNeeds) (n : ℕ)
    → (is_one_of (flat_map (λ x. map (λ v. v.index) x.versions) ns) n ≡ true
    → is_one_of (flat_map (λ x. map (λ v. v.index) x.versions) now) n ≡ true)
    → is_one_of (shown_indices ds ns) n ≡ true → is_one_of (shown_indices ds now) n ≡ true
unfolding shown_indices
indices_stay ds ns now n stays h =
    let defined : List ℕ = map (λ (d : VersionDefinition). d.index) ds in
    let needed : List ℕ = flat_map (λ (x : VersionNeeds). map (λ (v : VersionName). v.index) x.versions) ns in
    let left : List ℕ = flat_map (λ (x : VersionNeeds). map (λ (v : VersionName). v.index) x.versions) now in
    elim (or_cases (is_one_of defined n) (is_one_of needed n) (one_of_both defined needed n h)) [
      | inl here ↦ one_left defined left n here
      | inr there ↦ one_right defined left n (stays there)
    ]

-- ## Versions

-- records that are read as values that are there
records-some : {A : Type 0} (decode : List ℕ → A) (size count : ℕ) (bytes : List ℕ)
    → records (λ b. Some (decode b)) size count bytes ≡ map (λ (x : A). Some x) (records decode size count bytes)
unfolding records
records-some decode size zero bytes = refl
records-some {A} decode size (suc count) bytes =
    ap (λ (l : List (Option A)). Some (decode (take size bytes)) ∷ l) (records-some decode size count (drop size bytes))

some_inside : {A : Type 0} (o : Option A) (x : A) → option_map (λ (y : A). Some y) o ≡ Some (Some x) → o ≡ Some x
some_inside None x h = absurd (none-some (Some x) h)
some_inside (Some y) x h = same_Some (Some y) (Some x) h

-- a version that was cleared is that of a global symbol
cleared_global : (old : Option VersionId) (v : VersionId) → as_global old ≡ Some v → v ≡ global_version
cleared_global None v h = absurd (none-some v h)
cleared_global (Some u) v h = sym (same_Some global_version v h)

-- ## The parts of the rule

module _ (w : Output) (is : IsPlannedOutput w) (has : HasWrittenParts w) (f : ReadFacts w) where
  abbrev read : Image
  read = image_at_read w.image

  abbrev symbols_now : List NamedSymbol
  symbols_now = (final read w.image).dynamic_symbols

  -- a version that was known still is where a symbol has it
  known_stays : (n : ℕ) → is_one_of (known_versions f.parts) n ≡ true → is_version_used w.image.dynamic_symbols n ≡ true
      → is_one_of (known_versions (written_parts w)) n ≡ true
  known_stays n known used =
      let was : known_versions f.parts ≡ shown_indices w.image.definitions w.image.needs =
      known_are f.parts read.definitions read.needs f.holds.definitions f.holds.needs
      ∙ ap (λ (ds : List VersionDefinition). shown_indices ds read.needs) (sym f.edit.definitions)
      ∙ sym (renamed_indices w.image.definitions read.needs w.image.needs f.edit.needs.same) in
      let now : known_versions (written_parts w) ≡ shown_indices w.image.definitions (written_needs read w.image) =
      known_are (written_parts w) w.image.definitions (final read w.image).needs (definitions_read_back w is has) (needs_read_back w is has)
      ∙ ap (shown_indices w.image.definitions) (needs_written read w.image) in
      ap (λ (l : List ℕ). is_one_of l n) now
      ∙ indices_stay w.image.definitions w.image.needs (written_needs read w.image) n (written_stays read w.image n used)
      (ap (λ (l : List ℕ). is_one_of l n) (sym was) ∙ known)

  definitions_walk : is_none_or (λ s. is_whole_walk s.sh_info (definition_steps (written_parts w) s))
      (section_of_type SHT_GNU_VERDEF w.headers) ≡ true
  definitions_walk =
      let test : SectionHeader → Bool = λ s. is_whole_walk s.sh_info (definition_steps (written_parts w) s) in
      elim (type_at w is f SHT_GNU_VERDEF refl) [
        | Nowhere was now none ↦ ap (is_none_or test) now
        | There i at e was now there ↦ ap (is_none_or test) now ∙ (definitions_at w is has f i at e was).whole
      ]

  needs_walk : is_none_or (λ s. is_whole_walk s.sh_info (need_steps (written_parts w) s)) (section_of_type SHT_GNU_VERNEED w.headers) ≡ true
  needs_walk =
      let test : SectionHeader → Bool = λ s. is_whole_walk s.sh_info (need_steps (written_parts w) s) in
      elim (type_at w is f SHT_GNU_VERNEED refl) [
        | Nowhere was now none ↦ ap (is_none_or test) now
        | There i at e was now there ↦ ap (is_none_or test) now ∙ (needs_at w is has f i at e was).whole
      ]

  -- as many dynamic symbols as the size of their section says
  module _ (k : ℕ) (symbols : SectionAt w f.parts k) (typed : symbols.old.sh_type ≡ SHT_DYNSYM) where
    new_count : length (symbols_of (written_parts w) symbols.header) ≡ symbols.header.sh_size / symbol_size w.image.form
    new_count =
        let size : length (section_bytes (written_bytes w) symbols.header) ≡ symbols.header.sh_size =
        ap length (bytes_are w is has f k symbols) ∙ size_is w is f k symbols SHT_DYNSYM typed refl ∙ sym symbols.size in
        length-records (symbol_numbers w.image.form) (symbol_size w.image.form)
        (length (section_bytes (written_bytes w) symbols.header) / symbol_size w.image.form)
        (section_bytes (written_bytes w) symbols.header)
        ∙ ap (λ (n : ℕ). n / symbol_size w.image.form) size

    old_count : length (symbols_of f.parts symbols.old) ≡ symbols.old.sh_size / symbol_size f.parts.opened.form
    old_count =
        let size : length (section_bytes (file_of f.parts) symbols.old) ≡ symbols.old.sh_size =
        length-bytes f.parts f.rules symbols.old (IsIn-slice_get f.parts.sections symbols.number symbols.old symbols.is_old)
        (ap (λ t. not (eqb t 0) && not (eqb t 8)) typed) in
        length-records (symbol_numbers f.parts.opened.form) (symbol_size f.parts.opened.form)
        (length (section_bytes (file_of f.parts) symbols.old) / symbol_size f.parts.opened.form)
        (section_bytes (file_of f.parts) symbols.old)
        ∙ ap (λ (n : ℕ). n / symbol_size f.parts.opened.form) size

  module _ (j : ℕ) (at : SectionAt w f.parts j) (e : at.old.sh_type ≡ SHT_GNU_VERSYM)
      (was : section_of_type SHT_GNU_VERSYM f.parts.sections ≡ Some at.old) (agreed : version_symbols_agree f.parts at.old ≡ true) where
    -- a version for each symbol
    versym_count : at.header.sh_size / 2 ≡ length symbols_now
    versym_count =
        let size : at.header.sh_size ≡ 2 * length symbols_now =
        at.size ∙ sym (size_is w is f j at SHT_GNU_VERSYM e refl) ∙ (versym_content w is f j at e).sized in
        ap (λ (n : ℕ). n / 2) size ∙ omega arith

    symbols_counted : is_some_and (λ symbols. at.header.sh_size / 2 == symbols.sh_size / symbol_size w.image.form)
        (section_of_type SHT_DYNSYM w.headers) ≡ true
    symbols_counted =
        let old_test : SectionHeader → Bool = λ symbols. at.old.sh_size / 2 == symbols.sh_size / symbol_size f.parts.opened.form in
        let new_test : SectionHeader → Bool = λ symbols. at.header.sh_size / 2 == symbols.sh_size / symbol_size w.image.form in
        let (s, s_there, _) = there_and old_test (section_of_type SHT_DYNSYM f.parts.sections) (and_parts _ _ agreed).0 in
        elim (type_at w is f SHT_DYNSYM refl) [
          | Nowhere none now gone ↦ absurd (none-some s (sym none ∙ s_there))
          | There k symbols typed found now there ↦
              ap (is_some_and new_test) now
              ∙ eq-eqb (at.header.sh_size / 2) (symbols.header.sh_size / symbol_size w.image.form)
              (versym_count ∙ sym (dynamic_count w is has f k symbols typed found) ∙ new_count k symbols typed)
        ]

    abbrev passes : List ℕ → VersionId → Bool
    passes known v = nat_lt v.index VER_NDX_FIRST || is_one_of known v.index

    -- the version that a symbol had was known
    old_passes : (k : ℕ) (y : NamedSymbol) (v : VersionId) → slice_get read.dynamic_symbols k ≡ Some y → y.version ≡ Some v
        → passes (known_versions f.parts) v ≡ true
    unfolding versions_read
    old_passes k y v at_k has_v =
        let old_test : SectionHeader → Bool = λ symbols. at.old.sh_size / 2 == symbols.sh_size / symbol_size f.parts.opened.form in
        let (s, s_there, counted) = there_and old_test (section_of_type SHT_DYNSYM f.parts.sections) (and_parts _ _ agreed).0 in
        elim (type_at w is f SHT_DYNSYM refl) [
          | Nowhere none now gone ↦ absurd (none-some s (sym none ∙ s_there))
          | There m symbols typed found now there ↦
              let p : Parts = f.parts in
              let bytes : List ℕ = section_bytes (file_of p) at.old in
              let count : ℕ = length (symbols_of p symbols.old) in
              let are = subst (λ o. AreDynamicSymbols p (section_of_type SHT_GNU_VERSYM p.sections) o read.dynamic_symbols) found
              f.holds.dynamic_symbols in
              let (n, version, _, version_at, is_y) = are.each k y at_k in
              let own : version ≡ Some v = sym (ap (λ (z : NamedSymbol). z.version) is_y.fields) ∙ has_v in
              let here : slice_get (map (λ (u : VersionId). Some u) (records (version_id p.opened.form) 2 count bytes)) k ≡ Some (Some v) =
              ap (λ (l : List (Option VersionId)). slice_get l k) (sym (records-some (version_id p.opened.form) 2 count bytes))
              ∙ ap (λ (o : Option SectionHeader). slice_get (versions_read p o count) k) (sym was)
              ∙ version_at ∙ ap (λ (o : Option VersionId). Some o) own in
              let id_at : slice_get (records (version_id p.opened.form) 2 count bytes) k ≡ Some v =
              some_inside (slice_get (records (version_id p.opened.form) 2 count bytes) k) v
              (sym (slice_get-map (λ (u : VersionId). Some u) (records (version_id p.opened.form) 2 count bytes) k) ∙ here) in
              let same : s ≡ symbols.old = same_Some s symbols.old (sym s_there ∙ found) in
              let long : at.old.sh_size / 2 ≡ count =
              eqb-true (at.old.sh_size / 2) (s.sh_size / symbol_size p.opened.form) counted
              ∙ ap (λ (h : SectionHeader). h.sh_size / symbol_size p.opened.form) same ∙ sym (old_count m symbols typed) in
              (IsIn-slice_get (records (version_id p.opened.form) 2 count bytes) k v id_at).passes (passes (known_versions p))
              (ap (λ (c : ℕ). list_all (passes (known_versions p)) (records (version_id p.opened.form) 2 c bytes)) (sym long)
              ∙ (and_parts _ _ agreed).1)
        ]

    -- the version that a symbol has is known
    symbol_passes : (y : NamedSymbol) → SymbolRead read w.image y → (v : VersionId) → y.version ≡ Some v
        → passes (known_versions (written_parts w)) v ≡ true
    symbol_passes y r v has_v = elim r.same.1 [
      | inl kept ↦
          let used : is_version_used w.image.dynamic_symbols v.index ≡ true =
          version_used w.image.dynamic_symbols r.position y v r.is_there has_v in
          elim (or_cases (nat_lt v.index VER_NDX_FIRST) (is_one_of (known_versions f.parts) v.index)
          (old_passes r.number r.old v r.is_old (sym kept ∙ has_v))) [
            | inl low ↦ ap (λ (b : Bool). b || is_one_of (known_versions (written_parts w)) v.index) low
            | inr known ↦
                ap (λ (b : Bool). nat_lt v.index VER_NDX_FIRST || b) (known_stays v.index known used)
                ∙ either (nat_lt v.index VER_NDX_FIRST)
          ]
      | inr cleared ↦
          let global : v ≡ global_version = cleared_global r.old.version v (sym cleared ∙ has_v) in
          ap (λ (u : VersionId). nat_lt u.index VER_NDX_FIRST || is_one_of (known_versions (written_parts w)) u.index) global
    ]
      where
        either : (b : Bool) → (b || true) ≡ true
        either true = refl
        either false = refl

    versym_agree : version_symbols_agree (written_parts w) at.header ≡ true
    versym_agree =
        let form : Form = w.image.form in
        let bytes : List ℕ = section_bytes (written_bytes w) at.header in
        let ids : List VersionId = records (version_id form) 2 (at.header.sh_size / 2) bytes in
        let are : map (λ (u : VersionId). Some u) ids ≡ map (λ (y : NamedSymbol). y.version) symbols_now =
        sym (records-some (version_id form) 2 (at.header.sh_size / 2) bytes)
        ∙ ap (λ (n : ℕ). records (λ b. Some (version_id form b)) 2 n bytes) versym_count
        ∙ ap (λ (xs : List ℕ). records (λ b. Some (version_id form b)) 2 (length symbols_now) xs) (bytes_are w is has f j at)
        ∙ (versym_content w is f j at e).versions in
        and_from _ (list_all (passes (known_versions (written_parts w))) ids) symbols_counted
        (all-each (passes (known_versions (written_parts w))) ids (λ i v v_at.
        let here : option_map (λ (y : NamedSymbol). y.version) (slice_get symbols_now i) ≡ Some (Some v) =
        sym (slice_get-map (λ (y : NamedSymbol). y.version) symbols_now i)
        ∙ ap (λ (l : List (Option VersionId)). slice_get l i) (sym are)
        ∙ slice_get-map (λ (u : VersionId). Some u) ids i ∙ ap (option_map (λ (u : VersionId). Some u)) v_at in
        let (y, y_at, has_v) = mapped_at (λ (y : NamedSymbol). y.version) (slice_get symbols_now i) (Some v) here in
        let (x, r, made) = final_at read w.image f i y y_at in
        symbol_passes x r v (ap (λ (z : NamedSymbol). z.version) (sym made) ∙ has_v)))

  symbols_agree : is_none_or (λ s. version_symbols_agree (written_parts w) s) (section_of_type SHT_GNU_VERSYM w.headers) ≡ true
  symbols_agree = elim (type_at w is f SHT_GNU_VERSYM refl) [
    | Nowhere was now none ↦ ap (is_none_or (λ (s : SectionHeader). version_symbols_agree (written_parts w) s)) now
    | There j at e was now there ↦
        ap (is_none_or (λ (s : SectionHeader). version_symbols_agree (written_parts w) s)) now
        ∙ versym_agree j at e was (test_at (λ (s : SectionHeader). version_symbols_agree f.parts s)
        (section_of_type SHT_GNU_VERSYM f.parts.sections) at.old
        (version_symbols_right f.parts f.rules) was)
  ]

  -- a section may link to a table of a user
  own_test : ℕ → SectionHeader → Bool
  own_test link s = not (s.sh_link == link) || is_one_of (SHT_NULL ∷ SHT_DYNAMIC ∷ SHT_DYNSYM ∷ SHT_GNU_VERDEF ∷ SHT_GNU_VERNEED ∷
      []) s.sh_type

  -- a section that links elsewhere at read links elsewhere now
  other_link : (k : ℕ) (to : SectionAt w f.parts k) (i : ℕ) (at : SectionAt w f.parts i) → (at.old.sh_type == SHT_NULL) ≡ false
      → (at.old.sh_link == to.number) ≡ false → (at.header.sh_link == k) ≡ false
  other_link k to i at some other = by_link (link_at w is f i at.old.sh_link at (names_link at some))
    where
      by_link : LinkAt w f.parts at.old.sh_link → (at.header.sh_link == k) ≡ false
      by_link (Neither old_none none) =
          ne_eqb at.header.sh_link k (λ e. none-some to.header
          (sym none ∙ ap (slice_get w.headers) (sym at.link ∙ e) ∙ to.is_header))
      by_link (Both j l there new number) =
          ne_eqb at.header.sh_link k (λ e.
          let here : j ≡ k = sym new ∙ sym at.link ∙ e in
          let same : l.number ≡ to.number =
          same_Some l.number to.number (sym l.is_number ∙ ap (slice_get w.image.section_numbers) here ∙ to.is_number) in
          both_ways (at.old.sh_link == to.number) other (eq-eqb at.old.sh_link to.number (sym number ∙ same)))

  not_null : (type : ℕ) → is_one_of (SHT_NULL ∷ SHT_DYNAMIC ∷ SHT_DYNSYM ∷ SHT_GNU_VERDEF ∷ SHT_GNU_VERNEED ∷ []) type ≡ false → (type == SHT_NULL) ≡ false
  not_null type other = ne_eqb type SHT_NULL (λ e. false≢true (sym other
      ∙ ap (is_one_of (SHT_NULL ∷ SHT_DYNAMIC ∷ SHT_DYNSYM ∷ SHT_GNU_VERDEF ∷ SHT_GNU_VERNEED ∷ [])) e))

  all_own : (k : ℕ) (to : SectionAt w f.parts k) → list_all (own_test to.number) f.parts.sections ≡ true → list_all (own_test k) w.headers ≡ true
  unfolding own_test
  all_own k to all =
      let users : List ℕ = SHT_NULL ∷ SHT_DYNAMIC ∷ SHT_DYNSYM ∷ SHT_GNU_VERDEF ∷ SHT_GNU_VERNEED ∷ [] in
      all-each (own_test k) w.headers (λ i h there.
      let (at, same_header) = section_at_header w is f i h there in
      let here : own_test to.number at.old ≡ true =
      (IsIn-slice_get f.parts.sections at.number at.old at.is_old).passes (own_test to.number) all in
      ap (own_test k) (sym same_header)
      ∙ ap (λ (n : ℕ). not (at.header.sh_link == k) || is_one_of users n) at.type
      ∙ by_type i at (is_one_of users at.old.sh_type) refl (or_cases (not (at.old.sh_link == to.number)) (is_one_of users at.old.sh_type) here))
    where
      either : (b : Bool) → (b || true) ≡ true
      either true = refl
      either false = refl

      by_type : (i : ℕ) (at : SectionAt w f.parts i) (b : Bool)
          → is_one_of (SHT_NULL ∷ SHT_DYNAMIC ∷ SHT_DYNSYM ∷ SHT_GNU_VERDEF ∷ SHT_GNU_VERNEED ∷ []) at.old.sh_type ≡ b
          → (not (at.old.sh_link == to.number) ≡ true)
          ⊎ (is_one_of (SHT_NULL ∷ SHT_DYNAMIC ∷ SHT_DYNSYM ∷ SHT_GNU_VERDEF ∷ SHT_GNU_VERNEED ∷ []) at.old.sh_type ≡ true)
          → (not (at.header.sh_link == k)
          || is_one_of (SHT_NULL ∷ SHT_DYNAMIC ∷ SHT_DYNSYM ∷ SHT_GNU_VERDEF ∷ SHT_GNU_VERNEED ∷ []) at.old.sh_type) ≡ true
      by_type i at true user cases = ap (λ (c : Bool). not (at.header.sh_link == k) || c) user ∙ either (not (at.header.sh_link == k))
      by_type i at false user (inr one) = absurd (false≢true (sym user ∙ one))
      by_type i at false user (inl apart) =
          ap (λ (c : Bool). not c || is_one_of (SHT_NULL ∷ SHT_DYNAMIC ∷ SHT_DYNSYM ∷ SHT_GNU_VERDEF ∷ SHT_GNU_VERNEED ∷ []) at.old.sh_type)
          (other_link k to i at (not_null at.old.sh_type user) (not-true (at.old.sh_link == to.number) apart))

  -- a section links to the table that it linked to as one that was read
  record IsUserKept (old_user : Option SectionHeader) (s : SectionHeader) : Type 0 where
    old : SectionHeader
    is_old : old_user ≡ Some old
    position : ℕ
    table : SectionAt w f.parts position
    number : table.number ≡ old.sh_link
    link : s.sh_link ≡ position

  user_kept : (old_user : Option SectionHeader) (s : SectionHeader) (j : ℕ) (at : SectionAt w f.parts j) → is_one_of text_users at.old.sh_type ≡ true
      → old_user ≡ Some at.old → at.header ≡ s → IsUserKept old_user s
  user_kept old_user s j at user is_old same =
      let l = linked_at w is f j at user in
      record {
        old = at.old;
        is_old = is_old;
        position = l.position;
        table = l.table;
        number = l.number;
        link = ap (λ (x : SectionHeader). x.sh_link) (sym same) ∙ l.link;
      }

  -- the user of the dynamic strings is the section that it was
  own_by : (new_user old_user : Option SectionHeader) → ((s : SectionHeader) → new_user ≡ Some s → IsUserKept old_user s)
      → is_none_or (λ user. list_all (own_test user.sh_link) f.parts.sections) old_user ≡ true
      → is_none_or (λ user. list_all (own_test user.sh_link) w.headers) new_user ≡ true
  own_by None old_user known all = refl
  own_by (Some s) old_user known all =
      let user = known s refl in
      let was : list_all (own_test user.old.sh_link) f.parts.sections ≡ true =
      test_at (λ (u : SectionHeader). list_all (own_test u.sh_link) f.parts.sections) old_user user.old all user.is_old in
      ap (λ (n : ℕ). list_all (own_test n) w.headers) user.link
      ∙ all_own user.position user.table (ap (λ (n : ℕ). list_all (own_test n) f.parts.sections) user.number ∙ was)

  user_known : (s : SectionHeader) → dynamic_strings_user w.headers ≡ Some s → IsUserKept (dynamic_strings_user f.parts.sections) s
  user_known s h = elim (type_at w is f SHT_DYNAMIC refl) [
    | There j at e was now there ↦
        let same : at.header ≡ s = same_Some at.header s (sym
        (ap (λ (o : Option SectionHeader). first_there o (section_of_type SHT_DYNSYM w.headers)) now) ∙ h) in
        user_kept (dynamic_strings_user f.parts.sections) s j at (ap (is_one_of text_users) e)
        (ap (λ (o : Option SectionHeader). first_there o (section_of_type SHT_DYNSYM f.parts.sections)) was) same
    | Nowhere was now none ↦
        let old_user : dynamic_strings_user f.parts.sections ≡ section_of_type SHT_DYNSYM f.parts.sections =
        ap (λ (o : Option SectionHeader). first_there o (section_of_type SHT_DYNSYM f.parts.sections)) was in
        let new_user : section_of_type SHT_DYNSYM w.headers ≡ Some s =
        sym (ap (λ (o : Option SectionHeader). first_there o (section_of_type SHT_DYNSYM w.headers)) now) ∙ h in
        symbols_user s old_user new_user (type_at w is f SHT_DYNSYM refl)
  ]
    where
      symbols_user : (s : SectionHeader) → dynamic_strings_user f.parts.sections ≡ section_of_type SHT_DYNSYM f.parts.sections
          → section_of_type SHT_DYNSYM w.headers ≡ Some s → TypeAt w f.parts SHT_DYNSYM
          → IsUserKept (dynamic_strings_user f.parts.sections) s
      symbols_user s old_user new_user (Nowhere was now none) = absurd (none-some s (sym now ∙ new_user))
      symbols_user s old_user new_user (There k at e was now there) =
          let same : at.header ≡ s = same_Some at.header s (sym now ∙ new_user) in
          user_kept (dynamic_strings_user f.parts.sections) s k at (ap (is_one_of text_users) e) (old_user ∙ was) same

  strings_own : are_dynamic_strings_own w.headers ≡ true
  unfolding own_test
  strings_own = own_by (dynamic_strings_user w.headers) (dynamic_strings_user f.parts.sections) user_known
      (and_parts _ _ f.rules.versions).1

pub versions_right : (w : Output) → IsPlannedOutput w → HasWrittenParts w → IsTrue (are_versions_right (written_parts w))
versions_right w is has =
    let f = read_facts w is in
    and_from _ (are_dynamic_strings_own w.headers)
    (and_from _ (is_none_or (λ (s : SectionHeader). version_symbols_agree (written_parts w) s) (section_of_type SHT_GNU_VERSYM w.headers))
    (and_from (is_none_or (λ (s : SectionHeader). is_whole_walk s.sh_info (definition_steps (written_parts w) s))
    (section_of_type SHT_GNU_VERDEF w.headers))
    (is_none_or (λ (s : SectionHeader). is_whole_walk s.sh_info (need_steps (written_parts w) s))
    (section_of_type SHT_GNU_VERNEED w.headers))
    (definitions_walk w is has f) (needs_walk w is has f))
    (symbols_agree w is has f))
    (strings_own w is has f)
