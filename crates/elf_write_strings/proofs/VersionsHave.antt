-- Tables that tell where the texts of version records stand, and how long the records are.
use Rattle.std.proofs.Common.{◌≡◌, ℕ, suc, ◌+◌, ◌*◌, Bool, true, false, cond, not, List, [], ◌∷◌, length, map, refl, sym, ap, ◌∙◌, arith}
use Rattle.std.specs.Prelude.{◌&&◌, filter, if◌then◌else◌, is_some, sum_by}
use Rattle.std.specs.List.{All, AllByRecursion, list_all}
use Rattle.std.proofs.lemmas.Bool.{and_from}
use Rattle.std.proofs.lemmas.List.{length-map}
use Rattle.std.proofs.lemmas.List.Sums.{sum_by-cons}
use Rattle.patch_bytes.specs.ByteString.{bytes_of_each}
use Rattle.patch_bytes.specs.declared.number.ByteOrder2.{ByteOrder2}
use Rattle.elf_format.specs.Image.{Image}
use Rattle.elf_format.specs.Options.{is_some_and}
use Rattle.elf_format.specs.Versions.{VersionDefinition, VersionName, VersionNeeds}
use Rattle.elf_layout_plan.specs.Needs.{do_needs_stay, is_version_dropped, lists_needs, staying_names, staying_needs, with_staying_names, written_needs}
use Rattle.elf_layout_plan.specs.Sizes.{definitions_size, needs_size}
use Rattle.elf_layout_plan.specs.Texts.{texts_of_definitions, texts_of_needs}
use Rattle.elf_tables.specs.Strings.{Strings, place_of}
use Rattle.elf_tables.specs.VersionRecords.{PlacedNeeds, definition_size, definition_table, has_definition_texts, has_needs_texts, needs_table, place_in, placed_definition, placed_name, placed_needs, spelled_definition, spelled_needs}
use Rattle.elf_tables.specs.VersionRecords.{needs_size as placed_size}
use Rattle.elf_tables.proofs.ForCallers.RecordLaws.{length-chained}
use Rattle.elf_tables.proofs.ForCallers.VersionLaws.{length-definition, length-needs}
use Rattle.elf_image_versions.specs.declared.version.VersionDef.{VersionDef}
use Rattle.elf_image_versions.specs.declared.version.VersionNeed.{VersionNeed}
use Rattle.elf_image_versions.specs.declared.version.VersionNeedName.{VersionNeedName}
use Rattle.elf_image_versions.specs.VersionsModel.{definition_model, name_model, needs_model}
use Rattle.elf_write_strings.specs.PlacedTexts.{TellsAll}
use Rattle.elf_write_strings.specs.VersionPlaces.{Tells, TellsDefinition, TellsName, TellsNeed}
use Rattle.elf_write_strings.proofs.TextsTold.{back_told, both_told, by_each, each_of, front_told, none_told}

-- ## Defined versions

all_each : {A : Type 0} (P : A → Type 0) (xs : List A) → All P xs → AllByRecursion P xs
all_each P [] all = tt
all_each P (x ∷ xs) all = (all 0 x (omega arith), all_each P xs (λ i d within. all (suc i) d (omega (arith, within))))

module _ (table : Strings) where
  -- all names of definitions are told, one by one
  pub definitions_all : (ds : List VersionDef) → All (TellsDefinition table) ds → TellsAll table (texts_of_definitions (map definition_model ds))
  definitions_all [] all = none_told table
  definitions_all (d ∷ ds) all =
      both_told table (bytes_of_each d.names.items) (texts_of_definitions (map definition_model ds))
      (by_each table (bytes_of_each d.names.items) (all_each (Tells table) (bytes_of_each d.names.items) (all 0 d (omega arith))))
      (definitions_all ds (λ i x within. all (suc i) x (omega (arith, within))))

  each_told : (names : List (List ℕ)) → TellsAll table names → list_all (λ name. is_some (place_of table name)) names ≡ true
  each_told [] h = refl
  each_told (name ∷ names) h =
      and_from (is_some (place_of table name)) (list_all (λ name. is_some (place_of table name)) names)
      (h name (0, omega arith, refl)) (each_told names (back_told table (name ∷ []) names h))

  pub definitions_told : (ds : List VersionDefinition) → TellsAll table (texts_of_definitions ds) → has_definition_texts table ds ≡ true
  definitions_told [] h = refl
  definitions_told (d ∷ ds) h =
      and_from (list_all (λ name. is_some (place_of table name)) d.names) (has_definition_texts table ds)
      (each_told d.names (front_told table d.names (texts_of_definitions ds) h))
      (definitions_told ds (back_told table d.names (texts_of_definitions ds) h))

-- ## Sizes

sizes_of : (table : Strings) (ds : List VersionDefinition) → sum_by definition_size (map (placed_definition table) ds) ≡ definitions_size ds
sizes_of table [] = refl
sizes_of table (d ∷ ds) =
    sum_by-cons definition_size (placed_definition table d) (map (placed_definition table) ds)
    ∙ ap (λ (n : ℕ). 20 + 8 * n + sum_by definition_size (map (placed_definition table) ds)) (length-map d.names (place_in table))
    ∙ ap (λ (n : ℕ). 20 + 8 * length d.names + n) (sizes_of table ds)
    ∙ sym (sum_by-cons (λ (x : VersionDefinition). 20 + 8 * length x.names) d ds)

pub length-definitions : (order : ByteOrder2) (table : Strings) (ds : List VersionDefinition)
    → length (definition_table order (map (placed_definition table) ds)) ≡ definitions_size ds
length-definitions order table ds =
    length-chained (spelled_definition order) definition_size (λ d. d) (map (placed_definition table) ds) (length-definition order)
    ∙ sizes_of table ds

-- ## Needed versions

abbrev names_of : List VersionName → List (List ℕ)
names_of vs = map (λ v. v.name) vs

module _ (table : Strings) where
  names_all : (vs : List VersionNeedName) → All (TellsName table) vs → AllByRecursion (Tells table) (names_of (map name_model vs))
  names_all [] all = tt
  names_all (v ∷ vs) all = (all 0 v (omega arith), names_all vs (λ i x within. all (suc i) x (omega (arith, within))))

  -- all texts of needed versions are told, one by one
  pub needs_all : (ns : List VersionNeed) → All (TellsNeed table) ns → TellsAll table (texts_of_needs (map needs_model ns))
  needs_all [] all = none_told table
  needs_all (n ∷ ns) all =
      let here : TellsNeed table n = all 0 n (omega arith) in
      both_told table (n.file.bytes ∷ names_of (map name_model n.versions.items)) (texts_of_needs (map needs_model ns))
      (by_each table (n.file.bytes ∷ names_of (map name_model n.versions.items)) (here.file, names_all n.versions.items here.versions))
      (needs_all ns (λ i x within. all (suc i) x (omega (arith, within))))

  has_name : VersionName → Bool
  has_name v = is_some (place_of table v.name)

  has_need : VersionNeeds → Bool
  has_need n = is_some (place_of table n.file) && list_all has_name n.versions

  names_told : (vs : List VersionName) → TellsAll table (names_of vs) → list_all has_name vs ≡ true
  unfolding has_name
  names_told [] h = refl
  names_told (v ∷ vs) h =
      and_from (is_some (place_of table v.name)) (list_all has_name vs)
      (h v.name (0, omega arith, refl)) (names_told vs (back_told table (v.name ∷ []) (names_of vs) h))

  need_told : (n : VersionNeeds) → TellsAll table (n.file ∷ names_of n.versions) → has_need n ≡ true
  unfolding has_need
  need_told n h =
      and_from (is_some (place_of table n.file)) (list_all has_name n.versions)
      (h n.file (0, omega arith, refl)) (names_told n.versions (back_told table (n.file ∷ []) (names_of n.versions) h))

  pub needs_told : (ns : List VersionNeeds) → TellsAll table (texts_of_needs ns) → has_needs_texts table ns ≡ true
  unfolding has_name has_need
  needs_told [] h = refl
  needs_told (n ∷ ns) h =
      let own : List (List ℕ) = n.file ∷ names_of n.versions in
      and_from (has_need n) (has_needs_texts table ns)
      (need_told n (front_told table own (texts_of_needs ns) h))
      (needs_told ns (back_told table own (texts_of_needs ns) h))

  -- ## Those that stay

  kept_by : (b : Bool) (v : VersionName) (kept : List VersionName) → Tells table v.name → AllByRecursion (Tells table) (names_of kept)
      → AllByRecursion (Tells table) (names_of (cond b (v ∷ kept) kept))
  kept_by true v kept told rest = (told, rest)
  kept_by false v kept told rest = rest

  names_kept : (test : VersionName → Bool) (vs : List VersionName) → AllByRecursion (Tells table) (names_of vs)
      → AllByRecursion (Tells table) (names_of (filter test vs))
  names_kept test [] all = tt
  names_kept test (v ∷ vs) all = kept_by (test v) v (filter test vs) all.0 (names_kept test vs all.1)

  module _ (read image : Image) where
    staying_by : (b : Bool) (n : VersionNeeds) (kept : List VersionNeeds) → TellsAll table (n.file ∷ names_of n.versions)
        → TellsAll table (texts_of_needs (map (with_staying_names read image) kept))
        → TellsAll table (texts_of_needs (map (with_staying_names read image) (cond b (n ∷ kept) kept)))
    staying_by true n kept told rest =
        let each : AllByRecursion (Tells table) (n.file ∷ names_of n.versions) = each_of table (n.file ∷ names_of n.versions) told in
        both_told table (n.file ∷ names_of (staying_names read image n.versions)) (texts_of_needs (map (with_staying_names read image) kept))
        (by_each table (n.file ∷ names_of (staying_names read image n.versions))
        (each.0, names_kept (λ v. not (is_version_dropped read image v.index)) n.versions each.1)) rest
    staying_by false n kept told rest = rest

    staying_told : (ns : List VersionNeeds) → TellsAll table (texts_of_needs ns) → TellsAll table (texts_of_needs (map (with_staying_names read image) (filter (do_needs_stay read image) ns)))
    staying_told [] all = none_told table
    staying_told (n ∷ ns) all =
        let own : List (List ℕ) = n.file ∷ names_of n.versions in
        staying_by (do_needs_stay read image n) n (filter (do_needs_stay read image) ns) (front_told table own (texts_of_needs ns) all)
        (staying_told ns (back_told table own (texts_of_needs ns) all))

    -- the needed versions that are written have no other texts
    pub written_told : TellsAll table (texts_of_needs image.needs) → TellsAll table (texts_of_needs (written_needs read image))
    unfolding written_needs
    written_told all = by_test (is_some_and lists_needs image.entries)
      where
        by_test : (b : Bool) → TellsAll table (texts_of_needs (if b then staying_needs read image else image.needs))
        by_test true = staying_told image.needs all
        by_test false = all

need_sizes : (table : Strings) (ns : List VersionNeeds) → sum_by placed_size (map (placed_needs table) ns) ≡ needs_size ns
need_sizes table [] = refl
need_sizes table (n ∷ ns) =
    sum_by-cons placed_size (placed_needs table n) (map (placed_needs table) ns)
    ∙ ap (λ (k : ℕ). 16 + 16 * k + sum_by placed_size (map (placed_needs table) ns)) (length-map n.versions (placed_name table))
    ∙ ap (λ (k : ℕ). 16 + 16 * length n.versions + k) (need_sizes table ns)
    ∙ sym (sum_by-cons (λ (x : VersionNeeds). 16 + 16 * length x.versions) n ns)

pub length-all_needs : (order : ByteOrder2) (table : Strings) (ns : List VersionNeeds)
    → length (needs_table order (map (placed_needs table) ns)) ≡ needs_size ns
length-all_needs order table ns =
    length-chained (spelled_needs order) placed_size (λ (n : PlacedNeeds). n) (map (placed_needs table) ns) (length-needs order)
    ∙ need_sizes table ns
