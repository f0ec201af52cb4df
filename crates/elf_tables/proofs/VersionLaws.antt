-- Version tables are read back from their own bytes.
use Rattle.std.proofs.Common.{◌≡◌, ℕ, ◌+◌, ◌*◌, ◌^◌, ◌<◌, ◌≤◌, Bool, true, List, [], ◌∷◌, ◌++◌, length, drop, map, refl, sym, subst, ap, ◌∙◌, Option, Some, None, add_comm, mul-zero, mul-suc, arith}
use Rattle.std.specs.Prelude.{◌&&◌, is_some, sum_by, unwrap_or}
use Rattle.std.specs.List.{AllByRecursion, list_all}
use Rattle.std.proofs.lemmas.Bool.{and_parts, true≢false}
use Rattle.std.proofs.lemmas.List.{append_assoc, length-append, length-map, map-id}
use Rattle.std.proofs.lemmas.List.Sums.{sum_by-cons}
use Rattle.patch_bytes.specs.declared.number.ByteOrder2.{ByteOrder2}
use Rattle.patch_bytes.specs.Memory.{◌>>=◌, Memory, bytes_at, memory_of, text_at}
use Rattle.patch_bytes.specs.Number.{number_at}
use Rattle.patch_bytes.proofs.MemoryLaws.{some_bind}
use Rattle.elf_format.specs.declared.form.Form.{Form}
use Rattle.elf_format.specs.declared.records.NeedNameNumbers.{NeedNameNumbers}
use Rattle.elf_format.specs.Form.{fixed_field}
use Rattle.elf_format.specs.Options.{each}
use Rattle.elf_format.specs.Versions.{DefinitionNumbers, NeedNumbers, Step, VersionDefinition, VersionName, VersionNeeds, definition_at, definition_name_at, is_whole_walk, need_at, need_name_at, shown_definition, shown_need, shown_need_name, values_of, chain_steps}
use Rattle.elf_format.specs.Views.{whole_chain}
use Rattle.elf_tables.specs.Strings.{PlacesStand, StandsAt, Strings, place_of}
use Rattle.elf_tables.specs.VersionRecords.{PlacedDefinition, PlacedName, PlacedNeeds, chained, definition_size, definition_table, fields, has_definition_texts, has_needs_texts, needs_size, needs_table, place_in, placed_definition, placed_name, placed_needs, spelled_definition, spelled_definition_name, spelled_need_name, spelled_needs}
use Rattle.elf_tables.specs.VersionSteps.{DefinitionFits, NameFits, NeedsFit}
use Rattle.elf_tables.proofs.FieldLaws.{length-fields}
use Rattle.elf_tables.specs.Fields.{widths}
use Rattle.elf_tables.proofs.RecordLaws.{ReadsBack, bytes_at-front, drop-front, fixed_field-number, length-chained, number_at-fields, steps_of, values_of-steps, walked-chained, whole_chain-chained, whole_steps}
use Rattle.elf_tables.proofs.StandingTexts.{stands-with, stands-within}

-- the field of a record, of the numbers before and behind it
field_is : (form : Form) (fs gs : List (ℕ × ℕ)) (n x pos : ℕ) → widths fs ≡ pos → x < 256 ^ n → fixed_field form (pos, n) (fields form.order (fs ++ (n, x) ∷ gs)) ≡ x
field_is form fs gs n x pos at fits =
    fixed_field-number form (pos, n) (fields form.order (fs ++ (n, x) ∷ gs)) ∙ subst (λ (p : ℕ). number_at form.order n p (fields form.order (fs ++ (n, x) ∷ gs)) ≡ x) at (number_at-fields form.order fs gs n x fits)

-- what holds of each element, from another fact that holds of each
by_each : {A : Type 0} (P Q : A → Type 0) → ((x : A) → P x → Q x) → (xs : List A) → AllByRecursion P xs → AllByRecursion Q xs
by_each P Q weaker [] all = tt
by_each P Q weaker (x ∷ xs) all = (weaker x all.0, by_each P Q weaker xs all.1)

by_map : {A B : Type 0} (g : A → B) (P : B → Type 0) (xs : List A) → AllByRecursion (λ (x : A). P (g x)) xs → AllByRecursion P (map g xs)
by_map g P [] all = tt
by_map g P (x ∷ xs) all = (all.0, by_map g P xs all.1)

sum_by-same : {A : Type 0} (n : ℕ) (xs : List A) → sum_by (λ x. n) xs ≡ n * length xs
sum_by-same n [] = sym (mul-zero n)
sum_by-same n (x ∷ xs) = sum_by-cons (λ x. n) x xs ∙ ap (λ k. n + k) (sum_by-same n xs) ∙ add_comm n (n * length xs) ∙ sym (mul-suc n (length xs))

-- ## Defined versions

definition_name-back : (form : Form) (bytes : List ℕ) (name : ℕ) → name < 2 ^ 32 → ReadsBack (spelled_definition_name form.order) (λ name. 8) (λ name. name) (definition_name_at form (memory_of bytes)) bytes name
unfolding definition_name_at
definition_name-back form bytes name fits a n rest near at =
    some_bind (bytes_at 8 (memory_of bytes) a) (λ b. Some (record { value = fixed_field form (0, 4) b; is_whole = true; next = fixed_field form (4, 4) b })) (spelled_definition_name form.order name n)
    (bytes_at-front bytes (spelled_definition_name form.order name n) rest a 8 (length-fields form.order ((4, name) ∷ (4, n) ∷ [])) at)
    ∙ (λ i. Some (record {
      value = field_is form [] ((4, n) ∷ []) 4 name 0 refl fits i;
      is_whole = true;
      next = field_is form ((4, name) ∷ []) [] 4 n 4 refl (omega arith) i;
    }))

abbrev definition_value : PlacedDefinition → DefinitionNumbers
definition_value d = record { index = d.index; flags = d.flags; names = d.names }

definition_head : PlacedDefinition → ℕ → List (ℕ × ℕ)
definition_head d next = (2, 1) ∷ (2, d.flags) ∷ (2, d.index) ∷ (2, length d.names) ∷ (4, d.hash) ∷ (4, 20) ∷ (4, next) ∷ []

definition_from : Form → Memory → ℕ → List ℕ → Option (Step DefinitionNumbers)
definition_from form memory a bytes =
    let count = fixed_field form (6, 2) bytes in
    let names = chain_steps (definition_name_at form memory) count (a + fixed_field form (12, 4) bytes) in
    Some (record {
      value = record { index = fixed_field form (4, 2) bytes; flags = fixed_field form (2, 2) bytes; names = values_of names };
      is_whole = is_whole_walk count names;
      next = fixed_field form (16, 4) bytes;
    })

definition-back : (form : Form) (bytes : List ℕ) (d : PlacedDefinition) → DefinitionFits d → ReadsBack (spelled_definition form.order) definition_size definition_value (definition_at form (memory_of bytes)) bytes d
unfolding definition_at definition_from definition_head spelled_definition
definition-back form bytes d fits a n rest near at =
    let memory : Memory = memory_of bytes in
    let head : List ℕ = fields form.order (definition_head d n) in
    let names : List ℕ = chained (spelled_definition_name form.order) (λ name. 8) d.names in
    let count_fits : length d.names < 2 ^ 16 = fits.count in
    let cut : drop a bytes ≡ head ++ (names ++ rest) = at ∙ append_assoc head names rest in
    let inner : drop (a + 20) bytes ≡ names ++ rest = drop-front bytes head (names ++ rest) a 20 (length-fields form.order (definition_head d n)) cut in
    let met : chain_steps (definition_name_at form memory) (length d.names) (a + 20) ≡ steps_of (spelled_definition_name form.order) (λ name. 8) (λ name. name) d.names =
    walked-chained (spelled_definition_name form.order) (λ name. 8) (λ name. name) (definition_name_at form memory) bytes d.names (a + 20) rest
    (λ name next. length-fields form.order ((4, name) ∷ (4, next) ∷ [])) (λ name. omega arith)
    (by_each (λ (name : ℕ). name < 2 ^ 32) (ReadsBack (spelled_definition_name form.order) (λ name. 8) (λ name. name) (definition_name_at form memory) bytes) (λ name below. definition_name-back form bytes name below) d.names fits.names)
    inner in
    let flags : fixed_field form (2, 2) head ≡ d.flags = field_is form ((2, 1) ∷ []) ((2, d.index) ∷ (2, length d.names) ∷ (4, d.hash) ∷ (4, 20) ∷ (4, n) ∷ []) 2 d.flags 2 refl fits.flags in
    let index : fixed_field form (4, 2) head ≡ d.index = field_is form ((2, 1) ∷ (2, d.flags) ∷ []) ((2, length d.names) ∷ (4, d.hash) ∷ (4, 20) ∷ (4, n) ∷ []) 2 d.index 4 refl fits.index in
    let count : fixed_field form (6, 2) head ≡ length d.names = field_is form ((2, 1) ∷ (2, d.flags) ∷ (2, d.index) ∷ []) ((4, d.hash) ∷ (4, 20) ∷ (4, n) ∷ []) 2 (length d.names) 6 refl fits.count in
    let first : fixed_field form (12, 4) head ≡ 20 = field_is form ((2, 1) ∷ (2, d.flags) ∷ (2, d.index) ∷ (2, length d.names) ∷ (4, d.hash) ∷ []) ((4, n) ∷ []) 4 20 12 refl (omega arith) in
    let next : fixed_field form (16, 4) head ≡ n = field_is form ((2, 1) ∷ (2, d.flags) ∷ (2, d.index) ∷ (2, length d.names) ∷ (4, d.hash) ∷ (4, 20) ∷ []) [] 4 n 16 refl (omega arith) in
    let walk : chain_steps (definition_name_at form memory) (fixed_field form (6, 2) head) (a + fixed_field form (12, 4) head) ≡ steps_of (spelled_definition_name form.order) (λ name. 8) (λ name. name) d.names =
    (λ i. chain_steps (definition_name_at form memory) (count i) (a + first i)) ∙ met in
    some_bind (bytes_at 20 memory a) (definition_from form memory a) head (bytes_at-front bytes head (names ++ rest) a 20 (length-fields form.order (definition_head d n)) cut)
    ∙ (λ i. Some (record { value = record { index = index i; flags = flags i; names = values_of (walk i) }; is_whole = is_whole_walk (count i) (walk i); next = next i }))
    ∙ (λ i. Some (record {
      value = record { index = d.index; flags = d.flags; names = (values_of-steps (spelled_definition_name form.order) (λ name. 8) (λ name. name) d.names ∙ map-id d.names) i };
      is_whole = whole_steps (spelled_definition_name form.order) (λ name. 8) (λ name. name) d.names i;
      next = n;
    }))

pub length-definition : (order : ByteOrder2) (d : PlacedDefinition) (n : ℕ) → length (spelled_definition order d n) ≡ definition_size d
unfolding spelled_definition
length-definition order d n =
    length-append (fields order ((2, 1) ∷ (2, d.flags) ∷ (2, d.index) ∷ (2, length d.names) ∷ (4, d.hash) ∷ (4, 20) ∷ (4, n) ∷ [])) (chained (spelled_definition_name order) (λ name. 8) d.names)
    ∙ (λ i. length-fields order ((2, 1) ∷ (2, d.flags) ∷ (2, d.index) ∷ (2, length d.names) ∷ (4, d.hash) ∷ (4, 20) ∷ (4, n) ∷ []) i
    + (length-chained (spelled_definition_name order) (λ name. 8) (λ name. name) d.names (λ name next. length-fields order ((4, name) ∷ (4, next) ∷ [])) ∙ sum_by-same 8 d.names) i)

-- ## Texts

each_back : {A B : Type 0} (f : A → Option B) (g : B → A) (ys : List B) → AllByRecursion (λ (y : B). f (g y) ≡ Some y) ys → each f (map g ys) ≡ Some ys
unfolding each
each_back f g [] all = refl
each_back {A} {B} f g (y ∷ ys) all =
    some_bind (f (g y)) (λ z. each f (map g ys) >>= (λ zs. Some (z ∷ zs))) y all.0
    ∙ some_bind (each f (map g ys)) (λ zs. Some (y ∷ zs)) ys (each_back f g ys all.1)

map-both : {A B C : Type 0} (f : B → C) (g : A → B) (xs : List A) → map f (map g xs) ≡ map (λ x. f (g x)) xs
map-both f g [] = refl
map-both f g (x ∷ xs) = ap (λ l. f (g x) ∷ l) (map-both f g xs)

-- each element passes a test that all pass
each_passes : {A : Type 0} (p : A → Bool) (xs : List A) → list_all p xs ≡ true → AllByRecursion (λ (x : A). p x ≡ true) xs
each_passes p [] e = tt
each_passes p (x ∷ xs) e = let parts = and_parts (p x) (list_all p xs) e in (parts.0, each_passes p xs parts.1)

-- a text that the table tells a place of is read there
text_back : (table : Strings) → PlacesStand table → (room : ℕ) → length table.bytes ≤ room → (text : List ℕ) → is_some (place_of table text) ≡ true → text_at room (memory_of table.bytes) (place_in table text) ≡ Some text
text_back table stand room wide text known = by_place (place_of table text) refl known
  where
    by_place : (o : Option ℕ) → place_of table text ≡ o → is_some o ≡ true → text_at room (memory_of table.bytes) (place_in table text) ≡ Some text
    by_place None e none = absurd (true≢false (sym none))
    by_place (Some place) e some =
        let stands : StandsAt table.bytes place text = stand text place e in
        let within : place + length text + 1 ≤ length table.bytes = stands-within table.bytes place text (stands-with table.bytes place text stands) in
        ap (λ o. text_at room (memory_of table.bytes) (unwrap_or o 0)) e ∙ stands.read room (omega arith)

definition_back : (table : Strings) → PlacesStand table → (room : ℕ) → length table.bytes ≤ room → (d : VersionDefinition) → list_all (λ name. is_some (place_of table name)) d.names ≡ true
    → shown_definition room (memory_of table.bytes) (definition_value (placed_definition table d)) ≡ Some d
unfolding shown_definition
definition_back table stand room wide d known =
    some_bind (each (text_at room (memory_of table.bytes)) (map (place_in table) d.names)) (λ names. Some (record { index = d.index; flags = d.flags; names = names })) d.names
    (each_back (text_at room (memory_of table.bytes)) (place_in table) d.names
    (by_each (λ (name : List ℕ). is_some (place_of table name) ≡ true) (λ (name : List ℕ). text_at room (memory_of table.bytes) (place_in table name) ≡ Some name)
    (λ name some. text_back table stand room wide name some) d.names (each_passes (λ name. is_some (place_of table name)) d.names known)))

-- the table of defined versions shows them
pub definitions-read_back : (form : Form) (room : ℕ) (table : Strings) (bytes : List ℕ) (ds : List VersionDefinition) → PlacesStand table → length table.bytes ≤ room
    → has_definition_texts table ds ≡ true → AllByRecursion (λ (d : VersionDefinition). DefinitionFits (placed_definition table d)) ds → bytes ≡ definition_table form.order (map (placed_definition table) ds)
    → (whole_chain (definition_at form (memory_of bytes)) (length ds) >>= (λ found. each (shown_definition room (memory_of table.bytes)) found)) ≡ Some ds
definitions-read_back form room table bytes ds stand wide known fit is =
    let placed : List PlacedDefinition = map (placed_definition table) ds in
    let chain : whole_chain (definition_at form (memory_of bytes)) (length ds) ≡ Some (map definition_value placed) =
    ap (whole_chain (definition_at form (memory_of bytes))) (sym (length-map ds (placed_definition table)))
    ∙ whole_chain-chained (spelled_definition form.order) definition_size definition_value (definition_at form (memory_of bytes)) bytes placed (length-definition form.order) (λ d. omega arith)
    (by_map (placed_definition table) (ReadsBack (spelled_definition form.order) definition_size definition_value (definition_at form (memory_of bytes)) bytes) ds
    (by_each (λ (d : VersionDefinition). DefinitionFits (placed_definition table d)) (λ (d : VersionDefinition). ReadsBack (spelled_definition form.order) definition_size definition_value (definition_at form (memory_of bytes)) bytes (placed_definition table d))
    (λ d fits. definition-back form bytes (placed_definition table d) fits) ds fit))
    is in
    some_bind (whole_chain (definition_at form (memory_of bytes)) (length ds)) (λ found. each (shown_definition room (memory_of table.bytes)) found) (map definition_value placed) chain
    ∙ ap (each (shown_definition room (memory_of table.bytes))) (map-both definition_value (placed_definition table) ds)
    ∙ each_back (shown_definition room (memory_of table.bytes)) (λ d. definition_value (placed_definition table d)) ds
    (by_each (λ (d : VersionDefinition). list_all (λ name. is_some (place_of table name)) d.names ≡ true) (λ (d : VersionDefinition). shown_definition room (memory_of table.bytes) (definition_value (placed_definition table d)) ≡ Some d)
    (λ d all. definition_back table stand room wide d all) ds (each_passes (λ d. list_all (λ name. is_some (place_of table name)) d.names) ds known))

-- ## Needed versions

abbrev need_name_value : PlacedName → NeedNameNumbers
need_name_value v = record { index = v.index; name = v.name; flags = v.flags }

need_name_from : Form → List ℕ → Option (Step NeedNameNumbers)
need_name_from form bytes = Some (record {
  value = record { index = fixed_field form (6, 2) bytes; name = fixed_field form (8, 4) bytes; flags = fixed_field form (4, 2) bytes };
  is_whole = true;
  next = fixed_field form (12, 4) bytes;
})

need_name-back : (form : Form) (bytes : List ℕ) (v : PlacedName) → NameFits v → ReadsBack (spelled_need_name form.order) (λ v. 16) need_name_value (need_name_at form (memory_of bytes)) bytes v
unfolding need_name_at need_name_from
need_name-back form bytes v fits a n rest near at =
    some_bind (bytes_at 16 (memory_of bytes) a) (need_name_from form) (spelled_need_name form.order v n)
    (bytes_at-front bytes (spelled_need_name form.order v n) rest a 16 (length-fields form.order ((4, v.hash) ∷ (2, v.flags) ∷ (2, v.index) ∷ (4, v.name) ∷ (4, n) ∷ [])) at)
    ∙ (λ i. Some (record {
      value = record {
        index = field_is form ((4, v.hash) ∷ (2, v.flags) ∷ []) ((4, v.name) ∷ (4, n) ∷ []) 2 v.index 6 refl fits.index i;
        name = field_is form ((4, v.hash) ∷ (2, v.flags) ∷ (2, v.index) ∷ []) ((4, n) ∷ []) 4 v.name 8 refl fits.name i;
        flags = field_is form ((4, v.hash) ∷ []) ((2, v.index) ∷ (4, v.name) ∷ (4, n) ∷ []) 2 v.flags 4 refl fits.flags i;
      };
      is_whole = true;
      next = field_is form ((4, v.hash) ∷ (2, v.flags) ∷ (2, v.index) ∷ (4, v.name) ∷ []) [] 4 n 12 refl (omega arith) i;
    }))

abbrev needs_value : PlacedNeeds → NeedNumbers
needs_value n = record { file = n.file; versions = map need_name_value n.versions }

needs_head : PlacedNeeds → ℕ → List (ℕ × ℕ)
needs_head m next = (2, 1) ∷ (2, length m.versions) ∷ (4, m.file) ∷ (4, 16) ∷ (4, next) ∷ []

needs_from : Form → Memory → ℕ → List ℕ → Option (Step NeedNumbers)
needs_from form memory a bytes =
    let count = fixed_field form (2, 2) bytes in
    let versions = chain_steps (need_name_at form memory) count (a + fixed_field form (8, 4) bytes) in
    Some (record { value = record { file = fixed_field form (4, 4) bytes; versions = values_of versions }; is_whole = is_whole_walk count versions; next = fixed_field form (12, 4) bytes })

needs-back : (form : Form) (bytes : List ℕ) (m : PlacedNeeds) → NeedsFit m → ReadsBack (spelled_needs form.order) needs_size needs_value (need_at form (memory_of bytes)) bytes m
unfolding need_at needs_from needs_head spelled_needs
needs-back form bytes m fits a n rest near at =
    let memory : Memory = memory_of bytes in
    let head : List ℕ = fields form.order (needs_head m n) in
    let versions : List ℕ = chained (spelled_need_name form.order) (λ v. 16) m.versions in
    let count_fits : length m.versions < 2 ^ 16 = fits.count in
    let cut : drop a bytes ≡ head ++ (versions ++ rest) = at ∙ append_assoc head versions rest in
    let inner : drop (a + 16) bytes ≡ versions ++ rest = drop-front bytes head (versions ++ rest) a 16 (length-fields form.order (needs_head m n)) cut in
    let met : chain_steps (need_name_at form memory) (length m.versions) (a + 16) ≡ steps_of (spelled_need_name form.order) (λ v. 16) need_name_value m.versions =
    walked-chained (spelled_need_name form.order) (λ v. 16) need_name_value (need_name_at form memory) bytes m.versions (a + 16) rest
    (λ v next. length-fields form.order ((4, v.hash) ∷ (2, v.flags) ∷ (2, v.index) ∷ (4, v.name) ∷ (4, next) ∷ [])) (λ v. omega arith)
    (by_each NameFits (ReadsBack (spelled_need_name form.order) (λ v. 16) need_name_value (need_name_at form memory) bytes) (λ v fit. need_name-back form bytes v fit) m.versions fits.versions)
    inner in
    let count : fixed_field form (2, 2) head ≡ length m.versions = field_is form ((2, 1) ∷ []) ((4, m.file) ∷ (4, 16) ∷ (4, n) ∷ []) 2 (length m.versions) 2 refl fits.count in
    let file : fixed_field form (4, 4) head ≡ m.file = field_is form ((2, 1) ∷ (2, length m.versions) ∷ []) ((4, 16) ∷ (4, n) ∷ []) 4 m.file 4 refl fits.file in
    let first : fixed_field form (8, 4) head ≡ 16 = field_is form ((2, 1) ∷ (2, length m.versions) ∷ (4, m.file) ∷ []) ((4, n) ∷ []) 4 16 8 refl (omega arith) in
    let next : fixed_field form (12, 4) head ≡ n = field_is form ((2, 1) ∷ (2, length m.versions) ∷ (4, m.file) ∷ (4, 16) ∷ []) [] 4 n 12 refl (omega arith) in
    let walk : chain_steps (need_name_at form memory) (fixed_field form (2, 2) head) (a + fixed_field form (8, 4) head) ≡ steps_of (spelled_need_name form.order) (λ v. 16) need_name_value m.versions =
    (λ i. chain_steps (need_name_at form memory) (count i) (a + first i)) ∙ met in
    some_bind (bytes_at 16 memory a) (needs_from form memory a) head (bytes_at-front bytes head (versions ++ rest) a 16 (length-fields form.order (needs_head m n)) cut)
    ∙ (λ i. Some (record { value = record { file = file i; versions = values_of (walk i) }; is_whole = is_whole_walk (count i) (walk i); next = next i }))
    ∙ (λ i. Some (record {
      value = record { file = m.file; versions = values_of-steps (spelled_need_name form.order) (λ v. 16) need_name_value m.versions i };
      is_whole = whole_steps (spelled_need_name form.order) (λ v. 16) need_name_value m.versions i;
      next = n;
    }))

pub length-needs : (order : ByteOrder2) (m : PlacedNeeds) (n : ℕ) → length (spelled_needs order m n) ≡ needs_size m
unfolding spelled_needs
length-needs order m n =
    length-append (fields order ((2, 1) ∷ (2, length m.versions) ∷ (4, m.file) ∷ (4, 16) ∷ (4, n) ∷ [])) (chained (spelled_need_name order) (λ v. 16) m.versions)
    ∙ (λ i. length-fields order ((2, 1) ∷ (2, length m.versions) ∷ (4, m.file) ∷ (4, 16) ∷ (4, n) ∷ []) i
    + (length-chained (spelled_need_name order) (λ v. 16) need_name_value m.versions (λ v next. length-fields order ((4, v.hash) ∷ (2, v.flags) ∷ (2, v.index) ∷ (4, v.name) ∷ (4, next) ∷ [])) ∙ sum_by-same 16 m.versions) i)

need_name_back : (table : Strings) → PlacesStand table → (room : ℕ) → length table.bytes ≤ room → (v : VersionName) → is_some (place_of table v.name) ≡ true
    → shown_need_name room (memory_of table.bytes) (need_name_value (placed_name table v)) ≡ Some v
unfolding shown_need_name
need_name_back table stand room wide v known =
    some_bind (text_at room (memory_of table.bytes) (place_in table v.name)) (λ name. Some (record { index = v.index; name = name; flags = v.flags })) v.name (text_back table stand room wide v.name known)

needs_back : (table : Strings) → PlacesStand table → (room : ℕ) → length table.bytes ≤ room → (m : VersionNeeds)
    → (is_some (place_of table m.file) && list_all (λ v. is_some (place_of table v.name)) m.versions) ≡ true → shown_need room (memory_of table.bytes) (needs_value (placed_needs table m)) ≡ Some m
unfolding shown_need
needs_back table stand room wide m known =
    let parts = and_parts (is_some (place_of table m.file)) (list_all (λ v. is_some (place_of table v.name)) m.versions) known in
    let versions : each (shown_need_name room (memory_of table.bytes)) (map need_name_value (map (placed_name table) m.versions)) ≡ Some m.versions =
    ap (each (shown_need_name room (memory_of table.bytes))) (map-both need_name_value (placed_name table) m.versions)
    ∙ each_back (shown_need_name room (memory_of table.bytes)) (λ v. need_name_value (placed_name table v)) m.versions
    (by_each (λ (v : VersionName). is_some (place_of table v.name) ≡ true) (λ (v : VersionName). shown_need_name room (memory_of table.bytes) (need_name_value (placed_name table v)) ≡ Some v)
    (λ v some. need_name_back table stand room wide v some) m.versions (each_passes (λ v. is_some (place_of table v.name)) m.versions parts.1)) in
    some_bind (text_at room (memory_of table.bytes) (place_in table m.file)) (λ file. each (shown_need_name room (memory_of table.bytes)) (map need_name_value (map (placed_name table) m.versions)) >>= (λ vs. Some (record { file = file; versions = vs }))) m.file
    (text_back table stand room wide m.file parts.0)
    ∙ some_bind (each (shown_need_name room (memory_of table.bytes)) (map need_name_value (map (placed_name table) m.versions))) (λ vs. Some (record { file = m.file; versions = vs })) m.versions versions

-- the table of needed versions shows them
pub needs-read_back : (form : Form) (room : ℕ) (table : Strings) (bytes : List ℕ) (ms : List VersionNeeds) → PlacesStand table → length table.bytes ≤ room
    → has_needs_texts table ms ≡ true → AllByRecursion (λ (m : VersionNeeds). NeedsFit (placed_needs table m)) ms → bytes ≡ needs_table form.order (map (placed_needs table) ms)
    → (whole_chain (need_at form (memory_of bytes)) (length ms) >>= (λ found. each (shown_need room (memory_of table.bytes)) found)) ≡ Some ms
needs-read_back form room table bytes ms stand wide known fit is =
    let placed : List PlacedNeeds = map (placed_needs table) ms in
    let chain : whole_chain (need_at form (memory_of bytes)) (length ms) ≡ Some (map needs_value placed) =
    ap (whole_chain (need_at form (memory_of bytes))) (sym (length-map ms (placed_needs table)))
    ∙ whole_chain-chained (spelled_needs form.order) needs_size needs_value (need_at form (memory_of bytes)) bytes placed (length-needs form.order) (λ m. omega arith)
    (by_map (placed_needs table) (ReadsBack (spelled_needs form.order) needs_size needs_value (need_at form (memory_of bytes)) bytes) ms
    (by_each (λ (m : VersionNeeds). NeedsFit (placed_needs table m)) (λ (m : VersionNeeds). ReadsBack (spelled_needs form.order) needs_size needs_value (need_at form (memory_of bytes)) bytes (placed_needs table m))
    (λ m fits. needs-back form bytes (placed_needs table m) fits) ms fit))
    is in
    some_bind (whole_chain (need_at form (memory_of bytes)) (length ms)) (λ found. each (shown_need room (memory_of table.bytes)) found) (map needs_value placed) chain
    ∙ ap (each (shown_need room (memory_of table.bytes))) (map-both needs_value (placed_needs table) ms)
    ∙ each_back (shown_need room (memory_of table.bytes)) (λ m. needs_value (placed_needs table m)) ms
    (by_each (λ (m : VersionNeeds). (is_some (place_of table m.file) && list_all (λ v. is_some (place_of table v.name)) m.versions) ≡ true) (λ (m : VersionNeeds). shown_need room (memory_of table.bytes) (needs_value (placed_needs table m)) ≡ Some m)
    (λ m all. needs_back table stand room wide m all) ms (each_passes (λ m. is_some (place_of table m.file) && list_all (λ v. is_some (place_of table v.name)) m.versions) ms known))
