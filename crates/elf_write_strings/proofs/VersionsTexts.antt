-- Texts that are read stand in their table.
use Rattle.std.proofs.Common.{◌≡◌, ℕ, zero, suc, ◌+◌, ◌<◌, List, [], ◌∷◌, ◌++◌, length, map, take, drop, get_or, sym, ap, ◌∙◌, subst, Option, Some, arith}
use Rattle.std.specs.List.{slice_get}
use Rattle.std.proofs.lemmas.List.{get_or-map, length-map}
use Rattle.std.proofs.lemmas.Option.{none-some, same_Some}
use Rattle.patch_bytes.specs.Memory.{◌>>=◌, Memory, memory_of, text_at}
use Rattle.patch_bytes.specs.Number.{field}
use Rattle.patch_bytes.proofs.MemoryLaws.{bind_some}
use Rattle.elf_format.specs.declared.records.NeedNameNumbers.{NeedNameNumbers}
use Rattle.elf_format.specs.Options.{each}
use Rattle.elf_format.specs.Versions.{DefinitionNumbers, NeedNumbers, VersionDefinition, VersionName, VersionNeeds, shown_definition, shown_need, shown_need_name}
use Rattle.elf_tables.specs.Strings.{StandsAt}
use Rattle.elf_image_versions.specs.declared.version.VersionDef.{VersionDef}
use Rattle.elf_image_versions.specs.declared.version.VersionNeed.{VersionNeed}
use Rattle.elf_image_versions.specs.declared.version.VersionNeedName.{VersionNeedName}
use Rattle.elf_image_versions.specs.VersionsModel.{definition_model, name_model, needs_model}
use Rattle.elf_write_spec.proofs.ForCallers.TextsRead.{text_reads}
use Rattle.elf_write_strings.specs.VersionPlaces.{AreAt, AreDefinitionsAt, AreNamesAt, AreNeedsAt, IsNeedAt}

field_first : (n a : ℕ) (xs : List ℕ) (x : ℕ) → slice_get xs a ≡ Some x → take (suc n) (drop a xs) ≡ x ∷ take n (drop (a + 1) xs)
field_first n zero [] x h = cc
field_first n zero (y ∷ ys) x h = ap (λ (z : ℕ). z ∷ take n ys) (same_Some y x h)
field_first n (suc a) [] x h = cc
field_first n (suc a) (y ∷ ys) x h =
    let k : suc a + 1 ≡ suc (a + 1) = omega arith in
    rw k (field_first n a ys x h)

-- what comes behind a byte of a text
after : ℕ → List ℕ → ℕ → ℕ → Option (List ℕ)
after room table place byte = elim byte [ zero ↦ Some [] | suc b ↦ text_at room (memory_of table) (place + 1) >>= (λ rest. Some (suc b ∷ rest)) ]

found-after : (room : ℕ) (table : List ℕ) (place : ℕ)
    → ((t : List ℕ) → text_at room (memory_of table) (place + 1) ≡ Some t → field (length t + 1) (place + 1) table ≡ t ++ 0 ∷ [])
    → (byte : ℕ) (text : List ℕ) → slice_get table place ≡ Some byte → after room table place byte ≡ Some text
    → field (length text + 1) place table ≡ text ++ 0 ∷ []
unfolding after
found-after room table place more zero text here h =
    let P : List ℕ → Type 0 = λ t. field (length t + 1) place table ≡ t ++ 0 ∷ [] in
    subst P (same_Some [] text h) (field_first 0 place table 0 here)
found-after room table place more (suc b) text here h =
    let (rest, there, made) = bind_some (text_at room (memory_of table) (place + 1)) (λ r. Some (suc b ∷ r)) text h in
    let P : List ℕ → Type 0 = λ t. field (length t + 1) place table ≡ t ++ 0 ∷ [] in
    let k : length (suc b ∷ rest) + 1 ≡ suc (length rest + 1) = omega arith in
    let whole : field (length (suc b ∷ rest) + 1) place table ≡ (suc b ∷ rest) ++ 0 ∷ [] =
    ap (λ (n : ℕ). take n (drop place table)) k ∙ field_first (length rest + 1) place table (suc b) here
    ∙ ap (λ (l : List ℕ). suc b ∷ l) (more rest there) in
    subst P (same_Some (suc b ∷ rest) text made) whole

text_bytes : (room : ℕ) (table : List ℕ) (place : ℕ) (text : List ℕ) → text_at room (memory_of table) place ≡ Some text
    → field (length text + 1) place table ≡ text ++ 0 ∷ []
unfolding text_at after
text_bytes zero table place text h = absurd (none-some text h)
text_bytes (suc room) table place text h =
    let (byte, here, more) = bind_some (slice_get table place) (after room table place) text h in
    found-after room table place (λ t. text_bytes room table (place + 1) t) byte text here more

pub text_stands : (room : ℕ) (table : List ℕ) (place : ℕ) (text : List ℕ) → text_at room (memory_of table) place ≡ Some text
    → StandsAt table place text
text_stands room table place text h = record {
  bytes = text_bytes room table place text h;
  read = λ s within. text_reads room (memory_of table) place text h s within;
}

-- ## One value for each element

pub each-length : {A B : Type 0} (f : A → Option B) (xs : List A) (ys : List B) → each f xs ≡ Some ys → length xs ≡ length ys
unfolding each
each-length f [] ys h = ap length (same_Some [] ys h)
each-length f (x ∷ xs) ys h =
    let (y, y_there, more) = bind_some (f x) (λ z. each f xs >>= λ zs. Some (z ∷ zs)) ys h in
    let (zs, zs_there, made) = bind_some (each f xs) (λ zs. Some (y ∷ zs)) ys more in
    ap suc (each-length f xs zs zs_there) ∙ ap length (same_Some (y ∷ zs) ys made)

first_of : {A B : Type 0} (f : A → Option B) (x : A) (xs : List A) (y : B) (ys : List B) → f x ≡ Some y
    → ((i : ℕ) (d : A) (e : B) → i < length ys → f (get_or xs i d) ≡ Some (get_or ys i e))
    → (i : ℕ) (d : A) (e : B) → i < length (y ∷ ys) → f (get_or (x ∷ xs) i d) ≡ Some (get_or (y ∷ ys) i e)
first_of f x xs y ys here more zero d e within = here
first_of f x xs y ys here more (suc i) d e within = more i d e (omega arith)

pub each-at : {A B : Type 0} (f : A → Option B) (xs : List A) (ys : List B) → each f xs ≡ Some ys
    → (i : ℕ) (d : A) (e : B) → i < length ys → f (get_or xs i d) ≡ Some (get_or ys i e)
unfolding each
each-at {A} {B} f [] ys h =
    let none : length ys ≡ 0 = sym (ap length (same_Some [] ys h)) in
    λ i d e within. absurd (omega (arith, none, within))
each-at {A} {B} f (x ∷ xs) ys h =
    let (y, y_there, more) = bind_some (f x) (λ z. each f xs >>= λ zs. Some (z ∷ zs)) ys h in
    let (zs, zs_there, made) = bind_some (each f xs) (λ zs. Some (y ∷ zs)) ys more in
    let P : List B → Type 0 = λ l. (i : ℕ) (d : A) (e : B) → i < length l → f (get_or (x ∷ xs) i d) ≡ Some (get_or l i e) in
    subst P (same_Some (y ∷ zs) ys made) (first_of f x xs y zs y_there (each-at f xs zs zs_there))

-- ## The texts of records

module _ (room : ℕ) (texts : Memory) (strings : List ℕ)
    (stands : (place : ℕ) (text : List ℕ) → text_at room texts place ≡ Some text → StandsAt strings place text) where
  pub texts_at : (places : List ℕ) (names : List (List ℕ)) → each (text_at room texts) places ≡ Some names → AreAt strings names places
  texts_at places names h = record {
    count = each-length (text_at room texts) places names h;
    each = λ i d t within. stands (get_or places i d) (get_or names i t) (each-at (text_at room texts) places names h i d t within);
  }

  definition_at_places : (d : DefinitionNumbers) (v : VersionDefinition) → shown_definition room texts d ≡ Some v
      → AreAt strings v.names d.names
  unfolding shown_definition
  definition_at_places d v h =
      let (names, there, made) = bind_some (each (text_at room texts) d.names)
      (λ ns. Some (record { index = d.index; flags = d.flags; names = ns })) v h in
      subst (λ (x : VersionDefinition). AreAt strings x.names d.names)
      (same_Some (record { index = d.index; flags = d.flags; names = names }) v made)
      (texts_at d.names names there)

  pub definitions_at_places : (records : List DefinitionNumbers) (definitions : List VersionDef)
      → each (shown_definition room texts) records ≡ Some (map definition_model definitions)
      → AreDefinitionsAt strings definitions records
  definitions_at_places records definitions h =
      let show : DefinitionNumbers → Option VersionDefinition = shown_definition room texts in
      let long : length (map definition_model definitions) ≡ length definitions = length-map definitions definition_model in
      let count : length records ≡ length definitions = each-length show records (map definition_model definitions) h ∙ long in
      record {
        count = count;
        each = λ i d r within.
            let shown : show (get_or records i r) ≡ Some (definition_model (get_or definitions i d)) =
            each-at show records (map definition_model definitions) h i r (definition_model d) (omega (arith, within, long))
            ∙ ap (λ (v : VersionDefinition). Some v) (get_or-map definition_model definitions i d (definition_model d) within) in
            definition_at_places (get_or records i r) (definition_model (get_or definitions i d)) shown;
      }

  name_at_its_place : (n : NeedNameNumbers) (v : VersionName) → shown_need_name room texts n ≡ Some v → StandsAt strings n.name v.name
  unfolding shown_need_name
  name_at_its_place n v h =
      let (name, there, made) = bind_some (text_at room texts n.name)
      (λ x. Some (record { index = n.index; name = x; flags = n.flags })) v h in
      subst (λ (x : VersionName). StandsAt strings n.name x.name)
      (same_Some (record { index = n.index; name = name; flags = n.flags }) v made)
      (stands n.name name there)

  names_at_places : (records : List NeedNameNumbers) (versions : List VersionNeedName)
      → each (shown_need_name room texts) records ≡ Some (map name_model versions) → AreNamesAt strings versions records
  names_at_places records versions h =
      let show : NeedNameNumbers → Option VersionName = shown_need_name room texts in
      let long : length (map name_model versions) ≡ length versions = length-map versions name_model in
      record {
        count = each-length show records (map name_model versions) h ∙ long;
        each = λ i v r within.
            name_at_its_place (get_or records i r) (name_model (get_or versions i v))
            (each-at show records (map name_model versions) h i r (name_model v) (omega (arith, within, long))
            ∙ ap (λ (x : VersionName). Some x) (get_or-map name_model versions i v (name_model v) within));
      }

  need_at_its_place : (n : NeedNumbers) (need : VersionNeed) → shown_need room texts n ≡ Some (needs_model need)
      → IsNeedAt strings need n
  unfolding shown_need
  need_at_its_place n need h =
      let names : Option (List VersionName) = each (shown_need_name room texts) n.versions in
      let (file, file_there, more) = bind_some (text_at room texts n.file)
      (λ f. names >>= λ vs. Some (record { file = f; versions = vs })) (needs_model need) h in
      let (versions, there, made) = bind_some names (λ vs. Some (record { file = file; versions = vs })) (needs_model need) more in
      let same : record { file = file; versions = versions } ≡ needs_model need =
      same_Some (record { file = file; versions = versions }) (needs_model need) made in
      record {
        file = subst (λ (x : VersionNeeds). StandsAt strings n.file x.file) same (stands n.file file file_there);
        versions = names_at_places n.versions need.versions.items
            (there ∙ ap (λ (x : VersionNeeds). Some x.versions) same);
      }

  pub needs_at_places : (records : List NeedNumbers) (needs : List VersionNeed)
      → each (shown_need room texts) records ≡ Some (map needs_model needs) → AreNeedsAt strings needs records
  needs_at_places records needs h =
      let show : NeedNumbers → Option VersionNeeds = shown_need room texts in
      let long : length (map needs_model needs) ≡ length needs = length-map needs needs_model in
      let count : length records ≡ length needs = each-length show records (map needs_model needs) h ∙ long in
      record {
        count = count;
        each = λ i n r within.
            need_at_its_place (get_or records i r) (get_or needs i n)
            (each-at show records (map needs_model needs) h i r (needs_model n) (omega (arith, within, long))
            ∙ ap (λ (v : VersionNeeds). Some v) (get_or-map needs_model needs i n (needs_model n) within));
      }
