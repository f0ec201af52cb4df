-- A chain of records that is put together record by record.
use Rattle.std.proofs.Common.{◌≡◌, ℕ, ◌+◌, ◌%◌, ◌<◌, ◌≤◌, Bool, true, false, cond, List, [], ◌∷◌, ◌++◌, length, drop, take, get_or, ltb, map, refl, sym, subst, ap, ◌∙◌, inl, inr, add-zero, arith}
use Rattle.std.specs.Prelude.{◌||◌, nat_le, if◌then◌else◌}
use Rattle.std.specs.List.{AllByRecursion, list_any}
use Rattle.std.proofs.lemmas.Bool.{cond-false, cond-true, cases_eq, cases_lt, le-leb, le-ltb, leb-false, lt-leb, lt-ltb, or_parts}
use Rattle.std.proofs.lemmas.List.{append_assoc, append-nil, drop_all, drop_at, drop_more, get_or_default, length-drop, length-map, map-append, take_at, take_more}
use Rattle.std.proofs.lemmas.List.Elements.{recursion_from_All}
use Rattle.patch_bytes.specs.declared.number.ByteOrder2.{ByteOrder2}
use Rattle.patch_bytes.specs.Number.{bytes_of, number_at}
use Rattle.patch_bytes.proofs.NumberLaws.{length-bytes_of, number_at-bytes_of}
use Rattle.elf_format.specs.declared.form.Form.{Form}
use Rattle.elf_format.specs.declared.version_id.VersionId.{VersionId}
use Rattle.elf_format.specs.Form.{fixed_field, records}
use Rattle.elf_format.specs.Versions.{VersionDefinition, version_id}
use Rattle.elf_tables.proofs.FieldLaws.{fields-append}
use Rattle.elf_tables.specs.Strings.{Strings}
use Rattle.elf_tables.specs.VersionRecords.{PlacedDefinition, are_names_too_many, chained, fields, halves, is_index_too_large, next_behind, place_in, placed_definition, spelled_definition, spelled_definition_name, version_fields, version_number, words}
use Rattle.elf_tables.specs.VersionSteps.{DefinitionFits}
use Rattle.elf_tables.proofs.RecordLaws.{fixed_field-number}

pub versions_more : (order : ByteOrder2) (was now : List ℕ) (ids : List VersionId) (i n : ℕ) (d : VersionId) → i < length ids → was ≡ fields order (version_fields (take i ids))
    → n ≡ version_number (get_or ids i d) → now ≡ was ++ (bytes_of order 2 n ++ []) → now ≡ fields order (version_fields (take (i + 1) ids))
versions_more order was now ids i n d inside before is step =
    let more : fields order (version_fields (take (i + 1) ids)) ≡ fields order (version_fields (take i ids)) ++ (bytes_of order 2 (version_number (get_or ids i d)) ++ []) =
    ap (λ l. fields order (version_fields l)) (take_more ids i d inside)
    ∙ ap (fields order) (map-append (λ (id : VersionId). (2, version_number id)) (take i ids) (get_or ids i d ∷ []))
    ∙ fields-append order (version_fields (take i ids)) ((2, version_number (get_or ids i d)) ∷ []) in
    step ∙ ap (λ l. l ++ (bytes_of order 2 n ++ [])) before ∙ ap (λ m. fields order (version_fields (take i ids)) ++ (bytes_of order 2 m ++ [])) is ∙ sym more

-- ## Versions of symbols are read back

one_id : (index : ℕ) (hidden : Bool) → index < 32768 → (number : ℕ) → number ≡ index + (if hidden then 32768 else 0)
    → Path VersionId (record { index = number % 32768; hidden = nat_le 32768 number }) (record { index = index; hidden = hidden })
one_id index true below number is =
    let whole : number ≡ index + 32768 = is in
    let rest : number % 32768 ≡ index = omega arith in
    (λ i. record { index = rest i; hidden = le-leb 32768 number (omega arith) i })
one_id index false below number is =
    let whole : number ≡ index = is ∙ add-zero index in
    let rest : number % 32768 ≡ index = omega arith in
    (λ i. record { index = rest i; hidden = lt-leb 32768 number (omega arith) i })

pub ids-read_back : (form : Form) (ids : List VersionId) → list_any is_index_too_large ids ≡ false → records (version_id form) 2 (length ids) (fields form.order (version_fields ids)) ≡ ids
unfolding records version_id
ids-read_back form [] e = refl
ids-read_back form (id ∷ ids) e =
    let parts = or_parts (is_index_too_large id) (list_any is_index_too_large ids) e in
    let below : id.index < 32768 = leb-false 32768 id.index parts.0 in
    let fits : version_number id < 65536 = number_fits id.index id.hidden below in
    let front : List ℕ = bytes_of form.order 2 (version_number id) in
    let rest : List ℕ = fields form.order (version_fields ids) in
    let number : fixed_field form (0, 2) front ≡ version_number id =
    fixed_field-number form (0, 2) front ∙ ap (number_at form.order 2 0) (sym (append-nil front)) ∙ number_at-bytes_of form.order 2 (version_number id) [] fits in
    (λ i. version_id form (take_at front rest 2 (length-bytes_of form.order 2 (version_number id)) i) ∷ records (version_id form) 2 (length ids) (drop_at front rest 2 (length-bytes_of form.order 2 (version_number id)) i))
    ∙ (λ i. one_id id.index id.hidden below (fixed_field form (0, 2) front) number i ∷ ids-read_back form ids parts.1 i)
  where
    number_fits : (index : ℕ) (hidden : Bool) → index < 32768 → index + (if hidden then 32768 else 0) < 65536
    number_fits index true low = omega arith
    number_fits index false low = omega arith

-- how far behind the i-th record the next one stands
next_at : {A : Type 0} (xs : List A) (i n : ℕ) → next_behind (drop (i + 1) xs) n ≡ cond (ltb (i + 1) (length xs)) n 0
next_at {A} xs i n = elim (cases_lt (i + 1) (length xs)) [
  | inl less ↦ next_more (drop (i + 1) xs) (omega (arith, length-drop (i + 1) xs)) ∙ sym (cond-true (ltb (i + 1) (length xs)) n 0 (lt-ltb (i + 1) (length xs) less))
  | inr more ↦ ap (λ l. next_behind l n) (drop_all (i + 1) xs more) ∙ sym (cond-false (ltb (i + 1) (length xs)) n 0 (le-ltb (i + 1) (length xs) more))
]
  where
    next_more : (ys : List A) → 0 < length ys → next_behind ys n ≡ n
    next_more [] some = absurd (omega arith)
    next_more (y ∷ ys) some = refl

-- the chain so far, and what each record so far meets
pub record Chaining {A : Type 0} (spell : A → ℕ → List ℕ) (size : A → ℕ) (Fits : A → Type 0) (start : List ℕ) (xs : List A) (i : ℕ) (bytes : List ℕ) : Type 0 where
  pub made : bytes ++ chained spell size (drop i xs) ≡ start ++ chained spell size xs
  pub fit : (k : ℕ) (d : A) → k < i → k < length xs → Fits (get_or xs k d)

module _ {A : Type 0} (spell : A → ℕ → List ℕ) (size : A → ℕ) (Fits : A → Type 0) (start : List ℕ) (xs : List A) where
  pub chaining-more : (i : ℕ) (bytes new : List ℕ) (x : A) (n : ℕ) → Chaining spell size Fits start xs i bytes → i < length xs → x ≡ get_or xs i x → Fits x
      → n ≡ cond (ltb (i + 1) (length xs)) (size x) 0 → new ≡ bytes ++ spell x n → Chaining spell size Fits start xs (i + 1) new
  unfolding chained
  chaining-more i bytes new x n so_far within here fits next grown =
      let cut : chained spell size (drop i xs) ≡ spell x n ++ chained spell size (drop (i + 1) xs) =
      ap (chained spell size) (drop_more xs i x within ∙ ap (λ y. y ∷ drop (i + 1) xs) (sym here))
      ∙ ap (λ m. spell x m ++ chained spell size (drop (i + 1) xs)) (next_at xs i (size x) ∙ sym next) in
      record {
        made = ap (λ l. l ++ chained spell size (drop (i + 1) xs)) grown ∙ append_assoc bytes (spell x n) (chained spell size (drop (i + 1) xs)) ∙ ap (λ l. bytes ++ l) (sym cut) ∙ so_far.made;
        fit = λ k d below inside. elim (cases_eq k i) [
          | inl same ↦ subst (λ (j : ℕ). Fits (get_or xs j d)) (sym same) (subst Fits (here ∙ get_or_default xs i x d within) fits)
          | inr ne ↦ so_far.fit k d (omega arith) inside
        ];
      }

  pub chaining-all : (i : ℕ) (bytes : List ℕ) → Chaining spell size Fits start xs i bytes → length xs ≤ i → (bytes ≡ start ++ chained spell size xs) × AllByRecursion Fits xs
  unfolding chained
  chaining-all i bytes so_far past = (
    sym (append-nil bytes) ∙ ap (λ l. bytes ++ chained spell size l) (sym (drop_all i xs past)) ∙ so_far.made,
    recursion_from_All Fits xs (λ k d within. so_far.fit k d (omega arith) within),
  )

-- ## A defined version

pub definition_made : (order : ByteOrder2) (d : PlacedDefinition) (bytes first second new : List ℕ) (count hash next : ℕ) → count ≡ length d.names → hash ≡ d.hash
    → first ≡ bytes ++ fields order (halves (1 ∷ d.flags ∷ d.index ∷ count ∷ [])) → second ≡ first ++ fields order (words (hash ∷ 20 ∷ next ∷ []))
    → new ≡ second ++ chained (spelled_definition_name order) (λ name. 8) d.names → new ≡ bytes ++ spelled_definition order d next
unfolding spelled_definition
definition_made order d bytes first second new count hash next counted hashed one two three =
    let front : List ℕ = fields order (halves (1 ∷ d.flags ∷ d.index ∷ count ∷ [])) in
    let back : List ℕ = fields order (words (hash ∷ 20 ∷ next ∷ [])) in
    let names : List ℕ = chained (spelled_definition_name order) (λ name. 8) d.names in
    let head : fields order ((2, 1) ∷ (2, d.flags) ∷ (2, d.index) ∷ (2, length d.names) ∷ (4, d.hash) ∷ (4, 20) ∷ (4, next) ∷ []) ≡ front ++ back =
    (λ i. fields order ((2, 1) ∷ (2, d.flags) ∷ (2, d.index) ∷ (2, sym counted i) ∷ (4, sym hashed i) ∷ (4, 20) ∷ (4, next) ∷ []))
    ∙ fields-append order (halves (1 ∷ d.flags ∷ d.index ∷ count ∷ [])) (words (hash ∷ 20 ∷ next ∷ [])) in
    three ∙ ap (λ l. l ++ names) (two ∙ ap (λ l. l ++ back) one) ∙ ap (λ l. l ++ names) (append_assoc bytes front back) ∙ append_assoc bytes (front ++ back) names
    ∙ ap (λ l. bytes ++ (l ++ names)) (sym head)

-- versions whose numbers fit don't have too many names
pub names_fit : (table : Strings) (ds : List VersionDefinition) → AllByRecursion DefinitionFits (map (placed_definition table) ds) → list_any are_names_too_many ds ≡ false
names_fit table [] fits = refl
names_fit table (d ∷ ds) fits =
    let below : length (map (place_in table) d.names) < 65536 = fits.0.count in
    ap (λ b. b || list_any are_names_too_many ds) (lt-leb 65536 (length d.names) (omega (arith, length-map d.names (place_in table)))) ∙ names_fit table ds fits.1

pub fits_each : (table : Strings) (ds : List VersionDefinition) → AllByRecursion DefinitionFits (map (placed_definition table) ds) → AllByRecursion (λ (d : VersionDefinition). DefinitionFits (placed_definition table d)) ds
fits_each table [] fits = tt
fits_each table (d ∷ ds) fits = (fits.0, fits_each table ds fits.1)
