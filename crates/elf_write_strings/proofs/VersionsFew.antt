-- Version records that were read have no more texts than 16 bits can count.
use Rattle.std.proofs.Common.{◌≡◌, ℕ, zero, suc, ◌+◌, ◌<◌, ◌≤◌, ◌^◌, Bool, true, false, cond, inl, inr, List, [], ◌∷◌, length, map, get_or, refl, sym, ap, ◌∙◌, subst, Option, Some, None, arith}
use Rattle.std.specs.Prelude.{◌&&◌, ◌||◌, ◌==◌, filter, if◌then◌else◌, nat_le, not}
use Rattle.std.specs.List.{AllByRecursion, list_any, slice_get}
use Rattle.std.proofs.lemmas.Bool.{both_ways, cases_lt, cond_both, false≢true, le-leb, lt-leb}
use Rattle.std.proofs.lemmas.List.{length-map}
use Rattle.std.proofs.lemmas.Option.{get_or_from_slice_get, same_Some}
use Rattle.patch_bytes.specs.Bytes.{AreBytes}
use Rattle.patch_bytes.specs.Number.{field, number_at}
use Rattle.patch_bytes.specs.Memory.{◌>>=◌, Memory, bytes_at, memory_of, text_at}
use Rattle.patch_bytes.proofs.MemoryLaws.{bind_some}
use Rattle.patch_bytes.proofs.NumberLaws.{AreBytes-drop, AreBytes-take}
use Rattle.elf_format.specs.declared.form.Form.{Form}
use Rattle.elf_format.specs.declared.constants.TheConstants.{SHT_GNU_VERDEF, SHT_GNU_VERNEED}
use Rattle.elf_format.specs.declared.records.SectionHeader.{SectionHeader}
use Rattle.elf_format.specs.File.{Parts, has_file_bytes, section_bytes, section_of_type}
use Rattle.elf_format.specs.Form.{fixed_field}
use Rattle.elf_format.specs.Image.{Image, definitions_read, needs_read}
use Rattle.elf_format.specs.Options.{each, is_some_and}
use Rattle.elf_layout_plan.specs.Needs.{do_needs_stay, is_version_dropped, lists_needs, staying_names, staying_needs, with_staying_names, written_needs}
use Rattle.elf_format.specs.Rules.{definition_steps, file_of, linked_texts, need_steps}
use Rattle.elf_format.specs.Versions.{DefinitionNumbers, NeedNumbers, Step, VersionDefinition, VersionName, VersionNeeds, definition_at, definition_name_at, is_whole_walk, need_at, need_name_at, shown_definition, shown_need, shown_need_name, values_of, chain_steps}
use Rattle.elf_format.specs.declared.records.NeedNameNumbers.{NeedNameNumbers}
use Rattle.elf_format.proofs.ForCallers.NumberSteps.{number_at-below}
use Rattle.elf_image.specs.Edited.{IsEdited}
use Rattle.elf_image.proofs.ForCallers.NeedsKept.{versions_same}
use Rattle.elf_image.proofs.ForCallers.ReadImageLaws.{read_images_hold_parts}
use Rattle.elf_tables.specs.VersionRecords.{are_names_too_many, are_versions_too_many}
use Rattle.elf_tables.proofs.ForCallers.RecordLaws.{fixed_field-number}
use Rattle.elf_write_strings.proofs.VersionsTexts.{each-length}

-- ## Bytes

bytes_first : (x : ℕ) (xs : List ℕ) → x < 256 → AreBytes xs → AreBytes (x ∷ xs)
bytes_first x xs byte h = record { each = each_of }
  where
    each_of : (i : ℕ) → get_or (x ∷ xs) i 0 < 256
    each_of zero = byte
    each_of (suc i) = h.each i

pub bytes_read : (n : ℕ) (xs : List ℕ) → AreBytes xs → (a : ℕ) (bytes : List ℕ) → bytes_at n (memory_of xs) a ≡ Some bytes → AreBytes bytes
unfolding bytes_at
bytes_read zero xs are a bytes h =
    subst AreBytes (same_Some [] bytes h) (record { each = λ i. omega arith })
bytes_read (suc n) xs are a bytes h =
    let (x, here, more) = bind_some (slice_get xs a) (λ y. bytes_at n (memory_of xs) (a + 1) >>= λ rest. Some (y ∷ rest)) bytes h in
    let (rest, there, made) = bind_some (bytes_at n (memory_of xs) (a + 1)) (λ r. Some (x ∷ r)) bytes more in
    let byte : x < 256 = subst (λ (y : ℕ). y < 256) (get_or_from_slice_get xs a x 0 here) (are.each a) in
    subst AreBytes (same_Some (x ∷ rest) bytes made) (bytes_first x rest byte (bytes_read n xs are (a + 1) rest there))

pub section_read_bytes : (file : List ℕ) (s : SectionHeader) → AreBytes file → AreBytes (section_bytes file s)
unfolding section_bytes
section_read_bytes file s are =
    cond_both (has_file_bytes s) (field s.sh_size s.sh_offset file) [] AreBytes
    (λ _. AreBytes-take s.sh_size _ (AreBytes-drop s.sh_offset file are))
    (λ _. record { each = λ i. omega arith })

pub half_below : (form : Form) (pos : ℕ) (bytes : List ℕ) → AreBytes bytes → fixed_field form (pos, 2) bytes < 2 ^ 16
half_below form pos bytes are =
    let below : number_at form.order 2 pos bytes < 256 ^ 2 = number_at-below form.order 2 pos bytes are in
    let same : fixed_field form (pos, 2) bytes ≡ number_at form.order 2 pos bytes = fixed_field-number form (pos, 2) bytes in
    omega (arith, below, same)

-- ## Walks

-- a walk after what it met at a place
met : {A : Type 0} → (ℕ → Option (Step A)) → ℕ → ℕ → Option (Step A) → List (Step A)
met read count a o = elim o [
  | None ↦ []
  | Some step ↦ step ∷ (elim (step.is_whole && not (step.next == 0)) [ true ↦ chain_steps read count (a + step.next) | _ ↦ [] ])
]

met_short : {A : Type 0} (read : ℕ → Option (Step A)) (count a : ℕ) (o : Option (Step A))
    → ((b : ℕ) → length (chain_steps read count b) ≤ count) → length (met read count a o) ≤ suc count
unfolding met
met_short read count a None more = omega arith
met_short {A} read count a (Some step) more = by_test (step.is_whole && not (step.next == 0))
  where
    by_test : (b : Bool) → length (step ∷ (elim b as (λ _. List (Step A)) [ true ↦ chain_steps read count (a + step.next) | _ ↦ [] ])) ≤ suc count
    by_test true = let short = more (a + step.next) in omega (arith, short)
    by_test false = omega arith

-- a walk meets no more records than it should
pub walk_short : {A : Type 0} (read : ℕ → Option (Step A)) (count a : ℕ) → length (chain_steps read count a) ≤ count
unfolding chain_steps met
walk_short read zero a = omega arith
walk_short read (suc count) a = met_short read count a (read a) (λ b. walk_short read count b)

met_all : {A : Type 0} (P : A → Type 0) (read : ℕ → Option (Step A)) (count a : ℕ) (o : Option (Step A)) → ((s : Step A) → o ≡ Some s → P s.value)
    → ((b : ℕ) → AllByRecursion P (values_of (chain_steps read count b))) → AllByRecursion P (values_of (met read count a o))
unfolding met
met_all P read count a None here more = tt
met_all {A} P read count a (Some step) here more = (here step refl, by_test (step.is_whole && not (step.next == 0)))
  where
    by_test : (b : Bool) → AllByRecursion P (values_of (elim b as (λ _. List (Step A)) [ true ↦ chain_steps read count (a + step.next) | _ ↦ [] ]))
    by_test true = more (a + step.next)
    by_test false = tt

-- what holds of each record holds of all that a walk meets
pub walk_all : {A : Type 0} (P : A → Type 0) (read : ℕ → Option (Step A)) → ((a : ℕ) (s : Step A) → read a ≡ Some s → P s.value)
    → (count a : ℕ) → AllByRecursion P (values_of (chain_steps read count a))
unfolding chain_steps met
walk_all P read holds zero a = tt
walk_all P read holds (suc count) a = met_all P read count a (read a) (λ s there. holds a s there) (λ b. walk_all P read holds count b)

-- ## Defined versions

definition_step : Form → Memory → ℕ → List ℕ → Step DefinitionNumbers
definition_step form memory a bytes =
    let count = fixed_field form (6, 2) bytes in
    let names = chain_steps (definition_name_at form memory) count (a + fixed_field form (12, 4) bytes) in
    record {
      value = record { index = fixed_field form (4, 2) bytes; flags = fixed_field form (2, 2) bytes; names = values_of names };
      is_whole = is_whole_walk count names;
      next = fixed_field form (16, 4) bytes;
    }

abbrev IsShort : DefinitionNumbers → Type 0
IsShort d = length d.names < 2 ^ 16

step_short : (form : Form) (memory : Memory) (a : ℕ) (bytes : List ℕ) → AreBytes bytes → IsShort (definition_step form memory a bytes).value
unfolding definition_step
step_short form memory a bytes are =
    let count : ℕ = fixed_field form (6, 2) bytes in
    let below : count < 2 ^ 16 = half_below form 6 bytes are in
    let names : List (Step ℕ) = chain_steps (definition_name_at form memory) count (a + fixed_field form (12, 4) bytes) in
    let short : length names ≤ count = walk_short (definition_name_at form memory) count (a + fixed_field form (12, 4) bytes) in
    let same : length (values_of names) ≡ length names = length-map names (λ (s : Step ℕ). s.value) in
    omega (arith, below, short, same)

definition_short : (form : Form) (xs : List ℕ) → AreBytes xs → (a : ℕ) (s : Step DefinitionNumbers) → definition_at form (memory_of xs) a ≡ Some s
    → IsShort s.value
unfolding definition_at definition_step
definition_short form xs are a s h =
    let (bytes, there, made) = bind_some (bytes_at 20 (memory_of xs) a) (λ b. Some (definition_step form (memory_of xs) a b)) s h in
    subst (λ (x : Step DefinitionNumbers). IsShort x.value) (same_Some (definition_step form (memory_of xs) a bytes) s made)
    (step_short form (memory_of xs) a bytes (bytes_read 20 xs are a bytes there))

not_many : (n : ℕ) → n < 2 ^ 16 → nat_le (2 ^ 16) n ≡ false
not_many n below = lt-leb (2 ^ 16) n below

shown_few : (room : ℕ) (texts : Memory) (d : DefinitionNumbers) (v : VersionDefinition) → shown_definition room texts d ≡ Some v → IsShort d
    → are_names_too_many v ≡ false
unfolding shown_definition
shown_few room texts d v h short =
    let (names, there, made) = bind_some (each (text_at room texts) d.names)
    (λ ns. Some (record { index = d.index; flags = d.flags; names = ns })) v h in
    let long : length d.names ≡ length names = each-length (text_at room texts) d.names names there in
    subst (λ (x : VersionDefinition). are_names_too_many x ≡ false)
    (same_Some (record { index = d.index; flags = d.flags; names = names }) v made)
    (not_many (length names) (omega (arith, long, short)))

-- what isn't so of each value that is shown
pub none_shown : {A B : Type 0} (f : A → Option B) (P : A → Type 0) (test : B → Bool) → ((x : A) (y : B) → f x ≡ Some y → P x → test y ≡ false)
    → (xs : List A) (ys : List B) → each f xs ≡ Some ys → AllByRecursion P xs → list_any test ys ≡ false
unfolding each
none_shown f P test fails [] ys h all = ap (list_any test) (sym (same_Some [] ys h))
none_shown f P test fails (x ∷ xs) ys h all =
    let (y, y_there, more) = bind_some (f x) (λ z. each f xs >>= λ zs. Some (z ∷ zs)) ys h in
    let (zs, zs_there, made) = bind_some (each f xs) (λ zs. Some (y ∷ zs)) ys more in
    ap (list_any test) (sym (same_Some (y ∷ zs) ys made))
    ∙ ap (λ (b : Bool). b || list_any test zs) (fails x y y_there all.0)
    ∙ none_shown f P test fails xs zs zs_there all.1

module _ (p : Parts) (are : AreBytes (file_of p)) where
  few_read : (o : Option SectionHeader) (vs : List VersionDefinition) → definitions_read p o ≡ Some vs → list_any are_names_too_many vs ≡ false
  unfolding definitions_read
  few_read None vs h = ap (list_any are_names_too_many) (sym (same_Some [] vs h))
  few_read (Some s) vs h =
      let room : ℕ = length (file_of p) in
      let bytes : List ℕ = section_bytes (file_of p) s in
      none_shown (shown_definition room (linked_texts p s)) IsShort are_names_too_many (shown_few room (linked_texts p s))
      (values_of (definition_steps p s)) vs h
      (walk_all IsShort (definition_at p.opened.form (memory_of bytes))
      (definition_short p.opened.form bytes (section_read_bytes (file_of p) s are)) s.sh_info 0)

pub few_names : (image : Image) → IsEdited image → AreBytes image.source → list_any are_names_too_many image.definitions ≡ false
few_names image is are =
    let (p, accepted, parts, meets, holds) = read_images_hold_parts image.source is.read is.is_read in
    ap (list_any are_names_too_many) is.is_edit.definitions
    ∙ few_read p (subst AreBytes (sym parts.same_file) are) (section_of_type SHT_GNU_VERDEF p.sections) is.read.definitions holds.definitions

-- ## Needed versions

need_step : Form → Memory → ℕ → List ℕ → Step NeedNumbers
need_step form memory a bytes =
    let count = fixed_field form (2, 2) bytes in
    let versions = chain_steps (need_name_at form memory) count (a + fixed_field form (8, 4) bytes) in
    record {
      value = record { file = fixed_field form (4, 4) bytes; versions = values_of versions };
      is_whole = is_whole_walk count versions;
      next = fixed_field form (12, 4) bytes;
    }

abbrev IsShortNeed : NeedNumbers → Type 0
IsShortNeed n = length n.versions < 2 ^ 16

need_step_short : (form : Form) (memory : Memory) (a : ℕ) (bytes : List ℕ) → AreBytes bytes → IsShortNeed (need_step form memory a bytes).value
unfolding need_step
need_step_short form memory a bytes are =
    let count : ℕ = fixed_field form (2, 2) bytes in
    let below : count < 2 ^ 16 = half_below form 2 bytes are in
    let versions : List (Step NeedNameNumbers) = chain_steps (need_name_at form memory) count (a + fixed_field form (8, 4) bytes) in
    let short : length versions ≤ count = walk_short (need_name_at form memory) count (a + fixed_field form (8, 4) bytes) in
    let same : length (values_of versions) ≡ length versions = length-map versions (λ (s : Step NeedNameNumbers). s.value) in
    omega (arith, below, short, same)

need_short : (form : Form) (xs : List ℕ) → AreBytes xs → (a : ℕ) (s : Step NeedNumbers) → need_at form (memory_of xs) a ≡ Some s
    → IsShortNeed s.value
unfolding need_at need_step
need_short form xs are a s h =
    let (bytes, there, made) = bind_some (bytes_at 16 (memory_of xs) a) (λ b. Some (need_step form (memory_of xs) a b)) s h in
    subst (λ (x : Step NeedNumbers). IsShortNeed x.value) (same_Some (need_step form (memory_of xs) a bytes) s made)
    (need_step_short form (memory_of xs) a bytes (bytes_read 16 xs are a bytes there))

shown_need_few : (room : ℕ) (texts : Memory) (n : NeedNumbers) (v : VersionNeeds) → shown_need room texts n ≡ Some v → IsShortNeed n
    → are_versions_too_many v ≡ false
unfolding shown_need
shown_need_few room texts n v h short =
    let names : Option (List VersionName) = each (shown_need_name room texts) n.versions in
    let (file, file_there, more) = bind_some (text_at room texts n.file)
    (λ f. names >>= λ vs. Some (record { file = f; versions = vs })) v h in
    let (versions, there, made) = bind_some names (λ vs. Some (record { file = file; versions = vs })) v more in
    let long : length n.versions ≡ length versions = each-length (shown_need_name room texts) n.versions versions there in
    subst (λ (x : VersionNeeds). are_versions_too_many x ≡ false)
    (same_Some (record { file = file; versions = versions }) v made)
    (not_many (length versions) (omega (arith, long, short)))

module _ (p : Parts) (are : AreBytes (file_of p)) where
  few_needs_read : (o : Option SectionHeader) (vs : List VersionNeeds) → needs_read p o ≡ Some vs → list_any are_versions_too_many vs ≡ false
  unfolding needs_read
  few_needs_read None vs h = ap (list_any are_versions_too_many) (sym (same_Some [] vs h))
  few_needs_read (Some s) vs h =
      let room : ℕ = length (file_of p) in
      let bytes : List ℕ = section_bytes (file_of p) s in
      none_shown (shown_need room (linked_texts p s)) IsShortNeed are_versions_too_many (shown_need_few room (linked_texts p s))
      (values_of (need_steps p s)) vs h
      (walk_all IsShortNeed (need_at p.opened.form (memory_of bytes))
      (need_short p.opened.form bytes (section_read_bytes (file_of p) s are)) s.sh_info 0)

-- a test of one of them, by what it answers of each
any_answer : {A : Type 0} (test : A → Bool) (xs : List A) → list_any test xs ≡ list_any (λ b. b) (map test xs)
any_answer test [] = refl
any_answer test (x ∷ xs) = ap (λ (b : Bool). test x || b) (any_answer test xs)

pub few_versions : (image : Image) → IsEdited image → AreBytes image.source → list_any are_versions_too_many image.needs ≡ false
few_versions image is are =
    let (p, accepted, parts, meets, holds) = read_images_hold_parts image.source is.read is.is_read in
    any_answer are_versions_too_many image.needs
    ∙ ap (list_any (λ (b : Bool). b)) (versions_same (λ (vs : List VersionName). nat_le (2 ^ 16) (length vs)) is.read.needs image.needs is.is_edit.needs.same)
    ∙ sym (any_answer are_versions_too_many is.read.needs)
    ∙ few_needs_read p (subst AreBytes (sym parts.same_file) are) (section_of_type SHT_GNU_VERNEED p.sections) is.read.needs holds.needs

-- ## Those that stay

fewer_by : (b : Bool) {A : Type 0} (x : A) (kept xs : List A) → length kept ≤ length xs → length (cond b (x ∷ kept) kept) ≤ length (x ∷ xs)
fewer_by true x kept xs less = omega (arith, less)
fewer_by false x kept xs less = omega (arith, less)

fewer_kept : {A : Type 0} (test : A → Bool) (xs : List A) → length (filter test xs) ≤ length xs
fewer_kept test [] = omega arith
fewer_kept test (x ∷ xs) = fewer_by (test x) x (filter test xs) xs (fewer_kept test xs)

neither : (a b : Bool) → (a || b) ≡ false → (a ≡ false) × (b ≡ false)
neither true b h = absurd (false≢true (sym h))
neither false b h = (refl, h)

module _ (read image : Image) where
  few_left : (n : VersionNeeds) → are_versions_too_many n ≡ false → are_versions_too_many (with_staying_names read image n) ≡ false
  few_left n few =
      let fewer : length (staying_names read image n.versions) ≤ length n.versions =
      fewer_kept (λ v. not (is_version_dropped read image v.index)) n.versions in
      elim (cases_lt (length n.versions) (2 ^ 16)) [
        | inl below ↦ not_many (length (staying_names read image n.versions)) (omega (arith, fewer, below))
        | inr many ↦ absurd (both_ways (are_versions_too_many n) few (le-leb (2 ^ 16) (length n.versions) many))
      ]

  few_by : (b : Bool) (n : VersionNeeds) (kept : List VersionNeeds) → are_versions_too_many n ≡ false
      → list_any are_versions_too_many (map (with_staying_names read image) kept) ≡ false
      → list_any are_versions_too_many (map (with_staying_names read image) (cond b (n ∷ kept) kept)) ≡ false
  few_by true n kept few rest =
      ap (λ (b : Bool). b || list_any are_versions_too_many (map (with_staying_names read image) kept)) (few_left n few) ∙ rest
  few_by false n kept few rest = rest

  few_staying : (ns : List VersionNeeds) → list_any are_versions_too_many ns ≡ false
      → list_any are_versions_too_many (map (with_staying_names read image) (filter (do_needs_stay read image) ns)) ≡ false
  few_staying [] few = refl
  few_staying (n ∷ ns) few =
      let both = neither (are_versions_too_many n) (list_any are_versions_too_many ns) few in
      few_by (do_needs_stay read image n) n (filter (do_needs_stay read image) ns) both.0 (few_staying ns both.1)

  pub few_written : IsEdited image → AreBytes image.source → list_any are_versions_too_many (written_needs read image) ≡ false
  unfolding written_needs
  few_written is are = by_test (is_some_and lists_needs image.entries)
    where
      by_test : (b : Bool) → list_any are_versions_too_many (if b then staying_needs read image else image.needs) ≡ false
      by_test true = few_staying image.needs (few_versions image is are)
      by_test false = few_versions image is are
