-- The steps of the rule on versions: marks of known indices, and version symbols against them.
use Rattle.std.proofs.Common.{◌≡◌, ◌≤◌, ◌<◌, ℕ, zero, suc, ◌+◌, ◌-◌, ◌/◌, ◌^◌, Bool, true, false, eqb, ltb, List, [], ◌∷◌, ◌++◌, length, map, take, drop, get_or, set, refl, sym, ap, ◌∙◌, inl, inr, Option, Some, None, arith}
use Rattle.std.specs.Prelude.{◌&&◌, ◌||◌}
use Rattle.std.specs.List.{flat_map, list_all}
use Rattle.std.proofs.lemmas.List.{drop_all, drop_more, get_or-set_other, get_or-set_same, length-set, nil_from_length}
use Rattle.std.proofs.lemmas.Bool.{cases_eq, eq-eqb, le-ltb, lt-ltb, ne_eqb}
use Rattle.patch_bytes.specs.Number.{number_at}
use Rattle.patch_bytes.specs.declared.number.ByteOrder2.{ByteOrder2}
use Rattle.patch_bytes.specs.declared.number.ByteOrder2.TheVariants.{Big, Little}
use Rattle.patch_bytes.specs.declared.number.Wide.{Wide}
use Rattle.patch_bytes.specs.declared.number.Wide.TheVariants.{W32, W64}
use Rattle.elf_format.specs.declared.constants.TheConstants.{SHT_DYNSYM, SHT_GNU_VERDEF, SHT_GNU_VERNEED, VER_NDX_FIRST}
use Rattle.elf_image_versions.specs.declared.walks.Walk.{Walk}
use Rattle.elf_format.specs.declared.version_id.VersionId.{VersionId}
use Rattle.elf_format.specs.declared.form.Form.{Form}
use Rattle.elf_format.specs.Form.{records}
use Rattle.elf_format.specs.Options.{is_one_of, is_some_and, list_at}
use Rattle.elf_format.specs.File.{Parts, section_bytes, section_of_type}
use Rattle.elf_format.specs.declared.records.SectionHeader.{SectionHeader}
use Rattle.elf_format.specs.Records.{symbol_size}
use Rattle.elf_format.specs.Rules.{definition_steps, known_versions, need_steps, version_symbols_agree}
use Rattle.elf_format.specs.Versions.{DefinitionNumbers, NeedNumbers, values_of, version_id}
use Rattle.elf_image_versions.specs.WalkSteps.{AreDefinitions, AreMarked, AreNeeds, marked}

-- ## Marks

marked-append : (ms ns : List ℕ) (marks : List Bool) → marked (ms ++ ns) marks ≡ marked ns (marked ms marks)
unfolding marked
marked-append [] ns marks = refl
marked-append (m ∷ ms) ns marks = marked-append ms ns (set marks m true)

-- one mark more is set
pub mark_goes : {X : Type 0} → (f : X → ℕ) (xs : List X) (i : ℕ) (x d : X) (marks whole : List Bool) → i < length xs → x ≡ get_or xs i d → marked (map f (drop i xs)) marks ≡ whole
    → marked (map f (drop (i + 1) xs)) (set marks (f x) true) ≡ whole
unfolding marked
mark_goes f xs i x d marks whole less is so_far =
    ap (λ y. marked (map f (drop (i + 1) xs)) (set marks (f y) true)) is ∙ sym (ap (λ l. marked (map f l) marks) (drop_more xs i d less)) ∙ so_far

pub mark_done : {X : Type 0} → (f : X → ℕ) (xs : List X) (i : ℕ) (marks whole : List Bool) → length xs ≤ i → marked (map f (drop i xs)) marks ≡ whole → marks ≡ whole
unfolding marked
mark_done f xs i marks whole past so_far = sym (ap (λ l. marked (map f l) marks) (drop_all i xs past)) ∙ so_far

-- the marks of one more element
pub marks_go : {X : Type 0} → (f : X → List ℕ) (xs : List X) (i : ℕ) (x d : X) (marks whole : List Bool) → i < length xs → x ≡ get_or xs i d → marked (flat_map f (drop i xs)) marks ≡ whole
    → marked (flat_map f (drop (i + 1) xs)) (marked (f x) marks) ≡ whole
marks_go f xs i x d marks whole less is so_far =
    ap (λ y. marked (flat_map f (drop (i + 1) xs)) (marked (f y) marks)) is
    ∙ sym (ap (λ l. marked (flat_map f l) marks) (drop_more xs i d less) ∙ marked-append (f (get_or xs i d)) (flat_map f (drop (i + 1) xs)) marks) ∙ so_far

pub marks_done : {X : Type 0} → (f : X → List ℕ) (xs : List X) (i : ℕ) (marks whole : List Bool) → length xs ≤ i → marked (flat_map f (drop i xs)) marks ≡ whole → marks ≡ whole
unfolding marked
marks_done f xs i marks whole past so_far = sym (ap (λ l. marked (flat_map f l) marks) (drop_all i xs past)) ∙ so_far

-- no mark is lost or made elsewhere
length-marked : (ns : List ℕ) (marks : List Bool) → length (marked ns marks) ≡ length marks
unfolding marked
length-marked [] marks = refl
length-marked (n ∷ ns) marks = length-marked ns (set marks n true) ∙ length-set marks n true

or_true : (b c : Bool) → (b || (true || c)) ≡ true
or_true true c = refl
or_true false c = refl

pub get_or-marked : (ns : List ℕ) (marks : List Bool) (n : ℕ) → n < length marks → get_or (marked ns marks) n false ≡ (get_or marks n false || is_one_of ns n)
unfolding marked
get_or-marked [] marks n less = or_false (get_or marks n false)
  where
    or_false : (b : Bool) → b ≡ (b || false)
    or_false true = refl
    or_false false = refl
get_or-marked (k ∷ ns) marks n less =
    let within : n < length (set marks k true) = omega (arith, length-set marks k true) in
    let more : get_or (marked ns (set marks k true)) n false ≡ (get_or (set marks k true) n false || is_one_of ns n) = get_or-marked ns (set marks k true) n within in
    let rest : Bool = is_one_of ns n in
    more ∙ elim (cases_eq k n) as (λ _. (get_or (set marks k true) n false || rest) ≡ (get_or marks n false || (eqb k n || rest))) [
      | inl e ↦
          ap (λ b. b || rest) (ap (λ j. get_or (set marks j true) n false) e ∙ get_or-set_same marks n true false less)
          ∙ sym (ap (λ t. get_or marks n false || (t || rest)) (eq-eqb k n e) ∙ or_true (get_or marks n false) rest)
      | inr ne ↦
          ap (λ b. b || rest) (get_or-set_other marks k n true false (λ e. ne (sym e)))
          ∙ sym (ap (λ t. get_or marks n false || (t || rest)) (ne_eqb k n ne))
    ]

-- ## Version symbols

module _ {A : Type 0} (decode : List ℕ → A) (test : A → Bool) where
  pub all_start : (count : ℕ) (bytes : List ℕ) → list_all test (records decode 2 (count - 0) bytes) ≡ list_all test (records decode 2 count bytes)
  all_start count bytes = let e : count - 0 ≡ count = omega arith in ap (λ n. list_all test (records decode 2 n bytes)) e

  -- one record more passes
  pub all_go : (count i : ℕ) (rest : List ℕ) (whole : Bool) → i < count → test (decode (take 2 rest)) ≡ true → list_all test (records decode 2 (count - i) rest) ≡ whole
      → list_all test (records decode 2 (count - (i + 1)) (drop 2 rest)) ≡ whole
  unfolding records
  all_go count i rest whole less passes so_far =
      let n : ℕ = count - (i + 1) in
      let k : count - i ≡ suc n = omega arith in
      sym (ap (λ m. list_all test (records decode 2 m rest)) k ∙ ap (λ b. b && list_all test (records decode 2 n (drop 2 rest))) passes) ∙ so_far

  pub all_stop : (count i : ℕ) (rest : List ℕ) (whole : Bool) → i < count → test (decode (take 2 rest)) ≡ false → list_all test (records decode 2 (count - i) rest) ≡ whole → false ≡ whole
  unfolding records
  all_stop count i rest whole less fails so_far =
      let n : ℕ = count - (i + 1) in
      let k : count - i ≡ suc n = omega arith in
      sym (ap (λ m. list_all test (records decode 2 m rest)) k ∙ ap (λ b. b && list_all test (records decode 2 n (drop 2 rest))) fails) ∙ so_far

  pub all_done : (count i : ℕ) (rest : List ℕ) (whole : Bool) → count ≤ i → list_all test (records decode 2 (count - i) rest) ≡ whole → true ≡ whole
  unfolding records
  all_done count i rest whole past so_far =
      let k : count - i ≡ 0 = omega arith in
      sym (ap (λ m. list_all test (records decode 2 m rest)) k) ∙ so_far

  -- past the end all records pass where one does
  all_past : (n : ℕ) → test (decode []) ≡ true → list_all test (records decode 2 n []) ≡ true
  unfolding records
  all_past zero passes = refl
  all_past (suc n) passes = ap (λ b. b && list_all test (records decode 2 n [])) passes ∙ all_past n passes

  pub all_empty : (n : ℕ) (rest : List ℕ) (whole : Bool) → length rest ≡ 0 → test (decode []) ≡ true → list_all test (records decode 2 n rest) ≡ whole → true ≡ whole
  all_empty n rest whole empty passes so_far =
      sym (ap (λ l. list_all test (records decode 2 n l)) (nil_from_length rest empty) ∙ all_past n passes) ∙ so_far

-- a version's number with a mark, or below the first
abbrev pub is_marked : List Bool → VersionId → Bool
is_marked marks v = ltb v.index VER_NDX_FIRST || get_or marks v.index false

pub is_marked-low : (marks : List Bool) (v : VersionId) → v.index < 2 → is_marked marks v ≡ true
is_marked-low marks v low = ap (λ b. b || get_or marks v.index false) (lt-ltb v.index 2 low)

pub is_marked-mark : (marks : List Bool) (v : VersionId) → get_or marks v.index false ≡ true → is_marked marks v ≡ true
is_marked-mark marks v mark = ap (λ b. ltb v.index 2 || b) mark ∙ or_last (ltb v.index 2)
  where
    or_last : (b : Bool) → (b || true) ≡ true
    or_last true = refl
    or_last false = refl

pub is_marked-none : (marks : List Bool) (v : VersionId) → 2 ≤ v.index → get_or marks v.index false ≡ false → is_marked marks v ≡ false
is_marked-none marks v high none = ap (λ b. ltb v.index 2 || b) none ∙ ap (λ b. b || false) (le-ltb v.index 2 high)

-- no bytes spell 0
pub no_bytes : (form : Form) (marks : List Bool) → is_marked marks (version_id form []) ≡ true
unfolding version_id number_at
no_bytes form marks = by_form form.wide form.order
  where
    by_form : (wide : Wide) (order : ByteOrder2) → is_marked marks (version_id (record { wide = wide; order = order }) []) ≡ true
    by_form W32 Little = refl
    by_form W32 Big = refl
    by_form W64 Little = refl
    by_form W64 Big = refl

-- ## Known versions

-- the marks of two lists, where nothing else was marked
pub marks_known : (ms ns : List ℕ) (start marks : List Bool) → length start ≡ 2 ^ 16 → ((n : ℕ) → get_or start n false ≡ false) → marks ≡ marked ns (marked ms start) → AreMarked (ms ++ ns) marks
marks_known ms ns start marks long unmarked is = record {
  long = ap length is ∙ length-marked ns (marked ms start) ∙ length-marked ms start ∙ long;
  marks = λ n less.
      ap (λ l. get_or l n false) (is ∙ sym (marked-append ms ns start))
      ∙ get_or-marked (ms ++ ns) start n (omega arith)
      ∙ ap (λ b. b || is_one_of (ms ++ ns) n) (unmarked n);
}

-- a test of records that agrees on each
all_same : {A : Type 0} → (decode : List ℕ → A) (f g : A → Bool) → ((b : List ℕ) → f (decode b) ≡ g (decode b)) → (n : ℕ) (bytes : List ℕ) → list_all f (records decode 2 n bytes) ≡ list_all g (records decode 2 n bytes)
unfolding records
all_same decode f g same zero bytes = refl
all_same decode f g same (suc n) bytes =
    ap (λ b. b && list_all f (records decode 2 n (drop 2 bytes))) (same (take 2 bytes)) ∙ ap (λ b. g (decode (take 2 bytes)) && b) (all_same decode f g same n (drop 2 bytes))

index-below : (form : Form) (b : List ℕ) → (version_id form b).index < 2 ^ 16
unfolding version_id
index-below form b = omega arith

-- marked indices are known ones
pub marked-known : (form : Form) (known : List ℕ) (marks : List Bool) → AreMarked known marks → (n : ℕ) (bytes : List ℕ)
    → list_all (is_marked marks) (records (version_id form) 2 n bytes) ≡ list_all (λ v. ltb v.index VER_NDX_FIRST || is_one_of known v.index) (records (version_id form) 2 n bytes)
marked-known form known marks are n bytes =
    all_same (version_id form) (is_marked marks) (λ v. ltb v.index VER_NDX_FIRST || is_one_of known v.index)
    (λ b. ap (λ m. ltb (version_id form b).index VER_NDX_FIRST || m) (are.marks (version_id form b).index (index-below form b))) n bytes

-- the known indices, by what was walked
pub known-walked : (p : Parts) (definitions : Walk DefinitionNumbers) (needs : Walk NeedNumbers) → AreDefinitions p definitions → AreNeeds p needs
    → map (λ d. d.index) definitions.values.items ++ flat_map (λ n. map (λ v. v.index) n.versions) needs.values.items ≡ known_versions p
known-walked p definitions needs is_definitions is_needs =
    let ds : List DefinitionNumbers = list_at (λ s. values_of (definition_steps p s)) (section_of_type SHT_GNU_VERDEF p.sections) in
    let ns : List NeedNumbers = list_at (λ s. values_of (need_steps p s)) (section_of_type SHT_GNU_VERNEED p.sections) in
    ap (λ l. l ++ flat_map (λ n. map (λ v. v.index) n.versions) needs.values.items)
    (ap (map (λ d. d.index)) is_definitions.0 ∙ definitions_at (section_of_type SHT_GNU_VERDEF p.sections))
    ∙ ap (λ l. list_at (λ s. map (λ d. d.index) (values_of (definition_steps p s))) (section_of_type SHT_GNU_VERDEF p.sections) ++ l)
    (ap (flat_map (λ n. map (λ v. v.index) n.versions)) is_needs.0 ∙ needs_at (section_of_type SHT_GNU_VERNEED p.sections))
  where
    definitions_at : (o : Option SectionHeader) → map (λ d. d.index) (list_at (λ s. values_of (definition_steps p s)) o) ≡ list_at (λ s. map (λ d. d.index) (values_of (definition_steps p s))) o
    definitions_at None = refl
    definitions_at (Some s) = refl

    needs_at : (o : Option SectionHeader) → flat_map (λ n. map (λ v. v.index) n.versions) (list_at (λ s. values_of (need_steps p s)) o) ≡ list_at (λ s. flat_map (λ n. map (λ v. v.index) n.versions) (values_of (need_steps p s))) o
    needs_at None = refl
    needs_at (Some s) = refl

-- the version symbols agree where each is marked, and there is one for each dynamic symbol
pub agree-marked : (p : Parts) (s symbols : SectionHeader) (known : List ℕ) (marks : List Bool) → section_of_type SHT_DYNSYM p.sections ≡ Some symbols → s.sh_size / 2 ≡ symbols.sh_size / symbol_size p.opened.form
    → AreMarked known marks → known ≡ known_versions p
    → list_all (is_marked marks) (records (version_id p.opened.form) 2 (s.sh_size / 2) (section_bytes p.opened.file s)) ≡ version_symbols_agree p s
agree-marked p s symbols known marks found same are is =
    let all : List VersionId = records (version_id p.opened.form) 2 (s.sh_size / 2) (section_bytes p.opened.file s) in
    marked-known p.opened.form known marks are (s.sh_size / 2) (section_bytes p.opened.file s)
    ∙ ap (λ l. list_all (λ v. ltb v.index VER_NDX_FIRST || is_one_of l v.index) all) is
    ∙ sym (ap (λ b. b && list_all (λ v. ltb v.index VER_NDX_FIRST || is_one_of (known_versions p) v.index) all)
    (ap (is_some_and (λ y. eqb (s.sh_size / 2) (y.sh_size / symbol_size p.opened.form))) found ∙ eq-eqb (s.sh_size / 2) (symbols.sh_size / symbol_size p.opened.form) same))
