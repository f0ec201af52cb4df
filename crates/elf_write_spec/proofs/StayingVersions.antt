-- A needed version that a dynamic symbol has stays.
use Rattle.std.proofs.Common.{◌≡◌, ℕ, Bool, true, false, cond, not, ◌||◌, List, [], ◌∷◌, ◌++◌, length, map, refl, sym, ap, ◌∙◌, inl, inr, Some, arith}
use Rattle.std.specs.Prelude.{filter, ◌&&◌, ◌==◌, if◌then◌else◌}
use Rattle.std.specs.List.{flat_map, slice_get}
use Rattle.std.proofs.lemmas.Bool.{eq-eqb, eqb-true, false≢true, ne_eqb, or_cases}
use Rattle.elf_format.specs.declared.version_id.VersionId.{VersionId}
use Rattle.elf_format.specs.Image.{Image}
use Rattle.elf_format.specs.Options.{is_one_of, is_some_and}
use Rattle.elf_format.specs.Versions.{VersionName, VersionNeeds}
use Rattle.elf_format.specs.Views.{NamedSymbol}
use Rattle.elf_layout_plan.specs.Needs.{do_needs_stay, is_empty, is_version_dropped, is_version_used, lists_needs, staying_names, staying_needs, with_staying_names, written_needs}
use Rattle.elf_layout_plan.proofs.ForCallers.ApartLists.{any-from}

-- ## Numbers among numbers

pub one_left : (xs ys : List ℕ) (n : ℕ) → is_one_of xs n ≡ true → is_one_of (xs ++ ys) n ≡ true
one_left [] ys n h = absurd (false≢true h)
one_left (x ∷ xs) ys n h = elim (or_cases (x == n) (is_one_of xs n) h) [
  | inl here ↦ ap (λ (b : Bool). b || is_one_of (xs ++ ys) n) here
  | inr later ↦ ap (λ (b : Bool). (x == n) || b) (one_left xs ys n later) ∙ either (x == n)
]
  where
    either : (b : Bool) → (b || true) ≡ true
    either true = refl
    either false = refl

pub one_right : (xs ys : List ℕ) (n : ℕ) → is_one_of ys n ≡ true → is_one_of (xs ++ ys) n ≡ true
one_right [] ys n h = h
one_right (x ∷ xs) ys n h = ap (λ (b : Bool). (x == n) || b) (one_right xs ys n h) ∙ either (x == n)
  where
    either : (b : Bool) → (b || true) ≡ true
    either true = refl
    either false = refl

pub one_of_both : (xs ys : List ℕ) (n : ℕ) → is_one_of (xs ++ ys) n ≡ true → (is_one_of xs n || is_one_of ys n) ≡ true
one_of_both [] ys n h = h
one_of_both (x ∷ xs) ys n h = elim (or_cases (x == n) (is_one_of (xs ++ ys) n) h) [
  | inl here ↦ ap (λ (b : Bool). (b || is_one_of xs n) || is_one_of ys n) here
  | inr later ↦
      ap (λ (b : Bool). b) (by_test (x == n) (is_one_of xs n || is_one_of ys n) (is_one_of xs n) (is_one_of ys n) refl (one_of_both xs ys n later))
]
  where
    by_test : (a b c d : Bool) → b ≡ (c || d) → b ≡ true → ((a || c) || d) ≡ true
    by_test true b c d e h = refl
    by_test false b c d e h = sym e ∙ h

-- ## Versions that stay

module _ (read image : Image) (index : ℕ) (used : is_version_used image.dynamic_symbols index ≡ true) where
  stays : is_version_dropped read image index ≡ false
  stays = ap (λ (b : Bool). is_version_used read.dynamic_symbols index && not b) used ∙ never (is_version_used read.dynamic_symbols index)
    where
      never : (b : Bool) → (b && false) ≡ false
      never true = refl
      never false = refl

  abbrev keeps : VersionName → Bool
  keeps v = not (is_version_dropped read image v.index)

  abbrev indices : List VersionName → List ℕ
  indices vs = map (λ (v : VersionName). v.index) vs

  -- among the names of a library
  name_stays : (vs : List VersionName) → is_one_of (indices vs) index ≡ true → is_one_of (indices (staying_names read image vs)) index ≡ true
  name_stays [] h = absurd (false≢true h)
  name_stays (v ∷ vs) h = elim (or_cases (v.index == index) (is_one_of (indices vs) index) h) [
    | inl here ↦
        let kept : keeps v ≡ true = ap (λ (n : ℕ). not (is_version_dropped read image n)) (eqb-true v.index index here) ∙ ap not stays in
        ap (λ (b : Bool). is_one_of (indices (cond b (v ∷ staying_names read image vs) (staying_names read image vs))) index) kept
        ∙ ap (λ (b : Bool). b || is_one_of (indices (staying_names read image vs)) index) here
    | inr later ↦ by_test (keeps v) (name_stays vs later)
  ]
    where
      by_test : (b : Bool) → is_one_of (indices (staying_names read image vs)) index ≡ true
          → is_one_of (indices (cond b (v ∷ staying_names read image vs) (staying_names read image vs))) index ≡ true
      by_test true rest = one_right (v.index ∷ []) (indices (staying_names read image vs)) index rest
      by_test false rest = rest

  -- a list with one isn't empty
  not_empty : (vs : List VersionName) → is_one_of (indices vs) index ≡ true → is_empty vs ≡ false
  not_empty [] h = absurd (false≢true h)
  not_empty (v ∷ vs) h = ne_eqb (length (v ∷ vs)) 0 (λ e. omega (arith, e))

  abbrev indices_of : VersionNeeds → List ℕ
  indices_of n = indices n.versions

  record_stays : (n : VersionNeeds) → is_one_of (indices_of n) index ≡ true → do_needs_stay read image n ≡ true
  record_stays n h =
      ap (λ (b : Bool). is_empty n.versions || not b) (not_empty (staying_names read image n.versions) (name_stays n.versions h))
      ∙ either (is_empty n.versions)
    where
      either : (b : Bool) → (b || true) ≡ true
      either true = refl
      either false = refl

  -- among all records
  need_stays : (ns : List VersionNeeds) → is_one_of (flat_map indices_of ns) index ≡ true
      → is_one_of (flat_map indices_of (map (with_staying_names read image) (filter (do_needs_stay read image) ns))) index ≡ true
  need_stays [] h = absurd (false≢true h)
  need_stays (n ∷ ns) h = elim (or_cases (is_one_of (indices_of n) index) (is_one_of (flat_map indices_of ns) index)
      (one_of_both (indices_of n) (flat_map indices_of ns) index h)) [
        | inl here ↦
            ap (λ (b : Bool). is_one_of (flat_map indices_of (map (with_staying_names read image)
            (cond b (n ∷ filter (do_needs_stay read image) ns) (filter (do_needs_stay read image) ns)))) index) (record_stays n here)
            ∙ one_left (indices (staying_names read image n.versions))
            (flat_map indices_of (map (with_staying_names read image) (filter (do_needs_stay read image) ns))) index
            (name_stays n.versions here)
        | inr later ↦ by_test (do_needs_stay read image n) (need_stays ns later)
      ]
    where
      by_test : (b : Bool)
          → is_one_of (flat_map indices_of (map (with_staying_names read image) (filter (do_needs_stay read image) ns))) index ≡ true
          → is_one_of (flat_map indices_of (map (with_staying_names read image)
          (cond b (n ∷ filter (do_needs_stay read image) ns) (filter (do_needs_stay read image) ns)))) index ≡ true
      by_test true rest = one_right (indices (staying_names read image n.versions))
          (flat_map indices_of (map (with_staying_names read image) (filter (do_needs_stay read image) ns))) index rest
      by_test false rest = rest

  pub written_stays : is_one_of (flat_map indices_of image.needs) index ≡ true
      → is_one_of (flat_map indices_of (written_needs read image)) index ≡ true
  unfolding written_needs
  written_stays h = by_test (is_some_and lists_needs image.entries)
    where
      by_test : (b : Bool) → is_one_of (flat_map indices_of (if b then staying_needs read image else image.needs)) index ≡ true
      by_test true = need_stays image.needs h
      by_test false = h

-- a symbol's version is one that a symbol has
pub version_used : (ys : List NamedSymbol) (i : ℕ) (y : NamedSymbol) (v : VersionId) → slice_get ys i ≡ Some y → y.version ≡ Some v
    → is_version_used ys v.index ≡ true
version_used ys i y v at has =
    any-from (λ (z : NamedSymbol). is_some_and (λ (u : VersionId). u.index == v.index) z.version) ys i y at
    (ap (is_some_and (λ (u : VersionId). u.index == v.index)) has ∙ eq-eqb v.index v.index refl)

-- of no records none are written
pub no_needs : (read image : Image) → image.needs ≡ [] → written_needs read image ≡ []
unfolding written_needs
no_needs read image none =
    ap (λ (ns : List VersionNeeds). if is_some_and lists_needs image.entries
    then map (with_staying_names read image) (filter (do_needs_stay read image) ns)
    else ns) none
    ∙ by_test (is_some_and lists_needs image.entries)
  where
    by_test : (b : Bool) → (if b then map (with_staying_names read image) (filter (do_needs_stay read image) []) else []) ≡ []
    by_test true = refl
    by_test false = refl
