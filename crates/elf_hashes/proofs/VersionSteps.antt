-- The versions of symbols in an order.
use Rattle.std.proofs.Common.{◌≡◌, ℕ, zero, suc, ◌+◌, ◌*◌, ◌<◌, List, [], ◌∷◌, ◌++◌, length, drop, take, get_or, map, refl, sym, ap, ◌∙◌, subst, Option, Some, None, arith}
use Rattle.std.specs.Prelude.{IsTrue, is_some, slice_get}
use Rattle.std.specs.List.{All, cons_option}
use Rattle.std.proofs.lemmas.Bool.{false≢true}
use Rattle.std.proofs.lemmas.List.{append-nil, length-append, length-map}
use Rattle.std.proofs.lemmas.List.Elements.{All-cons, All-head, All-nil, All-tail, filter_map-append}
use Rattle.std.proofs.lemmas.Option.{get_or_from_slice_get, slice_get_within}
use Rattle.patch_bytes.specs.declared.number.ByteOrder2.{ByteOrder2}
use Rattle.patch_bytes.specs.Number.{bytes_of}
use Rattle.patch_bytes.proofs.NumberLaws.{length-bytes_of}
use Rattle.elf_format.specs.declared.version_id.VersionId.{VersionId}
use Rattle.elf_format.specs.declared.form.Form.{Form}
use Rattle.elf_format.specs.Form.{records}
use Rattle.elf_format.specs.Versions.{version_id}
use Rattle.elf_format.specs.Views.{NamedSymbol}
use Rattle.elf_tables.specs.VersionRecords.{fields, version_fields, version_number}
use Rattle.elf_hashes.specs.Found.{in_order}
use Rattle.elf_hashes.specs.Versions.{AreVersionsOf, versions_of}
use Rattle.elf_hashes.proofs.HashSteps.{in_order-more}

-- one symbol more
versions-more : (ys : List NamedSymbol) (order : List ℕ) (i : ℕ) (y : NamedSymbol) (v : Option VersionId) → i < length order → slice_get ys (get_or order i 0) ≡ Some y → y.version ≡ v
    → versions_of (in_order ys (take (i + 1) order)) ≡ versions_of (in_order ys (take i order)) ++ cons_option v []
versions-more ys order i y v inside at is =
    ap versions_of (in_order-more ys order i y inside at)
    ∙ filter_map-append (λ (s : NamedSymbol). s.version) (in_order ys (take i order)) (y ∷ [])
    ∙ ap (λ (o : Option VersionId). versions_of (in_order ys (take i order)) ++ cons_option o []) is

pub versions-some : (ys : List NamedSymbol) (order : List ℕ) (i : ℕ) (y : NamedSymbol) (id : VersionId) (was now : List VersionId) → i < length order → slice_get ys (get_or order i 0) ≡ Some y
    → y.version ≡ Some id → was ≡ versions_of (in_order ys (take i order)) → now ≡ was ++ id ∷ [] → now ≡ versions_of (in_order ys (take (i + 1) order))
versions-some ys order i y id was now inside at is before step =
    step ∙ ap (λ l. l ++ id ∷ []) before ∙ sym (versions-more ys order i y (Some id) inside at is)

pub versions-none : (ys : List NamedSymbol) (order : List ℕ) (i : ℕ) (y : NamedSymbol) (was : List VersionId) → i < length order → slice_get ys (get_or order i 0) ≡ Some y
    → y.version ≡ None → was ≡ versions_of (in_order ys (take i order)) → was ≡ versions_of (in_order ys (take (i + 1) order))
versions-none ys order i y was inside at is before =
    before ∙ sym (append-nil (versions_of (in_order ys (take i order)))) ∙ sym (versions-more ys order i y None inside at is)

-- ## All have one

abbrev HaveVersions : List NamedSymbol → Type 0
HaveVersions ys = All (λ (y : NamedSymbol). IsTrue (is_some y.version)) ys

have-in_order : (ys : List NamedSymbol) (order : List ℕ) → HaveVersions ys → HaveVersions (in_order ys order)
have-in_order ys [] have = All-nil (λ (y : NamedSymbol). IsTrue (is_some y.version))
have-in_order ys (k ∷ order) have = by_symbol (slice_get ys k) refl (have-in_order ys order have)
  where
    by_symbol : (o : Option NamedSymbol) → slice_get ys k ≡ o → HaveVersions (in_order ys order) → HaveVersions (cons_option o (in_order ys order))
    by_symbol None at rest = rest
    by_symbol (Some y) at rest =
        let same : get_or ys k y ≡ y = get_or_from_slice_get ys k y y at in
        let Has : NamedSymbol → Type 0 = λ s. IsTrue (is_some s.version) in
        All-cons Has y (in_order ys order) (subst Has same (have k y (slice_get_within ys k y at))) rest

versions-all : (ys : List NamedSymbol) → HaveVersions ys → map (λ (v : VersionId). Some v) (versions_of ys) ≡ map (λ (y : NamedSymbol). y.version) ys
versions-all [] have = refl
versions-all (y ∷ ys) have =
    let Has : NamedSymbol → Type 0 = λ s. IsTrue (is_some s.version) in
    by_version y.version (All-head Has y ys have) (versions-all ys (All-tail Has y ys have))
  where
    by_version : (o : Option VersionId) → IsTrue (is_some o) → map (λ (v : VersionId). Some v) (versions_of ys) ≡ map (λ (s : NamedSymbol). s.version) ys
        → map (λ (v : VersionId). Some v) (cons_option o (versions_of ys)) ≡ o ∷ map (λ (s : NamedSymbol). s.version) ys
    by_version None some rest = absurd (false≢true some)
    by_version (Some v) some rest = ap (λ l. Some v ∷ l) rest

length-versions : (ys : List NamedSymbol) → HaveVersions ys → length (versions_of ys) ≡ length ys
length-versions ys have =
    sym (length-map (versions_of ys) (λ (v : VersionId). Some v)) ∙ ap length (versions-all ys have) ∙ length-map ys (λ (y : NamedSymbol). y.version)

records-some : (form : Form) (count : ℕ) (bytes : List ℕ) → records (λ b. Some (version_id form b)) 2 count bytes ≡ map (λ (v : VersionId). Some v) (records (version_id form) 2 count bytes)
unfolding records
records-some form zero bytes = refl
records-some form (suc count) bytes = ap (λ l. Some (version_id form (take 2 bytes)) ∷ l) (records-some form count (drop 2 bytes))

length-version_fields : (order : ByteOrder2) (ids : List VersionId) → length (fields order (version_fields ids)) ≡ 2 * length ids
length-version_fields order [] = omega arith
length-version_fields order (id ∷ ids) =
    length-append (bytes_of order 2 (version_number id)) (fields order (version_fields ids))
    ∙ omega (arith, length-bytes_of order 2 (version_number id), length-version_fields order ids)

pub versions-whole : (form : Form) (ys : List NamedSymbol) (order : List ℕ) (ids : List VersionId) (bytes : List ℕ) → HaveVersions ys
    → ids ≡ versions_of (in_order ys order) → bytes ≡ fields form.order (version_fields ids) → records (version_id form) 2 (length ids) bytes ≡ ids
    → AreVersionsOf form (in_order ys order) bytes
versions-whole form ys order ids bytes have is made back =
    let now : List NamedSymbol = in_order ys order in
    let has : HaveVersions now = have-in_order ys order have in
    let many : length ids ≡ length now = ap length is ∙ length-versions now has in
    record {
      sized = ap length made ∙ length-version_fields form.order ids ∙ ap (λ (n : ℕ). 2 * n) many;
      versions =
          ap (λ (n : ℕ). records (λ b. Some (version_id form b)) 2 n bytes) (sym many)
          ∙ records-some form (length ids) bytes ∙ ap (map (λ (v : VersionId). Some v)) (back ∙ is) ∙ versions-all now has;
    }
