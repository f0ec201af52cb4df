-- The record of a library with the versions needed of it, from its parts.
use Rattle.std.proofs.Common.{◌≡◌, ℕ, ◌<◌, List, [], ◌∷◌, ◌++◌, false, length, map, refl, sym, ap, ◌∙◌, arith}
use Rattle.std.specs.Prelude.{◌||◌}
use Rattle.std.specs.List.{AllByRecursion, list_any}
use Rattle.std.proofs.lemmas.Bool.{lt-leb}
use Rattle.std.proofs.lemmas.List.{append_assoc, length-map}
use Rattle.patch_bytes.specs.declared.number.ByteOrder2.{ByteOrder2}
use Rattle.elf_format.specs.Versions.{VersionNeeds}
use Rattle.elf_tables.specs.Strings.{Strings}
use Rattle.elf_tables.specs.VersionRecords.{PlacedNeeds, are_versions_too_many, chained, fields, halves, placed_name, placed_needs, spelled_need_name, spelled_needs, words}
use Rattle.elf_tables.specs.VersionSteps.{NeedsFit}
use Rattle.elf_tables.proofs.FieldLaws.{fields-append}

pub needs_made : (order : ByteOrder2) (m : PlacedNeeds) (bytes first second new : List ℕ) (count file next : ℕ) → count ≡ length m.versions → file ≡ m.file
    → first ≡ bytes ++ fields order (halves (1 ∷ count ∷ [])) → second ≡ first ++ fields order (words (file ∷ 16 ∷ next ∷ []))
    → new ≡ second ++ chained (spelled_need_name order) (λ v. 16) m.versions → new ≡ bytes ++ spelled_needs order m next
unfolding spelled_needs
needs_made order m bytes first second new count file next counted placed one two three =
    let front : List ℕ = fields order (halves (1 ∷ count ∷ [])) in
    let back : List ℕ = fields order (words (file ∷ 16 ∷ next ∷ [])) in
    let versions : List ℕ = chained (spelled_need_name order) (λ v. 16) m.versions in
    let head : fields order ((2, 1) ∷ (2, length m.versions) ∷ (4, m.file) ∷ (4, 16) ∷ (4, next) ∷ []) ≡ front ++ back =
    (λ i. fields order ((2, 1) ∷ (2, sym counted i) ∷ (4, sym placed i) ∷ (4, 16) ∷ (4, next) ∷ []))
    ∙ fields-append order (halves (1 ∷ count ∷ [])) (words (file ∷ 16 ∷ next ∷ [])) in
    three ∙ ap (λ l. l ++ versions) (two ∙ ap (λ l. l ++ back) one) ∙ ap (λ l. l ++ versions) (append_assoc bytes front back) ∙ append_assoc bytes (front ++ back) versions
    ∙ ap (λ l. bytes ++ (l ++ versions)) (sym head)

-- libraries whose numbers fit don't have too many versions
pub needs_fit : (table : Strings) (ms : List VersionNeeds) → AllByRecursion NeedsFit (map (placed_needs table) ms) → list_any are_versions_too_many ms ≡ false
needs_fit table [] fits = refl
needs_fit table (m ∷ ms) fits =
    let below : length (map (placed_name table) m.versions) < 65536 = fits.0.count in
    ap (λ b. b || list_any are_versions_too_many ms) (lt-leb 65536 (length m.versions) (omega (arith, length-map m.versions (placed_name table)))) ∙ needs_fit table ms fits.1

pub needs_fit_each : (table : Strings) (ms : List VersionNeeds) → AllByRecursion NeedsFit (map (placed_needs table) ms) → AllByRecursion (λ (m : VersionNeeds). NeedsFit (placed_needs table m)) ms
needs_fit_each table [] fits = tt
needs_fit_each table (m ∷ ms) fits = (fits.0, needs_fit_each table ms fits.1)
