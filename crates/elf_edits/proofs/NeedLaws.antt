-- What replaced libraries make of the needed versions.
use Rattle.std.proofs.Common.{◌≡◌, ◌∙◌, ℕ, List, [], ◌∷◌, map, refl, ap, false, is_some, Option, Some, None}
use Rattle.std.specs.Prelude.{unwrap_or}
use Rattle.std.specs.List.{list_any}
use Rattle.std.proofs.lemmas.Bool.{or_parts}
use Rattle.elf_image.specs.Versions.{VersionName, VersionNeeds}
use Rattle.elf_edits.specs.Edit.{Edit, ReplaceLibrary, edited_entries, edited_needs, touches_needs}
use Rattle.elf_edits.specs.Laws.{LibrariesAreReplacedAtOnce}
use Rattle.elf_edits.specs.Symbols.{has_new_name, new_name, with_library_replaced}
use Rattle.elf_edits.specs.Texts.{value_of}

files_replaced : (pairs : List (List ℕ × List ℕ)) (needs : List VersionNeeds) → map (λ (n : VersionNeeds). n.file) (map (with_library_replaced pairs) needs) ≡ map (new_name pairs) (map (λ (n : VersionNeeds). n.file) needs)
files_replaced pairs [] = refl
files_replaced pairs (n ∷ ns) = ap (λ (l : List (List ℕ)). new_name pairs n.file ∷ l) (files_replaced pairs ns)

versions_kept : (pairs : List (List ℕ × List ℕ)) (needs : List VersionNeeds) → map (λ (n : VersionNeeds). n.versions) (map (with_library_replaced pairs) needs) ≡ map (λ (n : VersionNeeds). n.versions) needs
versions_kept pairs [] = refl
versions_kept pairs (n ∷ ns) = ap (λ (l : List (List VersionName)). n.versions ∷ l) (versions_kept pairs ns)

-- where no library has a new name, the needed versions are as they were
pub none_replaced : (pairs : List (List ℕ × List ℕ)) (needs : List VersionNeeds) → list_any (λ n. has_new_name pairs n.file) needs ≡ false → map (with_library_replaced pairs) needs ≡ needs
none_replaced pairs [] none = refl
none_replaced pairs (n ∷ ns) none =
    let parts = or_parts (has_new_name pairs n.file) (list_any (λ m. has_new_name pairs m.file) ns) none in
    ap (λ (f : List ℕ). record n { file = f } ∷ map (with_library_replaced pairs) ns) (not_named (value_of pairs n.file) parts.0)
    ∙ ap (λ (l : List VersionNeeds). n ∷ l) (none_replaced pairs ns parts.1)
  where
    not_named : (found : Option (List ℕ)) → is_some found ≡ false → unwrap_or found n.file ≡ n.file
    not_named None h = refl
    not_named (Some new) h = absurd (cc)

needs_untouched : (edit : Edit) (needs : List VersionNeeds) → touches_needs edit needs ≡ false → edited_needs edit needs ≡ needs
needs_untouched (ReplaceLibrary pairs) needs none = none_replaced pairs needs none
needs_untouched _ needs none = refl

pub libraries_are_replaced_at_once : LibrariesAreReplacedAtOnce
unfolding edited_entries
libraries_are_replaced_at_once = record {
  list = λ machine pairs es. refl;
  files = files_replaced;
  versions = versions_kept;
  other = needs_untouched;
}
