-- Libraries of needed versions that have the names that they had at read.
use Rattle.std.proofs.Common.{◌≡◌, ◌≢◌, ℕ, Bool, true, false, List, length, map, refl, sym, ap, ◌∙◌, Option, Some, None, inl}
use Rattle.std.proofs.lemmas.List.{length-map}
use Rattle.elf_format.specs.declared.constants.TheConstants.{SHT_DYNAMIC, SHT_GNU_VERNEED}
use Rattle.elf_format.specs.Image.{Image}
use Rattle.elf_format.specs.Versions.{VersionNeeds}
use Rattle.elf_image.specs.ImageModel.{needs_model}
use Rattle.elf_image.specs.Kept.{link_of_type}
use Rattle.elf_image.specs.Names.{are_same_texts}
use Rattle.elf_image.proofs.ForCallers.NeedsKept.{needs_by_files}
use Rattle.elf_image.proofs.ForCallers.SymbolLists.{same_texts-means}
use Rattle.elf_image_versions.specs.declared.version.VersionNeed.{VersionNeed}
use Rattle.elf_write_spec.specs.Ready.{IsEditedReady}
use Rattle.elf_write_spec.proofs.ForCallers.WholeEdits.{ReadFacts, read_facts}
use Rattle.elf_write_strings.specs.declared.made.Made.{Made}
use Rattle.elf_write_strings.specs.WrittenStrings.{AreStrings, IsEditedTable, files_of, made_of}
use Rattle.elf_write_strings.proofs.ReadTables.{ready_edit}
use Rattle.elf_write_strings.proofs.TextsShared.{list_linked, needs_share, no_entries_read, shared_link}
use Rattle.elf_write_strings.proofs.UsersStay.{has_link, users_stay}

-- as many libraries are there as were read
pub files_apart : (read now : List VersionNeed) → length read ≢ length now
    → false ≡ are_same_texts (files_of (map needs_model read)) (files_of (map needs_model now))
files_apart read now apart = by_test (are_same_texts (files_of (map needs_model read)) (files_of (map needs_model now))) refl
  where
    long : (ns : List VersionNeed) → length (files_of (map needs_model ns)) ≡ length ns
    long ns = length-map (map needs_model ns) (λ (n : VersionNeeds). n.file) ∙ length-map ns needs_model

    by_test : (b : Bool) → are_same_texts (files_of (map needs_model read)) (files_of (map needs_model now)) ≡ b → false ≡ b
    by_test true same =
        absurd (apart (sym (long read)
        ∙ sym (ap length (same_texts-means (files_of (map needs_model read)) (files_of (map needs_model now)) same)) ∙ long now))
    by_test false same = refl

-- the needed versions are those of read, where the string table that they link to has the places of its texts
pub needs_left : (read image : Image) → IsEditedReady read image → (made : List Made) → AreStrings read image made → (number : ℕ)
    → link_of_type SHT_GNU_VERNEED image ≡ Some number → made_of made number ≡ None → image.needs ≡ read.needs
needs_left read image is made are number link none = by_list (link_of_type SHT_DYNAMIC image) refl
  where
    f : ReadFacts read image
    f = read_facts read image (ready_edit is)

    by_list : (o : Option ℕ) → link_of_type SHT_DYNAMIC image ≡ o → image.needs ≡ read.needs
    by_list None o_is = f.edit.needs.unlisted (no_entries_read read image f o_is)
    by_list (Some l) o_is =
        let same : number ≡ l = shared_link read image f l o_is SHT_GNU_VERNEED refl (needs_share read image f) number link in
        let edited : IsEditedTable image number = inl (list_linked image l o_is ∙ ap (λ (n : ℕ). Some n) (sym same)) in
        needs_by_files read.needs image.needs f.edit.needs.same
        (same_texts-means (files_of read.needs) (files_of image.needs)
        ((users_stay read image number (are.as_read number edited none).stay).files (has_link image SHT_GNU_VERNEED number link)))
