-- The versions of an image's dynamic symbols, which were read or are that of a global symbol.
use Rattle.std.proofs.Common.{◌≡◌, ◌⊎◌, ℕ, zero, suc, ◌%◌, ◌<◌, List, [], ◌∷◌, length, drop, take, map, get_or, Bool, false, refl, sym, ap, ◌∙◌, subst, inl, inr, Option, Some, None, arith}
use Rattle.std.specs.Prelude.{◌||◌, IsTrue, is_some}
use Rattle.std.specs.List.{All, cons_option, list_any, slice_get}
use Rattle.std.specs.Option.{option_map}
use Rattle.std.proofs.lemmas.Bool.{lt-leb}
use Rattle.std.proofs.lemmas.Option.{none-some, same_Some, slice_get-get_or, slice_get-map}
use Rattle.elf_format.specs.declared.constants.TheConstants.{SHT_GNU_VERSYM, VERSYM_HIDDEN}
use Rattle.elf_format.specs.declared.form.Form.{Form}
use Rattle.elf_format.specs.declared.version_id.VersionId.{VersionId}
use Rattle.elf_format.specs.Form.{fixed_field, records}
use Rattle.elf_format.specs.Image.{Image, ImageSection}
use Rattle.elf_format.specs.Versions.{version_id}
use Rattle.elf_format.specs.Views.{NamedSymbol}
use Rattle.elf_hashes.specs.Found.{in_order}
use Rattle.elf_hashes.specs.Versions.{AreVersionsOf, versions_of}
use Rattle.elf_image.specs.Edited.{IsVersionOf}
use Rattle.elf_image_symbols.specs.EditedList.{as_global}
use Rattle.elf_write_spec.specs.VersionRecords.{is_index_too_large}
use Rattle.elf_write_spec.specs.Ready.{IsEditedReady, IsSectionOfType}
use Rattle.elf_write_spec.proofs.ForCallers.VersionBytes.{versions_were}
use Rattle.elf_write_spec.proofs.ForCallers.WholeEdits.{ReadFacts}
use Rattle.elf_write_symbols.proofs.ReadyFacts.{facts, whole_edit}

-- ## A version that fits

-- the symbol has a version whose index fits
pub record HasVersion (version : Option VersionId) : Type 0 where
  pub id : VersionId
  pub is_id : version ≡ Some id
  pub fits : is_index_too_large id ≡ false

-- a version that was read has an index that fits
read_fits : (form : Form) (bytes : List ℕ) → is_index_too_large (version_id form bytes) ≡ false
unfolding version_id
read_fits form bytes =
    let below : fixed_field form (0, 2) bytes % VERSYM_HIDDEN < VERSYM_HIDDEN = omega arith in
    lt-leb VERSYM_HIDDEN (fixed_field form (0, 2) bytes % VERSYM_HIDDEN) below

record_at : {A : Type 0} (decode : List ℕ → A) (size count : ℕ) (bytes : List ℕ) (j : ℕ) (x : A) → slice_get (records decode size count bytes) j ≡ Some x
    → (part : List ℕ) × (x ≡ decode part)
unfolding records
record_at decode size zero bytes j x at = absurd (none-some x at)
record_at decode size (suc count) bytes zero x at = (take size bytes, sym (same_Some (decode (take size bytes)) x at))
record_at decode size (suc count) bytes (suc j) x at = record_at decode size count (drop size bytes) j x at

version_read : (form : Form) (count : ℕ) (bytes : List ℕ) (j : ℕ) (version : Option VersionId)
    → slice_get (records (λ b. Some (version_id form b)) 2 count bytes) j ≡ Some version → HasVersion version
version_read form count bytes j version at =
    let (part, is) = record_at (λ b. Some (version_id form b)) 2 count bytes j version at in
    record { id = version_id form part; is_id = is; fits = read_fits form part }

-- what an edit may put in place of a version has one
edited_has : (old now : Option VersionId) → HasVersion old → IsVersionOf old now → HasVersion now
edited_has old now has (inl same) = subst HasVersion (sym same) has
edited_has old now has (inr cleared) = record {
  id = record { index = 1; hidden = false };
  is_id = cleared ∙ ap as_global has.is_id;
  fits = refl;
}

-- ## Symbols in an order

-- each symbol has one
abbrev pub HaveVersions : List NamedSymbol → Type 0
HaveVersions ys = (i : ℕ) (y : NamedSymbol) → slice_get ys i ≡ Some y → HasVersion y.version

pub all_have : (ys : List NamedSymbol) → HaveVersions ys → All (λ (y : NamedSymbol). IsTrue (is_some y.version)) ys
all_have ys have k d within = ap is_some (have k (get_or ys k d) (slice_get-get_or ys k d within)).is_id

pub none_large : (ys : List NamedSymbol) (order : List ℕ) → HaveVersions ys → list_any is_index_too_large (versions_of (in_order ys order)) ≡ false
none_large ys [] have = refl
none_large ys (k ∷ order) have = by_symbol (slice_get ys k) refl (none_large ys order have)
  where
    by_version : (y : NamedSymbol) → HasVersion y.version → list_any is_index_too_large (versions_of (in_order ys order)) ≡ false
        → list_any is_index_too_large (cons_option y.version (versions_of (in_order ys order))) ≡ false
    by_version y has rest =
        ap (λ (o : Option VersionId). list_any is_index_too_large (cons_option o (versions_of (in_order ys order)))) has.is_id
        ∙ ap (λ (b : Bool). b || list_any is_index_too_large (versions_of (in_order ys order))) has.fits ∙ rest

    by_symbol : (o : Option NamedSymbol) → slice_get ys k ≡ o → list_any is_index_too_large (versions_of (in_order ys order)) ≡ false
        → list_any is_index_too_large (versions_of (cons_option o (in_order ys order))) ≡ false
    by_symbol None at rest = rest
    by_symbol (Some y) at rest = by_version y (have k y at) rest

-- ## The section that was read

module _ (read image : Image) (is : IsEditedReady read image) (s : ImageSection) (at : IsSectionOfType SHT_GNU_VERSYM image s) where
  -- the section held the version of each symbol
  pub copied : AreVersionsOf image.form read.dynamic_symbols s.content
  copied = versions_were read image (whole_edit read image is) at.position s at.there at.typed

  read_have : (j : ℕ) (y : NamedSymbol) → slice_get read.dynamic_symbols j ≡ Some y → HasVersion y.version
  read_have j y y_at =
      version_read image.form (length read.dynamic_symbols) s.content j y.version
      (ap (λ (l : List (Option VersionId)). slice_get l j) copied.versions
      ∙ slice_get-map (λ (z : NamedSymbol). z.version) read.dynamic_symbols j ∙ ap (option_map (λ (z : NamedSymbol). z.version)) y_at)

  pub have : HaveVersions image.dynamic_symbols
  have i y y_at =
      let (old, old_at, same) = (facts read image is).edit.dynamic_symbols.same i y y_at in
      edited_has old.version y.version (read_have _ old old_at) same.1
