-- What is known of an image that is ready to be written: the parts of the file that was read, and its sections, each with the header that
-- it was read from.
use Rattle.std.proofs.Common.{◌≡◌, ◌⊎◌, ℕ, ◌<◌, List, length, map, get_or, Bool, true, false, not, refl, sym, ap, ◌∙◌, inl, inr, Some, arith}
use Rattle.std.specs.Prelude.{◌&&◌, ◌==◌, slice_index}
use Rattle.std.specs.List.{slice_get}
use Rattle.std.specs.Option.{option_map}
use Rattle.std.proofs.lemmas.Bool.{both_ways, eq-eqb}
use Rattle.std.proofs.lemmas.List.{length-map}
use Rattle.std.proofs.lemmas.Option.{get_or_from_slice_get, same_Some, slice_get-map, slice_get_read, slice_get_within}
use Rattle.elf_format.specs.declared.records.SectionHeader.{SectionHeader}
use Rattle.elf_format.specs.File.{Parts, section_bytes, section_of_type}
use Rattle.elf_format.specs.Image.{Image, ImageSection}
use Rattle.elf_format.specs.Options.{is_one_of}
use Rattle.elf_format.specs.Rules.{file_of, single_section_types}
use Rattle.elf_format.proofs.ForCallers.Placed.{IsIn-slice_get}
use Rattle.elf_format.proofs.ForCallers.ViewsAgree.{length-bytes}
use Rattle.elf_image.specs.declared.section.Section.{Section}
use Rattle.elf_image.specs.ImageModel.{section_model}
use Rattle.elf_image.specs.Kept.{KeptSection, kept_of_type, kept_sections}
use Rattle.elf_write_spec.specs.Ready.{IsEditedReady, IsSectionOfType}
use Rattle.elf_write_spec.proofs.ForCallers.LinkedLists.{one_place}
use Rattle.elf_write_spec.proofs.ForCallers.NumberedSections.{kept_as}
use Rattle.elf_write_spec.proofs.ForCallers.SingleTypes.{one_section}
use Rattle.elf_write_spec.proofs.ForCallers.WholeEdits as edits
use Rattle.elf_write_spec.proofs.ForCallers.WholeEdits.{IsWholeEdit, ReadFacts, SectionRead, kept_found, length-kept, read_facts}
use Rattle.elf_write_spec.proofs.ForCallers.WholeLists.{FoundAt, NonePasses, first_at}
use Rattle.elf_write_symbols.specs.Steps.{kept}

-- ## The file that was read

pub whole_edit : (read image : Image) → IsEditedReady read image → IsWholeEdit read image
whole_edit read image is = record { at_read = is.at_read; edited = is.edited }

pub facts : (read image : Image) → IsEditedReady read image → ReadFacts read image
facts read image is = read_facts read image (whole_edit read image is)

-- ## A section, and the header that it was read from

pub record Here (read image : Image) (f : ReadFacts read image) (type : ℕ) (s : ImageSection) : Type 0 where
  pub position : ℕ
  pub at : SectionRead read image f.parts position
  pub own : at.section ≡ s
  pub typed : s.sh_type ≡ type
  pub was_typed : at.old.sh_type ≡ type

pub section_here : (read image : Image) → (f : ReadFacts read image) → (type : ℕ) (s : ImageSection)
    → IsSectionOfType type image s → Here read image f type s
section_here read image f type s is =
    let at = edits.section_read read image f is.position (slice_get_within image.sections is.position s is.there) in
    let own : at.section ≡ s = same_Some at.section s (sym at.is_section ∙ is.there) in
    record {
      position = is.position;
      at = at;
      own = own;
      typed = is.typed;
      was_typed = sym (ap (λ (x : ImageSection). x.sh_type) at.of_old.fields) ∙ ap (λ (x : ImageSection). x.sh_type) own ∙ is.typed;
    }

module _ (read image : Image) (f : ReadFacts read image) (type : ℕ) (s : ImageSection) (r : Here read image f type s) where
  abbrev pub old_of : SectionHeader
  old_of = r.at.old

  -- the bytes of a section are those that were read
  pub content_was : s.content ≡ section_bytes (file_of f.parts) r.at.old
  content_was = ap (λ (x : ImageSection). x.content) (sym r.own ∙ r.at.of_old.fields)

  pub sized : (not (type == 0) && not (type == 8)) ≡ true → length s.content ≡ s.sh_size
  sized stored =
      ap length content_was
      ∙ length-bytes f.parts f.rules r.at.old (IsIn-slice_get f.parts.sections r.at.number r.at.old r.at.is_old)
      (ap (λ n. not (n == 0) && not (n == 8)) r.was_typed ∙ stored)
      ∙ sym (ap (λ (x : ImageSection). x.sh_size) (sym r.own ∙ r.at.of_old.fields))

  -- the one section of its type
  pub one_kept : is_one_of single_section_types type ≡ true → kept_of_type type image ≡ Some (kept_as r.position r.at.number s)
  one_kept single = by_first (first_at was f.parts.sections)
    where
      was : SectionHeader → Bool
      was t = t.sh_type == type

      here : was r.at.old ≡ true
      here = eq-eqb r.at.old.sh_type type r.was_typed

      by_first : FoundAt was f.parts.sections ⊎ NonePasses was f.parts.sections → kept_of_type type image ≡ Some (kept_as r.position r.at.number s)
      by_first (inl found) =
          let same : r.at.number ≡ found.index =
          one_place was f.parts.sections r.at.number found.index r.at.old found.element (one_section f.parts f.rules type single)
          r.at.is_old found.there here found.passes in
          kept_found read image f type found r.position r.at same (ap (λ (x : ImageSection). x.sh_type) r.own ∙ r.typed)
          ∙ ap (λ (x : ImageSection). Some (kept_as r.position r.at.number x)) r.own
      by_first (inr none) = absurd (both_ways (was r.at.old) (none r.at.number r.at.old r.at.is_old) here)

-- ## Sections that are lent

-- a section that is lent is the image's
pub lent_there : (xs : List Section) (sections : List ImageSection) (i : ℕ) (x : Section) → map section_model xs ≡ sections → i < length sections
    → x ≡ get_or xs i x → slice_get sections i ≡ Some (section_model x)
lent_there xs sections i x are within is =
    let long : length xs ≡ length sections = sym (length-map xs section_model) ∙ ap length are in
    let at : slice_get xs i ≡ Some x = slice_get_read xs (length xs) i x refl (omega (arith, long, within)) is in
    sym (ap (λ (ss : List ImageSection). slice_get ss i) are) ∙ slice_get-map section_model xs i ∙ ap (option_map section_model) at

-- a section that is lent is kept in the image with its number
pub kept_there : (read image : Image) → (f : ReadFacts read image) → (i : ℕ) (s : ImageSection) → slice_get image.sections i ≡ Some s
    → slice_get (kept_sections image) i ≡ Some (kept image i s)
kept_there read image f i s there =
    let at = edits.section_read read image f i (slice_get_within image.sections i s there) in
    let own : at.section ≡ s = same_Some at.section s (sym at.is_section ∙ there) in
    let number : at.number ≡ slice_index image.section_numbers i = sym (get_or_from_slice_get image.section_numbers i at.number 0 at.is_number) in
    at.is_kept ∙ ap (λ (n : ℕ). Some (kept_as i n at.section)) number
    ∙ ap (λ (x : ImageSection). Some (kept_as i (slice_index image.section_numbers i) x)) own
