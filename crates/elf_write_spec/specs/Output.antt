-- What is written to which plan, and the bytes of the file.
use Rattle.std.specs.Prelude.{ℕ, ◌^◌, ◌<◌, ◌≡◌, List, [], ◌∷◌, ◌++◌, length, ◌&&◌, not, true, None, IsTrue, if◌then◌else◌}
use Rattle.std.specs.List.{flat_map, list_all}
use Rattle.byte_store.specs.Laid.{Patch, laid}
use Rattle.patch_bytes.specs.Bytes.{AreBytes}
use Rattle.elf_format.specs.declared.constants.TheConstants.{SHT_DYNAMIC}
use Rattle.elf_format.specs.declared.records.EntryNumbers.{EntryNumbers}
use Rattle.elf_format.specs.declared.records.SectionHeader.{SectionHeader}
use Rattle.elf_format.specs.Image.{Image}
use Rattle.elf_format.specs.Places.{Place, occupies_file}
use Rattle.elf_format.specs.Ranges.{apart, range}
use Rattle.elf_format.specs.Records.{file_header_size}
use Rattle.elf_layout_plan.specs.Fields.{do_fields_fit}
use Rattle.elf_layout_plan.specs.Spelled.{entry_fields, file_header_fields, section_fields, segment_fields}
use Rattle.elf_layout_plan.specs.Spelled.{spelled_file_header, spelled_section_header, spelled_segment_header}
use Rattle.elf_image.specs.Edited.{IsEdited}
use Rattle.elf_image.specs.Names.{are_names_changed}
use Rattle.elf_layout_plan.specs.FilePlaced.{written_size, written_table}
use Rattle.elf_image.specs.Kept.{KeptSection, image_at_read, kept_of_type, kept_sections}
use Rattle.elf_layout_plan.specs.Memory.{Resized}
use Rattle.elf_layout_plan.specs.Plan.{IsPlan, Plan, resized}
use Rattle.elf_write_spec.specs.Base.{base, is_data}
use Rattle.elf_write_spec.specs.Contents.{IsContent, content_at_number}
use Rattle.elf_write_spec.specs.Headers.{IsHeaderOf, written_header}

-- An image with its plan, and what the plan leaves open: the section headers, with where the names stand; the bytes of each section;
-- and the numbers of the dynamic entries.
pub record Output : Type 0 where
  pub image : Image
  pub plan : Plan
  pub headers : List SectionHeader
  pub contents : List (List ℕ)
  pub raw : List EntryNumbers

-- ## The file

abbrev pub patch : ℕ → List ℕ → Patch
patch offset bytes = record { offset = offset; bytes = bytes }

-- a section's bytes at its place, unless they stay or it has none in the file
abbrev pub patches_of_section : Resized → KeptSection → Place → List ℕ → List Patch
patches_of_section r s place bytes = if occupies_file place && not (is_data r.read s) then patch place.sh_offset bytes ∷ [] else []

abbrev pub patches_of_sections : Resized → List KeptSection → List Place → List (List ℕ) → List Patch
patches_of_sections r [] places contents = []
patches_of_sections r (s ∷ ss) [] contents = []
patches_of_sections r (s ∷ ss) (p ∷ ps) [] = []
patches_of_sections r (s ∷ ss) (p ∷ ps) (bytes ∷ more) = patches_of_section r s p bytes ++ patches_of_sections r ss ps more

-- the file header, the program header table, the section header table
abbrev pub patches_of_headers : Output → List Patch
patches_of_headers w =
    patch 0 (spelled_file_header w.image.form (written_header w.image w.plan))
    ∷ patch w.plan.e_phoff (flat_map (spelled_segment_header w.image.form) w.plan.segments)
    ∷ patch w.plan.e_shoff (flat_map (spelled_section_header w.image.form) w.headers)
    ∷ []

abbrev pub patches : Output → List Patch
patches w = patches_of_headers w ++ patches_of_sections (resized w.image) (kept_sections w.image) w.plan.places w.contents

-- The bytes of the file: headers, tables and contents laid over what stays.
unfoldable pub written_bytes : Output → List ℕ
written_bytes w = laid (patches w) (base (resized w.image) (written_size (resized w.image) w.plan))

-- ## What is asked of what the plan leaves open

-- the names of the sections (gABI, ELF Header, e_shstrndx)
abbrev pub names_content : Output → List ℕ
names_content w = content_at_number w.image w.contents w.image.header.e_shstrndx

-- each section has its header and its bytes, as many as its place
pub record IsSectionWritten (w : Output) (s : KeptSection) (place : Place) (header : SectionHeader) (bytes : List ℕ) : Type 0 where
  pub has_header : IsHeaderOf (resized w.image) (names_content w) s.section place header
  pub sized : length bytes ≡ (if occupies_file place then place.sh_size else 0)
  pub content : IsContent (resized w.image) w.plan w.raw (content_at_number w.image w.contents s.section.sh_link) s bytes

-- section by section
abbrev pub AreSectionsWritten : Output → List KeptSection → List Place → List SectionHeader → List (List ℕ) → Type 0
AreSectionsWritten w [] [] [] [] = Unit {0}
AreSectionsWritten w (s ∷ ss) (p ∷ ps) (h ∷ hs) (bytes ∷ more) = IsSectionWritten w s p h bytes × AreSectionsWritten w ss ps hs more
AreSectionsWritten w _ _ _ _ = ⊥

-- each number fits its field
pub record DoNumbersFit (w : Output) : Type 0 where
  pub header : IsTrue (do_fields_fit (file_header_fields w.image.form (written_header w.image w.plan)))
  pub segments : IsTrue (list_all (λ p. do_fields_fit (segment_fields w.image.form p)) w.plan.segments)
  pub sections : IsTrue (list_all (λ s. do_fields_fit (section_fields w.image.form s)) w.headers)
  pub entries : IsTrue (list_all (λ e. do_fields_fit (entry_fields w.image.form e)) w.raw)
  -- hash tables that are made anew name symbols by 32 bits
  pub symbols : are_names_changed (image_at_read w.image) w.image ≡ true → length w.image.dynamic_symbols < 2 ^ 32

-- The file header doesn't move, nor does a program header table that stands in a loaded segment: they are to share no byte.
abbrev pub AreHeadersApart : Image → Plan → Type 0
AreHeadersApart image plan = IsTrue (apart (range 0 (file_header_size image.form)) (written_table (resized image) plan))

pub record IsOutput (w : Output) : Type 0 where
  pub headers : AreHeadersApart w.image w.plan
  pub no_list : kept_of_type SHT_DYNAMIC w.image ≡ None → w.raw ≡ []
  pub sections : AreSectionsWritten w (kept_sections w.image) w.plan.places w.headers w.contents
  pub fit : DoNumbersFit w

-- what the laws are about: an edited image, read from bytes, its plan, and what is written of them
pub record IsPlannedOutput (w : Output) : Type 0 where
  pub edited : IsEdited w.image
  pub source : AreBytes w.image.source
  pub planned : IsPlan (resized w.image) w.plan
  pub written : IsOutput w
