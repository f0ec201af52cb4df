-- Headers, tables and contents laid over what stays make the bytes of the file.
use Rattle.std.proofs.Common.{◌≡◌, ◌≤◌, ◌<◌, ◌+◌, ◌*◌, ◌∙◌, ℕ, Bool, List, [], ◌∷◌, ◌++◌, length, map, drop, get_or, sym, ap, subst, Option, All, arith}
use Rattle.std.specs.Prelude.{slice_index, not, ◌&&◌, if◌then◌else◌}
use Rattle.std.specs.List.{flat_map}
use Rattle.std.proofs.lemmas.List.{append-nil, append_assoc, drop_all, drop_more, get_or-map, length-map}
use Rattle.byte_store.specs.Composed.{IsMadeInParts, made_of}
use Rattle.byte_store.specs.Laid.{LiesIn, Patch}
use Rattle.byte_store.specs.declared.composed.Difference.{Difference}
use Rattle.elf_format.specs.declared.form.Form.{Form}
use Rattle.elf_format.specs.declared.records.EntryNumbers.{EntryNumbers}
use Rattle.elf_format.specs.declared.records.FileHeader.{FileHeader}
use Rattle.elf_format.specs.declared.records.SectionHeader.{SectionHeader}
use Rattle.elf_format.specs.Image.{Image}
use Rattle.elf_format.specs.Places.{Place, occupies_file}
use Rattle.elf_format.specs.Records.{section_header_size}
use Rattle.elf_tables.specs.Spelled.{spelled_file_header, spelled_segment_header}
use Rattle.elf_image.specs.declared.section.Section.{Section}
use Rattle.elf_image.specs.Edited.{IsEdited}
use Rattle.elf_image.specs.ImageModel.{section_model}
use Rattle.elf_layout_plan.specs.declared.plan.SectionPlace.{SectionPlace}
use Rattle.elf_layout_plan.specs.FilePlaced.{written_size}
use Rattle.elf_image.specs.Kept.{KeptSection, image_at_read, interpreter_number, kept_sections}
use Rattle.elf_layout_plan.specs.Memory.{Resized}
use Rattle.elf_layout_plan.specs.Plan.{Plan, resized}
use Rattle.elf_layout_plan.specs.PlanModel.{place_model}
use Rattle.elf_write_contents.specs.Base.{is_data}
use Rattle.elf_write_contents.specs.Headers.{written_header}
use Rattle.elf_write_contents.specs.Output.{IsPlannedOutput, Output, patch, patches, patches_of_headers, patches_of_section, patches_of_sections, written_bytes}
use Rattle.elf_write_contents.proofs.ForCallers.Patches.{patches_lie}
use Rattle.elf_write_contents.proofs.ForCallers.WholeFacts.{lengths, read_facts}
use Rattle.elf_write_contents.specs.Inner.{output_of}
use Rattle.elf_write.specs.declared.spelled.SpelledHeaders.{SpelledHeaders}
use Rattle.elf_write.specs.LayingSteps.{AreHeadersSpelled, DoHeadersFit, content_patches, header_patches, is_data_at}
use Rattle.elf_write.specs.PieceSteps.{IsOverBase}
use Rattle.elf_write.proofs.Composing.{all_each, over_base}
use Rattle.elf_write.proofs.LayingPlaces.{kept_here}
use Rattle.elf_image.proofs.ForCallers.KeptSections.{length-kept}

-- ## Section by section

-- the patches of the sections that are left at a position
abbrev pub left_patches : Resized → List KeptSection → List Place → List (List ℕ) → ℕ → List Patch
left_patches r ks ps cs i = patches_of_sections r (drop i ks) (drop i ps) (drop i cs)

-- the patches of the sections before a position are there
abbrev pub IsPushedTo : Resized → List KeptSection → List Place → List (List ℕ) → ℕ → List Patch → List Patch → Type 0
IsPushedTo r ks ps cs i old now = now ++ left_patches r ks ps cs i ≡ old ++ patches_of_sections r ks ps cs

left-at : (r : Resized) (ks : List KeptSection) (ps : List Place) (cs : List (List ℕ)) (i : ℕ) (s : KeptSection) (p : Place) (c : List ℕ)
    → i < length ks → i < length ps → i < length cs → get_or ks i s ≡ s → get_or ps i p ≡ p → get_or cs i c ≡ c
    → left_patches r ks ps cs i ≡ patches_of_section r s p c ++ left_patches r ks ps cs (i + 1)
left-at r ks ps cs i s p c in_ks in_ps in_cs at_s at_p at_c =
    ap (λ (l : List KeptSection). patches_of_sections r l (drop i ps) (drop i cs))
    (drop_more ks i s in_ks ∙ ap (λ (x : KeptSection). x ∷ drop (i + 1) ks) at_s)
    ∙ ap (λ (l : List Place). patches_of_sections r (s ∷ drop (i + 1) ks) l (drop i cs))
    (drop_more ps i p in_ps ∙ ap (λ (x : Place). x ∷ drop (i + 1) ps) at_p)
    ∙ ap (λ (l : List (List ℕ)). patches_of_sections r (s ∷ drop (i + 1) ks) (p ∷ drop (i + 1) ps) l)
    (drop_more cs i c in_cs ∙ ap (λ (x : List ℕ). x ∷ drop (i + 1) cs) at_c)

-- what is looked at of a section: itself, its number, its place and its bytes
pub record IsAt (image : Image) (sections : List Section) (places : List SectionPlace) (contents : List (List ℕ)) (i number : ℕ)
    (x : Section) (bytes : List ℕ) : Type 0 where
  pub edited : IsEdited image
  pub seen : map section_model sections ≡ image.sections
  pub as_many_places : length places ≡ length image.sections
  pub as_many_contents : length contents ≡ length image.sections
  pub here : i < length sections
  pub section : x ≡ get_or sections i x
  pub of_number : number ≡ slice_index image.section_numbers i
  pub content : bytes ≡ get_or contents i bytes

-- a section's patch, and those of the sections behind it
pub left-next : (image : Image) (interpreter : Option ℕ) (sections : List Section) (places : List SectionPlace)
    (ps : List Place) (contents : List (List ℕ))
    (i number : ℕ) (x : Section) (bytes : List ℕ) (d : SectionPlace) (stays : Bool)
    → interpreter ≡ interpreter_number (image_at_read image)
    → map place_model places ≡ ps → IsAt image sections places contents i number x bytes
    → stays ≡ is_data_at interpreter number (section_model x)
    → left_patches (resized image) (kept_sections image) ps contents i
    ≡ content_patches (place_model (get_or places i d)) stays bytes
    ++ left_patches (resized image) (kept_sections image) ps contents (i + 1)
left-next image interpreter sections places ps contents i number x bytes d stays same seen at tested =
    left-at r ks ps contents i s p bytes found.0 (omega (arith, in_places, ap length seen, length-map places place_model))
    (omega (arith, at.here, many, at.as_many_contents)) found.1 place (sym at.content)
    ∙ ap (λ (b : Bool). (if occupies_file p && not b then patch p.sh_offset bytes ∷ [] else []) ++ left_patches r ks ps contents (i + 1))
    (sym of_data)
  where
    r : Resized
    r = resized image

    ks : List KeptSection
    ks = kept_sections image

    s : KeptSection
    s = record { position = i; number = slice_index image.section_numbers i; section = section_model x }

    p : Place
    p = place_model (get_or places i d)

    many : length image.sections ≡ length sections
    many = sym (ap length at.seen) ∙ length-map sections section_model

    in_places : i < length places
    in_places = omega (arith, at.here, many, at.as_many_places)

    found : (i < length ks) × (get_or ks i s ≡ s)
    found = kept_here image sections i x s at.edited.is_edit.sections.numbered at.seen at.here at.section

    place : get_or ps i p ≡ p
    place = ap (λ (l : List Place). get_or l i p) (sym seen) ∙ get_or-map place_model places i d p in_places

    of_data : stays ≡ is_data r.read s
    of_data = tested ∙ ap (λ (n : ℕ). is_data_at interpreter n (section_model x)) at.of_number
        ∙ ap (λ (o : Option ℕ). is_data_at o (slice_index image.section_numbers i) (section_model x)) same

-- the patches up to a section, with its own there
pub pushed-next : (r : Resized) (ks : List KeptSection) (ps : List Place) (cs : List (List ℕ)) (i : ℕ) (old now new first : List Patch)
    → left_patches r ks ps cs i ≡ first ++ left_patches r ks ps cs (i + 1)
    → IsPushedTo r ks ps cs i old now → new ≡ now ++ first → IsPushedTo r ks ps cs (i + 1) old new
pushed-next r ks ps cs i old now new first is so_far done =
    ap (λ (l : List Patch). l ++ left_patches r ks ps cs (i + 1)) done
    ∙ append_assoc now first (left_patches r ks ps cs (i + 1))
    ∙ ap (λ (l : List Patch). now ++ l) (sym is)
    ∙ so_far

-- the patches of all sections are there
pub pushed-all : (image : Image) (sections : List Section) (ps : List Place) (cs : List (List ℕ)) (i : ℕ) (old now : List Patch)
    → IsEdited image → map section_model sections ≡ image.sections → length sections ≤ i
    → IsPushedTo (resized image) (kept_sections image) ps cs i old now
    → now ≡ old ++ patches_of_sections (resized image) (kept_sections image) ps cs
pushed-all image sections ps cs i old now edited seen end so_far =
    let many : length image.sections ≡ length sections = sym (ap length seen) ∙ length-map sections section_model in
    let none : drop i (kept_sections image) ≡ [] =
    drop_all i (kept_sections image) (omega (arith, length-kept image edited.is_edit.sections.numbered)) in
    sym (append-nil now)
    ∙ ap (λ (l : List KeptSection). now ++ patches_of_sections (resized image) l (drop i ps) (drop i cs)) (sym none)
    ∙ so_far

-- ## All of it

-- what the headers and tables ask for
pub headers_fit : (image : Image) (plan : Plan) (form : Form) (header : FileHeader) (headers : List SectionHeader)
    (contents : List (List ℕ)) → form ≡ image.form → header ≡ written_header image plan
    → ((raw : List EntryNumbers) × IsPlannedOutput (output_of image plan headers contents raw))
    → DoHeadersFit form header plan.segments headers
headers_fit image plan form header headers contents same_form same_header output =
    subst (λ (f : Form). DoHeadersFit f header plan.segments headers) (sym same_form)
    (subst (λ (h : FileHeader). DoHeadersFit image.form h plan.segments headers) (sym same_header) (record {
      of_file = output.1.written.fit.header;
      of_segments = output.1.written.fit.segments;
      of_sections = output.1.written.fit.sections;
    }))

-- with the form and the file header of the image
spelled_as : (form : Form) (header : FileHeader) (image : Image) (plan : Plan) (headers : List SectionHeader) (spelled : SpelledHeaders)
    → form ≡ image.form → header ≡ written_header image plan → AreHeadersSpelled form header plan.segments headers spelled
    → AreHeadersSpelled image.form (written_header image plan) plan.segments headers spelled
spelled_as form header image plan headers spelled same_form same_header are =
    subst (λ (f : Form). AreHeadersSpelled f (written_header image plan) plan.segments headers spelled) same_form
    (subst (λ (h : FileHeader). AreHeadersSpelled form h plan.segments headers spelled) same_header are)

same_patches : (w : Output) (spelled : SpelledHeaders)
    → AreHeadersSpelled w.image.form (written_header w.image w.plan) w.plan.segments w.headers spelled
    → header_patches w.plan spelled ≡ patches_of_headers w
same_patches w spelled are =
    let form : Form = w.image.form in
    let first : List ℕ = spelled_file_header form (written_header w.image w.plan) in
    let second : List ℕ = flat_map (spelled_segment_header form) w.plan.segments in
    ap (λ (l : List ℕ). patch 0 l ∷ patch w.plan.e_phoff spelled.segments.items ∷ patch w.plan.e_shoff spelled.sections.items ∷ [])
    are.of_file
    ∙ ap (λ (l : List ℕ). patch 0 first ∷ patch w.plan.e_phoff l ∷ patch w.plan.e_shoff spelled.sections.items ∷ []) are.of_segments
    ∙ ap (λ (l : List ℕ). patch 0 first ∷ patch w.plan.e_phoff second ∷ patch w.plan.e_shoff l ∷ []) are.of_sections

-- each section has a place and bytes
pub as_many : (image : Image) (plan : Plan) (headers : List SectionHeader) (contents : List (List ℕ))
    → ((raw : List EntryNumbers) × IsPlannedOutput (output_of image plan headers contents raw))
    → (length plan.places ≡ length image.sections) × (length contents ≡ length image.sections)
as_many image plan headers contents (raw, is) =
    let w : Output = output_of image plan headers contents raw in
    let l = lengths w is (read_facts w is) in
    (l.places, l.contents)

-- The headers, tables and contents of a file, each at its place; it has so many bytes.
pub record IsFileOf (image : Image) (plan : Plan) (headers : List SectionHeader) (contents : List (List ℕ)) (spelled : SpelledHeaders)
    (form : Form) (header : FileHeader) (size : ℕ) (these : List Patch) : Type 0 where
  pub same_form : form ≡ image.form
  pub same_header : header ≡ written_header image plan
  pub are_spelled : AreHeadersSpelled form header plan.segments headers spelled
  pub same_size : size ≡ plan.e_shoff + length plan.places * section_header_size form
  pub are : these ≡ header_patches plan spelled ++ patches_of_sections (resized image) (kept_sections image) plan.places contents

module _ (image : Image) (plan : Plan) (headers : List SectionHeader) (contents : List (List ℕ)) (spelled : SpelledHeaders) (form : Form)
    (header : FileHeader) (size : ℕ) (these : List Patch) (of : IsFileOf image plan headers contents spelled form header size these) where
  of_sections : List Patch
  of_sections = patches_of_sections (resized image) (kept_sections image) plan.places contents

  -- these patches are those of what is written
  are_patches : (raw : List EntryNumbers) → these ≡ patches (output_of image plan headers contents raw)
  unfolding of_sections
  are_patches raw = of.are ∙ ap (λ (qs : List Patch). qs ++ of_sections)
      (same_patches (output_of image plan headers contents raw) spelled
      (spelled_as form header image plan headers spelled of.same_form of.same_header of.are_spelled))

  is_size : size ≡ written_size (resized image) plan
  is_size = of.same_size ∙ ap (λ (f : Form). plan.e_shoff + length plan.places * section_header_size f) of.same_form

  -- these patches lie in the bytes of the file
  pub all_lie : ((raw : List EntryNumbers) × IsPlannedOutput (output_of image plan headers contents raw)) → All (LiesIn size) these
  all_lie (raw, is) =
      subst (λ (n : ℕ). All (LiesIn n) these) (sym is_size)
      (subst (λ (qs : List Patch). All (LiesIn (written_size (resized image) plan)) qs) (sym (are_patches raw))
      (all_each (LiesIn (written_size (resized image) plan)) (patches (output_of image plan headers contents raw))
      (patches_lie (output_of image plan headers contents raw) is)))

  -- the bytes of the file are these patches over what stays
  planned_over : (raw : List EntryNumbers) → IsPlannedOutput (output_of image plan headers contents raw)
      → IsOverBase (resized image) these size (written_bytes (output_of image plan headers contents raw))
  planned_over raw is =
      let bytes : List ℕ = written_bytes (output_of image plan headers contents raw) in
      subst (λ (n : ℕ). IsOverBase (resized image) these n bytes) (sym is_size)
      (subst (λ (qs : List Patch). IsOverBase (resized image) qs (written_size (resized image) plan) bytes) (sym (are_patches raw))
      (over_base (output_of image plan headers contents raw) is))

  -- a difference that makes such bytes in parts makes the bytes of the file in parts
  pub planned-parts : ((raw : List EntryNumbers) × IsPlannedOutput (output_of image plan headers contents raw)) → (source : List ℕ) (d : Difference)
      → ((bytes : List ℕ) → IsOverBase (resized image) these size bytes → IsMadeInParts source d bytes)
      → IsMadeInParts source d (made_of source d)
  unfolding written_bytes
  planned-parts (known, is) source d makes =
      let bytes : List ℕ = written_bytes (output_of image plan headers contents known) in
      let parts : IsMadeInParts source d bytes = makes bytes (planned_over known is) in
      subst (IsMadeInParts source d) (sym parts.made) parts

  -- what makes such bytes makes those of the file
  pub made-planned : ((raw : List EntryNumbers) × IsPlannedOutput (output_of image plan headers contents raw)) → (made : List ℕ)
      → ((bytes : List ℕ) → IsOverBase (resized image) these size bytes → made ≡ bytes)
      → (raw : List EntryNumbers) → made ≡ written_bytes (output_of image plan headers contents raw)
  unfolding written_bytes
  made-planned (known, is) made makes raw = makes (written_bytes (output_of image plan headers contents known)) (planned_over known is)
