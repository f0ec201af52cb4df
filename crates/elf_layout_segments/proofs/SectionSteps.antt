-- Steps of walks over the sections of an image.
use Rattle.std.proofs.Common.{◌≡◌, ℕ, ◌+◌, ◌<◌, List, [], ◌∷◌, ◌++◌, length, map, take, get_or, sym, ap, ◌∙◌, arith}
use Rattle.std.specs.Prelude.{slice_index}
use Rattle.std.specs.List.{AllByRecursion}
use Rattle.std.proofs.lemmas.List.{get_or-map, length-map, take_more}
use Rattle.elf_format.specs.Image.{Image, ImageSection}
use Rattle.elf_image.specs.Kept.{KeptSection, kept_from, kept_sections}
use Rattle.elf_layout_segments.specs.declared.sections.SectionAt.{SectionAt}
use Rattle.elf_layout_segments.specs.Keys.{Rise}
use Rattle.elf_layout_segments.specs.Sections.{section_at, indexed_sections}
use Rattle.elf_image.proofs.ForCallers.KeptSections.{kept-at, length-kept}

-- ## The sections that are there

pub length-seen : (image : Image) → length image.section_numbers ≡ length image.sections → length (indexed_sections image) ≡ length image.sections
length-seen image long = length-map (kept_sections image) section_at ∙ length-kept image long

-- one section more
pub seen-more : (image : Image) (made : List SectionAt) (i : ℕ) (x : ImageSection) → length image.section_numbers ≡ length image.sections → i < length image.sections
    → get_or image.sections i x ≡ x → made ≡ take i (indexed_sections image)
    → made ++ section_at (record { position = i; number = slice_index image.section_numbers i; section = x }) ∷ [] ≡ take (i + 1) (indexed_sections image)
seen-more image made i x long h at so_far =
    let d : KeptSection = record { position = i; number = slice_index image.section_numbers i; section = x } in
    let many : length (indexed_sections image) ≡ length image.sections = length-seen image long in
    let kept : length (kept_sections image) ≡ length image.sections = length-kept image long in
    let here : get_or (indexed_sections image) i (section_at d) ≡ section_at d =
    get_or-map section_at (kept_sections image) i d (section_at d) (omega arith)
    ∙ ap section_at (kept-at image i d x long h ∙ ap (λ s. record { position = i; number = slice_index image.section_numbers i; section = s }) at) in
    ap (λ l. l ++ section_at d ∷ []) so_far
    ∙ sym (take_more (indexed_sections image) i (section_at d) (omega arith) ∙ ap (λ y. take i (indexed_sections image) ++ y ∷ []) here)

-- ## Their order

behind_from : (n k : ℕ) (ns : List ℕ) (ss : List ImageSection) → n < k → AllByRecursion (λ (t : SectionAt). n < t.position) (map section_at (kept_from k ns ss))
behind_from n k [] ss h = tt
behind_from n k (m ∷ ns) [] h = tt
behind_from n k (m ∷ ns) (s ∷ ss) h = (h, behind_from n (k + 1) ns ss (omega (arith, h)))

rise_from : (k : ℕ) (ns : List ℕ) (ss : List ImageSection) → Rise (map section_at (kept_from k ns ss))
rise_from k [] ss = tt
rise_from k (n ∷ ns) [] = tt
rise_from k (n ∷ ns) (s ∷ ss) = (behind_from k (k + 1) ns ss (omega arith), rise_from (k + 1) ns ss)

-- each stands behind those before it
pub sections_rise : (image : Image) → Rise (indexed_sections image)
sections_rise image = rise_from 0 image.section_numbers image.sections
