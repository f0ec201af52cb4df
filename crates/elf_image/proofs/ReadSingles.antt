-- What comes once in a file that was read.
use Rattle.std.proofs.Common.{◌≡◌, ℕ, ◌≤◌, Bool, true, List, Some, Ok, length, ap, sym, ◌∙◌}
use Rattle.std.specs.Prelude.{◌==◌, count_by, nat_le}
use Rattle.std.specs.List.{list_all, slice_get}
use Rattle.std.proofs.lemmas.Bool.{and_parts, leb-true}
use Rattle.elf_format.specs.declared.constants.TheConstants.{PT_DYNAMIC, PT_INTERP, SHT_SYMTAB}
use Rattle.elf_format.specs.declared.records.SectionHeader.{SectionHeader}
use Rattle.elf_format.specs.declared.records.SegmentHeader.{SegmentHeader}
use Rattle.elf_format.specs.File.{Parts}
use Rattle.elf_format.specs.Image.{Image, ImageSection, counted, image_of}
use Rattle.elf_format.specs.Rules.{are_linked, are_tables_linked, are_whole, infos_are_sections, is_one_of_each, relocations_fit, single_section_types, single_segment_types, symbols_have_sections}
use Rattle.elf_image.proofs.ListsLeft.{only_place}
use Rattle.elf_image.proofs.ReadImageLaws.{read_images_hold_parts}

one_of_each : (p : Parts) → are_tables_linked p ≡ true → is_one_of_each p.segments p.sections ≡ true
one_of_each p h =
    let sixth = and_parts _ (infos_are_sections p) h in
    let fifth = and_parts _ (relocations_fit p) sixth.0 in
    let fourth = and_parts _ (symbols_have_sections p) fifth.0 in
    let third = and_parts _ (are_whole p.opened.form p.sections) fourth.0 in
    (and_parts (is_one_of_each p.segments p.sections) (are_linked p.sections) third.0).0

-- the numbers of the sections are their places
pub sections_counted : (file : List ℕ) (read : Image) → image_of file ≡ Ok read → read.section_numbers ≡ counted (length read.sections)
sections_counted file read is = let (_, _, _, _, holds) = read_images_hold_parts file read is in holds.section_numbers

-- the section of symbols for a link editor
pub only_table : (file : List ℕ) (read : Image) → image_of file ≡ Ok read → (i j : ℕ) (x y : ImageSection) → slice_get read.sections i ≡ Some x → slice_get read.sections j ≡ Some y
    → (x.sh_type == SHT_SYMTAB) ≡ true → (y.sh_type == SHT_SYMTAB) ≡ true → i ≡ j
only_table file read is i j x y at bt typed other =
    let (p, _, _, rules, holds) = read_images_hold_parts file read is in
    let (s, s_at, s_is) = holds.sections.each i x at in
    let (t, t_at, t_is) = holds.sections.each j y bt in
    let few : ℕ → Bool = λ type. nat_le (count_by (λ (h : SectionHeader). h.sh_type == type) p.sections) 1 in
    let all = (and_parts _ (list_all few single_section_types) (one_of_each p rules.linked)).1 in
    let first : few SHT_SYMTAB ≡ true = (and_parts (few SHT_SYMTAB) _ all).0 in
    only_place (λ (h : SectionHeader). h.sh_type == SHT_SYMTAB) p.sections i j s t (leb-true (count_by (λ (h : SectionHeader). h.sh_type == SHT_SYMTAB) p.sections) 1 first) s_at t_at
    (ap (λ (z : ImageSection). z.sh_type == SHT_SYMTAB) (sym s_is.fields) ∙ typed) (ap (λ (z : ImageSection). z.sh_type == SHT_SYMTAB) (sym t_is.fields) ∙ other)

-- the interpreter's program header
pub few_interpreters : (file : List ℕ) (read : Image) → image_of file ≡ Ok read → count_by (λ (q : SegmentHeader). q.p_type == PT_INTERP) read.segments ≤ 1
few_interpreters file read is =
    let (p, _, _, rules, holds) = read_images_hold_parts file read is in
    let few : ℕ → Bool = λ type. nat_le (count_by (λ (q : SegmentHeader). q.p_type == type) p.segments) 1 in
    let all = (and_parts (list_all few single_segment_types) _ (one_of_each p rules.linked)).0 in
    let second : few PT_INTERP ≡ true = (and_parts (few PT_INTERP) _ (and_parts (few PT_DYNAMIC) _ all).1).0 in
    leb-true (count_by (λ (q : SegmentHeader). q.p_type == PT_INTERP) read.segments) 1
    (ap (λ (qs : List SegmentHeader). nat_le (count_by (λ (q : SegmentHeader). q.p_type == PT_INTERP) qs) 1) holds.segments ∙ second)
