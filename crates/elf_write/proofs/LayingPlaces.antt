-- The old places of what is written anew.
use Rattle.std.proofs.Common.{◌≡◌, ◌≤◌, ◌<◌, ◌+◌, ◌∙◌, ℕ, Bool, true, false, List, [], ◌∷◌, ◌++◌, length, map, take, filter, get_or, sym, ap, Option, arith}
use Rattle.std.specs.Prelude.{slice_index, nat_lt, not, ◌&&◌, ◌==◌, if◌then◌else◌}
use Rattle.std.proofs.lemmas.Bool.{and_parts, ltb-true}
use Rattle.std.proofs.lemmas.List.{append_assoc, get_or-map, length-map, map-append, take_all, take_more}
use Rattle.std.proofs.lemmas.List.Elements.{filter-append}
use Rattle.elf_format.specs.declared.constants.TheConstants.{ET_DYN, ET_EXEC, PN_XNUM, SHN_LORESERVE}
use Rattle.elf_format.specs.declared.range.Range.{Range}
use Rattle.elf_format.specs.File.{Opened}
use Rattle.elf_format.specs.Image.{Image, ImageSection}
use Rattle.elf_format.specs.Options.{is_one_of}
use Rattle.elf_format.specs.Places.{file_range}
use Rattle.elf_format.specs.Records.{section_header_size, segment_header_size}
use Rattle.elf_format.specs.Rules.{is_file_kind, names_are_texts, no_extended_numbers}
use Rattle.elf_image.specs.Edited.{IsEdited}
use Rattle.elf_image.specs.ImageModel.{section_model}
use Rattle.elf_image.specs.declared.section.Section.{Section}
use Rattle.elf_image.specs.Kept.{KeptSection, image_at_read, interpreter_number, kept_sections, place_at_read}
use Rattle.elf_layout_plan.specs.Memory.{Resized}
use Rattle.elf_layout_plan.specs.Plan.{resized}
use Rattle.elf_write_contents.specs.Base.{leaves_place}
use Rattle.elf_write_contents.specs.Ready.{IsEditedReady}
use Rattle.elf_write.specs.LayingSteps.{leaves_place_at, rewritten_places}
use Rattle.elf_write_contents.proofs.ForCallers.WholeEdits.{ReadFacts, read_facts}
use Rattle.elf_write_contents.proofs.ForCallers.ReadTables.{ready_edit}
use Rattle.elf_format.proofs.ForCallers.Lengths.{length-segments}
use Rattle.elf_image.proofs.ForCallers.KeptSections.{kept-at, length-kept}

-- ## Program headers

few : (o : Opened) → is_file_kind o ≡ true → o.header.e_phnum < 65536
few o kind =
    let a : Bool = is_one_of (ET_EXEC ∷ ET_DYN ∷ []) o.header.e_type in
    let b : Bool = not (o.header.e_shoff == 0) in
    let c : Bool = not (o.header.e_shnum == 0) in
    let d : Bool = nat_lt o.header.e_shnum SHN_LORESERVE in
    let e : Bool = nat_lt o.header.e_phnum PN_XNUM in
    let f : Bool = o.header.e_phentsize == segment_header_size o.form in
    let g : Bool = o.header.e_shentsize == section_header_size o.form in
    let h : Bool = nat_lt o.header.e_shstrndx o.header.e_shnum in
    let i : Bool = names_are_texts o in
    let nine = and_parts (a && b && c && d && e && f && g && h && i) (no_extended_numbers o) kind in
    let eight = and_parts (a && b && c && d && e && f && g && h) i nine.0 in
    let seven = and_parts (a && b && c && d && e && f && g) h eight.0 in
    let six = and_parts (a && b && c && d && e && f) g seven.0 in
    let five = and_parts (a && b && c && d && e) f six.0 in
    let four = and_parts (a && b && c && d) e five.0 in
    let below : o.header.e_phnum < PN_XNUM = ltb-true o.header.e_phnum PN_XNUM four.1 in
    omega arith

-- no more than plain numbering has
pub few_segments : (read image : Image) → IsEditedReady read image → length read.segments < 65536
few_segments read image is =
    let f : ReadFacts read image = read_facts read image (ready_edit is) in
    let many : length read.segments ≡ f.parts.opened.header.e_phnum =
    ap length f.holds.segments ∙ length-segments f.parts.opened f.parts.segments f.are_parts.segments in
    omega (arith, many, few f.parts.opened f.rules.file_kind)

-- ## Sections

-- the one at a position, as it is looked at
pub kept_here : (image : Image) (sections : List Section) (i : ℕ) (x : Section) (d : KeptSection)
    → length image.section_numbers ≡ length image.sections
    → map section_model sections ≡ image.sections → i < length sections → x ≡ get_or sections i x
    → (i < length (kept_sections image))
    × (get_or (kept_sections image) i d
    ≡ record { position = i; number = slice_index image.section_numbers i; section = section_model x })
kept_here image sections i x d long seen here at =
    let many : length image.sections ≡ length sections = sym (ap length seen) ∙ length-map sections section_model in
    let at_image : get_or image.sections i (section_model x) ≡ section_model x =
    ap (λ (l : List ImageSection). get_or l i (section_model x)) (sym seen)
    ∙ get_or-map section_model sections i x (section_model x) here ∙ ap section_model (sym at) in (
      omega (arith, length-kept image long),
      kept-at image i d (section_model x) long (omega arith)
          ∙ ap (λ (s : ImageSection). record { position = i; number = slice_index image.section_numbers i; section = s }) at_image,
    )

-- ## The places of sections that are written anew

-- one section more
rewritten-more : (r : Resized) (ks : List KeptSection) (i : ℕ) (s : KeptSection) → i < length ks → get_or ks i s ≡ s
    → rewritten_places r (take (i + 1) ks) ≡ rewritten_places r (take i ks) ++ rewritten_places r (s ∷ [])
rewritten-more r ks i s here at =
    ap (rewritten_places r) (take_more ks i s here ∙ ap (λ (x : KeptSection). take i ks ++ x ∷ []) at)
    ∙ ap (map (λ (x : KeptSection). file_range (place_at_read x.section))) (filter-append (leaves_place r.read r.image) (take i ks) (s ∷ []))
    ∙ map-append (λ (x : KeptSection). file_range (place_at_read x.section)) (filter (leaves_place r.read r.image) (take i ks))
    (filter (leaves_place r.read r.image) (s ∷ []))

-- what one section brings
one-place : (r : Resized) (interpreter : Option ℕ) (s : KeptSection) (b : Bool) → interpreter ≡ interpreter_number r.read
    → b ≡ leaves_place_at interpreter r.image.moves_dynamic s.number s.section
    → rewritten_places r (s ∷ []) ≡ (if b then file_range (place_at_read s.section) ∷ [] else [])
one-place r interpreter s b same is = by_test b (is ∙ ap (λ (o : Option ℕ). leaves_place_at o r.image.moves_dynamic s.number s.section) same)
  where
    by_test : (b : Bool) → b ≡ leaves_place r.read r.image s
        → rewritten_places r (s ∷ []) ≡ (if b then file_range (place_at_read s.section) ∷ [] else [])
    by_test true e = ap (λ (t : Bool). map (λ (x : KeptSection). file_range (place_at_read x.section)) (if t then s ∷ [] else [])) (sym e)
    by_test false e = ap (λ (t : Bool). map (λ (x : KeptSection). file_range (place_at_read x.section)) (if t then s ∷ [] else [])) (sym e)

-- the places with those of one section more
pub places-more : (image : Image) (interpreter : Option ℕ) (start made : List Range) (sections : List Section) (i number : ℕ)
    (x : Section) (b : Bool) → interpreter ≡ interpreter_number (image_at_read image) → IsEdited image
    → map section_model sections ≡ image.sections → i < length sections → x ≡ get_or sections i x
    → number ≡ slice_index image.section_numbers i → b ≡ leaves_place_at interpreter image.moves_dynamic number (section_model x)
    → made ≡ start ++ rewritten_places (resized image) (take i (kept_sections image))
    → made ++ (if b then file_range (place_at_read (section_model x)) ∷ [] else [])
    ≡ start ++ rewritten_places (resized image) (take (i + 1) (kept_sections image))
places-more image interpreter start made sections i number x b same edited seen here at of tested so_far =
    let r : Resized = resized image in
    let ks : List KeptSection = kept_sections image in
    let s : KeptSection = record { position = i; number = slice_index image.section_numbers i; section = section_model x } in
    let found = kept_here image sections i x s edited.is_edit.sections.numbered seen here at in
    let brings : List Range = if b then file_range (place_at_read (section_model x)) ∷ [] else [] in
    let one : rewritten_places r (s ∷ []) ≡ brings =
    one-place r interpreter s b same (tested ∙ ap (λ (n : ℕ). leaves_place_at interpreter image.moves_dynamic n (section_model x)) of) in
    ap (λ (l : List Range). l ++ brings) so_far
    ∙ append_assoc start (rewritten_places r (take i ks)) brings
    ∙ ap (λ (l : List Range). start ++ (rewritten_places r (take i ks) ++ l)) (sym one)
    ∙ ap (λ (l : List Range). start ++ l) (sym (rewritten-more r ks i s found.0 found.1))

pub places-all : (image : Image) (start made : List Range) (sections : List Section) (i : ℕ) → IsEdited image
    → map section_model sections ≡ image.sections → length sections ≤ i
    → made ≡ start ++ rewritten_places (resized image) (take i (kept_sections image))
    → made ≡ start ++ rewritten_places (resized image) (kept_sections image)
places-all image start made sections i edited seen end so_far =
    let many : length image.sections ≡ length sections = sym (ap length seen) ∙ length-map sections section_model in
    so_far ∙ ap (λ (l : List KeptSection). start ++ rewritten_places (resized image) l)
    (take_all i (kept_sections image) (omega (arith, length-kept image edited.is_edit.sections.numbered)))
