-- What is known of what is written: the parts that were read, and how they match, section by section, what is written.
use Rattle.std.proofs.Common.{◌≡◌, ℕ, zero, suc, ◌<◌, ◌≤◌, List, length, map, Bool, true, false, ◌||◌, [], ◌∷◌, refl, sym, ap, ◌∙◌, subst, Option, Some, None, arith}
use Rattle.std.specs.Prelude.{if◌then◌else◌, ◌==◌, unwrap_or}
use Rattle.std.proofs.lemmas.Bool.{both_ways, eq-eqb, false≢true, ne_eqb}
use Rattle.std.proofs.lemmas.List.{length-map}
use Rattle.std.proofs.lemmas.Option.{none-some, same_Some, slice_get_within}
use Rattle.patch_bytes.specs.Memory.{◌>>=◌}
use Rattle.std.specs.List.{slice_get}
use Rattle.elf_format.specs.declared.constants.TheConstants.{SHT_DYNSYM, SHT_GNU_VERDEF, SHT_GNU_VERNEED, SHT_SYMTAB}
use Rattle.elf_format.specs.declared.records.SectionHeader.{SectionHeader}
use Rattle.elf_format.specs.File.{Parts, section_of_type}
use Rattle.elf_format.specs.Image.{Image, ImageSection}
use Rattle.elf_format.specs.Options.{is_one_of}
use Rattle.elf_format.specs.Places.{Place, place_of, places_of}
use Rattle.elf_format.specs.Rules.{has_section_info}
use Rattle.elf_image.specs.Edited.{IsName}
use Rattle.elf_image.specs.Needed.{is_info_number, is_lasting, lasting_types, names_section}
use Rattle.elf_image.specs.ReadImage.{IsSectionOf}
use Rattle.elf_image.specs.Kept.{KeptSection, dynamic_strings_number, image_at_read, is_numbered, kept_at_number, kept_of_type, kept_sections}
use Rattle.elf_layout_plan.specs.Memory.{Resized, SizedSection, sized_sections}
use Rattle.elf_layout_plan.specs.Plan.{Plan, plan_for, resized}
use Rattle.elf_layout_plan.specs.Sizes.{new_size}
use Rattle.elf_layout_plan.specs.Standing.{place_in, places}
use Rattle.elf_write_spec.specs.Contents.{content_at_number}
use Rattle.elf_write_spec.specs.Final.{final, new_number}
use Rattle.elf_write_spec.specs.Output.{AreSectionsWritten, IsSectionWritten, IsPlannedOutput, Output}
use Rattle.elf_write_spec.specs.Headers.{behind_locals, written_info}
use Rattle.elf_layout_plan.proofs.ForCallers.ApartLists.{at-map, map-at}
use Rattle.elf_layout_plan.proofs.ForCallers.ApartRead.{edited_facts}
use Rattle.elf_layout_plan.proofs.ForCallers.ApartSections.{at-sized, kept-at as kept-parts, sized_of}
use Rattle.elf_layout_plan.proofs.ForCallers.PlacedLists.{slice_get-at}
use Rattle.elf_layout_plan.proofs.ForCallers.PlacedPlaces.{keeps_kind}
use Rattle.elf_write_spec.proofs.WholeLists.{before-first, find-is, find-no, none-passes, same_items, there_at}
use Rattle.elf_write_spec.proofs.NumberedSections.{kept_as}
use Rattle.elf_write_spec.proofs.WholeEdits as edits

-- ## The file that was read

-- the image is edited
pub whole_edit : (w : Output) → IsPlannedOutput w → edits.IsWholeEdit (image_at_read w.image) w.image
whole_edit w is = record { at_read = refl; edited = is.edited }

abbrev pub ReadFacts : Output → Type 0
ReadFacts w = edits.ReadFacts (image_at_read w.image) w.image

pub read_facts : (w : Output) → IsPlannedOutput w → ReadFacts w
read_facts w is = edits.read_facts (image_at_read w.image) w.image (whole_edit w is)

-- ## Section by section

-- as many places, headers and contents as sections that are there, and no more than were read
pub record Lengths (w : Output) (p : Parts) : Type 0 where
  pub sections : length w.image.sections ≤ length p.sections
  pub places : length w.plan.places ≡ length w.image.sections
  pub headers : length w.headers ≡ length w.image.sections
  pub contents : length w.contents ≡ length w.image.sections

pub length-kept : (w : Output) → IsPlannedOutput w → length (kept_sections w.image) ≡ length w.image.sections
length-kept w is = edits.length-kept (image_at_read w.image) w.image (read_facts w is)

-- as many places, headers and contents as sections
record SameLengths (w : Output) (ks : List KeptSection) (ps : List Place) (hs : List SectionHeader) (cs : List (List ℕ)) : Type 0 where
  places : length ps ≡ length ks
  headers : length hs ≡ length ks
  contents : length cs ≡ length ks

same_lengths : (w : Output) (ks : List KeptSection) (ps : List Place) (hs : List SectionHeader) (cs : List (List ℕ))
    → AreSectionsWritten w ks ps hs cs
    → SameLengths w ks ps hs cs
same_lengths w [] [] [] [] is = record { places = refl; headers = refl; contents = refl }
same_lengths w (k ∷ ks) (p ∷ ps) (h ∷ hs) (c ∷ cs) is =
    let more = same_lengths w ks ps hs cs is.1 in
    record { places = ap suc more.places; headers = ap suc more.headers; contents = ap suc more.contents }
same_lengths w _ _ _ _ is = absurd is

pub lengths : (w : Output) → IsPlannedOutput w → (f : ReadFacts w) → Lengths w f.parts
lengths w is f =
    let all : length (kept_sections w.image) ≡ length w.image.sections = length-kept w is in
    let same = same_lengths w (kept_sections w.image) w.plan.places w.headers w.contents is.written.sections in
    record {
      sections = edits.length-now (image_at_read w.image) w.image f;
      places = same.places ∙ all;
      headers = same.headers ∙ all;
      contents = same.contents ∙ all;
    }

-- ## Each section, with what is written of it

record WrittenAt (w : Output) (ps : List Place) (hs : List SectionHeader) (cs : List (List ℕ)) (i : ℕ) (k : KeptSection) : Type 0 where
  place : Place
  header : SectionHeader
  bytes : List ℕ
  is_place : slice_get ps i ≡ Some place
  is_header : slice_get hs i ≡ Some header
  is_bytes : slice_get cs i ≡ Some bytes
  written : IsSectionWritten w k place header bytes

written-at : (w : Output) (ks : List KeptSection) (ps : List Place) (hs : List SectionHeader) (cs : List (List ℕ))
    → AreSectionsWritten w ks ps hs cs
    → (i : ℕ) (k : KeptSection) → slice_get ks i ≡ Some k → WrittenAt w ps hs cs i k
written-at w [] [] [] [] is i k at = absurd (none-some k at)
written-at w (x ∷ ks) (p ∷ ps) (h ∷ hs) (c ∷ cs) is zero k at = record {
  place = p;
  header = h;
  bytes = c;
  is_place = refl;
  is_header = refl;
  is_bytes = refl;
  written = subst (λ (y : KeptSection). IsSectionWritten w y p h c) (same_Some x k at) is.0;
}
written-at w (x ∷ ks) (p ∷ ps) (h ∷ hs) (c ∷ cs) is (suc i) k at =
    let more = written-at w ks ps hs cs is.1 i k at in
    record {
      place = more.place;
      header = more.header;
      bytes = more.bytes;
      is_place = more.is_place;
      is_header = more.is_header;
      is_bytes = more.is_bytes;
      written = more.written;
    }
written-at w _ _ _ _ is i k at = absurd is

-- a section stays of its kind, and gets its new size
kind_at : (w : Output) → IsPlannedOutput w → (i : ℕ) (k : KeptSection) (place : Place) → slice_get (kept_sections w.image) i ≡ Some k
    → slice_get w.plan.places i ≡ Some place
    → (place.sh_type ≡ k.section.sh_type) × (place.sh_flags ≡ k.section.sh_flags) × (place.sh_size ≡ new_size (image_at_read w.image) w.image k)
unfolding plan_for places
kind_at w is i k place k_at place_at =
    let r : Resized = resized w.image in
    let moved : List ℕ = is.planned.moved in
    let s : SizedSection = sized_of r k in
    let s_at : slice_get (sized_sections r) i ≡ Some s = at-sized r (edited_facts w.image is.edited).sized i k k_at in
    let all : w.plan.places ≡ map (place_in r moved) (sized_sections r) = ap (λ (l : Plan). l.places) is.planned.follows in
    let here : slice_get w.plan.places i ≡ Some (place_in r moved s) =
    ap (λ (l : List Place). slice_get l i) all ∙ at-map (place_in r moved) (sized_sections r) i s s_at in
    let same : place ≡ place_in r moved s = same_Some place (place_in r moved s) (sym place_at ∙ here) in
    let keeps = keeps_kind r moved s (slice_get-at (sized_sections r) i s s_at) in (
      ap (λ (x : Place). x.sh_type) same ∙ keeps.type,
      ap (λ (x : Place). x.sh_flags) same ∙ keeps.flags,
      ap (λ (x : Place). x.sh_size) same ∙ keeps.size,
    )

-- a test with its numbers the other way round
not_type : (t n : ℕ) → (t == n) ≡ false → (n == t) ≡ false
not_type t n h = ne_eqb n t (λ e. both_ways (t == n) h (eq-eqb t n (sym e)))

none_of : (a b : Bool) → (a || b) ≡ false → (a ≡ false) × (b ≡ false)
none_of true b h = absurd (both_ways true h refl)
none_of false b h = (refl, h)

info_chain : (n a b c d z : ℕ) → is_one_of (SHT_SYMTAB ∷ SHT_DYNSYM ∷ SHT_GNU_VERDEF ∷ SHT_GNU_VERNEED ∷ []) n ≡ false
    → (if n == SHT_SYMTAB then a else if n == SHT_DYNSYM then b else if n == SHT_GNU_VERDEF then c else if n == SHT_GNU_VERNEED then d else z) ≡ z
info_chain n a b c d z h =
    let one = none_of (SHT_SYMTAB == n) (is_one_of (SHT_DYNSYM ∷ SHT_GNU_VERDEF ∷ SHT_GNU_VERNEED ∷ []) n) h in
    let two = none_of (SHT_DYNSYM == n) (is_one_of (SHT_GNU_VERDEF ∷ SHT_GNU_VERNEED ∷ []) n) one.1 in
    let three = none_of (SHT_GNU_VERDEF == n) (is_one_of (SHT_GNU_VERNEED ∷ []) n) two.1 in
    let four = none_of (SHT_GNU_VERNEED == n) false three.1 in
    ap (λ (t : Bool). if t then a else if n == SHT_DYNSYM then b else if n == SHT_GNU_VERDEF then c else if n == SHT_GNU_VERNEED then d else z)
    (not_type SHT_SYMTAB n one.0)
    ∙ ap (λ (t : Bool). if t then b else if n == SHT_GNU_VERDEF then c else if n == SHT_GNU_VERNEED then d else z) (not_type SHT_DYNSYM n two.0)
    ∙ ap (λ (t : Bool). if t then c else if n == SHT_GNU_VERNEED then d else z) (not_type SHT_GNU_VERDEF n three.0)
    ∙ ap (λ (t : Bool). if t then d else z) (not_type SHT_GNU_VERNEED n four.0)

-- sh_info stays, or is a section's new number, where it isn't that of a table that is made of the image's lists
same_info : (w : Output) → (s : ImageSection) → is_one_of (SHT_SYMTAB ∷ SHT_DYNSYM ∷ SHT_GNU_VERDEF ∷ SHT_GNU_VERNEED ∷ []) s.sh_type ≡ false
    → written_info (image_at_read w.image) w.image s ≡ (if is_info_number s then new_number w.image s.sh_info else s.sh_info)
same_info w s h =
    let r : Resized = resized w.image in
    info_chain s.sh_type (behind_locals (final r.read r.image).symbols) (behind_locals (final r.read r.image).dynamic_symbols)
    (length r.image.definitions) (length (final r.read r.image).needs)
    (if is_info_number s then new_number r.image s.sh_info else s.sh_info) h

-- the section at a position, its number at read, the header that it was read from, and what is written of it
pub record SectionAt (w : Output) (p : Parts) (i : ℕ) : Type 0 where
  pub number : ℕ
  pub section : ImageSection
  pub old : SectionHeader
  pub place : Place
  pub header : SectionHeader
  pub bytes : List ℕ
  pub is_number : slice_get w.image.section_numbers i ≡ Some number
  pub is_section : slice_get w.image.sections i ≡ Some section
  pub is_kept : slice_get (kept_sections w.image) i ≡ Some (kept_as i number section)
  pub is_old : slice_get p.sections number ≡ Some old
  pub is_place : slice_get w.plan.places i ≡ Some place
  pub is_header : slice_get w.headers i ≡ Some header
  pub is_bytes : slice_get w.contents i ≡ Some bytes
  pub of_old : edits.IsOfHeader p old section
  pub written : IsSectionWritten w (kept_as i number section) place header bytes
  -- the section as it was read, perhaps with another name
  pub was : ImageSection
  pub is_was : slice_get (image_at_read w.image).sections number ≡ Some was
  pub was_old : IsSectionOf p old was
  pub renamed : section ≡ record was { name = section.name }
  pub named : IsName section.name
  -- the section's place: of what kind, and how large
  pub place_type : place.sh_type ≡ old.sh_type
  pub place_flags : place.sh_flags ≡ old.sh_flags
  pub place_size : place.sh_size ≡ new_size (image_at_read w.image) w.image (kept_as i number section)
  -- the section's header: all but its name, its place, perhaps its sh_info and numbers of sections are those that were read
  pub type : header.sh_type ≡ old.sh_type
  pub flags : header.sh_flags ≡ old.sh_flags
  pub link : header.sh_link ≡ new_number w.image old.sh_link
  pub align : header.sh_addralign ≡ old.sh_addralign
  pub entsize : header.sh_entsize ≡ old.sh_entsize
  pub info : is_one_of (SHT_SYMTAB ∷ SHT_DYNSYM ∷ SHT_GNU_VERDEF ∷ SHT_GNU_VERNEED ∷ []) old.sh_type ≡ false
      → header.sh_info ≡ (if has_section_info old then new_number w.image old.sh_info else old.sh_info)
  pub address : header.sh_addr ≡ place.sh_addr
  pub offset : header.sh_offset ≡ place.sh_offset
  pub size : header.sh_size ≡ place.sh_size

-- what of it doesn't ask for what is written
abbrev pub read_at : {w : Output} {p : Parts} {i : ℕ} → SectionAt w p i → edits.SectionRead (image_at_read w.image) w.image p i
read_at at = record {
  number = at.number;
  old = at.old;
  section = at.section;
  is_number = at.is_number;
  is_old = at.is_old;
  is_section = at.is_section;
  is_kept = at.is_kept;
  of_old = at.of_old;
  was = at.was;
  is_was = at.is_was;
  was_old = at.was_old;
  renamed = at.renamed;
  named = at.named;
}

pub section_of : (w : Output) → IsPlannedOutput w → (f : ReadFacts w) → (i : ℕ) → (read : edits.SectionRead (image_at_read w.image) w.image f.parts i)
    → (at : SectionAt w f.parts i) × (at.number ≡ read.number)
section_of w is f i read =
    let p : Parts = f.parts in
    let n : ℕ = read.number in
    let s : ImageSection = read.section in
    let old : SectionHeader = read.old in
    let of_old : edits.IsOfHeader p old s = read.of_old in
    let at = written-at w (kept_sections w.image) w.plan.places w.headers w.contents is.written.sections i (kept_as i n s) read.is_kept in
    let kind = kind_at w is i (kept_as i n s) at.place read.is_kept at.is_place in
    let fields = at.written.has_header.fields in
    let type : s.sh_type ≡ old.sh_type = ap (λ (x : ImageSection). x.sh_type) of_old.fields in (
      record {
        number = n;
        section = s;
        old = old;
        place = at.place;
        header = at.header;
        bytes = at.bytes;
        is_number = read.is_number;
        is_section = read.is_section;
        is_kept = read.is_kept;
        is_old = read.is_old;
        is_place = at.is_place;
        is_header = at.is_header;
        is_bytes = at.is_bytes;
        of_old = of_old;
        written = at.written;
        was = read.was;
        is_was = read.is_was;
        was_old = read.was_old;
        renamed = read.renamed;
        named = read.named;
        place_type = kind.0 ∙ type;
        place_flags = kind.1 ∙ ap (λ (x : ImageSection). x.sh_flags) of_old.fields;
        place_size = kind.2;
        type = ap (λ (x : SectionHeader). x.sh_type) fields ∙ type;
        flags = ap (λ (x : SectionHeader). x.sh_flags) fields ∙ ap (λ (x : ImageSection). x.sh_flags) of_old.fields;
        link = ap (λ (x : SectionHeader). x.sh_link) fields ∙ ap (λ (x : ImageSection). new_number w.image x.sh_link) of_old.fields;
        align = ap (λ (x : SectionHeader). x.sh_addralign) fields ∙ ap (λ (x : ImageSection). x.sh_addralign) of_old.fields;
        entsize = ap (λ (x : SectionHeader). x.sh_entsize) fields ∙ ap (λ (x : ImageSection). x.sh_entsize) of_old.fields;
        info = λ other.
            ap (λ (x : SectionHeader). x.sh_info) fields
            ∙ same_info w s (ap (is_one_of (SHT_SYMTAB ∷ SHT_DYNSYM ∷ SHT_GNU_VERDEF ∷ SHT_GNU_VERNEED ∷ [])) type ∙ other)
            ∙ ap (λ (x : ImageSection). if is_info_number x then new_number w.image x.sh_info else x.sh_info) of_old.fields;
        address = ap (λ (x : SectionHeader). x.sh_addr) fields;
        offset = ap (λ (x : SectionHeader). x.sh_offset) fields;
        size = ap (λ (x : SectionHeader). x.sh_size) fields;
      },
      refl,
    )

pub section_at : (w : Output) → IsPlannedOutput w → (f : ReadFacts w) → (i : ℕ) → i < length w.image.sections → SectionAt w f.parts i
section_at w is f i h = (section_of w is f i (edits.section_read (image_at_read w.image) w.image f i h)).0

-- the header at a position
pub section_at_header : (w : Output) → IsPlannedOutput w → (f : ReadFacts w) → (i : ℕ) (h : SectionHeader) → slice_get w.headers i ≡ Some h
    → (at : SectionAt w f.parts i) × (at.header ≡ h)
section_at_header w is f i h there =
    let within : i < length w.image.sections = omega (arith, slice_get_within w.headers i h there, (lengths w is f).headers) in
    let at : SectionAt w f.parts i = section_at w is f i within in
    (at, same_Some at.header h (sym at.is_header ∙ there))

-- the places of the headers are those of the plan
pub places_are : (w : Output) → IsPlannedOutput w → places_of w.headers ≡ w.plan.places
places_are w is =
    let f = read_facts w is in
    let long = lengths w is f in
    same_items (places_of w.headers) w.plan.places (length-map w.headers place_of ∙ long.headers ∙ sym long.places) (λ i x y x_at y_at.
    let (h, h_at, made) = map-at place_of w.headers i x x_at in
    let (at, same) = section_at_header w is f i h h_at in
    let place : at.place ≡ y = same_Some at.place y (sym at.is_place ∙ y_at) in
    sym made ∙ ap place_of (sym same) ∙ place_is at ∙ place)
  where
    by_fields : (x y : Place) → x.sh_type ≡ y.sh_type → x.sh_flags ≡ y.sh_flags → x.sh_addr ≡ y.sh_addr → x.sh_offset ≡ y.sh_offset
        → x.sh_size ≡ y.sh_size → x ≡ y
    by_fields x y type flags address offset size =
        ap (λ (n : ℕ). record x { sh_type = n }) type
        ∙ ap (λ (n : ℕ). record x { sh_type = y.sh_type; sh_flags = n }) flags
        ∙ ap (λ (n : ℕ). record x { sh_type = y.sh_type; sh_flags = y.sh_flags; sh_addr = n }) address
        ∙ ap (λ (n : ℕ). record y { sh_offset = n; sh_size = x.sh_size }) offset
        ∙ ap (λ (n : ℕ). record y { sh_size = n }) size

    place_is : {p : Parts} {i : ℕ} (at : SectionAt w p i) → place_of at.header ≡ at.place
    place_is at = by_fields (place_of at.header) at.place (at.type ∙ sym at.place_type) (at.flags ∙ sym at.place_flags) at.address at.offset at.size

-- ## By number

module _ (w : Output) (is : IsPlannedOutput w) (f : ReadFacts w) where
  -- the section that is there with a number
  pub section_numbered : (n : ℕ) (k : KeptSection) → kept_at_number n w.image ≡ Some k
      → (at : SectionAt w f.parts k.position) × (at.number ≡ n)
  section_numbered n k is_k =
      let (read, _, number) = edits.read_number (image_at_read w.image) w.image f n k is_k in
      let (at, same) = section_of w is f k.position read in
      (at, same ∙ number)

  -- a section's position is its new number
  pub new_number-at : (i : ℕ) → (at : SectionAt w f.parts i) → new_number w.image at.number ≡ i
  new_number-at i at = edits.new_number-at (image_at_read w.image) w.image f i (read_at at)

  pub kept_is : (i : ℕ) → (at : SectionAt w f.parts i) → kept_at_number at.number w.image ≡ Some (kept_as i at.number at.section)
  kept_is i at = edits.kept_is (image_at_read w.image) w.image f i (read_at at)

  -- the bytes of the section with a number are those at its position
  pub content_is : (i : ℕ) → (at : SectionAt w f.parts i) → content_at_number w.image w.contents at.number ≡ at.bytes
  content_is i at =
      ap (λ (o : Option KeptSection). unwrap_or (o >>= λ k. slice_get w.contents k.position) []) (kept_is i at)
      ∙ ap (λ (o : Option (List ℕ)). unwrap_or o []) at.is_bytes

  -- the section that another names is there, at its new number
  pub moved_to : (i n : ℕ) → (at : SectionAt w f.parts i) → n < length f.parts.sections → names_section at.section n ≡ true
      → (j : ℕ) × (to : SectionAt w f.parts j) × (to.number ≡ n) × (new_number w.image n ≡ j)
  moved_to i n at below names =
      let (j, read, number) = edits.named_there (image_at_read w.image) w.image f i n (read_at at) below names in
      let (to, same) = section_of w is f j read in
      let own : to.number ≡ n = same ∙ number in
      (j, to, own, ap (new_number w.image) (sym own) ∙ new_number-at j to)

-- the section of names is there
pub names_section_at : (w : Output) → IsPlannedOutput w → (f : ReadFacts w) → f.parts.opened.header.e_shstrndx < length f.parts.sections
    → (j : ℕ) × (at : SectionAt w f.parts j) × (at.number ≡ f.parts.opened.header.e_shstrndx) × (new_number w.image w.image.header.e_shstrndx ≡ j)
names_section_at w is f below =
    let read : Image = image_at_read w.image in
    let n : ℕ = f.parts.opened.header.e_shstrndx in
    let same : read.header.e_shstrndx ≡ n = ap (λ h. h.e_shstrndx) f.holds.header in
    let now : w.image.header.e_shstrndx ≡ n = ap (λ h. h.e_shstrndx) f.edit.header ∙ same in
    let (was, was_at) = there_at read.sections n (omega (arith, below, edits.length-read read w.image f)) in
    let lasts : is_lasting read (kept_as n n was) ≡ true =
    second_of_four (n == 0) (n == read.header.e_shstrndx) (is_numbered (dynamic_strings_number read) (kept_as n n was))
    (is_one_of lasting_types was.sh_type) (eq-eqb n read.header.e_shstrndx (sym same)) in
    let (j, there, number) = edits.lasting_there read w.image f n was was_at lasts in
    let (at, own) = section_of w is f j there in
    let is_n : at.number ≡ n = own ∙ number in
    (j, at, is_n, ap (new_number w.image) (now ∙ sym is_n) ∙ new_number-at w is f j at)
  where
    second_of_four : (a b c d : Bool) → b ≡ true → (a || b || c || d) ≡ true
    second_of_four true b c d h = refl
    second_of_four false true c d h = refl
    second_of_four false false c d h = absurd (false≢true h)

-- ## The one section of a type

-- of a type either no section is there, before and after, or the first of the type that was read is the first that is there
pub data TypeAt (w : Output) (p : Parts) (type : ℕ) : Type 0 where
  Nowhere : section_of_type type p.sections ≡ None → section_of_type type w.headers ≡ None → kept_of_type type w.image ≡ None
      → TypeAt w p type
  There : (i : ℕ) → (at : SectionAt w p i) → at.old.sh_type ≡ type
      → section_of_type type p.sections ≡ Some at.old → section_of_type type w.headers ≡ Some at.header
      → kept_of_type type w.image ≡ Some (kept_as i at.number at.section) → TypeAt w p type

-- the section of the static symbols may have gone, too
pub data StaticAt (w : Output) (p : Parts) : Type 0 where
  Stays : TypeAt w p SHT_SYMTAB → StaticAt w p
  Went : (old : SectionHeader) → section_of_type SHT_SYMTAB p.sections ≡ Some old → section_of_type SHT_SYMTAB w.headers ≡ None
      → kept_of_type SHT_SYMTAB w.image ≡ None → StaticAt w p

-- a section of the image is of the type that its header has, at read and now
same_types : {w : Output} {p : Parts} {i : ℕ} (at : SectionAt w p i)
    → (at.section.sh_type ≡ at.old.sh_type) × (at.header.sh_type ≡ at.old.sh_type)
same_types at = (ap (λ (x : ImageSection). x.sh_type) at.of_old.fields, at.type)

-- what is found of the sections that are there is found of the headers that are written
module _ (w : Output) (is : IsPlannedOutput w) (f : ReadFacts w) (type : ℕ) where
  abbrev was : SectionHeader → Bool
  was s = s.sh_type == type

  abbrev was_kept : KeptSection → Bool
  was_kept s = s.section.sh_type == type

  in_headers : (j : ℕ) (h : SectionHeader) → slice_get w.headers j ≡ Some h
      → (k : KeptSection) × (slice_get (kept_sections w.image) j ≡ Some k) × (was h ≡ was_kept k)
  in_headers j h at =
      let (here, same) = section_at_header w is f j h at in (
        kept_as j here.number here.section,
        here.is_kept,
        ap (λ (x : SectionHeader). x.sh_type == type) (sym same)
            ∙ ap (λ (n : ℕ). n == type) (here.type ∙ sym (same_types here).0),
      )

  headers_nowhere : kept_of_type type w.image ≡ None → section_of_type type w.headers ≡ None
  headers_nowhere none =
      find-no was w.headers (λ j h h_at. let (k, k_at, tells) = in_headers j h h_at in
      tells ∙ none-passes was_kept (kept_sections w.image) none j k k_at)

  headers_found : (i : ℕ) → (at : SectionAt w f.parts i) → kept_of_type type w.image ≡ Some (kept_as i at.number at.section)
      → at.old.sh_type ≡ type → section_of_type type w.headers ≡ Some at.header
  headers_found i at found typed =
      let types = same_types at in
      find-is was w.headers i at.header at.is_header (ap (λ (n : ℕ). n == type) types.1 ∙ eq-eqb at.old.sh_type type typed)
      (λ j h less h_at. let (k, k_at, tells) = in_headers j h h_at in
      tells ∙ before-first was_kept (kept_sections w.image) (kept_as i at.number at.section) found i at.is_kept (only_here i at) j k less k_at)
    where
      -- the section stands nowhere else
      only_here : (i : ℕ) → (at : SectionAt w f.parts i) → (j : ℕ) → slice_get (kept_sections w.image) j ≡ Some (kept_as i at.number at.section) → j ≡ i
      only_here i at j there =
          let (position, _, _) = kept-parts 0 w.image.section_numbers w.image.sections j (kept_as i at.number at.section) there in
          omega (arith, position)

  type_of : edits.TypeAt (image_at_read w.image) w.image f.parts type → TypeAt w f.parts type
  type_of (edits.Nowhere none gone) = Nowhere none (headers_nowhere gone) gone
  type_of (edits.There i read typed now found there) =
      let (at, same) = section_of w is f i read in
      let own : kept_as i at.number at.section ≡ kept_as i read.number read.section =
      same_Some (kept_as i at.number at.section) (kept_as i read.number read.section) (sym at.is_kept ∙ read.is_kept) in
      let old : at.old ≡ read.old = same_Some at.old read.old (sym at.is_old ∙ ap (slice_get f.parts.sections) same ∙ read.is_old) in
      let here : kept_of_type type w.image ≡ Some (kept_as i at.number at.section) = there ∙ ap (λ (k : KeptSection). Some k) (sym own) in
      let is_type : at.old.sh_type ≡ type = ap (λ (x : SectionHeader). x.sh_type) old ∙ typed in
      There i at is_type (found ∙ ap (λ (x : SectionHeader). Some x) (sym old)) (headers_found i at here is_type) here

pub type_at : (w : Output) → IsPlannedOutput w → (f : ReadFacts w) → (type : ℕ) → is_one_of lasting_types type ≡ true → TypeAt w f.parts type
type_at w is f type lasting = type_of w is f type (edits.type_at (image_at_read w.image) w.image f type lasting)

pub static_at : (w : Output) → IsPlannedOutput w → (f : ReadFacts w) → StaticAt w f.parts
static_at w is f = elim (edits.static_at (image_at_read w.image) w.image f) [
  | edits.Stays at ↦ Stays (type_of w is f SHT_SYMTAB at)
  | edits.Went old found gone ↦ Went old found (headers_nowhere w is f SHT_SYMTAB gone) gone
]
