-- What is known of each section header that is written.
use Rattle.std.proofs.Common.{◌≡◌, ℕ, zero, suc, ◌<◌, ◌≤◌, ◌^◌, true, false, List, [], ◌∷◌, length, map, get_or, refl, sym, ap, ◌∙◌, subst, inr, Option, Some, None, arith}
use Rattle.std.specs.Prelude.{Contains, IsSome, if◌then◌else◌, ◌==◌, slice_index}
use Rattle.std.specs.List.{slice_get}
use Rattle.std.specs.Str.{bytes_eq}
use Rattle.std.proofs.lemmas.Bool.{and_parts, eq-eqb}
use Rattle.std.proofs.lemmas.List.{length-map}
use Rattle.std.proofs.lemmas.Option.{get_or_from_slice_get, none-some, same_Some, slice_get_read, slice_get_within}
use Rattle.std.proofs.lemmas.Slice.Eq.{bytes_eq-Decides}
use Rattle.patch_bytes.specs.Memory.{◌>>=◌}
use Rattle.elf_format.specs.declared.constants.TheConstants.{SHT_DYNSYM, SHT_GNU_VERDEF, SHT_GNU_VERNEED, SHT_SYMTAB}
use Rattle.elf_format.specs.declared.form.Form.{Form}
use Rattle.elf_format.specs.declared.header.Header.{Header}
use Rattle.elf_format.specs.declared.records.FileHeader.{FileHeader}
use Rattle.elf_format.specs.declared.records.SectionHeader.{SectionHeader}
use Rattle.elf_format.specs.File.{Opened, Parts, sections_of}
use Rattle.elf_format.specs.Image.{Image, ImageSection}
use Rattle.elf_format.specs.Options.{is_some_and}
use Rattle.elf_format.specs.Places.{Place}
use Rattle.elf_format.specs.Records.{section_header_size, segment_header_size}
use Rattle.elf_format.specs.Rules.{has_section_info}
use Rattle.elf_image.specs.declared.section.Section.{Section}
use Rattle.elf_image.specs.ImageModel.{section_model}
use Rattle.elf_image.specs.Kept.{image_at_read, kept_sections}
use Rattle.elf_layout_plan.specs.Staying.{Staying, unmarked_needs}
use Rattle.elf_layout_plan.specs.WrittenNeeds.{AreWritten}
use Rattle.elf_layout_plan.specs.Memory.{Resized, sized_sections}
use Rattle.elf_layout_plan.specs.Plan.{Plan, plan_for, resized}
use Rattle.elf_layout_plan.specs.Standing.{place_in, places}
use Rattle.elf_layout_plan.proofs.ForCallers.ApartLists.{at-map}
use Rattle.elf_layout_plan.proofs.ForCallers.ApartRead.{edited_facts}
use Rattle.elf_layout_plan.proofs.ForCallers.ApartSections.{sized_of}
use Rattle.elf_tables.specs.Strings.{StandsAt, place_of}
use Rattle.elf_write_spec.specs.Final.{final, new_number}
use Rattle.elf_write_spec.specs.Headers.{Reads, behind_locals, is_info_number, written_header, written_info, written_section}
use Rattle.elf_write_spec.specs.Ready.{IsEditedReady}
use Rattle.elf_write_spec.proofs.ForCallers.NumberedSections.{kept_as}
use Rattle.elf_write_spec.proofs.ForCallers.WholeEdits.{ReadFacts, SectionRead, length-kept, needs_written, read_facts, section_read}
use Rattle.elf_write_spec.proofs.ForCallers.WholeLists.{there_at}
use Rattle.elf_write_symbol_tables.specs.Made.{Made}
use Rattle.elf_write_symbol_tables.specs.PlacedTexts.{IsUnedited, names_of_sections}
use Rattle.elf_write_symbol_tables.specs.VersionPlaces.{content_in}
use Rattle.elf_write_symbol_tables.specs.WrittenStrings.{AreStrings, are_section_names_left, are_texts_left, content_read, made_of}
use Rattle.elf_write_symbol_tables.proofs.ForCallers.ReadTables.{facts, read_unedited, ready_edit, same_read, sections_stand}
use Rattle.elf_write_symbol_tables.proofs.ForCallers.TablesThere.{edited_content}
use Rattle.elf_write_symbol_tables.proofs.ForCallers.TextsTold.{told_names}
use Rattle.elf_write_symbol_tables.proofs.ForCallers.UsersStay.{users_stay}
use Rattle.elf_write_symbol_tables.proofs.ForCallers.VersionsShown.{number_found}
use Rattle.elf_write_contents.specs.declared.headers.Known.{Known}
use Rattle.elf_write_contents.specs.HeaderSteps.{IsHeaderAt, IsKnown, header_by, headers_read, info_by}
use Rattle.elf_write_contents.specs.Inner.{IsPlanned}
use Rattle.elf_write_contents.specs.Numbers.{do_numbers_fit}
use Rattle.elf_write_contents.proofs.HeadersLists.{far_numbers, far_section}
use Rattle.elf_write_contents.proofs.HeadersOrder.{behind_static}

-- ## The file header

-- the file header by its numbers
abbrev header_with : Header → ℕ → ℕ → ℕ → ℕ → ℕ → ℕ → ℕ → FileHeader
header_with h phoff shoff phentsize phnum shentsize shnum names = record {
  os_abi = h.os_abi;
  abi_version = h.abi_version;
  e_type = h.e_type;
  e_machine = h.e_machine;
  e_entry = h.e_entry;
  e_phoff = phoff;
  e_shoff = shoff;
  e_flags = h.e_flags;
  e_phentsize = phentsize;
  e_phnum = phnum;
  e_shentsize = shentsize;
  e_shnum = shnum;
  e_shstrndx = names;
}

pub file_header_is : (image : Image) (plan : Plan)
    → (h : Header) (form : Form) (phoff shoff phentsize phnum shentsize shnum names : ℕ) → h ≡ image.header → form.wide ≡ image.form.wide
    → form.order ≡ image.form.order → phoff ≡ plan.e_phoff → shoff ≡ plan.e_shoff → phentsize ≡ segment_header_size form
    → phnum ≡ length plan.segments → shentsize ≡ section_header_size form → shnum ≡ length plan.places
    → names ≡ new_number image image.header.e_shstrndx
    → header_with h phoff shoff phentsize phnum shentsize shnum names ≡ written_header image plan
file_header_is image plan h form phoff shoff phentsize phnum shentsize shnum names is_h is_wide is_order is_phoff is_shoff is_phentsize is_phnum is_shentsize is_shnum is_names =
    let i : Header = image.header in
    let f : Form = image.form in
    let same_form : form ≡ f =
    ap (λ w. record { wide = w; order = form.order }) is_wide ∙ ap (λ o. record { wide = f.wide; order = o }) is_order in
    let a : ℕ = segment_header_size f in
    let b : ℕ = section_header_size f in
    let m : ℕ = length plan.segments in
    ap (λ (x : Header). header_with x phoff shoff phentsize phnum shentsize shnum names) is_h
    ∙ ap (λ (n : ℕ). header_with i n shoff phentsize phnum shentsize shnum names) is_phoff
    ∙ ap (λ (n : ℕ). header_with i plan.e_phoff n phentsize phnum shentsize shnum names) is_shoff
    ∙ ap (λ (n : ℕ). header_with i plan.e_phoff plan.e_shoff n phnum shentsize shnum names) (is_phentsize ∙ ap segment_header_size same_form)
    ∙ ap (λ (n : ℕ). header_with i plan.e_phoff plan.e_shoff a n shentsize shnum names) is_phnum
    ∙ ap (λ (n : ℕ). header_with i plan.e_phoff plan.e_shoff a m n shnum names) (is_shentsize ∙ ap section_header_size same_form)
    ∙ ap (λ (n : ℕ). header_with i plan.e_phoff plan.e_shoff a m b n names) is_shnum
    ∙ ap (λ (n : ℕ). header_with i plan.e_phoff plan.e_shoff a m b (length plan.places) n) is_names

-- ## The lengths of lists

-- each section has a place
pub length-places : (image : Image) (plan : Plan) → IsPlanned (image_at_read image) image plan
    → length plan.places ≡ length (kept_sections image)
unfolding plan_for places
length-places image plan is =
    let r : Resized = resized image in
    let moved : List ℕ = is.planned.moved in
    ap (λ (l : Plan). length l.places) is.planned.follows
    ∙ length-map (sized_sections r) (place_in r moved)
    ∙ ap length (edited_facts image is.ready.edited).sized
    ∙ length-map (kept_sections image) (sized_of r)

-- the section headers that were read are those of the file's parts
pub headers_are : (read image : Image) → (f : ReadFacts read image) → (headers : List SectionHeader) → headers_read image ≡ Some headers
    → headers ≡ f.parts.sections
headers_are read image f headers is =
    same_Some headers f.parts.sections (sym is ∙ ap (λ (o : Option Opened). o >>= sections_of) f.are_parts.opened ∙ f.are_parts.sections)

-- ## Names

-- The name of a section that was read at a number stands where its header tells: in the table of names that was read.
name_was : (read image : Image) → (is : IsEditedReady read image) → (n : ℕ) (was : ImageSection) (old : SectionHeader)
    → slice_get read.sections n ≡ Some was → slice_get (read_facts read image (ready_edit is)).parts.sections n ≡ Some old
    → StandsAt (content_read image image.header.e_shstrndx) old.sh_name was.name
name_was read image is n was old was_at old_at =
    let un : IsUnedited read = read_unedited is in
    let f = read_facts read image (ready_edit is) in
    let stands = sections_stand read un in
    let there : slice_get (facts read un).parts.sections n ≡ Some old =
    ap (λ (p : Parts). slice_get p.sections n) (sym (same_read is)) ∙ old_at in
    let number : read.header.e_shstrndx ≡ image.header.e_shstrndx = sym (ap (λ (h : Header). h.e_shstrndx) f.edit.header) in
    subst (λ (bytes : List ℕ). StandsAt bytes old.sh_name was.name)
    (ap (content_in read.sections) number ∙ edited_content read image is image.header.e_shstrndx (inr (inr refl)))
    (stands.each n was old was_at there)

-- the name of a section stands in a table that is told anew in place of the names
pub name_made : (read image : Image) (made : List Made) → AreStrings read image made → (i : ℕ) (s : ImageSection)
    → slice_get image.sections i ≡ Some s
    → (m : Made) → made_of made image.header.e_shstrndx ≡ Some m → IsSome (place_of m.table s.name)
name_made read image made strings i s at m is =
    let named : List (List ℕ) = map (λ (x : ImageSection). x.name) image.sections in
    let name_at : slice_get named i ≡ Some s.name = at-map (λ (x : ImageSection). x.name) image.sections i s at in
    let here : Contains named s.name =
    (i, slice_get_within named i s.name name_at, get_or_from_slice_get named i s.name s.name name_at) in
    told_names read image m (strings.told image.header.e_shstrndx m is) (number_found made image.header.e_shstrndx m is) s.name here

-- ## What is known of the image as a whole

pub known_of : (read image : Image) (s : Staying) (known : Known) → IsEditedReady read image → AreWritten read image s
    → known.symbols ≡ behind_locals image.symbols
    → known.dynamic_symbols ≡ behind_locals (final read image).dynamic_symbols
    → known.needs ≡ length (unmarked_needs s.marks image.needs)
    → headers_read image ≡ Some known.headers.items
    → IsKnown image known
known_of read image s known is stays symbols dynamic needs headers = record {
  symbols = symbols ∙ behind_static (image_at_read image) image;
  dynamic_symbols = dynamic ∙ ap (λ (r : Image). behind_locals (final r image).dynamic_symbols) is.at_read;
  needs = needs ∙ ap length (stays.needs ∙ sym (needs_written read image) ∙ ap (λ (r : Image). (final r image).needs) is.at_read);
  headers = headers;
}

-- ## Headers

-- sh_info of a section that is written
pub info_is : (image : Image) → (known : Known) → IsKnown image known → (s : ImageSection)
    → written_info (image_at_read image) image s ≡ info_by known image s
info_is image known known_is s =
    let t : ℕ = s.sh_type in
    let other : ℕ = if is_info_number s then new_number image s.sh_info else s.sh_info in
    let info : ℕ → ℕ → ℕ → ℕ =
    λ a b d. if t == SHT_SYMTAB then a else if t == SHT_DYNSYM then b else if t == SHT_GNU_VERDEF then length image.definitions
    else if t == SHT_GNU_VERNEED then d else other in
    let b : ℕ = behind_locals (final (image_at_read image) image).dynamic_symbols in
    let d : ℕ = length (final (image_at_read image) image).needs in
    ap (λ (n : ℕ). info n b d) (sym known_is.symbols)
    ∙ ap (λ (n : ℕ). info known.symbols n d) (sym known_is.dynamic_symbols)
    ∙ ap (info known.symbols known.dynamic_symbols) (sym known_is.needs)

pub header_is : (image : Image) → (known : Known) → IsKnown image known → (s : ImageSection) (p : Place) (name : ℕ)
    → header_by s p name (new_number image s.sh_link) (info_by known image s) ≡ written_section (resized image) s p name
header_is image known known_is s p name =
    ap (header_by s p name (new_number image s.sh_link)) (sym (info_is image known known_is s))

-- whether sh_info is a section's number can be told by the header that was read
pub info_told : (p : Parts) (old : SectionHeader) (s : ImageSection) → s.sh_type ≡ old.sh_type → s.sh_flags ≡ old.sh_flags
    → has_section_info old ≡ is_info_number s
info_told p old s type flags =
    sym (ap (λ (n : ℕ). is_info_number (record s { sh_type = n })) type
    ∙ ap (λ (n : ℕ). is_info_number (record s { sh_type = old.sh_type; sh_flags = n })) flags)

-- ## Names that are left

-- each text that is left is the one that was read at its number
left_at : (was : List (List ℕ)) (ns : List ℕ) (now : List (List ℕ)) → are_texts_left was ns now ≡ true → (i n : ℕ) (t old : List ℕ)
    → slice_get ns i ≡ Some n → slice_get now i ≡ Some t → slice_get was n ≡ Some old → t ≡ old
left_at was [] now left i n t old n_at t_at old_at = absurd (none-some n n_at)
left_at was (m ∷ ns) [] left i n t old n_at t_at old_at = absurd (none-some t t_at)
left_at was (m ∷ ns) (x ∷ now) left zero n t old n_at t_at old_at =
    let first = (and_parts (is_some_and (bytes_eq x) (slice_get was m)) (are_texts_left was ns now) left).0 in
    let there : slice_get was m ≡ Some old = ap (slice_get was) (same_Some m n n_at) ∙ old_at in
    let equal : bytes_eq x old ≡ true = ap (is_some_and (bytes_eq x)) (sym there) ∙ first in
    sym (same_Some x t t_at) ∙ (bytes_eq-Decides x old).0 equal
left_at was (m ∷ ns) (x ∷ now) left (suc i) n t old n_at t_at old_at =
    left_at was ns now (and_parts (is_some_and (bytes_eq x) (slice_get was m)) (are_texts_left was ns now) left).1 i n t old n_at t_at old_at

-- ## The section at a position

-- a section as it is lent
pub seen_at : (image : Image) (sections : List Section) (i : ℕ) (x : Section) → map section_model sections ≡ image.sections
    → i < length image.sections → x ≡ get_or sections i x → slice_get image.sections i ≡ Some (section_model x)
seen_at image sections i x seen less is =
    let within : i < length sections = omega (arith, less, ap length seen, length-map sections section_model) in
    ap (λ (l : List ImageSection). slice_get l i) (sym seen)
    ∙ at-map section_model sections i x (slice_get_read sections (length sections) i x (λ j. length sections) within is)

module _ (image : Image) (plan : Plan) (made : List Made) (known : Known)
    (planned : IsPlanned (image_at_read image) image plan) (strings : AreStrings (image_at_read image) image made) (is : IsKnown image known)
    (i : ℕ) (less : i < length image.sections) where
  known_facts : ReadFacts (image_at_read image) image
  known_facts = read_facts (image_at_read image) image (ready_edit planned.ready)

  here : SectionRead (image_at_read image) image known_facts.parts i
  here = section_read (image_at_read image) image known_facts i less

  -- the number that it was read at
  number_is : slice_index image.section_numbers i ≡ here.number
  number_is = get_or_from_slice_get image.section_numbers i here.number 0 here.is_number

  pub header_there : slice_index image.section_numbers i < length known.headers.items
  header_there =
      omega (
        arith,
        number_is,
        slice_get_within known_facts.parts.sections here.number here.old here.is_old,
        ap length (headers_are (image_at_read image) image known_facts known.headers.items is.headers),
      )

  -- the header that it was read from
  old_here : (old : SectionHeader) → slice_get known.headers.items (slice_index image.section_numbers i) ≡ Some old → old ≡ here.old
  old_here old old_at =
      same_Some old here.old (sym (ap (slice_get known.headers.items) (sym number_is) ∙ old_at)
      ∙ ap (λ (l : List SectionHeader). slice_get l here.number)
      (headers_are (image_at_read image) image known_facts known.headers.items is.headers) ∙ here.is_old)

  section_here : (s : ImageSection) → slice_get image.sections i ≡ Some s → s ≡ here.section
  section_here s s_at = same_Some s here.section (sym s_at ∙ here.is_section)

  kept_here : (s : ImageSection) → slice_get image.sections i ≡ Some s → slice_get (kept_sections image) i ≡ Some (kept_as i here.number s)
  kept_here s s_at = here.is_kept ∙ ap (λ (x : ImageSection). Some (kept_as i here.number x)) (sym (section_here s s_at))

  pub info_here : (s : ImageSection) (old : SectionHeader) → slice_get image.sections i ≡ Some s
      → slice_get known.headers.items (slice_index image.section_numbers i) ≡ Some old → has_section_info old ≡ is_info_number s
  info_here s old s_at old_at =
      let same_old : old ≡ here.old = old_here old old_at in
      let same : s ≡ here.section = section_here s s_at in
      info_told known_facts.parts old s
      (ap (λ (x : ImageSection). x.sh_type) (same ∙ here.of_old.fields) ∙ ap (λ (h : SectionHeader). h.sh_type) (sym same_old))
      (ap (λ (x : ImageSection). x.sh_flags) (same ∙ here.of_old.fields) ∙ ap (λ (h : SectionHeader). h.sh_flags) (sym same_old))

  pub place_there : i < length plan.places
  place_there = omega (arith, less, length-places image plan planned, length-kept (image_at_read image) image known_facts)

  -- The name of a section stands where it was read, if the table of names isn't told anew: then it is the name that was read.
  pub name_copied : (s : ImageSection) (old : SectionHeader) → slice_get image.sections i ≡ Some s
      → slice_get known.headers.items (slice_index image.section_numbers i) ≡ Some old
      → made_of made image.header.e_shstrndx ≡ None
      → Reads (content_read image image.header.e_shstrndx) old.sh_name s.name
  unfolding known_facts
  name_copied s old s_at old_at none =
      let n : ℕ = image.header.e_shstrndx in
      let left : are_section_names_left (image_at_read image) image ≡ true =
      (users_stay (image_at_read image) image n (strings.as_read n (inr (inr refl)) none).stay).sections (eq-eqb n n refl) in
      let named : slice_get (names_of_sections (image_at_read image).sections) here.number ≡ Some here.was.name =
      at-map (λ (x : ImageSection). x.name) (image_at_read image).sections here.number here.was here.is_was in
      let now : slice_get (names_of_sections image.sections) i ≡ Some here.section.name =
      at-map (λ (x : ImageSection). x.name) image.sections i here.section here.is_section in
      let same : here.section.name ≡ here.was.name =
      left_at (names_of_sections (image_at_read image).sections) image.section_numbers (names_of_sections image.sections) left
      i here.number here.section.name here.was.name here.is_number now named in
      let own : s.name ≡ here.was.name = ap (λ (x : ImageSection). x.name) (section_here s s_at) ∙ same in
      subst (λ (text : List ℕ). Reads (content_read image n) old.sh_name text) (sym own)
      (subst (λ (h : SectionHeader). StandsAt (content_read image n) h.sh_name here.was.name) (sym (old_here old old_at))
      (name_was (image_at_read image) image planned.ready here.number here.was here.old here.is_was here.is_old)).read

  -- the header of the section
  pub header_made : (names : List ℕ) (s : ImageSection) (p : Place) (name link info : ℕ) (h : SectionHeader)
      → slice_get image.sections i ≡ Some s → slice_get plan.places i ≡ Some p
      → Reads names name s.name → link ≡ new_number image s.sh_link → info ≡ info_by known image s → h ≡ header_by s p name link info
      → IsHeaderAt (resized image) names (kept_sections image) plan.places i h
  header_made names s p name link info h s_at p_at reads link_is info_is is_h =
      let is_name : h.sh_name ≡ name = ap (λ (x : SectionHeader). x.sh_name) is_h in
      let fields : h ≡ written_section (resized image) s p name =
      is_h ∙ ap (λ (n : ℕ). header_by s p name n info) link_is ∙ ap (header_by s p name (new_number image s.sh_link)) info_is
      ∙ header_is image known is s p name in (
        kept_as i here.number s,
        p,
        kept_here s s_at,
        p_at,
        record {
          name = subst (λ (n : ℕ). Reads names n s.name) (sym is_name) reads;
          fields = fields ∙ ap (written_section (resized image) s p) (sym is_name);
        },
      )

  -- sh_info of the section doesn't fit
  pub header_far : (s : ImageSection) → slice_get image.sections i ≡ Some s → 2 ^ 32 ≤ info_by known image s
      → do_numbers_fit image plan ≡ false
  header_far s s_at far =
      let (p, p_at) = there_at plan.places i place_there in
      far_numbers image plan (far_section (resized image) (kept_sections image) plan.places i (kept_as i here.number s) p
      (kept_here s s_at) p_at
      (subst (λ (n : ℕ). 2 ^ 32 ≤ n) (sym (info_is image known is s)) far))
